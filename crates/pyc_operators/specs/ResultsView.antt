-- The plain results that those of the code are.
use Rattle.std.specs.Prelude.{map}
use Rattle.pyc_operators.specs.declared.results.Results.{Results as ResultsOf}
use Rattle.pyc_operators.specs.Results.{Results}
use Rattle.pyc_type_forms.specs.TypeView.{ty_of}

abbrev pub results_of : ResultsOf → Results
results_of results = record { types = map ty_of results.types.items; is_failed = results.is_failed }
