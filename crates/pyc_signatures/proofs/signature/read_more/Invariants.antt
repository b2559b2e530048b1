use Rattle.std.proofs.Common.{map, drop}
use Rattle.pyc_ast.specs.StatementView.{parameter_of}
use Rattle.pyc_names.specs.InterfaceView.{interface_in}
use Rattle.pyc_reading.specs.Traces.{Going}
use Rattle.pyc_signatures.specs.Signatures.{more_params}
use Rattle.pyc_type_forms.specs.TypeView.{param_of}
use Rattle.pyc_signatures.proofs.signature.read_more.Given as goal

-- what is left to do comes to the same as all
abbrev pub invariant-loop-parameter : goal.invariant-loop-parameter
invariant-loop-parameter g l =
    Going (more_params (interface_in l.file) (map param_of l.params.items) (map parameter_of (drop l.parameter-index l.parameters))) (g.N.Ask.trace l.recorder)
    (more_params (interface_in l.file) (map param_of l.fn.found.items) (map parameter_of l.parameters)) (g.N.Ask.trace l.fn.recorder)
