use Rattle.std.proofs.Common.{◌≡◌, ◌≤◌, drop}
use Rattle.pyc_overrides.specs.Parameters.{parameters_details}
use Rattle.pyc_overrides.specs.Views.{override_of}
use Rattle.pyc_reading.specs.Traces.{Grown, all_noted}
use Rattle.pyc_reading.specs.Owing.{detail_keys}
use Rattle.pyc_type_forms.specs.TypeView.{param_row}
use Rattle.pyc_overrides.proofs.parameters.ask_parameters.Given as goal

-- what is left to ask comes to the same as all, and no more parameters were plain than there were
abbrev pub invariant-loop-want : goal.invariant-loop-want
invariant-loop-want g l =
    record {
      same : all_noted (g.N.Ask.trace l.recorder) (detail_keys (parameters_details (override_of l.reported) (param_row l.gots) l.place (param_row (drop l.want-index l.wants))))
          ≡ all_noted (g.N.Ask.trace l.fn.recorder) (detail_keys (parameters_details (override_of l.reported) (param_row l.gots) 0 (param_row l.wants)));
      grown : Grown (g.N.Ask.trace l.fn.recorder) (g.N.Ask.trace l.recorder);
      within : l.place ≤ l.want-index;
    }
