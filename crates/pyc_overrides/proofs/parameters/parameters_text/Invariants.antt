use Rattle.std.proofs.Common.{◌≡◌, ◌≤◌, drop}
use Rattle.pyc_obligations.specs.Asking.{orders_at}
use Rattle.pyc_overrides.specs.Messages.{required_signature_text}
use Rattle.pyc_overrides.specs.Parameters.{parameters_details}
use Rattle.pyc_overrides.specs.Views.{override_of}
use Rattle.pyc_reading.specs.Owing.{text_by}
use Rattle.pyc_type_forms.specs.TypeView.{param_row}
use Rattle.pyc_overrides.proofs.parameters.parameters_text.Given as goal

-- what is left is reported as all is, and no more parameters were plain than there were
abbrev pub invariant-loop-want : goal.invariant-loop-want
invariant-loop-want g l =
    record {
      same : text_by (orders_at (g.N.Ask.trace l.recorder)) (parameters_details (override_of l.reported) (param_row l.gots) l.place (param_row (drop l.want-index l.wants))) (required_signature_text (override_of l.reported))
          ≡ text_by (orders_at (g.N.Ask.trace l.recorder)) (parameters_details (override_of l.reported) (param_row l.gots) 0 (param_row l.wants)) (required_signature_text (override_of l.reported));
      within : l.place ≤ l.want-index;
    }
