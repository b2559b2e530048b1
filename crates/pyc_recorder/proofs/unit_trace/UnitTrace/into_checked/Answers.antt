use Rattle.std.proofs.Common.{◌∙◌, ap, map}
use Rattle.pyc_known_answers.specs.WorldView.{interfaces_by}
use Rattle.pyc_reading.specs.KeyView.{key_of}
use Rattle.pyc_recorder.proofs.KeptLemmas.{listed_answers}
use Rattle.pyc_recorder.proofs.unit_trace.UnitTrace.into_checked.Goals as goal

pub keep_all-requires : goal.keep_all-requires
keep_all-requires c =
    listed_answers (interfaces_by c.args.keys.now) c.args.self.answers.entries c.in_ok-answers.answers.items
    (map key_of c.deref.result.now) c.requires c.in_ok-answers.ensures (ap (map key_of) c.deref.ensures.value ∙ c.in_ok-asked.ensures)
