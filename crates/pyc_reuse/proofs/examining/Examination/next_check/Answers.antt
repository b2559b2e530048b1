use Rattle.std.proofs.Common.{ap, sym, ◌∙◌}
use Rattle.pyc_body.specs.FileUnitView.{file_unit_in}
use Rattle.pyc_recorder.specs.CheckedView.{checked_in}
use Rattle.pyc_known_answers.specs.WorldView.{held_by}
use Rattle.pyc_reuse.proofs.UnitLemmas.{kept_check}
use Rattle.pyc_reuse.specs.Examination.{last_in, options_in, present_in}
use Rattle.pyc_reuse.proofs.examining.Examination.next_check.Goals as goal

pub returns-clause-checked : goal.returns-clause-checked
returns-clause-checked c =
    let self = c.args.self.now in
    ap (checked_in (held_by c.args.keys.now)) c.in_ok-kept.ensures.cases ∙ c.requires.revision
    ∙ kept_check (options_in self) (last_in self) (present_in self) (file_unit_in c.args.unit.now) (sym c.requires.flag ∙ c.if-flag.false)
