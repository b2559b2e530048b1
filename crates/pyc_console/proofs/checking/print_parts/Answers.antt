use Rattle.std.proofs.Common.{◌∙◌, eqb-true, sym}
use Rattle.pyc_console.proofs.CheckFilesLemmas.{both_true, writes_more}
use Rattle.pyc_console.proofs.checking.print_parts.Goals as goal

pub returns-then-not-has_failed-clause-reports : goal.returns-then-not-has_failed-clause-reports
returns-then-not-has_failed-clause-reports g c =
    let w = c.write_parts.ensures in
    let sound = both_true _ _ (sym c.has_failed.ensures ∙ c.if-not-has_failed.true) in
    writes_more _ _ _ _ _ _ (eqb-true _ _ sound.0) (eqb-true _ _ sound.1) w.ok w.part w.sound w.cause c.requires.some
