use Rattle.std.proofs.Common.{◌∙◌, arith}
use Rattle.pyc_keys.specs.KeyTableView.{keys_in}
use Rattle.pyc_keys.proofs.MarkLemmas.{marks_next, marks_end}
use Rattle.pyc_keys.proofs.key_table.KeyTable.keep_marked.Goals as goal

pub loop-number-preserved : goal.loop-number-preserved
loop-number-preserved c = marks_next c.args.marks.now c.loop-number.number _ _ _ c.loop-number.invariant c.release_unless.ensures

pub returns : goal.returns
returns c =
    c.loop-number.invariant
    ∙ marks_end c.args.marks.now c.loop-number.number (keys_in c.args.self.now)
    (λ i past. c.requires i (omega (arith, past, c.loop-number-test.false)))
