use Rattle.std.proofs.Common.{◌-◌, ◌∙◌, ap, arith, cond, ℕ, Option, Some}
use Rattle.pyc_class_ids.specs.Class.{Id, same_class}
use Rattle.pyc_class_table.specs.NumberView.{numbers_in}
use Rattle.pyc_class_table.proofs.NumberLemmas.{number_from-more, number_from-all}
use Rattle.pyc_class_table.proofs.numbered.numbers_of.Goals as goal

-- the entry before those that have their numbers gets its own
pub loop-left-preserved : goal.loop-left-preserved
loop-left-preserved c =
    let number = c.loop-left.left - 1 in
    let chosen : Id → Id → Option ℕ = λ k n. cond (same_class k n) (Some number) (numbers_in c.loop-left.numbers n) in
    record {
      within = omega arith;
      numbered = number_from-more c.args.entries.now c.loop-left.left c.index-entries-left.result c.loop-left.numbers
          c.insert.new.self c.loop-left-test.true c.loop-left.invariant.within c.index-entries-left.is
          (λ n. c.in_ok-insert.ensures.updates.0 n ∙ ap (λ k. chosen k n) c.in_ok-clone.ensures.cases)
          c.loop-left.invariant.numbered;
    }

-- all have their numbers
pub returns : goal.returns
returns c =
    number_from-all c.args.entries.now c.loop-left.left (omega arith) c.loop-left.invariant.numbered
