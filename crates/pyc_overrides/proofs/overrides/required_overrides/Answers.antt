use Rattle.std.proofs.Common.{map, ap, sym, ◌∙◌}
use Rattle.pyc_overrides.specs.Ancestors.{ancestor_member}
use Rattle.pyc_reading.specs.Traces.{run}
use Rattle.pyc_overrides.proofs.Turns.{required_turn}
use Rattle.pyc_overrides.specs.Views.{required_in}
use Rattle.pyc_reading.proofs.RunLemmas.{grown_trans}
use Rattle.pyc_reading.specs.AnswerView.{member_answer_of}
use Rattle.pyc_overrides.proofs.overrides.required_overrides.Goals as goal

pub loop-ancestor-preserved : goal.loop-ancestor-preserved
loop-ancestor-preserved g c =
    record {
      same =
          required_turn c.args.at c.args.name.now (member_answer_of c.args.got.now) (map required_in c.loop-ancestor.row.items) _ _ c.args.ancestors.now c.loop-ancestor.ancestor-index _ _ _
          c.loop-ancestor-test.true c.ancestor-item.is (ap (λ n. run (ancestor_member c.ancestor-item.result n) (g.N.Ask.trace c.loop-ancestor.recorder)) (sym c.as_str.ensures) ∙ c.in_ok-found.ensures.done) c.in_ok-push_required.ensures
          ∙ c.loop-ancestor.invariant.same;
      grown = grown_trans c.loop-ancestor.invariant.grown c.ancestor_member.ensures.grown;
    }
