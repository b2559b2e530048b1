use Rattle.std.proofs.Common.{◌≡◌, suc, ◌+◌, ◌-◌, sym, ap, ◌∙◌, arith}
use Rattle.pyc_names.specs.FollowingView.{step_of}
use Rattle.pyc_names.proofs.FollowingLemmas.{walk-leads, walk_looks-leads}
use Rattle.pyc_names.proofs.table.Table.follow.Goals as goal

pub loop-turn-preserved : goal.loop-turn-preserved
loop-turn-preserved c =
    let left : c.args.self.now.steps - c.loop-turn.turn ≡ suc (c.args.self.now.steps - (c.loop-turn.turn + 1)) = omega arith in
    let led = sym c.in_ok-found.ensures.found ∙ ap step_of c.in-Leads.is in
    record {
      rest = sym (walk-leads _ _ _ _ left _ led) ∙ c.loop-turn.invariant.rest;
      noted = walk_looks-leads _ _ _ _ left _ _ _ led c.in_ok-found.ensures.looks ∙ c.loop-turn.invariant.noted;
    }
