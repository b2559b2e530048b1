use Rattle.std.proofs.Common.{◌≡◌, suc, ◌+◌, ◌-◌, sym, ap, ◌∙◌, arith}
use Rattle.pyc_names.specs.Following.{import_count, leads_to, on_ring}
use Rattle.pyc_names.specs.FollowingView.{qualified_of, step_of}
use Rattle.pyc_names.specs.Looks.{ring_looks}
use Rattle.pyc_names.specs.NotedLooks.{with_looks}
use Rattle.pyc_names.specs.NotedLooksView.{noted_in}
use Rattle.pyc_names.specs.TableView.{table_in}
use Rattle.pyc_names.proofs.FollowingLemmas.{leads_to-ends, leads_to-leads, ring_looks-leads}
use Rattle.pyc_names.proofs.table.Table.is_on_ring.Goals as goal

pub returns-in-Ends-clause-found : goal.returns-in-Ends-clause-found
unfolding on_ring
returns-in-Ends-clause-found c =
    let left : c.args.self.now.steps - c.loop-turn.turn ≡ suc (c.args.self.now.steps - (c.loop-turn.turn + 1)) = omega arith in
    let imports : c.args.self.now.steps - 1 ≡ import_count (table_in c.args.self.now) = (let is = c.args.self.now.steps_is in omega arith) in
    let ended = sym c.in_ok-step.ensures.found ∙ ap step_of c.in-Ends.is in
    sym (leads_to-ends _ _ _ _ left _ _ ended) ∙ c.loop-turn.invariant.rest ∙ ap (λ k. leads_to k (table_in c.args.self.now) (qualified_of c.args.q.now) (qualified_of c.args.q.now)) imports

pub loop-turn-preserved : goal.loop-turn-preserved
loop-turn-preserved c =
    let left : c.args.self.now.steps - c.loop-turn.turn ≡ suc (c.args.self.now.steps - (c.loop-turn.turn + 1)) = omega arith in
    let more : (c.args.self.now.steps - c.loop-turn.turn) + 1 ≡ suc (c.args.self.now.steps - c.loop-turn.turn) = omega arith in
    let same : (c.args.self.now.steps - (c.loop-turn.turn + 1)) + 1 ≡ c.args.self.now.steps - c.loop-turn.turn = omega arith in
    let led = sym c.in_ok-step.ensures.found ∙ ap step_of c.in-Leads.is in
    record {
      rest = sym (leads_to-leads _ _ _ _ left _ _ led c.if-is_same.ensures) ∙ c.loop-turn.invariant.rest;
      noted = ap (λ k. with_looks (noted_in c.step.new.looks) (ring_looks k (table_in c.args.self.now) (qualified_of c.args.q.now) (qualified_of c.in-Leads.next))) same
          ∙ ring_looks-leads _ _ _ _ more _ _ _ _ led c.if-is_same.ensures c.in_ok-step.ensures.looks ∙ c.loop-turn.invariant.noted;
    }
