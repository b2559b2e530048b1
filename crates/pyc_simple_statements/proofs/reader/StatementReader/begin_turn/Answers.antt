use Rattle.std.proofs.Common.{◌≡◌, sym, rules}
use Rattle.pyc_assignments.specs.Assignments.{assign_target}
use Rattle.pyc_ast.specs.Exprs.{at_of}
use Rattle.pyc_ast.specs.StatementView.{for_of}
use Rattle.pyc_body_context.specs.BodyTargets.{body_reads}
use Rattle.pyc_body_context.specs.Views.{body_in}
use Rattle.pyc_locals.specs.AssignedPlaces.{drop_places}
use Rattle.pyc_locals.specs.FlowStates.{in_state}
use Rattle.pyc_locals.specs.Views.{flow_state_in}
use Rattle.pyc_simple_statements.proofs.Places.{begins_at, performs_after}
use Rattle.pyc_simple_statements.specs.Heads.{turn_begun, turn_item}
use Rattle.pyc_simple_statements.proofs.reader.StatementReader.begin_turn.Goals as goal

pub returns : goal.returns
unfolding turn_begun
returns g c =
    let body = body_in c.args.self.now.body.now in
    let head = for_of c.args.head.now in
    let p = flow_state_in c.args.flow_state.now in
    let left : flow_state_in c.set_state.new.self ≡ in_state p (drop_places c.args.places.now p.state) = search rules in
    performs_after (turn_item body head p)
    (λ item. assign_target (body_reads body) (at_of head.iterable) head.target item (in_state p (drop_places c.args.places.now p.state))) _ _ _ _ _
    c.in_ok-item.ensures.done c.turn_item.ensures.grown (rw (begins_at c.args.head.now.iterable) (rw (sym left) c.assign_target.ensures))
