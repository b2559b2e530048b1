use Rattle.pyc_assignments.specs.Assignments.{assign_target}
use Rattle.pyc_ast.specs.Exprs.{at_of}
use Rattle.pyc_ast.specs.StatementView.{augmented_of}
use Rattle.pyc_body_context.specs.BodyTargets.{body_reads}
use Rattle.pyc_body_context.specs.Views.{body_in}
use Rattle.pyc_locals.specs.Views.{flow_state_in}
use Rattle.pyc_simple_statements.proofs.Places.{begins_at, performs_after}
use Rattle.pyc_simple_statements.specs.Augmented.{operation_stored, operation_type}
use Rattle.pyc_simple_statements.specs.Views.{operands_in}
use Rattle.pyc_simple_statements.proofs.reader.StatementReader.store_operation.Goals as goal

pub returns : goal.returns
unfolding operation_stored
returns g c =
    let body = body_in c.args.self.now.body.now in
    let found = augmented_of c.args.found.now in
    performs_after (operation_type found (operands_in c.args.operands.now))
    (λ ty. assign_target (body_reads body) (at_of found.value) found.target ty (flow_state_in c.args.flow_state.now)) _ _ _ _ _
    c.in_ok-ty.ensures.done c.operation_type.ensures.grown (rw (begins_at c.args.found.now.value) c.assign_target.ensures)
