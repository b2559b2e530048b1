use Rattle.std.proofs.Common.{map, drop, max, ◌+◌, ◌*◌}
use denote.Param.Weighed.{most}
use Rattle.pyc_ast.proofs.stmt.Block.TheLaws.{the_size}
use Rattle.pyc_ast.proofs.stmt.Branch.TheLaws.{the_size as branch_size}
use Rattle.pyc_ast.proofs.stmt.Handler.TheLaws.{the_size as handler_size}
use Rattle.pyc_ast.proofs.stmt.Stmt.TheLaws.{the_size as stmt_size}
use Rattle.pyc_ast.proofs.stmt.StmtForm.TheLaws.{the_size as form_size}
use Rattle.pyc_ast.specs.declared.stmt.Branch.{Branch}
use Rattle.pyc_ast.specs.declared.stmt.Handler.{Handler}
use Rattle.pyc_ast.specs.declared.stmt.Stmt.{Stmt}
use Rattle.pyc_ast.specs.Statements.{stmts, branches, handlers}
use Rattle.pyc_ast.specs.StatementView.{stmt_of, branch_of, handler_of}
use Rattle.pyc_blocks.specs.Blocks.{block_read, branches_read, handlers_read}
use Rattle.pyc_blocks.specs.Views.{flow_in, handled_in, rules_of}
use Rattle.pyc_places.specs.StateView.{state_of}
use Rattle.pyc_reading.specs.Traces.{Going}
use Rattle.pyc_blocks.proofs.rules.Blocks.+flow.Given as goal

-- what is left to do comes to the same as all
abbrev pub invariant-read_block-loop-statement : goal.invariant-read_block-loop-statement
invariant-read_block-loop-statement g l =
    Going (block_read (rules_of g.P.PartReader.parts l.self) (stmts (map stmt_of (drop l.statement-index l.statements))) (flow_in l.flow)) (g.N.Ask.trace l.recorder)
    (block_read (rules_of g.P.PartReader.parts l.self) (stmts (map stmt_of l.statements)) (flow_in l.fn.flow)) (g.N.Ask.trace l.fn.recorder)

abbrev pub invariant-read_branches-loop-branch : goal.invariant-read_branches-loop-branch
invariant-read_branches-loop-branch g l =
    Going (branches_read (rules_of g.P.PartReader.parts l.self) (branches (map branch_of (drop l.branch-index l.row))) (handled_in l.flow l.ends)) (g.N.Ask.trace l.recorder)
    (branches_read (rules_of g.P.PartReader.parts l.self) (branches (map branch_of l.row)) (handled_in l.fn.flow l.fn.ends)) (g.N.Ask.trace l.fn.recorder)

abbrev pub invariant-read_handlers-loop-handler : goal.invariant-read_handlers-loop-handler
invariant-read_handlers-loop-handler g l =
    Going (handlers_read (rules_of g.P.PartReader.parts l.self) (handlers (map handler_of (drop l.handler-index l.row))) (state_of l.raised) (handled_in l.flow l.ends)) (g.N.Ask.trace l.recorder)
    (handlers_read (rules_of g.P.PartReader.parts l.self) (handlers (map handler_of l.row)) (state_of l.raised) (handled_in l.fn.flow l.fn.ends)) (g.N.Ask.trace l.fn.recorder)

-- ---- each call is of a part that stands less deep, or of a function further down in its rule

abbrev pub decreases-read_block : goal.decreases-read_block
decreases-read_block g l = 5 * most (λ (x : Stmt). stmt_size x) l.statements.now + 4

abbrev pub decreases-read_reached : goal.decreases-read_reached
decreases-read_reached g l = 5 * stmt_size l.statement.now + 1

abbrev pub decreases-read_form : goal.decreases-read_form
decreases-read_form g l = 5 * form_size l.form.now

abbrev pub decreases-read_inside : goal.decreases-read_inside
decreases-read_inside g l = 5 * the_size l.block.now

abbrev pub decreases-read_if : goal.decreases-read_if
decreases-read_if g l = 5 * max (most (λ (x : Branch). branch_size x) l.row.now) (the_size l.orelse.now) + 2

abbrev pub decreases-read_branches : goal.decreases-read_branches
decreases-read_branches g l = 5 * most (λ (x : Branch). branch_size x) l.row.now + 1

abbrev pub decreases-read_branch : goal.decreases-read_branch
decreases-read_branch g l = 5 * branch_size l.branch.now

abbrev pub decreases-read_while : goal.decreases-read_while
decreases-read_while g l = 5 * max (the_size l.inside.now) (the_size l.orelse.now) + 2

abbrev pub decreases-read_for : goal.decreases-read_for
decreases-read_for g l = 5 * max (the_size l.inside.now) (the_size l.orelse.now) + 2

abbrev pub decreases-read_loop : goal.decreases-read_loop
decreases-read_loop g l = 5 * max (the_size l.inside.now) (the_size l.orelse.now) + 1

abbrev pub decreases-read_try : goal.decreases-read_try
decreases-read_try g l =
    5 * max (max (the_size l.found.inside.now) (the_size l.found.orelse.now))
    (max (most (λ (x : Handler). handler_size x) l.found.handlers.now) (the_size l.found.finally.now)) + 4

abbrev pub decreases-read_within : goal.decreases-read_within
decreases-read_within g l =
    5 * max (max (the_size l.found.inside.now) (the_size l.found.orelse.now))
    (most (λ (x : Handler). handler_size x) l.found.handlers.now) + 3

abbrev pub decreases-read_clauses : goal.decreases-read_clauses
decreases-read_clauses g l =
    5 * max (max (the_size l.found.inside.now) (the_size l.found.orelse.now))
    (most (λ (x : Handler). handler_size x) l.found.handlers.now) + 2

abbrev pub decreases-read_handlers : goal.decreases-read_handlers
decreases-read_handlers g l = 5 * most (λ (x : Handler). handler_size x) l.row.now + 1

abbrev pub decreases-read_handler : goal.decreases-read_handler
decreases-read_handler g l = 5 * handler_size l.handler.now

abbrev pub decreases-read_finally : goal.decreases-read_finally
decreases-read_finally g l = 5 * the_size l.finally.now + 1

abbrev pub decreases-read_with : goal.decreases-read_with
decreases-read_with g l = 5 * the_size l.inside.now + 1
