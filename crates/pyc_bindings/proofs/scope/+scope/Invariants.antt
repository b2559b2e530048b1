use Rattle.std.proofs.Common.{◌≡◌, ◌++◌, map, drop}
use Rattle.pyc_ast.specs.Statements.{stmts, branches, handlers}
use Rattle.pyc_ast.specs.StatementView.{stmt_of, branch_of, handler_of}
use Rattle.pyc_bindings.specs.Scopes.{parts_of, branches_parts, handlers_parts}
use Rattle.pyc_bindings.specs.ScopeView.{part_of}
use Rattle.pyc_bindings.proofs.scope.+scope.Given as goal

-- what was added, with what the statements that are left add, is the whole
abbrev pub invariant-push_statements-loop-statement : goal.invariant-push_statements-loop-statement
invariant-push_statements-loop-statement l =
    map part_of l.parts.items ++ parts_of (stmts (map stmt_of (drop l.statement-index l.statements))) l.is_guarded
    ≡ map part_of l.fn.parts.items ++ parts_of (stmts (map stmt_of l.statements)) l.is_guarded

abbrev pub invariant-push_branches-loop-branch : goal.invariant-push_branches-loop-branch
invariant-push_branches-loop-branch l =
    map part_of l.parts.items ++ branches_parts (branches (map branch_of (drop l.branch-index l.branches)))
    ≡ map part_of l.fn.parts.items ++ branches_parts (branches (map branch_of l.branches))

abbrev pub invariant-push_handlers-loop-handler : goal.invariant-push_handlers-loop-handler
invariant-push_handlers-loop-handler l =
    map part_of l.parts.items ++ handlers_parts (handlers (map handler_of (drop l.handler-index l.handlers)))
    ≡ map part_of l.fn.parts.items ++ handlers_parts (handlers (map handler_of l.handlers))
