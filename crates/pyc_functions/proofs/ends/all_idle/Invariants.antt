use Rattle.std.proofs.Common.{◌≡◌, false, map, drop}
use Rattle.pyc_ast.specs.Statements.{stmts}
use Rattle.pyc_ast.specs.StatementView.{stmt_of}
use Rattle.pyc_functions.specs.Ends.{all_idle}
use Rattle.pyc_functions.proofs.ends.all_idle.Given as goal

-- the answer is that of the statements that are left
abbrev pub invariant-loop-statement : goal.invariant-loop-statement
invariant-loop-statement l =
    all_idle false (stmts (map stmt_of (drop l.statement-index l.statements)))
    ≡ all_idle false (stmts (map stmt_of l.statements))
