-- A statement by its parts, and a block by its statements, as they are made.
use Rattle.std.proofs.Common.{◌≡◌, map, rules}
use Rattle.std.specs.declared.alloc.Global.{Global}
use Rattle.std.specs.declared.vec.Vec.{Vec}
use Rattle.pyc_ast.specs.declared.stmt.Block.{Of}
use Rattle.pyc_ast.specs.declared.stmt.Block.TheFolds.{the_lemmas}
use Rattle.pyc_ast.specs.declared.position.Position.{Position}
use Rattle.pyc_ast.specs.declared.stmt.Stmt.{Stmt, roll-Stmt}
use Rattle.pyc_ast.specs.declared.stmt.StmtForm.{StmtForm}
use Rattle.pyc_ast.specs.Statements.{stmt, stmts}
use Rattle.pyc_ast.specs.StatementView.{block_of, stmt_of, stmt_form_of}

-- a statement that is made
pub view_stmt : (at : Position) (form : StmtForm) → stmt_of (roll-Stmt (record { at = at; form = form })) ≡ stmt at (stmt_form_of form)
view_stmt at form = search (rules, the_lemmas)

-- a block that is made
pub view_Of : (xs : Vec Stmt Global) → block_of (Of xs) ≡ stmts (map stmt_of xs.items)
view_Of xs = search (rules, the_lemmas)
