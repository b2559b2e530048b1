-- How deep the parts of a `try` stand.
use Rattle.std.proofs.Common.{ℕ, ◌+◌, ◌*◌, ◌<◌, max, rules}
use denote.Param.Weighed.{most}
use Rattle.std.specs.declared.alloc.Global.{Global}
use Rattle.std.specs.declared.vec.Vec.{Vec}
use Rattle.pyc_ast.proofs.stmt.Block.TheLaws.{the_size}
use Rattle.pyc_ast.proofs.stmt.Handler.TheLaws.{the_size as handler_size}
use Rattle.pyc_ast.proofs.stmt.StmtForm.TheLaws.{the_size as form_size}
use Rattle.pyc_ast.specs.declared.stmt.Block.{Block}
use Rattle.pyc_ast.specs.declared.stmt.Block.TheFolds.{the_lemmas}
use Rattle.pyc_ast.specs.declared.stmt.Handler.{Handler}
use Rattle.pyc_ast.specs.declared.stmt.StmtForm.TheVariants as form

pub try_falls : (body : Block) (row : Vec Handler Global) (orelse finally : Block)
    → 5 * max (max (the_size body) (the_size orelse)) (max (most (λ (x : Handler). handler_size x) row.items) (the_size finally)) + 4 < 5 * form_size (form.Try body row orelse finally)
try_falls body row orelse finally = search (rules, the_lemmas)
