-- A function value that reads expressions to a depth.
use Rattle.std.specs.Prelude.{ℕ, Result}
use Rattle.std.specs.declared.alloc.Global.{Global}
use denote.Ref.{MutBor}
use Rattle.pyc_build.specs.declared.built.Built.{Built}
use Rattle.pyc_build.specs.declared.error.ParseError.{ParseError}
use Rattle.pyc_cursor.specs.declared.cursor.Cursor.{Cursor}
use Rattle.pyc_tree.specs.Expressions.{expr}
use Rattle.pyc_build.specs.ReadsTokens.{ReadsTokens}
use Rattle.pyc_tree.specs.View.{tree_of}

-- it may be called at this depth, and reads what the definition does
pub record ReadsExpressions (depth : ℕ) (pre : Global → MutBor Cursor → ℕ → ℕ → Type 0)
    (post : Global → MutBor Cursor → ℕ → ℕ → Result Built ParseError → MutBor Cursor → Type 0) : Type 0 where
  pub callable : (alloc : Global) (old : MutBor Cursor) (loosest : ℕ) → pre alloc old depth loosest
  pub reads : (alloc : Global) (old new : MutBor Cursor) (loosest : ℕ) (r : Result Built ParseError)
      → post alloc old depth loosest r new
      → ReadsTokens (λ b. tree_of b.expr.value) (expr depth loosest old.now.rest.now) r new.now.rest.now
