-- A function value that reads expressions to a depth.
use Rattle.std.specs.Prelude.{ℕ, Option, option_map}
use Rattle.std.specs.declared.alloc.AllocError.{AllocError}
use Rattle.std.specs.declared.alloc.Global.{Global}
use Rattle.std.specs.declared.result.Result.{Result}
use denote.Ref.{Bor, MutBor}
use Rattle.pyc_ast.specs.declared.expr.Expr.{Expr}
use Rattle.pyc_ast.specs.ExprView.{expr_of}
use Rattle.pyc_expr_forms.specs.Contexts.{Context}
use Rattle.pyc_expr.specs.Values.{value_at_depth}
use Rattle.pyc_obligations.specs.declared.value.Value.{Value}
use Rattle.pyc_obligations.specs.ValueView.{value_of}
use Rattle.pyc_places.specs.declared.states.State.{State}
use Rattle.pyc_places.specs.StateView.{state_of}
use Rattle.pyc_reading.specs.Traces.{Trace, Performs}
use Rattle.pyc_type_forms.specs.declared.types.Ty.{Ty}
use Rattle.pyc_type_forms.specs.TypeView.{ty_of}

-- it may be called at this depth, and reads what the definition does
pub record Nests {N C : Type 0} (trace : N → Trace) (context : C → Context) (depth : ℕ)
    (pre : Global → MutBor N → Bor C → Bor State → Bor Expr → Option (Bor Ty) → ℕ → Type 0)
    (post : Global → MutBor N → Bor C → Bor State → Bor Expr → Option (Bor Ty) → ℕ → Result Value AllocError
    → MutBor N → Type 0) : Type 0 where
  pub callable : (alloc : Global) (old : MutBor N) (c : Bor C) (s : Bor State) (x : Bor Expr) (want : Option (Bor Ty))
      → pre alloc old c s x want depth
  pub reads : (alloc : Global) (old new : MutBor N) (c : Bor C) (s : Bor State) (x : Bor Expr) (want : Option (Bor Ty))
      (result : Result Value AllocError) → post alloc old c s x want depth result new
      → Performs value_of
      (value_at_depth depth (context c.now) (state_of s.now) (expr_of x.now) (option_map (λ ty. ty_of ty.now) want))
      (trace old.now) result (trace new.now)
