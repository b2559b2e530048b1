-- The depth to which expressions are read is no part of what they are.
use Rattle.std.specs.Prelude.{◌≡◌, ◌≤◌, ℕ, Option}
use Rattle.pyc_ast.specs.Exprs.{Expr, Index}
use Rattle.pyc_expr_forms.specs.Contexts.{Context, InferValue, looked_by}
use Rattle.pyc_expr.specs.Heights.{height, index_height}
use Rattle.pyc_expr_forms.specs.Subscripting.{index_type}
use Rattle.pyc_expr.specs.Values.{infer_by_parts, value_at_depth, infer, infer_index, split_by, most_depth}
use Rattle.pyc_narrowing.specs.Splitting.{split}
use Rattle.pyc_places.specs.States.{State}
use Rattle.pyc_type_forms.specs.Types.{Ty}

-- what an expression is, read as deep as its parts lie
unfoldable pub value_of_expr : Context → InferValue
value_of_expr context s x want = value_at_depth (height x) context s x want

-- an expression is what it is by its parts, each of which is what it is: no depth is named
abbrev pub IsOfItsParts : Type 0
IsOfItsParts =
    (context : Context) (s : State) (x : Expr) (want : Option Ty)
    → value_of_expr context s x want ≡ infer_by_parts context (value_of_expr context) s x want

-- an expression that is read at least as deep as its parts lie is what it is
abbrev pub IsDeepEnough : Type 0
IsDeepEnough =
    (depth : ℕ) (context : Context) (s : State) (x : Expr) (want : Option Ty) → height x ≤ depth
    → value_at_depth depth context s x want ≡ value_of_expr context s x want

-- an expression of at most this height is what it is
abbrev pub IsInferred : Type 0
IsInferred =
    (context : Context) (s : State) (x : Expr) (want : Option Ty) → height x ≤ most_depth
    → infer context s x want ≡ value_of_expr context s x want

-- what a condition of at most this height says goes by what expressions are
abbrev pub IsSplit : Type 0
IsSplit =
    (context : Context) (s : State) (x : Expr) → height x ≤ most_depth
    → split_by context s x ≡ split (looked_by (value_of_expr context)) s x

-- the type of what stands between the brackets of a subscript, of at most this height, goes by what expressions are
abbrev pub IsIndex : Type 0
IsIndex =
    (context : Context) (s : State) (brackets : Index) → index_height brackets ≤ most_depth
    → infer_index context s brackets ≡ index_type (value_of_expr context) s brackets
