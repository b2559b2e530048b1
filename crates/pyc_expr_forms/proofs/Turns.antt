-- One turn of the loops over comparisons and over indices.
use Rattle.std.proofs.Common.{◌≡◌, ℕ, ◌+◌, ◌<◌, List, [], ◌∷◌, ◌++◌, length, map, drop, get_or, refl, ap, sym, ◌∙◌}
use Rattle.pyc_ast.specs.declared.expr.Comparison.{Comparison}
use Rattle.pyc_ast.specs.declared.expr.Index.{Index}
use Rattle.pyc_ast.specs.declared.position.Position.{Position}
use Rattle.pyc_ast.specs.Exprs.{comparisons, indices_of}
use Rattle.pyc_ast.specs.ExprView.{comparison_of, index_of}
use Rattle.pyc_expr_forms.specs.Contexts.{InferValue}
use Rattle.pyc_expr_forms.specs.Operations.{infer_comparisons, infer_comparison}
use Rattle.pyc_expr_forms.specs.Subscripting.{index_type, index_types}
use Rattle.pyc_places.specs.States.{State}
use Rattle.pyc_reading.proofs.RunLemmas.{one_turn}
use Rattle.pyc_reading.specs.Traces.{Trace, run}
use Rattle.pyc_reading.specs.Readings.{and_then}
use Rattle.pyc_type_forms.specs.Types.{Ty}

more_compared : (parts : InferValue) (s : State) (at : Position) (left : Ty) (x : Comparison) (xs : List Comparison)
    → infer_comparisons parts s at left (comparisons (map comparison_of (x ∷ xs)))
    ≡ and_then (infer_comparison parts s at left (comparison_of x)) (λ right. infer_comparisons parts s at right (comparisons (map comparison_of xs)))
unfolding infer_comparisons
more_compared parts s at left x xs = refl

pub compared_turn : (parts : InferValue) (s : State) (at : Position) (left right : Ty) (xs : List Comparison) (i : ℕ) (x : Comparison) (trace middle : Trace)
    → i < length xs → x ≡ get_or xs i x → run (infer_comparison parts s at left (comparison_of x)) trace ≡ (right, middle)
    → run (infer_comparisons parts s at right (comparisons (map comparison_of (drop (i + 1) xs)))) middle ≡ run (infer_comparisons parts s at left (comparisons (map comparison_of (drop i xs)))) trace
compared_turn parts s at left right xs i x trace middle within is first =
    sym (one_turn (λ l. infer_comparisons parts s at left (comparisons (map comparison_of l))) (λ y. infer_comparison parts s at left (comparison_of y))
    (λ a l. infer_comparisons parts s at a (comparisons (map comparison_of l))) (more_compared parts s at left) xs i x trace middle right within is first)

more_indices : (parts : InferValue) (s : State) (types : List Ty) (x : Index) (xs : List Index)
    → index_types parts s types (indices_of (map index_of (x ∷ xs)))
    ≡ and_then (index_type parts s (index_of x)) (λ ty. index_types parts s (types ++ (ty ∷ [])) (indices_of (map index_of xs)))
more_indices parts s types x xs = refl

pub index_turn : (parts : InferValue) (s : State) (types more : List Ty) (xs : List Index) (i : ℕ) (x : Index) (ty : Ty) (trace middle : Trace)
    → i < length xs → x ≡ get_or xs i x → run (index_type parts s (index_of x)) trace ≡ (ty, middle) → more ≡ types ++ (ty ∷ [])
    → run (index_types parts s more (indices_of (map index_of (drop (i + 1) xs)))) middle ≡ run (index_types parts s types (indices_of (map index_of (drop i xs)))) trace
index_turn parts s types more xs i x ty trace middle within is first pushed =
    ap (λ l. run (index_types parts s l (indices_of (map index_of (drop (i + 1) xs)))) middle) pushed
    ∙ sym (one_turn (λ l. index_types parts s types (indices_of (map index_of l))) (λ y. index_type parts s (index_of y))
    (λ a l. index_types parts s (types ++ (a ∷ [])) (indices_of (map index_of l))) (more_indices parts s types) xs i x trace middle ty within is first)
