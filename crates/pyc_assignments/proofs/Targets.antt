-- What targets of the code are, by their own parts.
use Rattle.std.proofs.Common.{◌≡◌, ℕ, suc, ◌+◌, ◌<◌, Bool, true, false, List, [], ◌∷◌, length, map, drop, get_or, add-one, drop-cons, refl, ap, sym, ◌∙◌, arith, rules, if◌then◌else◌, Bor, Option, None, Some, option_map}
use Rattle.std.proofs.lemmas.List.{length-map}
use Rattle.std.proofs.lemmas.Option.{slice_get-map, slice_get_past, slice_get_read}
use Rattle.std.specs.List.{slice_get}
use Rattle.std.specs.Slice.{IsItemAt}
use Rattle.pyc_assignments.specs.Assignments.{first_single}
use Rattle.pyc_assignments.specs.Singles.{is_unpacking}
use Rattle.pyc_assignments.specs.Unpacking.{target_count}
use Rattle.pyc_ast.specs.declared.expr.Expr.{Expr}
use Rattle.pyc_ast.specs.declared.expr.DictItem.TheFolds.{the_lemmas as expr_lemmas}
use Rattle.pyc_ast.specs.declared.target.Target.{Target}
use Rattle.pyc_ast.specs.declared.target.TargetElement.{TargetElement}
use Rattle.pyc_ast.specs.declared.target.TargetForm.TheFolds.{the_lemmas}
use Rattle.pyc_ast.specs.Exprs.{expr, at_of}
use Rattle.pyc_ast.specs.ExprView.{expr_of, form_of}
use Rattle.pyc_ast.specs.Targets.{target, target_element, target_elements}
use Rattle.pyc_ast.specs.TargetView.{target_of, target_form_of, target_element_of}

pub view_target : (x : Target) → target_of x ≡ target x.at x.inside (target_form_of x.form)
view_target x = search (rules, the_lemmas)

pub view_element : (x : TargetElement) → target_element_of x ≡ target_element x.is_starred (target_of x.target)
view_element x = search (rules, the_lemmas)

view_expr : (x : Expr) → expr_of x ≡ expr x.at x.inside (form_of x.form)
view_expr x = search (rules, expr_lemmas)

-- where an expression begins
pub begins_at : (x : Expr) → at_of (expr_of x) ≡ x.at
begins_at x = ap at_of (view_expr x)

-- the rest of a list from an item on
pub from_item : {X : Type 0} (xs : List X) (i : ℕ) (x : X) → i < length xs → x ≡ get_or xs i x → drop i xs ≡ x ∷ drop (i + 1) xs
from_item xs i x within is = rw add-one (drop-cons xs i x within ∙ ap (λ y. y ∷ drop (suc i) xs) (sym is))

-- how many targets a list has
pub count_of : (xs : List TargetElement) → target_count (target_elements (map target_element_of xs)) ≡ length xs
count_of [] = refl
count_of (x ∷ xs) = ap suc (count_of xs)

-- the number of the first single target, at a target that is one, and at one that is none
pub first_here : (xs : List Target) (i : ℕ) (x : Target) → i < length xs → x ≡ get_or xs i x → is_unpacking (target_of x) ≡ false
    → first_single (map target_of (drop i xs)) ≡ 0
first_here xs i x within is single =
    ap (λ l. first_single (map target_of l)) (from_item xs i x within is)
    ∙ ap (λ (b : Bool). if b then suc (first_single (map target_of (drop (i + 1) xs))) else 0) single

pub first_later : (xs : List Target) (i : ℕ) (x : Target) → i < length xs → x ≡ get_or xs i x → is_unpacking (target_of x) ≡ true
    → first_single (map target_of (drop i xs)) ≡ suc (first_single (map target_of (drop (i + 1) xs)))
first_later xs i x within is unpacks =
    ap (λ l. first_single (map target_of l)) (from_item xs i x within is)
    ∙ ap (λ (b : Bool). if b then suc (first_single (map target_of (drop (i + 1) xs))) else 0) unpacks

-- what is lent out of an option is what stands in it
pub lent : {X A : Type 0} (f : X → A) (r : Option (Bor X)) (o : Option X) → option_map (λ (x : Bor X). x.now) r ≡ o → option_map (λ (x : Bor X). f x.now) r ≡ option_map f o
lent f None o is = ap (option_map f) is
lent f (Some x) o is = ap (option_map f) is

-- what is lent out of a list is what stands at its place
pub lent_at : {X A : Type 0} (f : X → A) (xs : List X) (i : ℕ) (r : Option (Bor X)) → IsItemAt xs i r → slice_get (map f xs) i ≡ option_map (λ (x : Bor X). f x.now) r
lent_at f xs i None h = slice_get_past (map f xs) i (omega (arith, length-map xs f, h.3))
lent_at f xs i (Some x) h = slice_get-map f xs i ∙ ap (option_map f) (slice_get_read xs (length xs) i x.now refl h.3.0 h.1)
