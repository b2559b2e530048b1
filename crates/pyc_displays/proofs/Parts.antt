-- What parts of displays of the code are, by their own parts.
use Rattle.std.proofs.Common.{◌≡◌, ℕ, List, [], ◌∷◌, length, map, Bor, Option, None, Some, refl, ap, ◌∙◌, arith, rules}
use Rattle.std.proofs.lemmas.List.{length-map}
use Rattle.std.proofs.lemmas.Option.{slice_get-map, slice_get_past, slice_get_read}
use Rattle.std.specs.List.{slice_get}
use Rattle.std.specs.Option.{option_map}
use Rattle.std.specs.Slice.{IsItemAt}
use Rattle.pyc_ast.specs.declared.expr.DictItem.TheFolds.{the_lemmas}
use Rattle.pyc_ast.specs.declared.expr.Element.{Element}
use Rattle.pyc_ast.specs.declared.expr.Expr.{Expr}
use Rattle.pyc_ast.specs.Exprs.{expr, element, at_of}
use Rattle.pyc_ast.specs.ExprView.{expr_of, form_of, element_of}
use Rattle.pyc_displays.specs.Displays.{value_in}
use Rattle.pyc_displays.specs.Expecting.{types_in}
use Rattle.pyc_type_forms.specs.declared.types.Params.TheFolds.{the_lemmas as type_lemmas}
use Rattle.pyc_type_forms.specs.declared.types.Ty.{Ty as TyOf}
use Rattle.pyc_type_forms.specs.declared.types.Ty.TheVariants as t
use Rattle.pyc_type_forms.specs.Types.{Ty, any}
use Rattle.pyc_type_forms.specs.TypeView.{ty_of, tys_of}

view_expr : (x : Expr) → expr_of x ≡ expr x.at x.inside (form_of x.form)
view_expr x = search (rules, the_lemmas)

view_element : (x : Element) → element_of x ≡ element x.is_starred (expr_of x.value)
view_element x = search (rules, the_lemmas)

-- where an expression begins
pub begins_at : (x : Expr) → at_of (expr_of x) ≡ x.at
begins_at x = ap at_of (view_expr x)

-- what stands in an item
pub stands_in : (x : Element) → value_in (element_of x) ≡ expr_of x.value
stands_in x = ap value_in (view_element x)

-- the types of a row of a list are the list
pub types_in-tys_of : (tys : List Ty) → types_in (tys_of tys) ≡ tys
types_in-tys_of [] = refl
types_in-tys_of (ty ∷ tys) = ap (λ rest. ty ∷ rest) (types_in-tys_of tys)

-- a type that is lent out of some
pub lent : (xs : List TyOf) (i : ℕ) (r : Option (Bor TyOf)) → IsItemAt xs i r → slice_get (map ty_of xs) i ≡ option_map (λ (ty : Bor TyOf). ty_of ty.now) r
lent xs i None h = slice_get_past (map ty_of xs) i (omega (arith, length-map xs ty_of, h.3))
lent xs i (Some x) h = slice_get-map ty_of xs i ∙ ap (option_map ty_of) (slice_get_read xs (length xs) i x.now refl h.3.0 h.1)

pub any_in : any ≡ ty_of t.Any
any_in = search (rules, type_lemmas)
