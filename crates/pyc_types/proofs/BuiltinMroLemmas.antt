-- The orders of the builtin classes meet what the laws ask of orders.
use Rattle.std.proofs.Common.{◌≡◌, Bool, true, List, [], ◌∷◌, map, IsTrue, inl, inr, refl, ◌∙◌, subst}
use Rattle.std.proofs.lemmas.Bool.{false≢true, or_cases, or_right, and_parts}
use Rattle.std.specs.List.{list_any, list_all}
use Rattle.pyc_class_ids.specs.declared.builtin_class.BuiltinClass.{BuiltinClass}
use Rattle.pyc_class_ids.specs.declared.builtin_class.BuiltinClass.TheVariants as class
use Rattle.pyc_class_ids.specs.Class.{Id, builtin, user, same_class}
use Rattle.pyc_class_ids.specs.ClassEquality.{same_class_equiv}
use Rattle.pyc_class_ids.specs.Mro.{leads, is_unknown}
use Rattle.pyc_builtins.specs.MroTable.{builtin_order, builtin_orders}
use Rattle.pyc_types.specs.MroLaws.{HoldsItself, HoldsMros, BuiltinMrosAreOrderly}
use Rattle.pyc_types.proofs.ClassLemmas.{is_builtin}

-- ---- each in its own order

own_leads : (b : BuiltinClass) → leads builtin_orders (builtin b) (builtin b) ≡ true
own_leads class.Object = refl
own_leads class.Int = refl
own_leads class.Float = refl
own_leads class.Str = refl
own_leads class.Bytes = refl
own_leads class.List = refl
own_leads class.Dict = refl
own_leads class.Tuple = refl
own_leads class.BaseException = refl
own_leads class.Bool = refl
own_leads class.Exception = refl
own_leads class.LookupError = refl
own_leads class.ArithmeticError = refl
own_leads class.ValueError = refl
own_leads class.TypeError = refl
own_leads class.RuntimeError = refl
own_leads class.AssertionError = refl
own_leads class.KeyError = refl
own_leads class.IndexError = refl
own_leads class.ZeroDivisionError = refl
own_leads class.OverflowError = refl
own_leads class.NotImplementedError = refl
own_leads class.RecursionError = refl

holds_itself : HoldsItself builtin_orders
holds_itself (builtin b) = or_right (is_unknown (builtin_orders (builtin b))) (leads builtin_orders (builtin b) (builtin b)) (own_leads b)
holds_itself (user m n) = refl

-- ---- the order of each in it

-- whether a class stands in a row of builtin classes
abbrev among : List BuiltinClass → Id → Bool
among row e = list_any (λ other. same_class other e) (map builtin row)

-- whether each class of a row stands in another
abbrev is_within : List BuiltinClass → List BuiltinClass → Bool
is_within row other = list_all (λ b. among other (builtin b)) row

within_all : (b : BuiltinClass) → list_all (λ d. is_within (builtin_order d) (builtin_order b)) (builtin_order b) ≡ true
within_all class.Object = refl
within_all class.Int = refl
within_all class.Float = refl
within_all class.Str = refl
within_all class.Bytes = refl
within_all class.List = refl
within_all class.Dict = refl
within_all class.Tuple = refl
within_all class.BaseException = refl
within_all class.Bool = refl
within_all class.Exception = refl
within_all class.LookupError = refl
within_all class.ArithmeticError = refl
within_all class.ValueError = refl
within_all class.TypeError = refl
within_all class.RuntimeError = refl
within_all class.AssertionError = refl
within_all class.KeyError = refl
within_all class.IndexError = refl
within_all class.ZeroDivisionError = refl
within_all class.OverflowError = refl
within_all class.NotImplementedError = refl
within_all class.RecursionError = refl

-- a class that is the same as a builtin one is that one
is_same : (b : BuiltinClass) (e : Id) → IsTrue (same_class (builtin b) e) → e ≡ builtin b
is_same b e same = is_builtin e b (same_class_equiv.symm e (builtin b) ∙ same)

-- what stands in a row stands in one that holds it
held : (row other : List BuiltinClass) → is_within row other ≡ true → (e : Id) → IsTrue (among row e) → IsTrue (among other e)
held [] other within e stands = absurd (false≢true stands)
held (b ∷ row) other within e stands =
    let parts = and_parts (among other (builtin b)) (is_within row other) within in
    elim (or_cases (same_class (builtin b) e) (among row e) stands) [
      | inl same ↦ rw (is_same b e same) parts.0
      | inr later ↦ held row other parts.1 e later
    ]

-- what stands in the order of one of a row stands in what holds the orders of all
held_orders : (row other : List BuiltinClass) → list_all (λ d. is_within (builtin_order d) other) row ≡ true → (d e : Id) → IsTrue (among row d) → IsTrue (leads builtin_orders d e) → IsTrue (among other e)
held_orders [] other within d e stands led = absurd (false≢true stands)
held_orders (b ∷ row) other within d e stands led =
    let parts = and_parts (is_within (builtin_order b) other) (list_all (λ x. is_within (builtin_order x) other) row) within in
    elim (or_cases (same_class (builtin b) d) (among row d) stands) [
      | inl same ↦ held (builtin_order b) other parts.0 e (subst (λ k. IsTrue (leads builtin_orders k e)) (is_same b d same) led)
      | inr later ↦ held_orders row other parts.1 d e later led
    ]

holds_orders : HoldsMros builtin_orders
holds_orders (builtin b) d e known first second = held_orders (builtin_order b) (builtin_order b) (within_all b) d e first second
holds_orders (user m n) d e known first second = absurd (false≢true known)

pub builtin_orders_are_orderly : BuiltinMrosAreOrderly
builtin_orders_are_orderly = (holds_itself, (holds_orders, λ b. refl))
