-- Names that end alike.
use Rattle.std.proofs.Common.{◌≡◌, ℕ, ◌<◌, Bool, true, false, ◌&&◌, bytes_eq, List, [], ◌∷◌, ◌++◌, length, get_or, take, ◌-◌, ◌+◌, ◌≤◌, Option, None, Some, option_map, refl, sym, ap, ◌∙◌, arith}
use Rattle.std.proofs.lemmas.List.{take_all, take_more}
use Rattle.pyc_places.specs.Places.{Place, same_place, is_place}

and_false : (b : Bool) → b && false ≡ false
and_false true = refl
and_false false = refl

and_swap : (a b c : Bool) → a && (b && c) ≡ b && (a && c)
and_swap true b c = refl
and_swap false true c = refl
and_swap false false c = refl

-- no names are the same as names with one behind them
none_ends : (ys : Place) (y : List ℕ) → same_place [] (ys ++ (y ∷ [])) ≡ false
none_ends [] y = refl
none_ends (z ∷ ys) y = refl

ends_none : (xs : Place) (x : List ℕ) → same_place (xs ++ (x ∷ [])) [] ≡ false
ends_none [] x = refl
ends_none (z ∷ xs) x = refl

-- names with one behind them are the same where both the names before and the last are
pub ends_same : (xs ys : Place) (x y : List ℕ) → same_place (xs ++ (x ∷ [])) (ys ++ (y ∷ [])) ≡ bytes_eq x y && same_place xs ys
ends_same [] [] x y = refl
ends_same [] (z ∷ ys) x y = ap (λ b. bytes_eq x z && b) (none_ends ys y) ∙ and_false (bytes_eq x z) ∙ sym (and_false (bytes_eq x y))
ends_same (z ∷ xs) [] x y = ap (λ b. bytes_eq z y && b) (ends_none xs x) ∙ and_false (bytes_eq z y) ∙ sym (and_false (bytes_eq x y))
ends_same (z ∷ xs) (w ∷ ys) x y = ap (λ b. bytes_eq z w && b) (ends_same xs ys x y) ∙ and_swap (bytes_eq z w) (bytes_eq x y) (same_place xs ys)

-- an attribute of a place, if there is one, is the one with these names where its name is the last and the place has
-- the others
pub below_same : (names rest : Place) (last n : List ℕ) (owner : Option Place) → names ≡ rest ++ (last ∷ [])
    → is_place names (option_map (λ place. place ++ (n ∷ [])) owner) ≡ bytes_eq last n && is_place rest owner
below_same names rest last n None is = sym (and_false (bytes_eq last n))
below_same names rest last n (Some place) is = ap (λ l. same_place l (place ++ (n ∷ []))) is ∙ ends_same rest place last n

pub below_none : (names : Place) (n : List ℕ) (owner : Option Place) → length names < 1
    → is_place names (option_map (λ place. place ++ (n ∷ [])) owner) ≡ false
below_none [] n None short = refl
below_none [] n (Some place) short = none_ends place n
below_none (x ∷ names) n owner short = absurd (omega arith)

-- some names are those before the last, and the last
pub ends_in : (names : Place) (last : List ℕ) → 1 ≤ length names → last ≡ get_or names (length names - 1) last → names ≡ take (length names - 1) names ++ (last ∷ [])
ends_in names last some is =
    let n : length names ≡ (length names - 1) + 1 = omega (arith, some) in
    sym (take_all (length names) names (omega arith)) ∙ ap (λ k. take k names) n ∙ take_more names (length names - 1) last (omega (arith, some)) ∙ ap (λ x. take (length names - 1) names ++ (x ∷ [])) (sym is)
