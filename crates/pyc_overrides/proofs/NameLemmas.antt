-- Names of a list that are added in turn.
use Rattle.std.proofs.Common.{◌≡◌, ℕ, suc, ◌+◌, ◌<◌, List, ◌∷◌, length, map, drop, get_or, add-one, drop-cons, ap, sym, ◌∙◌}
use Rattle.pyc_overrides.specs.Names.{with_name, with_names}

-- one name more
pub name_turn : {X Y : Type 0} (view : X → Y) (name : Y → List ℕ) (names more : List (List ℕ)) (xs : List X) (i : ℕ) (x : X) (n : List ℕ)
    → i < length xs → x ≡ get_or xs i x → n ≡ name (view x) → more ≡ with_name names n
    → with_names more (map name (map view (drop (i + 1) xs))) ≡ with_names names (map name (map view (drop i xs)))
name_turn view name names more xs i x n within is same added =
    let left : drop i xs ≡ x ∷ drop (i + 1) xs = rw add-one (drop-cons xs i x within ∙ ap (λ y. y ∷ drop (suc i) xs) (sym is)) in
    ap (λ l. with_names l (map name (map view (drop (i + 1) xs)))) (added ∙ ap (with_name names) same)
    ∙ sym (ap (λ l. with_names names (map name (map view l))) left)
