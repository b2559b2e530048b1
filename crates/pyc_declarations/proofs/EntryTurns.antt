-- Entries of classes, one after another.
use Rattle.std.proofs.Common.{◌≡◌, ℕ, ◌+◌, ◌<◌, List, [], ◌∷◌, ◌++◌, length, map, take, get_or, append_assoc, sym, ap, ap₂, ◌∙◌}
use Rattle.std.proofs.lemmas.List.{take_more, map_push}

-- what is made of one of a list stands behind what was made of those before it
pub added_turn : {X Y W Z : Type 0} (view : X → Y) (made : Y → Z) (entry : W → Z) (start : List Z) (xs : List X) (i : ℕ) (x : X) (old new : List W) (w : W)
    → i < length xs → x ≡ get_or xs i x → new ≡ old ++ (w ∷ []) → entry w ≡ made (view x) → map entry old ≡ start ++ map made (map view (take i xs))
    → map entry new ≡ start ++ map made (map view (take (i + 1) xs))
added_turn {X} {Y} {W} {Z} view made entry start xs i x old new w within is pushed same before =
    let more : take (i + 1) xs ≡ take i xs ++ (x ∷ []) = take_more xs i x within ∙ ap (λ (y : X). take i xs ++ (y ∷ [])) (sym is) in
    let made_more : map made (map view (take (i + 1) xs)) ≡ map made (map view (take i xs)) ++ (made (view x) ∷ []) =
    ap (λ (l : List X). map made (map view l)) more ∙ ap (map made) (map_push view (take i xs) x) ∙ map_push made (map view (take i xs)) (view x) in
    ap (map entry) pushed ∙ map_push entry old w ∙ ap₂ (λ (l : List Z) (z : Z). l ++ (z ∷ [])) before same
    ∙ append_assoc start (map made (map view (take i xs))) (made (view x) ∷ []) ∙ ap (λ (l : List Z). start ++ l) (sym made_more)
