-- Names joined by dots, by the first of them.
use Rattle.std.proofs.Common.{◌≡◌, ◌≤◌, List, ◌∷◌, length, get_or, ap, sym, ◌∙◌}
use Rattle.std.proofs.lemmas.Slice.{first_rest}
use Rattle.std.specs.List.{between}

pub first_and_rest : {X : Type 0} (xs : List X) (first : X) → 1 ≤ length xs → first ≡ get_or xs 0 first → xs ≡ first ∷ between 1 (length xs) xs
first_and_rest xs first long is = first_rest xs first long ∙ ap (λ x. x ∷ between 1 (length xs) xs) (sym is)
