-- Dots.
use Rattle.std.proofs.Common.{◌≡◌, ℕ, zero, suc, ◌+◌, [], ◌∷◌, ◌++◌, ap, ◌∙◌, refl, add-one}
use Rattle.pyc_imports.specs.ImportReadings.{dots}

-- one dot more
pub dots_more : (n : ℕ) → dots (n + 1) ≡ dots n ++ (46 ∷ [])
dots_more n = ap dots (add-one n) ∙ by n
  where
    by : (n : ℕ) → dots (suc n) ≡ dots n ++ (46 ∷ [])
    by zero = refl
    by (suc n) = ap (λ l. 46 ∷ l) (by n)
