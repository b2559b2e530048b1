-- A recursion on a count of turns, beside a loop that counts up.
use Rattle.std.proofs.Common.{◌≡◌, ℕ, suc, ◌+◌, ◌-◌, ◌<◌, ◌≤◌, ap, ◌∙◌, sym, arith}

-- a turn is left
pub one_more : {X : Type 0} {x : X} (f : ℕ → X) (n at : ℕ) → at < n → f (n - at) ≡ x → f (suc (n - (at + 1))) ≡ x
one_more f n at below e = let turn : suc (n - (at + 1)) ≡ n - at = omega arith in ap f turn ∙ e

-- no turn is left
pub no_more : {X : Type 0} {x : X} (f : ℕ → X) (n at : ℕ) → n ≤ at → f (n - at) ≡ x → f 0 ≡ x
no_more f n at done e = let none : 0 ≡ n - at = omega arith in ap f none ∙ e

-- a call is left
pub deeper : {X : Type 0} (f : ℕ → X) (n : ℕ) → 0 < n → f n ≡ f (suc (n - 1))
deeper f n some = let e : n ≡ suc (n - 1) = omega arith in ap f e
