-- A measure of what is chosen by a test is at most what it is of both.
use Rattle.std.proofs.Common.{◌≤◌, ℕ, Bool, true, false, if◌then◌else◌}

pub if_low : {A : Type 0} (top : A → ℕ) (n : ℕ) (b : Bool) (x y : A) → top x ≤ n → top y ≤ n → top (if b then x else y) ≤ n
if_low top n true x y low other = low
if_low top n false x y low other = other
