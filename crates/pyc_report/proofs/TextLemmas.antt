-- What a text holds after a last write, whose result is returned as it is.
use Rattle.std.proofs.Common.{◌≡◌, ℕ, List, Result, Ok, Err, OnOk, is_ok, cond, ◌∙◌}

-- where the write succeeds, the text is the whole
pub written : {T E : Type 0} (r : Result T E) (text more less whole : List ℕ) → text ≡ cond (is_ok r) more less → more ≡ whole → OnOk r (text ≡ whole)
written (Ok x) text more less whole is same = is ∙ same
written (Err e) text more less whole is same = tt
