-- What the first bytes of a reader are.
use Rattle.std.proofs.Common.{◌≡◌, ◌∙◌, ap, ℕ, List, take, Option, None, Some, IfSome, arith}
use Rattle.std.proofs.lemmas.Grind.{common_steps}
use Rattle.std.specs.Option.{option_map}
use Rattle.std.proofs.lemmas.List.{take_all, length-take}

-- cutting what was cut already changes nothing
pub first_known : (known : Option (List ℕ)) (n : ℕ) (read cut : List ℕ) →
    IfSome (option_map (take n) known) (λ left. read ≡ left) → cut ≡ take n read → IfSome known (λ left. cut ≡ take n left)
first_known None n read cut given is = tt
first_known (Some left) n read cut given is =
    is ∙ ap (take n) given ∙ take_all n (take n left) (let short = length-take n left in grind (arith, common_steps))
