-- What is noted of what differs is flagged.
use Rattle.std.proofs.Common.{◌≡◌, ℕ, ◌==◌, ◌||◌, Bool, true, List, [], ◌∷◌, ◌++◌, map, refl, ap, ap₂, ◌∙◌}
use Rattle.std.proofs.lemmas.Bool.{eq-eqb}
use Rattle.std.specs.List.{list_any}
use Rattle.pyc_iface.specs.Flags.{is_flagged, is_noted}
use Rattle.pyc_interfaces.proofs.NotedSteps.{both_noted}
use Rattle.pyc_interfaces.specs.CarryLaws.{AllDiffer}
use Rattle.pyc_interfaces.specs.ChangedBetween.{modules_between, orders_between, changed_between}
use Rattle.pyc_names.specs.Interfaces.{Interface}
use Rattle.pyc_names.specs.LookNumbers.{number_of}
use Rattle.pyc_names.specs.Looks.{Look}
use Rattle.pyc_names.specs.NotedLooks.{Noted, nothing_noted, with_looks}

or_right : (a b : Bool) → b ≡ true → (a || b) ≡ true
or_right true b h = refl
or_right _ b h = h

each_flagged : (flagged : Look → Bool) (numbers : List ℕ) (looks : List Look)
    → ((n : ℕ) → list_any (λ k. k == n) (map number_of looks) ≡ true → list_any (λ k. k == n) numbers ≡ true)
    → ((look : Look) → flagged look ≡ list_any (λ k. k == number_of look) numbers) → AllDiffer flagged looks
each_flagged flagged numbers [] within is = tt
each_flagged flagged numbers (look ∷ looks) within is = (
  is look ∙ within (number_of look) (ap (λ b. b || list_any (λ k. k == number_of look) (map number_of looks)) (eq-eqb (number_of look) (number_of look) refl)),
  each_flagged flagged numbers looks (λ n any. within n (or_right (number_of look == n) (list_any (λ k. k == n) (map number_of looks)) any)) is,
)

-- all differ that were noted, where flags are set on what was noted
pub noted_differ : (flags : List Bool) (noted : Noted) (looks : List Look) → noted ≡ with_looks nothing_noted looks
    → ((look : Look) → is_flagged flags look ≡ is_noted noted (number_of look)) → AllDiffer (is_flagged flags) looks
unfolding with_looks nothing_noted
noted_differ flags noted looks e flagged =
    each_flagged (is_flagged flags) (map number_of looks) looks (λ n any. any)
    (λ look. flagged look ∙ ap (λ (z : Noted). is_noted z (number_of look)) e)

-- what was noted of modules
pub modules_differ : (front back : ℕ) (files others firsts : List Interface) (flags : List Bool) (before noted : Noted) → firsts ≡ files → before ≡ nothing_noted
    → noted ≡ with_looks before (modules_between front back firsts others)
    → ((look : Look) → is_flagged flags look ≡ is_noted noted (number_of look)) → AllDiffer (is_flagged flags) (modules_between front back files others)
modules_differ front back files others firsts flags before noted firsts_are none noted_is flagged =
    noted_differ flags noted (modules_between front back files others)
    (noted_is ∙ ap₂ (λ (z : Noted) (l : List Interface). with_looks z (modules_between front back l others)) none firsts_are) flagged

-- and of orders after that
pub all_differ : (front back : ℕ) (files others seconds : List Interface) (flags : List Bool) (before noted : Noted)
    → before ≡ with_looks nothing_noted (modules_between front back files others) → seconds ≡ others
    → noted ≡ with_looks before (orders_between front back files seconds)
    → ((look : Look) → is_flagged flags look ≡ is_noted noted (number_of look)) → AllDiffer (is_flagged flags) (changed_between front back files others)
unfolding changed_between
all_differ front back files others seconds flags before noted before_is seconds_are noted_is flagged =
    noted_differ flags noted (modules_between front back files others ++ orders_between front back files others)
    (both_noted nothing_noted before noted (modules_between front back files others) (orders_between front back files others) before_is
    (noted_is ∙ ap (λ (l : List Interface). with_looks before (orders_between front back files l)) seconds_are))
    flagged
