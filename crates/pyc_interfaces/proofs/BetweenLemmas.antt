-- What differs between two lists of files, by rows of the code.
use Rattle.std.proofs.Common.{◌≡◌, ℕ, ◌+◌, ◌-◌, ◌≤◌, List, length, map, take, drop, sym, ap, ap₂, ◌∙◌, arith}
use Rattle.std.proofs.lemmas.List.{take-map, drop-map, drop-take, length-map}
use Rattle.pyc_interfaces.proofs.NotedSteps.{both_noted}
use Rattle.pyc_interfaces.specs.ChangedBetween.{between, changes_of, orders_of, modules_between, orders_between}
use Rattle.pyc_names.specs.Interfaces.{Interface}
use Rattle.pyc_names.specs.NotedLooks.{Noted, with_looks}

-- the files of a list that lie between
pub between_rows : {X Y : Type 0} (f : X → Y) (front back : ℕ) (xs : List X) → front + back ≤ length xs
    → map f (take ((length xs - back) - front) (drop front xs)) ≡ between front back (map f xs)
between_rows f front back xs fit =
    let e : length xs - back ≡ front + ((length xs - back) - front) = omega arith in
    ap (map f) (sym (drop-take front ((length xs - back) - front) xs))
    ∙ (ap (λ n. map f (drop front (take n xs))) (sym e)
    ∙ (sym (drop-map f front (take (length xs - back) xs))
    ∙ (ap (drop front) (sym (take-map f (length xs - back) xs))
    ∙ ap (λ n. drop front (take (n - back) (map f xs))) (sym (length-map xs f)))))

-- what differs in modules is noted, in turn
pub modules_noted : (front back : ℕ) (files others first_files walked second_files added : List Interface) (old one two : Noted)
    → first_files ≡ files → walked ≡ between front back first_files → second_files ≡ others → added ≡ between front back second_files
    → one ≡ with_looks old (changes_of files others walked) → two ≡ with_looks one (changes_of files others added)
    → two ≡ with_looks old (modules_between front back files others)
modules_noted front back files others first_files walked second_files added old one two first_are walked_are second_are added_are one_is two_is =
    both_noted old one two (changes_of files others (between front back files)) (changes_of files others (between front back others))
    (one_is ∙ ap (λ (l : List Interface). with_looks old (changes_of files others l)) (walked_are ∙ ap (between front back) first_are))
    (two_is ∙ ap (λ (l : List Interface). with_looks one (changes_of files others l)) (added_are ∙ ap (between front back) second_are))

-- and what differs in orders
pub orders_noted : (front back : ℕ) (files others firsts first_files seconds second_files added : List Interface) (old one two : Noted)
    → firsts ≡ files → first_files ≡ firsts → seconds ≡ others → second_files ≡ seconds → added ≡ between front back second_files
    → one ≡ with_looks old (orders_of files others first_files) → two ≡ with_looks one (orders_of files others added)
    → two ≡ with_looks old (orders_between front back files others)
orders_noted front back files others firsts first_files seconds second_files added old one two firsts_are first_are seconds_are second_are added_are one_is two_is =
    both_noted old one two (orders_of files others files) (orders_of files others (between front back others))
    (one_is ∙ ap (λ (l : List Interface). with_looks old (orders_of files others l)) (first_are ∙ firsts_are))
    (two_is ∙ ap (λ (l : List Interface). with_looks one (orders_of files others l)) (added_are ∙ ap (between front back) (second_are ∙ seconds_are)))
