-- Places that are narrowed once.
use Rattle.std.proofs.Common.{◌≡◌, ℕ, zero, suc, ◌+◌, Bool, true, false, ◌||◌, ◌&&◌, not, cond, bytes_eq}
use Rattle.std.proofs.Common.{List, [], ◌∷◌, ◌++◌, filter, Option, None, Some, refl, sym, ap, ◌∙◌, arith}
use Rattle.std.specs.Bool.{Decides}
use Rattle.std.specs.Cmp.Lexicographic.{pointwise_decides}
use Rattle.std.specs.List.{list_any, flat_map, position_from}
use Rattle.std.proofs.lemmas.Slice.Eq.{bytes_eq-Decides}
use Rattle.pyc_type_forms.specs.Types.{Ty}
use Rattle.pyc_places.specs.Lookup.{first_place, is_at}
use Rattle.pyc_places.specs.Once.{is_narrowed, are_once}
use Rattle.pyc_places.specs.Places.{Place, same_place}
use Rattle.pyc_places.specs.States.{Narrowing, on_both, without_place}

-- ---- places

one_place : (a b : Place) → Decides (same_place a b) (a ≡ b)
one_place = pointwise_decides bytes_eq-Decides

tested : (a b : Place) (t : Bool) → same_place b a ≡ t → same_place a b ≡ false → same_place b a ≡ false
tested a b true is h = let e : same_place a b ≡ true = (one_place a b).1 (sym ((one_place b a).0 is)) in cc
tested a b false is h = is

swapped : (a b : Place) → same_place a b ≡ false → same_place b a ≡ false
swapped a b h = tested a b (same_place b a) refl h

neither : (a b : Bool) → a || b ≡ false → (a ≡ false) × (b ≡ false)
neither true b h = cc
neither false b h = (refl, h)

-- each place is narrowed once, as a fact for each
abbrev AreOnce : List Narrowing → Type 0
AreOnce [] = Unit {0}
AreOnce (n ∷ ns) = (is_narrowed ns n.place ≡ false) × AreOnce ns

both : (a b : Bool) → not a && b ≡ true → (a ≡ false) × (b ≡ true)
both true b h = cc
both false b h = (refl, h)

apart_of : (ns : List Narrowing) → are_once ns ≡ true → AreOnce ns
apart_of [] once = tt
apart_of (n ∷ ns) once = let parts = both (is_narrowed ns n.place) (are_once ns) once in (parts.0, apart_of ns parts.1)

once_of : (ns : List Narrowing) → AreOnce ns → are_once ns ≡ true
once_of [] apart = refl
once_of (n ∷ ns) apart = ap (λ b. not b && are_once ns) apart.0 ∙ once_of ns apart.1

-- ---- some of the narrowings

kept_here : (t : Narrowing → Bool) (n : Narrowing) (ns : List Narrowing) (b : Bool) → t n ≡ false → list_any t ns ≡ false → list_any t (cond b (n ∷ ns) ns) ≡ false
kept_here t n ns true h more = ap (λ b. b || list_any t ns) h ∙ more
kept_here t n ns false h more = more

none_kept : (f t : Narrowing → Bool) (ns : List Narrowing) → list_any t ns ≡ false → list_any t (filter f ns) ≡ false
none_kept f t [] h = refl
none_kept f t (n ∷ ns) h =
    let parts = neither (t n) (list_any t ns) h in
    kept_here t n (filter f ns) (f n) parts.0 (none_kept f t ns parts.1)

once_here : (n : Narrowing) (ns : List Narrowing) (b : Bool) → is_narrowed ns n.place ≡ false → AreOnce ns → AreOnce (cond b (n ∷ ns) ns)
once_here n ns true apart once = (apart, once)
once_here n ns false apart once = once

apart_kept : (f : Narrowing → Bool) (ns : List Narrowing) → AreOnce ns → AreOnce (filter f ns)
apart_kept f [] once = tt
apart_kept f (n ∷ ns) once =
    once_here n (filter f ns) (f n) (none_kept f (λ m. same_place m.place n.place) ns once.0) (apart_kept f ns once.1)

-- some of the narrowings are each of another place
pub once_kept : (f : Narrowing → Bool) (ns : List Narrowing) → are_once ns ≡ true → are_once (filter f ns) ≡ true
once_kept f ns once = once_of (filter f ns) (apart_kept f ns (apart_of ns once))

-- ---- one more

any_more : (t : Narrowing → Bool) (ns : List Narrowing) (n : Narrowing) → list_any t ns ≡ false → t n ≡ false → list_any t (ns ++ (n ∷ [])) ≡ false
any_more t [] n h more = ap (λ b. b || false) more
any_more t (m ∷ ns) n h more =
    let parts = neither (t m) (list_any t ns) h in
    ap (λ b. b || list_any t (ns ++ (n ∷ []))) parts.0 ∙ any_more t ns n parts.1 more

once_more : (ns : List Narrowing) (n : Narrowing) → AreOnce ns → is_narrowed ns n.place ≡ false → AreOnce (ns ++ (n ∷ []))
once_more [] n once apart = (refl, tt)
once_more (m ∷ ns) n once apart =
    let parts = neither (same_place m.place n.place) (is_narrowed ns n.place) apart in
    (any_more (λ k. same_place k.place m.place) ns n once.0 (swapped m.place n.place parts.0), once_more ns n once.1 parts.1)

gone_here : (p : Place) (n : Narrowing) (ns : List Narrowing) (b : Bool) → same_place n.place p ≡ b → is_narrowed ns p ≡ false → is_narrowed (cond (not b) (n ∷ ns) ns) p ≡ false
gone_here p n ns true is h = h
gone_here p n ns false is h = ap (λ b. b || is_narrowed ns p) is ∙ h

gone : (p : Place) (ns : List Narrowing) → is_narrowed (without_place p ns) p ≡ false
gone p [] = refl
gone p (n ∷ ns) = gone_here p n (without_place p ns) (same_place n.place p) refl (gone p ns)

-- narrowings without those of a place, and one of that place, are each of another place
pub once_with : (place : Place) (ty : Ty) (ns : List Narrowing) → are_once ns ≡ true → are_once (without_place place ns ++ (record { place = place; ty = ty } ∷ [])) ≡ true
once_with place ty ns once =
    let n : Narrowing = record { place = place; ty = ty } in
    once_of (without_place place ns ++ (n ∷ []))
    (once_more (without_place place ns) n (apart_kept (λ n. not (same_place n.place place)) ns (apart_of ns once)) (gone place ns))

-- ---- where two ways meet

joined_here : (t : Place → Bool) (n : Narrowing) (other : Option Ty) (rest : List Narrowing) → t n.place ≡ false → list_any (λ m. t m.place) rest ≡ false
    → list_any (λ m. t m.place) (on_both n other ++ rest) ≡ false
joined_here t n (Some ty) rest h more = ap (λ b. b || list_any (λ m. t m.place) rest) h ∙ more
joined_here t n None rest h more = more

none_joined : (t : Place → Bool) (other : Narrowing → Option Ty) (ns : List Narrowing) → list_any (λ m. t m.place) ns ≡ false
    → list_any (λ m. t m.place) (flat_map (λ n. on_both n (other n)) ns) ≡ false
none_joined t other [] h = refl
none_joined t other (n ∷ ns) h =
    let parts = neither (t n.place) (list_any (λ m. t m.place) ns) h in
    joined_here t n (other n) (flat_map (λ n. on_both n (other n)) ns) parts.0 (none_joined t other ns parts.1)

once_both : (n : Narrowing) (other : Option Ty) (rest : List Narrowing) → is_narrowed rest n.place ≡ false → AreOnce rest → AreOnce (on_both n other ++ rest)
once_both n (Some ty) rest apart once = (apart, once)
once_both n None rest apart once = once

apart_joined : (other : Narrowing → Option Ty) (ns : List Narrowing) → AreOnce ns → AreOnce (flat_map (λ n. on_both n (other n)) ns)
apart_joined other [] once = tt
apart_joined other (n ∷ ns) once =
    once_both n (other n) (flat_map (λ n. on_both n (other n)) ns) (none_joined (λ p. same_place p n.place) other ns once.0) (apart_joined other ns once.1)

-- what is narrowed on both ways is each of another place
pub once_joined : (other : Narrowing → Option Ty) (ns : List Narrowing) → are_once ns ≡ true → are_once (flat_map (λ n. on_both n (other n)) ns) ≡ true
once_joined other ns once = once_of (flat_map (λ n. on_both n (other n)) ns) (apart_joined other ns (apart_of ns once))

-- ---- where a place stands

apart_at : (x : Narrowing) (ns : List Narrowing) (p : Place) (i : ℕ) → is_narrowed ns x.place ≡ false → is_at ns i p ≡ true → same_place x.place p ≡ false
apart_at x [] p i apart is = cc
apart_at x (n ∷ ns) p zero apart is =
    let parts = neither (same_place n.place x.place) (is_narrowed ns x.place) apart in
    swapped p x.place (ap (λ q. same_place q x.place) (sym ((one_place n.place p).0 is)) ∙ parts.0)
apart_at x (n ∷ ns) p (suc i) apart is =
    apart_at x ns p i (neither (same_place n.place x.place) (is_narrowed ns x.place) apart).1 is

first_at : (ns : List Narrowing) (p : Place) (start i : ℕ) → AreOnce ns → is_at ns i p ≡ true
    → position_from (λ (n : Narrowing). same_place n.place p) start ns ≡ Some (start + i)
first_at [] p start i once is = cc
first_at (x ∷ ns) p start zero once is =
    let same : start ≡ start + 0 = omega arith in
    ap (λ b. cond b (Some start) (position_from (λ (n : Narrowing). same_place n.place p) (start + 1) ns)) is ∙ ap Some same
first_at (x ∷ ns) p start (suc i) once is =
    let onward : (start + 1) + i ≡ start + suc i = omega arith in
    ap (λ b. cond b (Some start) (position_from (λ (n : Narrowing). same_place n.place p) (start + 1) ns)) (apart_at x ns p i once.0 is)
    ∙ first_at ns p (start + 1) i once.1 is ∙ ap Some onward

-- where each place is narrowed once, one that stands somewhere stands there first
pub first_stands : (ns : List Narrowing) (p : Place) (i : ℕ) → are_once ns ≡ true → is_at ns i p ≡ true → Some i ≡ first_place ns p
first_stands ns p i once is =
    let same : 0 + i ≡ i = omega arith in sym (first_at ns p 0 i (apart_of ns once) is ∙ ap Some same)
