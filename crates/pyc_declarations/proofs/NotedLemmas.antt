-- What is noted for the keys that a reading asks, each once.
use Rattle.std.proofs.Common.{◌≡◌, ℕ, suc, ◌+◌, ◌<◌, ◌≤◌, ◌||◌, Bool, true, false, List, [], ◌∷◌, ◌++◌, length, map, flat_map, drop, get_or, add-one, drop-cons, if◌then◌else◌, refl, sym, ap, ◌∙◌}
use Rattle.std.proofs.lemmas.List.{drop_all}
use Rattle.std.proofs.lemmas.Bool.{and_parts, false≢true}
use Rattle.std.proofs.lemmas.List.Folds.{list_any-append}
use Rattle.std.proofs.lemmas.Slice.Eq.{bytes_eq-Decides}
use Rattle.std.specs.List.{list_any}
use Rattle.pyc_class_table.proofs.BuiltinLemmas.{same_class-is}
use Rattle.pyc_declarations.specs.RecorderView.{new_trace}
use Rattle.pyc_names.specs.LookNumbers.{number_of}
use Rattle.pyc_names.specs.Looks.{Look}
use Rattle.pyc_names.specs.NotedLooks.{Noted, with_looks}
use Rattle.pyc_names.proofs.NotedLemmas.{with_none, with_both}
use Rattle.pyc_names.proofs.RingLemmas.{same_module-is, same_name-is}
use Rattle.pyc_reading.specs.Answers.{Answer}
use Rattle.pyc_reading.specs.Keys.{Key, MemberName, has_module, has_name, name, class, member, export, same_key, same_member}
use Rattle.pyc_reading.specs.Readings.{asked}
use Rattle.pyc_reading.specs.Traces.{Step, Trace, run, with_key, with_keys}
use Rattle.pyc_declarations.proofs.ReadLemmas.{keys_read}

or_nothing : (b : Bool) → b || false ≡ b
or_nothing true = refl
or_nothing false = refl

or_or : (a b c : Bool) → (a || b) || c ≡ a || (b || c)
or_or true b c = refl
or_or false b c = refl

or_again : (a b : Bool) → a || b ≡ (a || b) || a
or_again true b = refl
or_again false b = sym (or_nothing b)

-- ---- keys that are one

same_member-is : (a b : MemberName) → same_member a b ≡ true → a ≡ b
same_member-is a b same =
    let parts = and_parts _ _ same in
    let class : a.class ≡ b.class = same_class-is a.class b.class parts.0 in
    let name : a.name ≡ b.name = (bytes_eq-Decides a.name b.name).0 parts.1 in
    λ i. record { class = class i; name = name i }

same_key-is : (a b : Key) → same_key a b ≡ true → a ≡ b
same_key-is (has_module m) (has_module n) same = ap has_module (same_module-is m n same)
same_key-is (has_module m) (has_name r) same = absurd (false≢true same)
same_key-is (has_module m) (name r) same = absurd (false≢true same)
same_key-is (has_module m) (class d) same = absurd (false≢true same)
same_key-is (has_module m) (member b) same = absurd (false≢true same)
same_key-is (has_module m) (export r) same = absurd (false≢true same)
same_key-is (has_name q) (has_module n) same = absurd (false≢true same)
same_key-is (has_name q) (has_name r) same = ap has_name (same_name-is q r same)
same_key-is (has_name q) (name r) same = absurd (false≢true same)
same_key-is (has_name q) (class d) same = absurd (false≢true same)
same_key-is (has_name q) (member b) same = absurd (false≢true same)
same_key-is (has_name q) (export r) same = absurd (false≢true same)
same_key-is (name q) (has_module n) same = absurd (false≢true same)
same_key-is (name q) (has_name r) same = absurd (false≢true same)
same_key-is (name q) (name r) same = ap name (same_name-is q r same)
same_key-is (name q) (class d) same = absurd (false≢true same)
same_key-is (name q) (member b) same = absurd (false≢true same)
same_key-is (name q) (export r) same = absurd (false≢true same)
same_key-is (class c) (has_module n) same = absurd (false≢true same)
same_key-is (class c) (has_name r) same = absurd (false≢true same)
same_key-is (class c) (name r) same = absurd (false≢true same)
same_key-is (class c) (class d) same = ap class (same_class-is c d same)
same_key-is (class c) (member b) same = absurd (false≢true same)
same_key-is (class c) (export r) same = absurd (false≢true same)
same_key-is (member a) (has_module n) same = absurd (false≢true same)
same_key-is (member a) (has_name r) same = absurd (false≢true same)
same_key-is (member a) (name r) same = absurd (false≢true same)
same_key-is (member a) (class d) same = absurd (false≢true same)
same_key-is (member a) (member b) same = ap member (same_member-is a b same)
same_key-is (member a) (export r) same = absurd (false≢true same)
same_key-is (export q) (has_module n) same = absurd (false≢true same)
same_key-is (export q) (has_name r) same = absurd (false≢true same)
same_key-is (export q) (name r) same = absurd (false≢true same)
same_key-is (export q) (class d) same = absurd (false≢true same)
same_key-is (export q) (member b) same = absurd (false≢true same)
same_key-is (export q) (export r) same = ap export (same_name-is q r same)

-- ---- keys, each once

map_append : (xs ys : List Look) → map number_of (xs ++ ys) ≡ map number_of xs ++ map number_of ys
map_append [] ys = refl
map_append (x ∷ xs) ys = ap (λ l. number_of x ∷ l) (map_append xs ys)

module _ (f : Key → List Look) (test : ℕ → Bool) where
  -- whether a number passes that is noted for a key, or for some of these
  abbrev at_key : Key → Bool
  at_key key = list_any test (map number_of (f key))

  abbrev at_keys : List Key → Bool
  at_keys keys = list_any test (map number_of (flat_map f keys))

  at_keys-next : (x : Key) (xs : List Key) → at_keys (x ∷ xs) ≡ at_key x || at_keys xs
  at_keys-next x xs = ap (list_any test) (map_append (f x) (flat_map f xs)) ∙ list_any-append test (map number_of (f x)) (map number_of (flat_map f xs))

  at_keys-last : (xs : List Key) (key : Key) → at_keys (xs ++ (key ∷ [])) ≡ at_keys xs || at_key key
  at_keys-last [] key = at_keys-next key [] ∙ or_nothing (at_key key)
  at_keys-last (x ∷ xs) key =
      at_keys-next x (xs ++ (key ∷ [])) ∙ ap (λ b. at_key x || b) (at_keys-last xs key) ∙ sym (or_or (at_key x) (at_keys xs) (at_key key))
      ∙ ap (λ b. b || at_key key) (sym (at_keys-next x xs))

  -- a key that is among others
  at_keys-again_by : (x : Key) (xs : List Key) (key : Key) (b : Bool) → same_key x key ≡ b
      → (list_any (λ other. same_key other key) xs ≡ true → at_keys xs ≡ at_keys xs || at_key key) → b || list_any (λ other. same_key other key) xs ≡ true
      → at_key x || at_keys xs ≡ (at_key x || at_keys xs) || at_key key
  at_keys-again_by x xs key true same later among = or_again (at_key x) (at_keys xs) ∙ ap (λ k. (at_key x || at_keys xs) || at_key k) (same_key-is x key same)
  at_keys-again_by x xs key false other later among = ap (λ b. at_key x || b) (later among) ∙ sym (or_or (at_key x) (at_keys xs) (at_key key))

  at_keys-again : (xs : List Key) (key : Key) → list_any (λ other. same_key other key) xs ≡ true → at_keys xs ≡ at_keys xs || at_key key
  at_keys-again [] key among = absurd (false≢true among)
  at_keys-again (x ∷ xs) key among =
      at_keys-next x xs ∙ at_keys-again_by x xs key (same_key x key) refl (at_keys-again xs key) among ∙ ap (λ b. b || at_key key) (sym (at_keys-next x xs))

  at_with_key : (keys : List Key) (key : Key) (b : Bool) → list_any (λ other. same_key other key) keys ≡ b
      → at_keys (if b then keys else keys ++ (key ∷ [])) ≡ at_keys keys || at_key key
  at_with_key keys key true among = at_keys-again keys key among
  at_with_key keys key false absent = at_keys-last keys key

  at_with_keys : (keys more : List Key) → at_keys (with_keys keys more) ≡ at_keys keys || at_keys more
  at_with_keys keys [] = sym (or_nothing (at_keys keys))
  at_with_keys keys (key ∷ more) =
      at_with_keys (with_key keys key) more
      ∙ ap (λ b. b || at_keys more) (at_with_key keys key (list_any (λ other. same_key other key) keys) refl)
      ∙ or_or (at_keys keys) (at_key key) (at_keys more)
      ∙ ap (λ b. at_keys keys || b) (sym (at_keys-next key more))

-- to note what is looked at for some keys, each once, is to note it for all
pub each_once : (f : Key → List Look) (noted : Noted) (keys : List Key) → with_looks noted (flat_map f (with_keys [] keys)) ≡ with_looks noted (flat_map f keys)
unfolding with_looks
each_once f noted keys = λ i test. noted test || at_with_keys f test [] keys i

-- what is noted for the keys that a reading asked
pub looks_read : {A : Type 0} (f : Key → List Look) (r : Step A) (trace after : Trace) (answers : Key → Answer) (a : A) (keys : List Key) (old new : Noted) → trace ≡ new_trace answers
    → run r trace ≡ (a, after) → keys ≡ after.keys → new ≡ with_looks old (flat_map f keys) → new ≡ with_looks old (flat_map f (asked answers r))
looks_read f r trace after answers a keys old new start done listed is =
    is ∙ ap (λ l. with_looks old (flat_map f l)) (listed ∙ keys_read r trace after answers a start done) ∙ each_once f old (asked answers r)

-- ---- a loop that notes

-- what is noted at one of a list, and later at those that are left of it
pub noted_turn : {X : Type 0} (f : List X → List Look) (first later : List Look) (xs : List X) (i : ℕ) (x : X) (before after : Noted) → i < length xs → x ≡ get_or xs i x
    → f (x ∷ drop (i + 1) xs) ≡ first ++ later → after ≡ with_looks before first → with_looks after later ≡ with_looks before (f (drop i xs))
noted_turn f first later xs i x before after within is opens noted =
    let left : drop i xs ≡ x ∷ drop (i + 1) xs = rw add-one (drop-cons xs i x within ∙ ap (λ y. y ∷ drop (suc i) xs) (sym is)) in
    ap (λ n. with_looks n later) noted ∙ with_both before first later ∙ sym (ap (with_looks before) (ap f left ∙ opens))

-- nothing is left
pub noted_all : {X : Type 0} (f : List X → List Look) (xs : List X) (i : ℕ) (noted : Noted) → length xs ≤ i → f [] ≡ [] → noted ≡ with_looks noted (f (drop i xs))
noted_all f xs i noted past none = sym (with_none noted) ∙ sym (ap (with_looks noted) (ap f (drop_all i xs past) ∙ none))
