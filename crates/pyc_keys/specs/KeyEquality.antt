-- Being one key is an equivalence.
use Rattle.std.specs.Prelude.{ℕ, List, Bool, true, false, ◌≡◌, ◌&&◌, bytes_eq, refl}
use Rattle.std.specs.Bool.{Decides}
use Rattle.std.specs.Cmp.{IsEquivalence}
use Rattle.std.proofs.Common.{ap, ap₂, sym, ◌∙◌}
use Rattle.std.proofs.lemmas.Bool.{and_parts, false≢true}
use Rattle.std.proofs.lemmas.Bool.Decides.{same_from_decides}
use Rattle.std.proofs.lemmas.Slice.Eq.{bytes_eq-Decides, slice_eq-Decides}
use Rattle.pyc_class_ids.specs.Class.{Id, same_class}
use Rattle.pyc_class_ids.specs.ClassEquality.{same_class_equiv}
use Rattle.pyc_class_table.proofs.BuiltinLemmas.{same_class-is}
use Rattle.pyc_names.specs.Following.{QualifiedName, same_name}
use Rattle.pyc_names.specs.ModuleName.{same_module}
use Rattle.pyc_reading.specs.Keys.{Key, MemberName, same_key, same_member, has_module, has_name, name, class, member}
use Rattle.pyc_reading.specs.Keys.{export}

-- whether two keys are one, as a map of keys asks it: of the one that it holds, with the one that is sought
abbrev pub is_asked : Key → Key → Bool
is_asked sought held = same_key held sought

module_decides : (m n : List (List ℕ)) → Decides (same_module m n) (m ≡ n)
module_decides m n = slice_eq-Decides bytes_eq-Decides m n (same_module m n) refl

names_are : (q r : QualifiedName) → same_name q r ≡ true → q ≡ r
names_are q r same =
    let parts = and_parts (same_module q.module_path r.module_path) (bytes_eq q.name r.name) same in
    let module_path : q.module_path ≡ r.module_path = (module_decides q.module_path r.module_path).0 parts.0 in
    let own : q.name ≡ r.name = (bytes_eq-Decides q.name r.name).0 parts.1 in
    ap₂ (λ (m : List (List ℕ)) (x : List ℕ). record { module_path = m; name = x }) module_path own

members_are : (a b : MemberName) → same_member a b ≡ true → a ≡ b
members_are a b same =
    let parts = and_parts (same_class a.class b.class) (bytes_eq a.name b.name) same in
    let module_path : a.class ≡ b.class = same_class-is a.class b.class parts.0 in
    let own : a.name ≡ b.name = (bytes_eq-Decides a.name b.name).0 parts.1 in
    ap₂ (λ (c : Id) (x : List ℕ). record { class = c; name = x }) module_path own

-- two keys that are one are the same
pub keys_are : (a b : Key) → same_key a b ≡ true → a ≡ b
keys_are (has_module m) (has_module n) same = ap has_module ((module_decides m n).0 same)
keys_are (has_module m) (has_name r) same = absurd (false≢true same)
keys_are (has_module m) (name r) same = absurd (false≢true same)
keys_are (has_module m) (class d) same = absurd (false≢true same)
keys_are (has_module m) (member b) same = absurd (false≢true same)
keys_are (has_module m) (export r) same = absurd (false≢true same)
keys_are (has_name q) (has_module n) same = absurd (false≢true same)
keys_are (has_name q) (has_name r) same = ap has_name (names_are q r same)
keys_are (has_name q) (name r) same = absurd (false≢true same)
keys_are (has_name q) (class d) same = absurd (false≢true same)
keys_are (has_name q) (member b) same = absurd (false≢true same)
keys_are (has_name q) (export r) same = absurd (false≢true same)
keys_are (name q) (has_module n) same = absurd (false≢true same)
keys_are (name q) (has_name r) same = absurd (false≢true same)
keys_are (name q) (name r) same = ap name (names_are q r same)
keys_are (name q) (class d) same = absurd (false≢true same)
keys_are (name q) (member b) same = absurd (false≢true same)
keys_are (name q) (export r) same = absurd (false≢true same)
keys_are (class c) (has_module n) same = absurd (false≢true same)
keys_are (class c) (has_name r) same = absurd (false≢true same)
keys_are (class c) (name r) same = absurd (false≢true same)
keys_are (class c) (class d) same = ap class (same_class-is c d same)
keys_are (class c) (member b) same = absurd (false≢true same)
keys_are (class c) (export r) same = absurd (false≢true same)
keys_are (member a) (has_module n) same = absurd (false≢true same)
keys_are (member a) (has_name r) same = absurd (false≢true same)
keys_are (member a) (name r) same = absurd (false≢true same)
keys_are (member a) (class d) same = absurd (false≢true same)
keys_are (member a) (member b) same = ap member (members_are a b same)
keys_are (member a) (export r) same = absurd (false≢true same)
keys_are (export q) (has_module n) same = absurd (false≢true same)
keys_are (export q) (has_name r) same = absurd (false≢true same)
keys_are (export q) (name r) same = absurd (false≢true same)
keys_are (export q) (class d) same = absurd (false≢true same)
keys_are (export q) (member b) same = absurd (false≢true same)
keys_are (export q) (export r) same = ap export (names_are q r same)

both : (p q : Bool) → p ≡ true → q ≡ true → p && q ≡ true
both true true h k = refl
both true false h k = absurd (false≢true k)
both false q h k = absurd (false≢true h)

same_itself : (a : Key) → same_key a a ≡ true
same_itself (has_module m) = (module_decides m m).1 refl
same_itself (has_name q) =
    both (same_module q.module_path q.module_path) (bytes_eq q.name q.name)
    ((module_decides q.module_path q.module_path).1 refl)
    ((bytes_eq-Decides q.name q.name).1 refl)
same_itself (name q) =
    both (same_module q.module_path q.module_path) (bytes_eq q.name q.name)
    ((module_decides q.module_path q.module_path).1 refl)
    ((bytes_eq-Decides q.name q.name).1 refl)
same_itself (class c) = same_class_equiv.refl c
same_itself (member a) =
    both (same_class a.class a.class) (bytes_eq a.name a.name) (same_class_equiv.refl a.class)
    ((bytes_eq-Decides a.name a.name).1 refl)
same_itself (export q) =
    both (same_module q.module_path q.module_path) (bytes_eq q.name q.name)
    ((module_decides q.module_path q.module_path).1 refl)
    ((bytes_eq-Decides q.name q.name).1 refl)

itself_where : (a b : Key) → a ≡ b → same_key a b ≡ true
itself_where a b is = ap (λ x. same_key x b) is ∙ same_itself b

same_symm : (a b : Key) → same_key b a ≡ same_key a b
same_symm a b =
    same_from_decides (same_key b a) (same_key a b)
    ((λ same. sym (keys_are b a same)), (λ is. itself_where b a (sym is)))
    (keys_are a b, itself_where a b)

-- being the key that is sought is an equivalence
pub is_asked_equiv : IsEquivalence is_asked
is_asked_equiv =
    record {
      refl = same_itself;
      symm = λ a b. same_symm a b;
      congr = λ a b c same. ap (λ x. same_key c x) (sym (keys_are b a same));
    }
