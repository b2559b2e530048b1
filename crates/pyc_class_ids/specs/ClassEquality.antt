-- Being one class is an equivalence.
use Rattle.std.specs.Prelude.{ℕ, List, Bool, true, ◌≡◌, ◌&&◌, bytes_eq, refl}
use Rattle.std.specs.Cmp.{IsEquivalence, and_equiv, on_equiv, nat_eq_equiv}
use Rattle.std.proofs.lemmas.Bool.{false≢true}
use Rattle.std.specs.Cmp.Lexicographic.{pointwise, lists_equiv, nat_list_eq_equiv}
use Rattle.pyc_class_ids.specs.BuiltinClasses.{number_of}
use Rattle.pyc_class_ids.specs.Class.{Id, builtin, user, same_class}

-- the parts of a module's name, and a name in it
record ClassPath : Type 0 where
  parts : List (List ℕ)
  name : List ℕ

abbrev place : List (List ℕ) → List ℕ → ClassPath
place m n = record { parts = m; name = n }

-- whether two places are one
abbrev is_same_place : ClassPath → ClassPath → Bool
is_same_place a b = pointwise bytes_eq a.parts b.parts && bytes_eq a.name b.name

same_place : IsEquivalence is_same_place
same_place =
    and_equiv (on_equiv (λ (a : ClassPath). a.parts) (lists_equiv nat_list_eq_equiv))
    (on_equiv (λ (a : ClassPath). a.name) nat_list_eq_equiv)

same_refl : (a : Id) → same_class a a ≡ true
same_refl (builtin a) = nat_eq_equiv.refl (number_of a)
same_refl (user m n) = same_place.refl (place m n)

same_symm : (a b : Id) → same_class a b ≡ same_class b a
same_symm (builtin a) (builtin b) = nat_eq_equiv.symm (number_of a) (number_of b)
same_symm (builtin a) (user m n) = refl
same_symm (user m n) (builtin b) = refl
same_symm (user m n) (user m' n') = same_place.symm (place m n) (place m' n')

same_congr : (a b c : Id) → same_class a b ≡ true → same_class a c ≡ same_class b c
same_congr (builtin a) (builtin b) (builtin c) same = nat_eq_equiv.congr (number_of a) (number_of b) (number_of c) same
same_congr (builtin a) (builtin b) (user m n) same = refl
same_congr (builtin a) (user m n) c same = absurd (false≢true same)
same_congr (user m n) (builtin b) c same = absurd (false≢true same)
same_congr (user m n) (user m' n') (builtin c) same = refl
same_congr (user m n) (user m' n') (user m'' n'') same = same_place.congr (place m n) (place m' n') (place m'' n'') same

-- being one class is an equivalence
pub same_class_equiv : IsEquivalence same_class
same_class_equiv = record { refl = same_refl; symm = same_symm; congr = same_congr }
