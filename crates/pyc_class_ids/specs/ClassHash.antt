-- What a class feeds a hasher: one class feeds the same each time.
use Rattle.std.specs.Prelude.{IsTrue, ◌≡◌, ◌++◌, bytes_eq}
use Rattle.std.proofs.Common.{ap, ap₂}
use Rattle.std.specs.Cmp.Lexicographic.{pointwise}
use Rattle.std.specs.Hash as fed
use Rattle.std.specs.Hash.{Alike, items_Alike, same_Alike}
use Rattle.std.proofs.lemmas.Bool.{and_parts, eqb-true, false≢true}
use Rattle.std.proofs.lemmas.Slice.Eq.{bytes_eq-Decides}
use Rattle.pyc_class_ids.specs.BuiltinClasses.{number_of}
use Rattle.pyc_class_ids.specs.Class.{Id, builtin, user, same_class}

-- the number of a builtin class; of another the parts of its module's name, and its own name
abbrev pub hash_input : Id → fed.HashWrites
hash_input (builtin class) = fed.u8 (number_of class)
hash_input (user m n) = fed.slice fed.str m ++ fed.str n

-- equal parts and equal names feed alike
abbrev parts_alike : Alike (pointwise bytes_eq) (fed.slice fed.str)
parts_alike = items_Alike (same_Alike fed.str bytes_eq-Decides)

-- one class feeds the same each time
pub same_class_fed : (a b : Id) → IsTrue (same_class a b) → hash_input a ≡ hash_input b
same_class_fed (builtin a) (builtin b) same = ap fed.u8 (eqb-true (number_of a) (number_of b) same)
same_class_fed (builtin a) (user m n) same = absurd (false≢true same)
same_class_fed (user m n) (builtin b) same = absurd (false≢true same)
same_class_fed (user m n) (user m' n') same =
    let parts = and_parts (pointwise bytes_eq m m') (bytes_eq n n') same in
    let module_path : fed.slice fed.str m ≡ fed.slice fed.str m' = parts_alike.fed m m' parts.0 in
    let name : fed.str n ≡ fed.str n' = ap fed.str ((bytes_eq-Decides n n').0 parts.1) in
    ap₂ (λ (us vs : fed.HashWrites). us ++ vs) module_path name
