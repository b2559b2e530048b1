-- Builtin classes are told apart by their numbers.
use Rattle.std.proofs.Common.{◌≡◌, ℕ, List, [], ◌∷◌, get_or, IsTrue, refl, sym, ap, ◌∙◌}
use Rattle.std.proofs.lemmas.Bool.{false≢true, eqb-true}
use Rattle.pyc_class_ids.specs.declared.builtin_class.BuiltinClass.{BuiltinClass}
use Rattle.pyc_class_ids.specs.declared.builtin_class.BuiltinClass.TheVariants as class
use Rattle.pyc_class_ids.specs.BuiltinClasses.{number_of}
use Rattle.pyc_class_ids.specs.Class.{Id, builtin, user, same_class}

-- the builtin classes in the order of their numbers
abbrev all_builtins : List BuiltinClass
all_builtins =
    class.Object ∷
    class.Int ∷
    class.Float ∷
    class.Str ∷
    class.Bytes ∷
    class.List ∷
    class.Dict ∷
    class.Tuple ∷
    class.BaseException ∷
    class.Bool ∷
    class.Exception ∷
    class.LookupError ∷
    class.ArithmeticError ∷
    class.ValueError ∷
    class.TypeError ∷
    class.RuntimeError ∷
    class.AssertionError ∷
    class.KeyError ∷
    class.IndexError ∷
    class.ZeroDivisionError ∷
    class.OverflowError ∷
    class.NotImplementedError ∷
    class.RecursionError ∷ []

abbrev numbered : ℕ → BuiltinClass
numbered n = get_or all_builtins n class.Object

numbered_alone : (b : BuiltinClass) → numbered (number_of b) ≡ b
numbered_alone class.Object = refl
numbered_alone class.Int = refl
numbered_alone class.Float = refl
numbered_alone class.Str = refl
numbered_alone class.Bytes = refl
numbered_alone class.List = refl
numbered_alone class.Dict = refl
numbered_alone class.Tuple = refl
numbered_alone class.BaseException = refl
numbered_alone class.Bool = refl
numbered_alone class.Exception = refl
numbered_alone class.LookupError = refl
numbered_alone class.ArithmeticError = refl
numbered_alone class.ValueError = refl
numbered_alone class.TypeError = refl
numbered_alone class.RuntimeError = refl
numbered_alone class.AssertionError = refl
numbered_alone class.KeyError = refl
numbered_alone class.IndexError = refl
numbered_alone class.ZeroDivisionError = refl
numbered_alone class.OverflowError = refl
numbered_alone class.NotImplementedError = refl
numbered_alone class.RecursionError = refl

-- what is the same class as a builtin one is that one
pub is_builtin : (d : Id) (b : BuiltinClass) → IsTrue (same_class d (builtin b)) → d ≡ builtin b
is_builtin (builtin a) b same = ap builtin (sym (numbered_alone a) ∙ (ap numbered (eqb-true (number_of a) (number_of b) same) ∙ numbered_alone b))
is_builtin (user m n) b same = absurd (false≢true same)
