-- The orders of the builtin classes follow their bases.
use Rattle.std.proofs.Common.{refl}
use Rattle.pyc_class_ids.specs.declared.builtin_class.BuiltinClass.TheVariants as class
use Rattle.pyc_builtins.specs.MroTable.{FollowTheBases}

-- each order begins with its class and goes on with the order of its base
pub follow_the_bases : FollowTheBases
follow_the_bases class.Object = refl
follow_the_bases class.Int = refl
follow_the_bases class.Float = refl
follow_the_bases class.Str = refl
follow_the_bases class.Bytes = refl
follow_the_bases class.List = refl
follow_the_bases class.Dict = refl
follow_the_bases class.Tuple = refl
follow_the_bases class.BaseException = refl
follow_the_bases class.Bool = refl
follow_the_bases class.Exception = refl
follow_the_bases class.LookupError = refl
follow_the_bases class.ArithmeticError = refl
follow_the_bases class.ValueError = refl
follow_the_bases class.TypeError = refl
follow_the_bases class.RuntimeError = refl
follow_the_bases class.AssertionError = refl
follow_the_bases class.KeyError = refl
follow_the_bases class.IndexError = refl
follow_the_bases class.ZeroDivisionError = refl
follow_the_bases class.OverflowError = refl
follow_the_bases class.NotImplementedError = refl
follow_the_bases class.RecursionError = refl
