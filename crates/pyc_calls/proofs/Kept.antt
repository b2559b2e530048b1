-- Arguments that are to be read, and Any.
use Rattle.std.proofs.Common.{◌≡◌, List, [], ◌∷◌, map, refl, ap, rules}
use Rattle.pyc_arguments.specs.Arguments.{Reads, unread}
use Rattle.pyc_arguments.specs.Views.{unread_in}
use Rattle.pyc_ast.specs.declared.expr.Argument.{Argument}
use Rattle.pyc_ast.specs.ExprView.{argument_of}
use Rattle.pyc_type_forms.specs.declared.types.Params.TheFolds.{the_lemmas}
use Rattle.pyc_type_forms.specs.declared.types.Ty.TheVariants as t
use Rattle.pyc_type_forms.specs.Types.{any}
use Rattle.pyc_type_forms.specs.TypeView.{ty_of}

pub any_in : any ≡ ty_of t.Any
any_in = search (rules, the_lemmas)

-- arguments that are to be read, by the plain ones
pub unread_rows : (read : Reads) (xs : List Argument) → map (unread read) (map argument_of xs) ≡ unread_in read xs
unread_rows read [] = refl
unread_rows read (x ∷ xs) = ap (λ args. unread read (argument_of x) ∷ args) (unread_rows read xs)
