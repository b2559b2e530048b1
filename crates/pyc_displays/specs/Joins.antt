-- The types of `and`, `or` and conditional expressions, by those of their parts: a part that is never read has none
-- (Python reference 3.13, "Boolean operations" and "Conditional expressions").
use Rattle.std.specs.Prelude.{List, [], ◌∷◌, ◌++◌, Option, None, Some}
use Rattle.pyc_type_forms.specs.Narrowing.{without_none}
use Rattle.pyc_type_forms.specs.Types.{Ty, any}
use Rattle.pyc_type_forms.specs.Unions.{union_of}

-- a type, or none, as a list
abbrev pub if_some : Option Ty → List Ty
if_some None = []
if_some (Some ty) = ty ∷ []

-- the union of the types that there are: Any where there are none
abbrev pub union_or_any : List Ty → Ty
union_or_any [] = any
union_or_any (ty ∷ tys) = union_of (ty ∷ tys)

-- `left and right`
abbrev pub and_type : Ty → Option Ty → Ty
and_type left None = left
and_type left (Some right) = union_of (left ∷ right ∷ [])

-- `left or right`: where left is only None it is right
abbrev pub or_type : Ty → Option Ty → Ty
or_type left None = left
or_type left (Some right) = union_of (if_some (without_none left) ++ (right ∷ []))

-- `body if test else orelse`
abbrev pub conditional_type : (body orelse : Option Ty) → Ty
conditional_type body orelse = union_or_any (if_some body ++ if_some orelse)
