-- What is wrong with a line that has no tree: a form of Python that the profile leaves out, or no form of it.
use Rattle.std.specs.Prelude.{ℕ, Bool, true, false, ◌&&◌, ◌||◌, if◌then◌else◌, List, [], ◌∷◌}
use Rattle.std.specs.List.{list_any}
use Rattle.pyc_token.specs.declared.tokens.Arithmetic.TheVariants as op
use Rattle.pyc_token.specs.declared.tokens.Delimiter.TheVariants as delimiter
use Rattle.pyc_token.specs.declared.tokens.Keyword.TheVariants as word
use Rattle.pyc_token.specs.declared.tokens.Kind.{Kind}
use Rattle.pyc_token.specs.declared.tokens.Kind.TheVariants as kind
use Rattle.pyc_token.specs.declared.tokens.Token.{Token}
use Rattle.pyc_token.specs.declared.tokens.Word.{Word}
use Rattle.pyc_token.specs.declared.tokens.Word.TheVariants as soft
use Rattle.pyc_line.specs.declared.fault.What.{What}
use Rattle.pyc_line.specs.declared.fault.What.TheVariants as what
use Rattle.pyc_tree.specs.Kinds.{same_kind}

-- whether a line begins with a token of this kind
abbrev pub begins_with : Kind → List Token → Bool
begins_with k [] = false
begins_with k (t ∷ ts) = same_kind t.kind k

-- whether a line has a token of this kind
abbrev pub has : Kind → List Token → Bool
has k ts = list_any (λ t. same_kind t.kind k) ts

-- whether a line ends with `import *`
abbrev pub ends_with_star_import : List Token → Bool
ends_with_star_import [] = false
ends_with_star_import (t ∷ []) = false
ends_with_star_import (a ∷ b ∷ []) =
    same_kind a.kind (kind.Keyword word.Import) && same_kind b.kind (kind.Arithmetic op.Star)
ends_with_star_import (a ∷ b ∷ c ∷ ts) = ends_with_star_import (b ∷ c ∷ ts)

-- whether a line begins with `def` or `async def`
abbrev pub begins_function : List Token → Bool
begins_function (a ∷ b ∷ ts) =
    same_kind a.kind (kind.Keyword word.Def)
    || (same_kind a.kind (kind.Keyword word.Async) && same_kind b.kind (kind.Keyword word.Def))
begins_function ts = begins_with (kind.Keyword word.Def) ts

-- whether a word is a keyword in some places ("Soft Keywords")
abbrev pub is_soft : Word → Bool
is_soft soft.Other = false
is_soft _ = true

-- whether a token is the name `match`, `case` or `type`
abbrev pub is_soft_keyword : Kind → Bool
is_soft_keyword (kind.Name w) = is_soft w
is_soft_keyword _ = false

abbrev pub begins_soft : List Token → Bool
begins_soft [] = false
begins_soft (t ∷ ts) = is_soft_keyword t.kind

-- whether a line without a tree is a form of Python that the profile leaves out: an assignment expression, a star
-- import, parameters by position alone, a `match` statement or a `type` statement
unfoldable pub is_outside_profile : List Token → Bool
is_outside_profile ts =
    has (kind.Delimiter delimiter.ColonEqual) ts
    || (begins_with (kind.Keyword word.From) ts && ends_with_star_import ts)
    || (begins_function ts && has (kind.Arithmetic op.Slash) ts)
    || begins_soft ts

-- what is wrong with a line that has no tree
abbrev pub fault_of : List Token → What
fault_of ts = if is_outside_profile ts then what.OutsideProfile else what.Line

-- the physical line of a line's first token
abbrev pub number_of : List Token → ℕ
number_of [] = 0
number_of (t ∷ ts) = t.line
