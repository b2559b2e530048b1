-- What the rules of the grammar are made of: a parser takes tokens from the front of a list, or refuses it.
use Rattle.std.specs.Prelude.{ℕ, Bool, true, false, nat_le, if◌then◌else◌, List, [], ◌∷◌, Option, None, Some}
use Rattle.pyc_token.specs.declared.tokens.Kind.{Kind}
use Rattle.pyc_token.specs.declared.tokens.Token.{Token}
use Rattle.pyc_tree.specs.Tree.{Tree}
use Rattle.pyc_tree.specs.Kinds.{kind_of, same_kind, is_name}
use Rattle.pyc_tree.specs.Height.{height, max_height}

-- what is read with the tokens after it, or none
abbrev pub Parsed : Type 0 → Type 0
Parsed A = Option (A × List Token)

abbrev pub Parser : Type 0 → Type 0
Parser A = List Token → Parsed A

abbrev pub and_then : {A B : Type 0} → Parsed A → (A → Parser B) → Parsed B
and_then (Some p) f = f p.0 p.1
and_then None f = None

infixl 10 ◌>>=◌
abbrev pub ◌>>=◌ : {A B : Type 0} → Parser A → (A → Parser B) → Parser B
p >>= f = λ ts. and_then (p ts) f

-- nothing is taken
abbrev pub pure : {A : Type 0} → A → Parser A
pure a = λ ts. Some (a, ts)

-- the tokens are refused
abbrev pub fail : {A : Type 0} → Parser A
fail = λ ts. None

-- the kind of the next token, which stays
abbrev pub peek : Parser Kind
peek = λ ts. Some (kind_of ts, ts)

-- the next token
unfoldable pub take_one : Parser Token
take_one [] = None
take_one (t ∷ ts) = Some (t, ts)

-- the next token, of this kind
unfoldable pub expect : Kind → Parser Token
expect k = λ ts. if same_kind (kind_of ts) k then take_one ts else None

-- the next token, a name
unfoldable pub expect_name : Parser Token
expect_name = λ ts. if is_name (kind_of ts) then take_one ts else None

-- a tree, unless it is higher than the profile allows
unfoldable pub made : Tree → Parser Tree
made t = λ ts. if nat_le (height t) max_height then Some (t, ts) else None
