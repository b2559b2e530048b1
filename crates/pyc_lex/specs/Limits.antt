-- The order of tokens, and the limits of a line.
use Rattle.std.specs.Prelude.{ℕ, ◌+◌, ◌-◌, ◌≤◌, List, [], ◌∷◌}
use Rattle.pyc_token.specs.declared.tokens.Kind.{Kind}
use Rattle.pyc_token.specs.declared.tokens.Kind.TheVariants as kind
use Rattle.pyc_token.specs.declared.tokens.Token.{Token}
use Rattle.pyc_lex.specs.Indents.{max_depth}
use Rattle.pyc_lex.specs.Lines.{Line}

-- a token that ends before another begins, or where it begins
abbrev pub IsBefore : Token → Token → Type 0
IsBefore a b = a.span.end ≤ b.span.start

-- how many brackets are open after a token, where so many are open before it
abbrev pub depth_past : ℕ → Kind → ℕ
depth_past depth (kind.Open sort) = depth + 1
depth_past depth (kind.Close sort) = depth - 1
depth_past depth _ = depth

-- how many brackets are open after some tokens
abbrev pub depth_after : ℕ → List Token → ℕ
depth_after depth [] = depth
depth_after depth (token ∷ tokens) = depth_after (depth_past depth token.kind) tokens

-- after no token are more brackets open than the limit
abbrev pub NestsWithin : ℕ → List Token → Type 0
NestsWithin depth [] = Unit {0}
NestsWithin depth (token ∷ tokens) =
    (depth_past depth token.kind ≤ max_depth) × NestsWithin (depth_past depth token.kind) tokens

-- a line has no more indents and no more open brackets than the limit
pub record IsWithinLimits (line : Line) : Type 0 where
  pub indent : line.indent ≤ max_depth
  pub brackets : NestsWithin 0 line.tokens
