-- What the tables of kinds and precedences say to the proofs of the grammar.
use Rattle.std.proofs.Common.{◌≡◌, refl, ap, sym, ℕ, ◌+◌, ◌≤◌, ◌<◌, ◌⊎◌, inl, inr, true, false, arith}
use denote.Enum.Bare.{same_true}
use Rattle.pyc_token.specs.declared.tokens.Arithmetic.{Arithmetic}
use Rattle.pyc_token.specs.declared.tokens.Arithmetic.TheVariants as op
use Rattle.pyc_token.specs.declared.tokens.Bracket.TheVariants as bracket
use Rattle.pyc_token.specs.declared.tokens.Delimiter.TheVariants as delimiter
use Rattle.pyc_token.specs.declared.tokens.Keyword.TheVariants as word
use Rattle.pyc_token.specs.declared.tokens.Kind.{Kind}
use Rattle.pyc_token.specs.declared.tokens.Kind.TheVariants as kind
use Rattle.pyc_token.specs.contracts.tokens.Word.{the_type as word_type}
use Rattle.pyc_token.specs.contracts.tokens.Keyword.{the_type as keyword_type}
use Rattle.pyc_token.specs.contracts.tokens.Number.{the_type as number_type}
use Rattle.pyc_token.specs.contracts.tokens.Prefix.{the_type as prefix_type}
use Rattle.pyc_token.specs.contracts.tokens.Arithmetic.{the_type as arithmetic_type}
use Rattle.pyc_token.specs.contracts.tokens.Comparison.{the_type as comparison_type}
use Rattle.pyc_token.specs.contracts.tokens.Bracket.{the_type as bracket_type}
use Rattle.pyc_token.specs.contracts.tokens.Delimiter.{the_type as delimiter_type}
use Rattle.pyc_tree.specs.Kinds.{same_kind, is_comparison}
use Rattle.pyc_tree.specs.ListContexts.{is_star, is_double_star, is_colon}
use Rattle.pyc_tree.specs.Precedence.{infix_precedence, left_precedence, right_precedence}

-- ---- kinds

pub never : {G : Type 0} → false ≡ true → G
never e = absurd (cc)

pub same_kind_is : (a b : Kind) → same_kind a b ≡ true → a ≡ b
unfolding same_kind
same_kind_is (kind.Name a) (kind.Name b) e = ap kind.Name (same_true word_type tt a b e)
same_kind_is (kind.Keyword a) (kind.Keyword b) e = ap kind.Keyword (same_true keyword_type tt a b e)
same_kind_is (kind.Number a) (kind.Number b) e = ap kind.Number (same_true number_type tt a b e)
same_kind_is (kind.String a) (kind.String b) e = ap kind.String (same_true prefix_type tt a b e)
same_kind_is (kind.Arithmetic a) (kind.Arithmetic b) e = ap kind.Arithmetic (same_true arithmetic_type tt a b e)
same_kind_is (kind.Augmented a) (kind.Augmented b) e = ap kind.Augmented (same_true arithmetic_type tt a b e)
same_kind_is (kind.Comparison a) (kind.Comparison b) e = ap kind.Comparison (same_true comparison_type tt a b e)
same_kind_is (kind.Open a) (kind.Open b) e = ap kind.Open (same_true bracket_type tt a b e)
same_kind_is (kind.Close a) (kind.Close b) e = ap kind.Close (same_true bracket_type tt a b e)
same_kind_is (kind.Delimiter a) (kind.Delimiter b) e = ap kind.Delimiter (same_true delimiter_type tt a b e)
same_kind_is _ _ e = never e

pub is_star_is : (k : Kind) → is_star k ≡ true → k ≡ kind.Arithmetic op.Star
is_star_is (kind.Arithmetic op.Star) e = refl
is_star_is _ e = never e

pub is_double_star_is : (k : Kind) → is_double_star k ≡ true → k ≡ kind.Arithmetic op.DoubleStar
is_double_star_is (kind.Arithmetic op.DoubleStar) e = refl
is_double_star_is _ e = never e

pub is_colon_is : (k : Kind) → is_colon k ≡ true → k ≡ kind.Delimiter delimiter.Colon
is_colon_is (kind.Delimiter delimiter.Colon) e = refl
is_colon_is _ e = never e

-- ---- precedences

-- only a conditional, a comparison and `**` ask for more on their left than they make
pub left_near : (k : Kind) → (left_precedence k ≡ infix_precedence k) ⊎ ((left_precedence k ≡ infix_precedence k + 1) × ((infix_precedence k ≡ 1) ⊎ ((infix_precedence k ≡ 5) ⊎ (infix_precedence k ≡ 13))))
left_near (kind.Keyword word.If) = inr (refl, inl refl)
left_near (kind.Keyword word.In) = inr (refl, inr (inl refl))
left_near (kind.Keyword word.Is) = inr (refl, inr (inl refl))
left_near (kind.Keyword word.Not) = inr (refl, inr (inl refl))
left_near (kind.Comparison _) = inr (refl, inr (inl refl))
left_near (kind.Arithmetic op.DoubleStar) = inr (refl, inr (inr refl))
left_near _ = inl refl

pub left_below : (k : Kind) (n : ℕ) → infix_precedence k < n → left_precedence k ≤ n
left_below k n below = omega (arith, left_near k)

pub left_awaited : (k : Kind) → infix_precedence k < 15 → left_precedence k ≤ 14
left_awaited k below = omega (arith, left_near k)

pub left_low : (k : Kind) → left_precedence k ≤ 15
left_low (kind.Keyword word.If) = omega arith
left_low (kind.Arithmetic op.Bar) = omega arith
left_low (kind.Open bracket.Round) = omega arith
left_low (kind.Delimiter delimiter.Dot) = omega arith
left_low _ = omega arith

-- a token that compares stands at the precedence of comparisons
pub infix_precedence_comparison : (k : Kind) → is_comparison k ≡ true → infix_precedence k ≡ 5
infix_precedence_comparison (kind.Comparison _) is = refl
infix_precedence_comparison (kind.Keyword word.In) is = refl
infix_precedence_comparison (kind.Keyword word.Is) is = refl
infix_precedence_comparison (kind.Keyword word.Not) is = refl
infix_precedence_comparison _ is = never is

-- what an operator between two operands asks for on its right
pub right_near : (k : Kind) → 1 ≤ right_precedence k → (right_precedence k ≤ infix_precedence k + 1) × (right_precedence k ≤ 12) × (2 ≤ infix_precedence k) × (infix_precedence k ≡ 5 → ⊥)
right_near (kind.Keyword word.Or) some = omega arith
right_near (kind.Keyword word.And) some = omega arith
right_near (kind.Arithmetic op.Bar) some = omega arith
right_near (kind.Arithmetic _) some = omega arith
right_near _ some = absurd (omega arith)

pub right_arithmetic : (o : Arithmetic) → 1 ≤ right_precedence (kind.Arithmetic o)
right_arithmetic op.Bar = omega arith
right_arithmetic _ = omega arith

pub left_after : (sign k : Kind) → 1 ≤ right_precedence sign → infix_precedence k < right_precedence sign → left_precedence k ≤ infix_precedence sign
left_after sign k some below = omega (arith, left_near k, right_near sign some)

pub left_compared : (k : Kind) → is_comparison k ≡ false → infix_precedence k < 6 → left_precedence k ≤ 5
left_compared (kind.Keyword word.If) other below = omega arith
left_compared (kind.Keyword word.Or) other below = omega arith
left_compared (kind.Keyword word.And) other below = omega arith
left_compared (kind.Keyword word.In) other below = never (sym other)
left_compared (kind.Keyword word.Is) other below = never (sym other)
left_compared (kind.Keyword word.Not) other below = never (sym other)
left_compared (kind.Comparison _) other below = never (sym other)
left_compared (kind.Arithmetic op.Bar) other below = absurd (omega arith)
left_compared _ other below = omega arith
