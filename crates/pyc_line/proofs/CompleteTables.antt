-- What the tables say of the tokens that stand before, between and behind the items of a list.
use Rattle.std.proofs.Common.{◌≡◌, refl, ap, ◌+◌, ◌≤◌, ◌<◌, ◌⊎◌, inl, inr, Bool, true, false, ◌||◌, arith}
use Rattle.pyc_token.specs.declared.tokens.Arithmetic.TheVariants as op
use Rattle.pyc_token.specs.declared.tokens.Bracket.TheVariants as bracket
use Rattle.pyc_token.specs.declared.tokens.Delimiter.TheVariants as delimiter
use Rattle.pyc_token.specs.declared.tokens.Keyword.TheVariants as word
use Rattle.pyc_token.specs.declared.tokens.Kind.{Kind}
use Rattle.pyc_token.specs.declared.tokens.Kind.TheVariants as kind
use Rattle.pyc_tree.specs.declared.list_context.ListContext.{ListContext}
use Rattle.pyc_tree.specs.declared.list_context.ListContext.TheVariants as list_context
use Rattle.pyc_tree.specs.Tree.{Tree}
use Rattle.pyc_tree.specs.Tree as tree
use Rattle.pyc_tree.specs.Kinds.{same_kind, is_name, is_number, is_string, is_constant, is_comparison, begins_expression, begins_comprehension}
use Rattle.pyc_tree.specs.ListContexts.{is_star, is_double_star, is_colon, begins, next_context}
use Rattle.pyc_tree.specs.Precedence.{infix_precedence, left_precedence, right_precedence, prefix_precedence}
use Rattle.pyc_line.proofs.SoundTables.{never, left_near, is_star_is, is_double_star_is, is_colon_is}
use Rattle.pyc_line.proofs.CompleteTools.{apart_by, apart}

-- ---- what begins an expression

-- whether a token may begin an expression of the precedence of `|` or a tighter one
abbrev pub begins_tight : Kind → Bool
begins_tight (kind.Keyword word.Not) = false
begins_tight (kind.Keyword word.Lambda) = false
begins_tight k = begins_expression k

pub name_begins : (k : Kind) → is_name k ≡ true → begins_tight k ≡ true
name_begins (kind.Name w) is = refl
name_begins _ is = never is

pub number_begins : (k : Kind) → is_number k ≡ true → begins_tight k ≡ true
number_begins (kind.Number n) is = refl
number_begins _ is = never is

pub string_begins : (k : Kind) → is_string k ≡ true → begins_tight k ≡ true
string_begins (kind.String p) is = refl
string_begins _ is = never is

pub constant_begins : (k : Kind) → is_constant k ≡ true → begins_tight k ≡ true
constant_begins (kind.Keyword word.False) is = refl
constant_begins (kind.Keyword word.None) is = refl
constant_begins (kind.Keyword word.True) is = refl
constant_begins (kind.Delimiter delimiter.Ellipsis) is = refl
constant_begins _ is = never is

pub sign_begins : (k : Kind) → 1 ≤ prefix_precedence k → begins_expression k ≡ true
sign_begins (kind.Keyword word.Not) some = refl
sign_begins (kind.Arithmetic op.Plus) some = refl
sign_begins (kind.Arithmetic op.Minus) some = refl
sign_begins (kind.Delimiter delimiter.Tilde) some = refl
sign_begins _ some = absurd (omega arith)

pub sign_begins_tight : (k : Kind) → 6 ≤ prefix_precedence k → begins_tight k ≡ true
sign_begins_tight (kind.Arithmetic op.Plus) some = refl
sign_begins_tight (kind.Arithmetic op.Minus) some = refl
sign_begins_tight (kind.Delimiter delimiter.Tilde) some = refl
sign_begins_tight (kind.Keyword word.Not) some = absurd (omega arith)
sign_begins_tight _ some = absurd (omega arith)

pub tight_begins : (k : Kind) → begins_tight k ≡ true → begins_expression k ≡ true
tight_begins (kind.Keyword word.Not) is = refl
tight_begins (kind.Keyword word.Lambda) is = refl
tight_begins _ is = is

-- what begins an expression is no star and no colon
pub no_star : (k : Kind) → begins_expression k ≡ true → is_star k ≡ false
no_star k is = apart_by begins_expression is_star k (kind.Arithmetic op.Star) (is_star_is k) is refl

pub no_double_star : (k : Kind) → begins_expression k ≡ true → is_double_star k ≡ false
no_double_star k is = apart_by begins_expression is_double_star k (kind.Arithmetic op.DoubleStar) (is_double_star_is k) is refl

pub no_colon : (k : Kind) → begins_expression k ≡ true → is_colon k ≡ false
no_colon k is = apart_by begins_expression is_colon k (kind.Delimiter delimiter.Colon) (is_colon_is k) is refl

-- ---- what stands behind an item

-- whether a token may follow an item anywhere: a comma, a closing bracket or a clause of a comprehension
abbrev pub is_common : Kind → Bool
is_common (kind.Delimiter delimiter.Comma) = true
is_common (kind.Close _) = true
is_common (kind.Keyword word.For) = true
is_common (kind.Keyword word.Async) = true
is_common _ = false

-- whether a token may follow an item at some places alone: what a statement goes on with or ends by an expression, `as`
-- too, `in` or the end of a statement targets, and a colon the items of a `with` and the parameters of a lambda
abbrev pub is_special : ListContext → Kind → Bool
is_special list_context.Items (kind.Delimiter delimiter.Semicolon) = true
is_special list_context.Items (kind.Delimiter delimiter.Colon) = true
is_special list_context.Items (kind.Delimiter delimiter.Equal) = true
is_special list_context.Items (kind.Augmented _) = true
is_special list_context.Items (kind.Keyword word.As) = true
is_special list_context.Targets (kind.Keyword word.In) = true
is_special list_context.Targets (kind.Delimiter delimiter.Semicolon) = true
is_special list_context.WithItems (kind.Delimiter delimiter.Colon) = true
is_special (list_context.Parameters false) (kind.Delimiter delimiter.Colon) = true
is_special (list_context.AfterStar false) (kind.Delimiter delimiter.Colon) = true
is_special (list_context.KeywordOnly false) (kind.Delimiter delimiter.Colon) = true
is_special list_context.Ended (kind.Delimiter delimiter.Colon) = true
is_special _ _ = false

abbrev pub is_close : Kind → Bool
is_close (kind.Close _) = true
is_close _ = false

-- whether a token may follow an item
abbrev pub follows : ListContext → Kind → Bool
follows here k = is_common k || is_special here k

-- whether a token may follow a list
abbrev pub ends : ListContext → Kind → Bool
ends here k = is_close k || is_special here k

-- a token that goes on with nothing
pub record Plain (k : Kind) : Type 0 where
  pub loose : infix_precedence k ≡ 0
  pub string : is_string k ≡ false
  pub colon : is_colon k ≡ false
  pub equal : same_kind k (kind.Delimiter delimiter.Equal) ≡ false
  pub as_word : same_kind k (kind.Keyword word.As) ≡ false
  pub begins : begins_expression k ≡ false
  pub name : is_name k ≡ false

pub plain : (k : Kind) → is_common k ≡ true → Plain k
unfolding same_kind
plain (kind.Delimiter delimiter.Comma) is = record { loose = refl; string = refl; colon = refl; equal = refl; as_word = refl; begins = refl; name = refl }
plain (kind.Close b) is = record { loose = refl; string = refl; colon = refl; equal = refl; as_word = refl; begins = refl; name = refl }
plain (kind.Keyword word.For) is = record { loose = refl; string = refl; colon = refl; equal = refl; as_word = refl; begins = refl; name = refl }
plain (kind.Keyword word.Async) is = record { loose = refl; string = refl; colon = refl; equal = refl; as_word = refl; begins = refl; name = refl }
plain _ is = never is

-- what follows the parameters of a lambda may be a colon
pub record Bare (is_annotated : Bool) (k : Kind) : Type 0 where
  pub loose : infix_precedence k ≡ 0
  pub string : is_string k ≡ false
  pub colon : is_annotated ≡ true → is_colon k ≡ false
  pub equal : same_kind k (kind.Delimiter delimiter.Equal) ≡ false
  pub name : is_name k ≡ false

pub plain_bare : (is_annotated : Bool) (k : Kind) → is_common k ≡ true → Bare is_annotated k
plain_bare is_annotated k is =
    let p = plain k is in record { loose = p.loose; string = p.string; colon = λ h. p.colon; equal = p.equal; name = p.name }

pub colon_bare : Bare false (kind.Delimiter delimiter.Colon)
unfolding same_kind
colon_bare = record { loose = refl; string = refl; colon = λ h. never h; equal = refl; name = refl }

pub either : {G : Type 0} (x y : Bool) → (x || y) ≡ true → (x ≡ true → G) → (y ≡ true → G) → G
either true y e first second = first refl
either false y e first second = second e

pub bare_parameters : (is_annotated : Bool) (k : Kind) → follows (list_context.Parameters is_annotated) k ≡ true → Bare is_annotated k
bare_parameters is_annotated k is = either (is_common k) (is_special (list_context.Parameters is_annotated) k) is (plain_bare is_annotated k) (special is_annotated k)
  where
    special : (b : Bool) (q : Kind) → is_special (list_context.Parameters b) q ≡ true → Bare b q
    special false (kind.Delimiter delimiter.Colon) is = colon_bare
    special false _ is = never is
    special true _ is = never is

pub bare_after_star : (is_annotated : Bool) (k : Kind) → follows (list_context.AfterStar is_annotated) k ≡ true → Bare is_annotated k
bare_after_star is_annotated k is = either (is_common k) (is_special (list_context.AfterStar is_annotated) k) is (plain_bare is_annotated k) (special is_annotated k)
  where
    special : (b : Bool) (q : Kind) → is_special (list_context.AfterStar b) q ≡ true → Bare b q
    special false (kind.Delimiter delimiter.Colon) is = colon_bare
    special false _ is = never is
    special true _ is = never is

pub bare_keyword_only : (is_annotated : Bool) (k : Kind) → follows (list_context.KeywordOnly is_annotated) k ≡ true → Bare is_annotated k
bare_keyword_only is_annotated k is = either (is_common k) (is_special (list_context.KeywordOnly is_annotated) k) is (plain_bare is_annotated k) (special is_annotated k)
  where
    special : (b : Bool) (q : Kind) → is_special (list_context.KeywordOnly b) q ≡ true → Bare b q
    special false (kind.Delimiter delimiter.Colon) is = colon_bare
    special false _ is = never is
    special true _ is = never is

-- what follows targets goes on with nothing of their precedence
pub after_targets : (k : Kind) → follows list_context.Targets k ≡ true → (infix_precedence k < 6) × (is_string k ≡ false)
after_targets k is =
    either (is_common k) (is_special list_context.Targets k) is
    (λ common. let p = plain k common in (omega (arith, p.loose), p.string))
    (special k)
  where
    special : (q : Kind) → is_special list_context.Targets q ≡ true → (infix_precedence q < 6) × (is_string q ≡ false)
    special (kind.Keyword word.In) is = (omega arith, refl)
    special (kind.Delimiter delimiter.Semicolon) is = (omega arith, refl)
    special _ is = never is

-- what follows an item of a tuple goes on with nothing
pub after_items : (k : Kind) → follows list_context.Items k ≡ true → (infix_precedence k ≡ 0) × (is_string k ≡ false)
after_items k is =
    either (is_common k) (is_special list_context.Items k) is
    (λ common. let p = plain k common in (p.loose, p.string))
    (special k)
  where
    special : (q : Kind) → is_special list_context.Items q ≡ true → (infix_precedence q ≡ 0) × (is_string q ≡ false)
    special (kind.Delimiter delimiter.Semicolon) is = (refl, refl)
    special (kind.Delimiter delimiter.Colon) is = (refl, refl)
    special (kind.Delimiter delimiter.Equal) is = (refl, refl)
    special (kind.Augmented o) is = (refl, refl)
    special (kind.Keyword word.As) is = (refl, refl)
    special _ is = never is

-- what follows a context manager goes on with nothing, and is no `as`
pub after_managers : (k : Kind) → follows list_context.WithItems k ≡ true → (infix_precedence k ≡ 0) × (is_string k ≡ false) × (same_kind k (kind.Keyword word.As) ≡ false)
unfolding same_kind
after_managers k is =
    either (is_common k) (is_special list_context.WithItems k) is
    (λ common. let p = plain k common in (p.loose, p.string, p.as_word))
    (special k)
  where
    special : (q : Kind) → is_special list_context.WithItems q ≡ true → (infix_precedence q ≡ 0) × (is_string q ≡ false) × (same_kind q (kind.Keyword word.As) ≡ false)
    special (kind.Delimiter delimiter.Colon) is = (refl, refl, refl)
    special _ is = never is

-- ---- the end of a list

pub close_common : (k : Kind) → is_close k ≡ true → is_common k ≡ true
close_common (kind.Close b) is = refl
close_common _ is = never is

pub ends_follows : (here : ListContext) (k : Kind) → ends here k ≡ true → follows here k ≡ true
ends_follows here k is =
    either (is_close k) (is_special here k) is
    (λ close. ap (λ (b : Bool). b || is_special here k) (close_common k close))
    (λ special. second (is_common k) (is_special here k) special)
  where
    second : (x y : Bool) → y ≡ true → (x || y) ≡ true
    second true y e = refl
    second false y e = e

special_comma : (here : ListContext) (k : Kind) → is_special here k ≡ true → same_kind k (kind.Delimiter delimiter.Comma) ≡ false
unfolding same_kind
special_comma list_context.Items (kind.Delimiter delimiter.Semicolon) is = refl
special_comma list_context.Items (kind.Delimiter delimiter.Colon) is = refl
special_comma list_context.Items (kind.Delimiter delimiter.Equal) is = refl
special_comma list_context.Items (kind.Augmented o) is = refl
special_comma list_context.Items (kind.Keyword word.As) is = refl
special_comma list_context.Targets (kind.Keyword word.In) is = refl
special_comma list_context.Targets (kind.Delimiter delimiter.Semicolon) is = refl
special_comma list_context.WithItems (kind.Delimiter delimiter.Colon) is = refl
special_comma (list_context.Parameters false) (kind.Delimiter delimiter.Colon) is = refl
special_comma (list_context.AfterStar false) (kind.Delimiter delimiter.Colon) is = refl
special_comma (list_context.KeywordOnly false) (kind.Delimiter delimiter.Colon) is = refl
special_comma list_context.Ended (kind.Delimiter delimiter.Colon) is = refl
special_comma _ _ is = never is

pub ends_comma : (here : ListContext) (k : Kind) → ends here k ≡ true → same_kind k (kind.Delimiter delimiter.Comma) ≡ false
ends_comma here k is =
    either (is_close k) (is_special here k) is
    (λ close. apart is_close k (kind.Delimiter delimiter.Comma) close refl)
    (λ special. special_comma here k special)

close_begins : (here : ListContext) (k : Kind) → is_close k ≡ true → begins here k ≡ false
close_begins list_context.Subscript (kind.Close b) is = refl
close_begins list_context.WithItems (kind.Close b) is = refl
close_begins (list_context.Parameters _) (kind.Close b) is = refl
close_begins _ (kind.Close b) is = refl
close_begins here _ is = never is

special_begins : (here : ListContext) (k : Kind) → is_special here k ≡ true → begins here k ≡ false
special_begins list_context.Items (kind.Delimiter delimiter.Semicolon) is = refl
special_begins list_context.Items (kind.Delimiter delimiter.Colon) is = refl
special_begins list_context.Items (kind.Delimiter delimiter.Equal) is = refl
special_begins list_context.Items (kind.Augmented o) is = refl
special_begins list_context.Items (kind.Keyword word.As) is = refl
special_begins list_context.Targets (kind.Keyword word.In) is = refl
special_begins list_context.Targets (kind.Delimiter delimiter.Semicolon) is = refl
special_begins list_context.WithItems (kind.Delimiter delimiter.Colon) is = refl
special_begins (list_context.Parameters false) (kind.Delimiter delimiter.Colon) is = refl
special_begins (list_context.AfterStar false) (kind.Delimiter delimiter.Colon) is = refl
special_begins (list_context.KeywordOnly false) (kind.Delimiter delimiter.Colon) is = refl
special_begins list_context.Ended (kind.Delimiter delimiter.Colon) is = refl
special_begins _ _ is = never is

pub ends_begins : (here : ListContext) (k : Kind) → ends here k ≡ true → begins here k ≡ false
ends_begins here k is = either (is_close k) (is_special here k) is (close_begins here k) (special_begins here k)

close_ends : (here : ListContext) (k : Kind) → is_close k ≡ true → ends here k ≡ true
close_ends here k is = ap (λ (b : Bool). b || is_special here k) is

special_next : (here : ListContext) (e : Tree) (k : Kind) → is_special here k ≡ true → is_special (next_context here e) k ≡ true
special_next list_context.Items e k is = is
special_next list_context.Targets e k is = is
special_next list_context.WithItems e k is = is
special_next (list_context.Parameters false) (tree.star_parameter _ _ _) (kind.Delimiter delimiter.Colon) is = refl
special_next (list_context.Parameters false) (tree.bare_star _) (kind.Delimiter delimiter.Colon) is = refl
special_next (list_context.Parameters false) (tree.double_parameter _ _ _) (kind.Delimiter delimiter.Colon) is = refl
special_next (list_context.Parameters false) _ (kind.Delimiter delimiter.Colon) is = refl
special_next (list_context.AfterStar false) e (kind.Delimiter delimiter.Colon) is = refl
special_next (list_context.KeywordOnly false) (tree.star_parameter _ _ _) (kind.Delimiter delimiter.Colon) is = refl
special_next (list_context.KeywordOnly false) (tree.bare_star _) (kind.Delimiter delimiter.Colon) is = refl
special_next (list_context.KeywordOnly false) (tree.double_parameter _ _ _) (kind.Delimiter delimiter.Colon) is = refl
special_next (list_context.KeywordOnly false) _ (kind.Delimiter delimiter.Colon) is = refl
special_next list_context.Ended e k is = is
special_next _ e _ is = never is

pub ends_next : (here : ListContext) (e : Tree) (k : Kind) → ends here k ≡ true → ends (next_context here e) k ≡ true
ends_next here e k is =
    either (is_close k) (is_special here k) is
    (close_ends (next_context here e) k)
    (λ special. second (is_close k) (is_special (next_context here e) k) (special_next here e k special))
  where
    second : (x y : Bool) → y ≡ true → (x || y) ≡ true
    second true y e = refl
    second false y e = e

-- a comma follows an item
pub comma_follows : (here : ListContext) (k : Kind) → k ≡ kind.Delimiter delimiter.Comma → follows here k ≡ true
comma_follows here k is = ap (follows here) is

-- a clause of a comprehension does
pub comprehension_common : (k : Kind) → begins_comprehension k ≡ true → is_common k ≡ true
comprehension_common (kind.Keyword word.For) is = refl
comprehension_common (kind.Keyword word.Async) is = refl
comprehension_common _ is = never is

pub comprehension_follows : (here : ListContext) (k : Kind) → begins_comprehension k ≡ true → follows here k ≡ true
comprehension_follows here k is = ap (λ (b : Bool). b || is_special here k) (comprehension_common k is)

special_comprehension : (here : ListContext) (k : Kind) → is_special here k ≡ true → begins_comprehension k ≡ false
special_comprehension list_context.Items (kind.Delimiter delimiter.Semicolon) is = refl
special_comprehension list_context.Items (kind.Delimiter delimiter.Colon) is = refl
special_comprehension list_context.Items (kind.Delimiter delimiter.Equal) is = refl
special_comprehension list_context.Items (kind.Augmented o) is = refl
special_comprehension list_context.Items (kind.Keyword word.As) is = refl
special_comprehension list_context.Targets (kind.Keyword word.In) is = refl
special_comprehension list_context.Targets (kind.Delimiter delimiter.Semicolon) is = refl
special_comprehension list_context.WithItems (kind.Delimiter delimiter.Colon) is = refl
special_comprehension (list_context.Parameters false) (kind.Delimiter delimiter.Colon) is = refl
special_comprehension (list_context.AfterStar false) (kind.Delimiter delimiter.Colon) is = refl
special_comprehension (list_context.KeywordOnly false) (kind.Delimiter delimiter.Colon) is = refl
special_comprehension list_context.Ended (kind.Delimiter delimiter.Colon) is = refl
special_comprehension _ _ is = never is

close_comprehension : (k : Kind) → is_close k ≡ true → begins_comprehension k ≡ false
close_comprehension (kind.Close b) is = refl
close_comprehension _ is = never is

-- where a list ends no clause begins
pub ends_comprehension : (here : ListContext) (k : Kind) → ends here k ≡ true → begins_comprehension k ≡ false
ends_comprehension here k is = either (is_close k) (is_special here k) is (close_comprehension k) (special_comprehension here k)

-- ---- what stands behind an operand

-- a token that a tree of a precedence may stand before does not go on with its last operand
pub sign_stop : (sign k : Kind) → 1 ≤ prefix_precedence sign → left_precedence k ≤ prefix_precedence sign → infix_precedence k < prefix_precedence sign
sign_stop sign k some below = omega (arith, left_near k, sign_near sign some, gaps k)
  where
    sign_near : (s : Kind) → 1 ≤ prefix_precedence s → (prefix_precedence s ≡ 4) ⊎ (prefix_precedence s ≡ 12)
    sign_near (kind.Keyword word.Not) some = inl refl
    sign_near (kind.Arithmetic op.Plus) some = inr refl
    sign_near (kind.Arithmetic op.Minus) some = inr refl
    sign_near (kind.Delimiter delimiter.Tilde) some = inr refl
    sign_near _ some = absurd (omega arith)

    gaps : (q : Kind) → (infix_precedence q ≡ 4 → ⊥) × (infix_precedence q ≡ 12 → ⊥)
    gaps (kind.Keyword word.If) = omega arith
    gaps (kind.Arithmetic op.Bar) = omega arith
    gaps (kind.Open bracket.Round) = omega arith
    gaps (kind.Delimiter delimiter.Dot) = omega arith
    gaps _ = omega arith

pub loose_stop : (k : Kind) → left_precedence k ≤ 1 → infix_precedence k < 1
loose_stop (kind.Keyword word.If) below = absurd (omega arith)
loose_stop (kind.Arithmetic op.Bar) below = absurd (omega arith)
loose_stop (kind.Open bracket.Round) below = absurd (omega arith)
loose_stop (kind.Delimiter delimiter.Dot) below = absurd (omega arith)
loose_stop (kind.Keyword word.Or) below = absurd (omega arith)
loose_stop (kind.Keyword word.And) below = absurd (omega arith)
loose_stop (kind.Keyword word.In) below = absurd (omega arith)
loose_stop (kind.Keyword word.Is) below = absurd (omega arith)
loose_stop (kind.Keyword word.Not) below = absurd (omega arith)
loose_stop _ below = omega arith

right_form : (sign : Kind) → 1 ≤ right_precedence sign → (right_precedence sign ≡ infix_precedence sign + 1) ⊎ ((infix_precedence sign ≡ 13) × (right_precedence sign ≡ 12))
right_form (kind.Keyword word.Or) some = inl refl
right_form (kind.Keyword word.And) some = inl refl
right_form (kind.Arithmetic op.DoubleStar) some = inr (refl, refl)
right_form (kind.Arithmetic op.Bar) some = inl refl
right_form (kind.Arithmetic _) some = inl refl
right_form _ some = absurd (omega arith)

power_stop : (k : Kind) → left_precedence k ≤ 13 → infix_precedence k < 12
power_stop (kind.Keyword word.If) below = omega arith
power_stop (kind.Arithmetic op.DoubleStar) below = absurd (omega arith)
power_stop (kind.Arithmetic op.Bar) below = omega arith
power_stop (kind.Open bracket.Round) below = absurd (omega arith)
power_stop (kind.Open bracket.Square) below = absurd (omega arith)
power_stop (kind.Delimiter delimiter.Dot) below = absurd (omega arith)
power_stop _ below = omega arith

pub right_stop : (sign k : Kind) → 1 ≤ right_precedence sign → left_precedence k ≤ infix_precedence sign → infix_precedence k < right_precedence sign
right_stop sign k some below =
    two (right_form sign some)
    (λ near. omega (arith, near, left_near k))
    (λ power. omega (arith, power.1, power_stop k (omega (arith, power.0))))
  where
    two : {A B G : Type 0} → A ⊎ B → (A → G) → (B → G) → G
    two (inl a) f g = f a
    two (inr b) f g = g b

pub compare_stop : (k : Kind) → left_precedence k ≤ 5 → is_comparison k ≡ false
compare_stop (kind.Comparison _) below = absurd (omega arith)
compare_stop (kind.Keyword word.In) below = absurd (omega arith)
compare_stop (kind.Keyword word.Is) below = absurd (omega arith)
compare_stop (kind.Keyword word.Not) below = absurd (omega arith)
compare_stop _ below = refl

-- what goes on with an expression is no string
pub left_string : (k : Kind) → 1 ≤ left_precedence k → is_string k ≡ false
left_string (kind.String p) some = absurd (omega arith)
left_string _ some = refl

pub comparison_string : (k : Kind) → is_comparison k ≡ true → is_string k ≡ false
comparison_string (kind.String p) is = never is
comparison_string _ is = refl

pub comparison_left : (k : Kind) → is_comparison k ≡ true → left_precedence k ≡ 6
comparison_left (kind.Comparison _) is = refl
comparison_left (kind.Keyword word.In) is = refl
comparison_left (kind.Keyword word.Is) is = refl
comparison_left (kind.Keyword word.Not) is = refl
comparison_left _ is = never is
