-- Steps of a rule on tokens that are known.
use Rattle.std.proofs.Common.{◌≡◌, refl, ap, sym, ◌∙◌, ◌≤◌, Bool, true, false, if◌then◌else◌, List, ◌∷◌, None, Some}
use Rattle.std.proofs.lemmas.Bool.{le-leb}
use denote.Enum.Bare.{true_same}
use Rattle.pyc_token.specs.declared.tokens.Kind.{Kind}
use Rattle.pyc_token.specs.declared.tokens.Kind.TheVariants as kind
use Rattle.pyc_token.specs.declared.tokens.Token.{Token}
use Rattle.pyc_token.specs.contracts.tokens.Word.{the_type as word_type}
use Rattle.pyc_token.specs.contracts.tokens.Keyword.{the_type as keyword_type}
use Rattle.pyc_token.specs.contracts.tokens.Number.{the_type as number_type}
use Rattle.pyc_token.specs.contracts.tokens.Prefix.{the_type as prefix_type}
use Rattle.pyc_token.specs.contracts.tokens.Arithmetic.{the_type as arithmetic_type}
use Rattle.pyc_token.specs.contracts.tokens.Comparison.{the_type as comparison_type}
use Rattle.pyc_token.specs.contracts.tokens.Bracket.{the_type as bracket_type}
use Rattle.pyc_token.specs.contracts.tokens.Delimiter.{the_type as delimiter_type}
use Rattle.pyc_tree.specs.Tree.{Tree}
use Rattle.pyc_tree.specs.Kinds.{same_kind, is_name}
use Rattle.pyc_tree.specs.Height.{height, max_height}
use Rattle.pyc_tree.specs.Parser.{Parsed, Parser, and_then, take_one, expect, expect_name, made}
use Rattle.pyc_tree.specs.Items.{checked}
use Rattle.pyc_line.proofs.SoundTables.{never, same_kind_is}

-- ---- steps one after another

pub step : {A B : Type 0} (o : Parsed A) (f : A → Parser B) (x : A) (later : List Token) (r : Parsed B) → o ≡ Some (x, later) → f x later ≡ r
    → and_then o f ≡ r
step o f x later r is next = ap (λ p. and_then p f) is ∙ next

pub yes : {B : Type 0} (p q : Parser B) (b : Bool) (ts : List Token) (r : Parsed B) → b ≡ true → p ts ≡ r → (if b then p else q) ts ≡ r
yes p q b ts r is next = ap (λ (c : Bool). (if c then p else q) ts) is ∙ next

pub no : {B : Type 0} (p q : Parser B) (b : Bool) (ts : List Token) (r : Parsed B) → b ≡ false → q ts ≡ r → (if b then p else q) ts ≡ r
no p q b ts r is next = ap (λ (c : Bool). (if c then p else q) ts) is ∙ next

-- ---- tokens

pub same_kind_self : (k : Kind) → same_kind k k ≡ true
unfolding same_kind
same_kind_self (kind.Name a) = true_same word_type a a refl
same_kind_self (kind.Keyword a) = true_same keyword_type a a refl
same_kind_self (kind.Number a) = true_same number_type a a refl
same_kind_self (kind.String a) = true_same prefix_type a a refl
same_kind_self (kind.Arithmetic a) = true_same arithmetic_type a a refl
same_kind_self (kind.Augmented a) = true_same arithmetic_type a a refl
same_kind_self (kind.Comparison a) = true_same comparison_type a a refl
same_kind_self (kind.Open a) = true_same bracket_type a a refl
same_kind_self (kind.Close a) = true_same bracket_type a a refl
same_kind_self (kind.Delimiter a) = true_same delimiter_type a a refl

pub same_as : (a b : Kind) → a ≡ b → same_kind a b ≡ true
same_as a b e = ap (λ k. same_kind k b) e ∙ same_kind_self b

-- a kind that passes a test is not one that fails it
pub apart_by : (test other : Kind → Bool) (k q : Kind) → (other k ≡ true → k ≡ q) → test k ≡ true → test q ≡ false → other k ≡ false
apart_by test other k q one passes fails = by_case (other k) one
  where
    by_case : (b : Bool) → (b ≡ true → k ≡ q) → b ≡ false
    by_case true one = never (sym fails ∙ (sym (ap test (one refl)) ∙ passes))
    by_case false one = refl

pub apart : (test : Kind → Bool) (k q : Kind) → test k ≡ true → test q ≡ false → same_kind k q ≡ false
apart test k q passes fails = apart_by test (λ z. same_kind z q) k q (same_kind_is k q) passes fails

pub expected : (k : Kind) (t : Token) (later : List Token) → t.kind ≡ k → expect k (t ∷ later) ≡ Some (t, later)
unfolding expect take_one
expected k t later is = ap (λ (b : Bool). if◌then◌else◌ {A = Parsed Token} b (Some (t, later)) None) (same_as t.kind k is)

pub name_expected : (t : Token) (later : List Token) → is_name t.kind ≡ true → expect_name (t ∷ later) ≡ Some (t, later)
unfolding expect_name take_one
name_expected t later is = ap (λ (b : Bool). if◌then◌else◌ {A = Parsed Token} b (Some (t, later)) None) is

-- ---- the end of a rule

pub made_low : (t : Tree) (ts : List Token) → height t ≤ max_height → made t ts ≡ Some (t, ts)
unfolding made
made_low t ts low = ap (λ (b : Bool). if◌then◌else◌ {A = Parsed Tree} b (Some (t, ts)) None) (le-leb (height t) max_height low)

pub checked_holds : {A : Type 0} (holds : Bool) (a : A) (ts : List Token) → holds ≡ true → checked holds a ts ≡ Some (a, ts)
checked_holds holds a ts is = ap (λ (b : Bool). checked b a ts) is
