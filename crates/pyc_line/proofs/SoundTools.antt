-- What the steps of a rule read, handed on to what follows from it.
use Rattle.std.proofs.Common.{◌≡◌, refl, ap, sym, ◌∙◌, subst, ℕ, ◌≤◌, ◌<◌, Bool, true, false, ◌||◌, nat_le, if◌then◌else◌, List, [], ◌∷◌, ◌++◌, length, length-append, arith, None, Some}
use Rattle.std.proofs.lemmas.Bool.{leb-true, le-leb}
use Rattle.pyc_token.specs.declared.tokens.Kind.{Kind}
use Rattle.pyc_token.specs.declared.tokens.Token.{Token}
use Rattle.pyc_tree.specs.Tree.{Tree}
use Rattle.pyc_tree.specs.Kinds.{kind_of, same_kind, is_name}
use Rattle.pyc_tree.specs.Precedence.{precedence}
use Rattle.pyc_tree.specs.Height.{height, max_height}
use Rattle.pyc_tree.specs.ListContexts.{is_at}
use Rattle.pyc_tree.specs.Parser.{Parsed, Parser, and_then, fail, take_one, expect, expect_name, made}
use Rattle.pyc_tree.specs.Items.{checked}
use Rattle.pyc_line.proofs.SoundTables.{never, same_kind_is}

-- ---- what is read is one thing

pub refused : {A G : Type 0} (a : A) → None ≡ Some a → G
refused a e = absurd (cc)

some_pair : {A : Type 0} (p q : A × List Token) → ◌≡◌ {A = Parsed A} (Some p) (Some q) → p ≡ q
some_pair p q e = cc

parts : {A G : Type 0} (a b : A) (ts rest : List Token) → ◌≡◌ {A = Parsed A} (Some (a, ts)) (Some (b, rest)) → (a ≡ b → ts ≡ rest → G) → G
parts a b ts rest e go =
    let same : ◌≡◌ {A = _ × List Token} (a, ts) (b, rest) = some_pair (a, ts) (b, rest) e in
    go (ap (λ p. p.0) same) (ap (λ p. p.1) same)

-- ---- steps one after another

pub bind : {A B G : Type 0} (o : Parsed A) (f : A → Parser B) (r : B × List Token) → and_then o f ≡ Some r
    → ((x : A) (later : List Token) → o ≡ Some (x, later) → f x later ≡ Some r → G) → G
bind (Some p) f r e go = go p.0 p.1 refl e
bind None f r e go = refused r e

pub choose : {B G : Type 0} (p q : Parser B) (b : Bool) (ts : List Token) (r : B × List Token) → (if b then p else q) ts ≡ Some r
    → (b ≡ true → p ts ≡ Some r → G) → (b ≡ false → q ts ≡ Some r → G) → G
choose p q true ts r e yes_case no_case = yes_case refl e
choose p q false ts r e yes_case no_case = no_case refl e

-- a rule that is refused where a test holds, or where it fails
pub unless : {B G : Type 0} (q : Parser B) (b : Bool) (ts : List Token) (r : B × List Token) → (if b then fail else q) ts ≡ Some r
    → (b ≡ false → q ts ≡ Some r → G) → G
unless q true ts r e go = refused r e
unless q false ts r e go = go refl e

pub only : {B G : Type 0} (p : Parser B) (b : Bool) (ts : List Token) (r : B × List Token) → (if b then p else fail) ts ≡ Some r
    → (b ≡ true → p ts ≡ Some r → G) → G
only p true ts r e go = go refl e
only p false ts r e go = refused r e

-- ---- tokens

took : {G : Type 0} (ts : List Token) (t : Token) (rest : List Token) → take_one ts ≡ Some (t, rest) → (ts ≡ t ∷ rest → G) → G
unfolding take_one
took [] t rest e go = refused _ e
took (first ∷ more) t rest e go = parts first t more rest e (λ same left. go (cc))

pub after_one : {B G : Type 0} (f : Token → Parser B) (ts : List Token) (r : B × List Token) → and_then (take_one ts) f ≡ Some r
    → ((t : Token) (later : List Token) → ts ≡ t ∷ later → t.kind ≡ kind_of ts → f t later ≡ Some r → G) → G
after_one f ts r e go =
    bind (take_one ts) f r e (λ t later one next. took ts t later one (λ is. go t later is (sym (ap kind_of is)) next))

-- a token that passes a test
tested : {G : Type 0} (b : Bool) (ts : List Token) (t : Token) (rest : List Token) → (if b then take_one ts else None) ≡ Some (t, rest)
    → (b ≡ true → take_one ts ≡ Some (t, rest) → G) → G
tested true ts t rest e go = go refl e
tested false ts t rest e go = refused _ e

pub after_expected : {B G : Type 0} (k : Kind) (f : Token → Parser B) (ts : List Token) (r : B × List Token) → and_then (expect k ts) f ≡ Some r
    → ((t : Token) (later : List Token) → ts ≡ t ∷ later → t.kind ≡ k → f t later ≡ Some r → G) → G
unfolding expect
after_expected k f ts r e go =
    bind (expect k ts) f r e (λ t later found next.
    tested (same_kind (kind_of ts) k) ts t later found (λ same one.
    took ts t later one (λ is. go t later is (sym (ap kind_of is) ∙ same_kind_is (kind_of ts) k same) next)))

pub after_name : {B G : Type 0} (f : Token → Parser B) (ts : List Token) (r : B × List Token) → and_then (expect_name ts) f ≡ Some r
    → ((t : Token) (later : List Token) → ts ≡ t ∷ later → is_name t.kind ≡ true → f t later ≡ Some r → G) → G
unfolding expect_name
after_name f ts r e go =
    bind (expect_name ts) f r e (λ t later found next.
    tested (is_name (kind_of ts)) ts t later found (λ same one.
    took ts t later one (λ is. go t later is (sym (ap (λ z. is_name (kind_of z)) is) ∙ same) next)))

-- ---- the end of a rule

-- what holds of what is answered holds of what is read
pub pure_as : {A : Type 0} (P : A → List Token → Type 0) (a b : A) (ts rest : List Token)
    → ◌≡◌ {A = Parsed A} (Some (a, ts)) (Some (b, rest)) → P a ts → P b rest
pure_as P a b ts rest e h = subst (λ (p : _ × List Token). P p.0 p.1) (some_pair (a, ts) (b, rest) e) h

pub checked_as : {A : Type 0} (P : A → List Token → Type 0) (holds : Bool) (a b : A) (ts rest : List Token)
    → checked holds a ts ≡ Some (b, rest) → (holds ≡ true → P a ts) → P b rest
checked_as P true a b ts rest e h = pure_as P a b ts rest e (h refl)
checked_as P false a b ts rest e h = refused _ e

pub made_as : (P : Tree → List Token → Type 0) (t u : Tree) (ts rest : List Token)
    → made t ts ≡ Some (u, rest) → (height t ≤ max_height → P t ts) → P u rest
unfolding made
made_as P t u ts rest e h = guarded (nat_le (height t) max_height) e (λ low. h (leb-true (height t) max_height low))
  where
    guarded : (b : Bool) → if◌then◌else◌ {A = Parsed Tree} b (Some (t, ts)) None ≡ Some (u, rest) → (b ≡ true → P t ts) → P u rest
    guarded true e h = pure_as P t u ts rest e (h refl)
    guarded false e h = refused _ e

-- a tree that the rule goes on with
pub after_made : {B G : Type 0} (t : Tree) (f : Tree → Parser B) (ts : List Token) (r : B × List Token) → and_then (made t ts) f ≡ Some r
    → (height t ≤ max_height → f t ts ≡ Some r → G) → G
after_made {G = G} t f ts r e go =
    bind (made t ts) f r e (λ u later one next.
    made_as (λ x left. f x left ≡ Some r → G) t u ts later one (λ low. go low) next)

-- ---- precedences

pub at_precedence : (n : ℕ) (t : Tree) → n ≤ precedence t → is_at n t ≡ true
at_precedence n t h = le-leb n (precedence t) h

pub precedence_at : (n : ℕ) (t : Tree) → is_at n t ≡ true → n ≤ precedence t
precedence_at n t h = leb-true n (precedence t) h

-- ---- tests of two parts

pub or_first : (x y : Bool) → (x || y) ≡ true → y ≡ false → x ≡ true
or_first true y e second = refl
or_first false y e second = sym second ∙ e

pub either_first : (x y : Bool) → x ≡ true → (x || y) ≡ true
either_first true y e = refl
either_first false y e = never e

pub either_second : (x y : Bool) → y ≡ true → (x || y) ≡ true
either_second true y e = refl
either_second false y e = e

-- ---- lengths

pub one_less : (ts : List Token) (t : Token) (later : List Token) → ts ≡ t ∷ later → length later < length ts
one_less ts t later is = omega (arith, ap length is)

pub no_more : (ts : List Token) (front later : List Token) → ts ≡ front ++ later → length later ≤ length ts
no_more ts front later is = omega (arith, length-append front later, ap length is)
