-- Turns of the loops over names, modules and the parts of a name.
use Rattle.std.proofs.Common.{◌≡◌, ℕ, suc, ◌+◌, ◌-◌, ◌<◌, ◌≤◌, refl, ap, sym, subst, ◌∙◌, arith, Bool, true, false, not, ◌&&◌, if◌then◌else◌, List, [], ◌∷◌, ◌++◌, map, Option, Some, None, Result, Ok, Err, IsErrAnd, append_assoc}
use Rattle.std.proofs.lemmas.List.{map_push, append-nil}
use Rattle.pyc_token.specs.declared.tokens.Delimiter.TheVariants as delimiter
use Rattle.pyc_token.specs.declared.tokens.Kind.{Kind}
use Rattle.pyc_token.specs.declared.tokens.Kind.TheVariants as kind
use Rattle.pyc_token.specs.declared.tokens.Token.{Token}
use Rattle.pyc_build.specs.declared.error.ParseError.{ParseError}
use Rattle.pyc_build.specs.declared.error.ParseError.TheVariants.{Refused, Memory}
use Rattle.pyc_tree.specs.declared.statement.Item.{Item}
use Rattle.pyc_tree.specs.declared.statement.DottedPart.{DottedPart as DottedPartOf}
use Rattle.pyc_tree.specs.Kinds.{kind_of, same_kind, is_name}
use Rattle.pyc_tree.specs.Parser.{Parsed, Parser, and_then, pure, take_one, expect_name}
use Rattle.pyc_build.specs.ReadsTokens.{ReadsTokens}
use Rattle.pyc_tree.specs.SimpleStatements.{separated, parts}
use Rattle.pyc_tree.specs.Statements.{Separated, no_item, last_item, item, DottedPart}
use Rattle.pyc_tree.specs.StatementView.{separated_before, part_of}
use Rattle.pyc_tree.proofs.Turns.{one_more, no_more}

-- what a part of a rule does not read, the rule does not read
pub read_err : {X Y A B : Type 0} (view : X → A) (part : Parsed A) (reported : ParseError) (left : List Token) (whole_view : Y → B) (whole : Parsed B)
    (r : Result Y ParseError) (new : List Token)
    → IsErrAnd r (λ e. e ≡ reported) → ReadsTokens {X = X} view part (Err reported) left → (part ≡ None → whole ≡ None) → ReadsTokens whole_view whole r new
read_err view part reported left whole_view whole (Ok y) new is read leads = absurd is
read_err view part reported left whole_view whole (Err Memory) new is read leads = tt
read_err {X} view part reported left whole_view whole (Err Refused) new is read leads =
    leads (subst (λ (e : ParseError). ReadsTokens {X = X} view part (Err e) left) (sym is) read)

-- ---- items with commas

-- items before others
abbrev pub with_items : {T A : Type 0} → (T → A) → List (Item T) → Parsed (Separated A) → Parsed (Separated A)
with_items view front (Some p) = Some (separated_before view front p.0, p.1)
with_items view front None = None

-- whether items end with the comma before these tokens
abbrev pub ends : Bool → List Token → Bool
ends may_trail ts = may_trail && not (is_name (kind_of ts))

abbrev comma_kind : Kind
comma_kind = kind.Delimiter delimiter.Comma

module _ {T A : Type 0} (view : T → A) where
  pub separated_before-more : (front : List (Item T)) (x : Item T) (end : Separated A)
      → separated_before view (front ++ x ∷ []) end ≡ separated_before view front (item (view x.value) x.separator end)
  separated_before-more [] x end = refl
  separated_before-more (y ∷ ys) x end = ap (item (view y.value) y.separator) (separated_before-more ys x end)

  -- an item more before others
  pub with_items-more : (front : List (Item T)) (x : Item T) (o : Parsed (Separated A))
      → with_items view (front ++ x ∷ []) o ≡ with_items view front (and_then o (λ rest. pure (item (view x.value) x.separator rest)))
  with_items-more front x (Some p) = ap {B = Parsed (Separated A)} (λ s. Some (s, p.1)) (separated_before-more front x p.0)
  with_items-more front x None = refl

  module _ (one : Parser A) (may_trail : Bool) (n at : ℕ) (all : Parsed (Separated A)) (front : List (Item T)) (ts : List Token)
      (below : at < n) (e : with_items view front (separated one may_trail (n - at) ts) ≡ all) where
    turn : with_items view front (separated one may_trail (suc (n - (at + 1))) ts) ≡ all
    turn = one_more (λ n. with_items view front (separated one may_trail n ts)) n at below e

    -- an item that is refused
    pub items_refused : one ts ≡ None → all ≡ None
    items_refused bad = sym (rw bad at turn)

    module _ (x : T) (ts1 : List Token) (is : one ts ≡ Some (view x, ts1)) where
      -- an item with no comma after it
      pub items_end : same_kind (kind_of ts1) comma_kind ≡ false → all ≡ Some (separated_before view front (last_item (view x)), ts1)
      items_end no_comma = sym (rw (is, no_comma) at turn)

      pub items_cut : same_kind (kind_of ts1) comma_kind ≡ true → take_one ts1 ≡ None → all ≡ None
      items_cut a_comma bad = sym (rw (is, a_comma, bad) at turn)

      module _ (comma : Token) (ts2 : List Token) (a_comma : same_kind (kind_of ts1) comma_kind ≡ true) (took : take_one ts1 ≡ Some (comma, ts2)) where
        -- an item and its comma, which may be the last
        pub items_trail : ends may_trail ts2 ≡ true → all ≡ Some (separated_before view (front ++ record { value = x; separator = comma } ∷ []) no_item, ts2)
        items_trail last =
            sym (ap {B = Parsed (Separated A)} (λ s. Some (s, ts2)) (separated_before-more front (record { value = x; separator = comma }) no_item)
            ∙ rw (is, a_comma, took, last) at turn)

        -- an item and its comma before others
        pub items_on : ends may_trail ts2 ≡ false
            → with_items view (front ++ record { value = x; separator = comma } ∷ []) (separated one may_trail (n - (at + 1)) ts2) ≡ all
        items_on more =
            with_items-more front (record { value = x; separator = comma }) (separated one may_trail (n - (at + 1)) ts2) ∙ rw (is, a_comma, took, more) at turn

-- ---- the parts of a name

-- parts before others
abbrev pub with_parts : List DottedPart → Parsed (List DottedPart) → Parsed (List DottedPart)
with_parts front (Some p) = Some (front ++ p.0, p.1)
with_parts front None = None

abbrev dot_kind : Kind
dot_kind = kind.Delimiter delimiter.Dot

-- no part before
with_parts-first : (o : Parsed (List DottedPart)) → with_parts [] o ≡ o
with_parts-first (Some p) = refl
with_parts-first None = refl

pub parts_start : (n : ℕ) (ts : List Token) → with_parts [] (parts (n - 0) ts) ≡ parts n ts
parts_start n ts = let all : n - 0 ≡ n = omega arith in with_parts-first (parts (n - 0) ts) ∙ ap (λ n. parts n ts) all

-- no part more
with_parts-none : (front : List DottedPart) (ts : List Token) → with_parts front (Some ([], ts)) ≡ Some (front, ts)
with_parts-none front ts = ap {B = Parsed (List DottedPart)} (λ ps. Some (ps, ts)) (append-nil front)

with_parts-more : (front : List DottedPart) (x : DottedPart) (o : Parsed (List DottedPart))
    → with_parts (front ++ x ∷ []) o ≡ with_parts front (and_then o (λ rest. pure (x ∷ rest)))
with_parts-more front x (Some p) = ap {B = Parsed (List DottedPart)} (λ ps. Some (ps, p.1)) (append_assoc front (x ∷ []) p.0)
with_parts-more front x None = refl

module _ (n at : ℕ) (all : Parsed (List DottedPart)) (found : List DottedPartOf) (ts : List Token) (e : with_parts (map part_of found) (parts (n - at) ts) ≡ all) where
  -- where no turn is left, all are found
  pub parts_over : n ≤ at → all ≡ Some (map part_of found, ts)
  unfolding parts
  parts_over done = sym (no_more (λ n. with_parts (map part_of found) (parts n ts)) n at done e) ∙ with_parts-none (map part_of found) ts

  module _ (below : at < n) where
    part_turn : with_parts (map part_of found) (parts (suc (n - (at + 1))) ts) ≡ all
    part_turn = one_more (λ n. with_parts (map part_of found) (parts n ts)) n at below e

    -- no dot comes next
    pub parts_end : same_kind (kind_of ts) dot_kind ≡ false → all ≡ Some (map part_of found, ts)
    unfolding parts
    parts_end no_dot = sym (rw no_dot at part_turn) ∙ with_parts-none (map part_of found) ts

    module _ (a_dot : same_kind (kind_of ts) dot_kind ≡ true) where
      pub parts_cut : take_one ts ≡ None → all ≡ None
      unfolding parts
      parts_cut bad = sym (rw (a_dot, bad) at part_turn)

      module _ (dot : Token) (ts1 : List Token) (took : take_one ts ≡ Some (dot, ts1)) where
        pub parts_refused : expect_name ts1 ≡ None → all ≡ None
        unfolding parts
        parts_refused bad = sym (rw (a_dot, took, bad) at part_turn)

        -- a part before others
        pub parts_on : (name : Token) (ts2 : List Token) → expect_name ts1 ≡ Some (name, ts2)
            → with_parts (map part_of (found ++ record { dot = dot; name = name } ∷ [])) (parts (n - (at + 1)) ts2) ≡ all
        unfolding parts
        parts_on name ts2 is =
            ap (λ front. with_parts front (parts (n - (at + 1)) ts2)) (map_push part_of found (record { dot = dot; name = name }))
            ∙ (with_parts-more (map part_of found) (record { dot = dot; name = name }) (parts (n - (at + 1)) ts2) ∙ rw (a_dot, took, is) at part_turn)
