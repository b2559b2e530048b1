-- Parentheses round the only item of a `with` belong to its header, where they can: the grammar reads them so.
use Rattle.std.proofs.Common.{◌≡◌, refl, ap, sym, ◌∙◌, ℕ, ◌+◌, ◌≤◌, Bool, true, false, not, ◌||◌, List, [], ◌∷◌, ◌++◌, Option, None, Some, append_assoc, append-nil, arith}
use Rattle.pyc_token.specs.declared.tokens.Bracket.TheVariants as bracket
use Rattle.pyc_token.specs.declared.tokens.Kind.TheVariants as kind
use Rattle.pyc_token.specs.declared.tokens.Token.{Token}
use Rattle.pyc_tree.specs.declared.list_context.ListContext.TheVariants as list_context
use Rattle.pyc_tree.specs.declared.display_kind.DisplayKind.TheVariants as display_kind
use Rattle.pyc_tree.specs.Tree.{Tree, Pieces, Tail}
use Rattle.pyc_tree.specs.Tree as tree
use Rattle.pyc_tree.specs.Kinds.{kind_of}
use Rattle.pyc_tree.specs.Yield.{yield_of, pieces_yield}
use Rattle.pyc_tree.specs.Height.{height, pieces_height, max_height}
use Rattle.pyc_tree.specs.Targets.{is_starred}
use Rattle.pyc_tree.specs.ListContexts.{is_at, is_colon, is_item}
use Rattle.pyc_tree.specs.Well.{IsWell, ArePieces, is_yield, has_item}
use Rattle.pyc_tree.specs.WellLines.{has_no_star, is_enclosed_item, is_open_with}
use Rattle.pyc_tree.specs.Lines as line
use Rattle.pyc_tree.specs.Lines.{Header}
use Rattle.pyc_tree.specs.Parser.{Parsed, Parser, expect}
use Rattle.pyc_tree.specs.Items as rule
use Rattle.pyc_tree.specs.Expressions.{expression}
use Rattle.pyc_tree.specs.Headers as grammar
use Rattle.pyc_line.proofs.Sound.{ArePart}
use Rattle.pyc_line.proofs.SoundTables.{never}
use Rattle.pyc_line.proofs.SoundTools.{refused, precedence_at}
use Rattle.pyc_line.proofs.SoundItems.{after_item}
use Rattle.pyc_line.proofs.SoundLists.{parse_items_from_sound}
use Rattle.pyc_line.proofs.SoundExpressions.{expression_sound}
use Rattle.pyc_line.proofs.SoundHeaders.{Opens}
use Rattle.pyc_line.proofs.CompleteTools.{step, expected, checked_holds}
use Rattle.pyc_line.proofs.CompleteTables.{ends}
use Rattle.pyc_line.proofs.Complete.{Full}
use Rattle.pyc_line.proofs.CompleteItems.{both_first, both_second}
use Rattle.pyc_line.proofs.CompleteLists.{Listed, parse_items_from_full, one_item}
use Rattle.pyc_line.proofs.CompleteExpressions.{expression_full}

-- ---- the items of a tuple, as context managers

managers : Pieces → Pieces
managers tree.none = tree.none
managers (tree.last e) = tree.last (tree.with_item e tree.nothing)
managers (tree.piece e comma more) = tree.piece (tree.with_item e tree.nothing) comma (managers more)

managers_yield : (found : Pieces) → pieces_yield (managers found) ≡ pieces_yield found
unfolding managers yield_of
managers_yield tree.none = refl
managers_yield (tree.last e) = append-nil (yield_of e)
managers_yield (tree.piece e comma more) =
    ap (λ z. z ++ (comma ∷ pieces_yield (managers more))) (append-nil (yield_of e)) ∙ ap (λ z. yield_of e ++ (comma ∷ z)) (managers_yield more)

managers_height : (found : Pieces) → pieces_height (managers found) ≤ pieces_height found + 1
unfolding managers height
managers_height tree.none = omega arith
managers_height (tree.last e) = omega arith
managers_height (tree.piece e comma more) = omega (arith, managers_height more)

managers_some : (found : Pieces) → has_item found ≡ true → has_item (managers found) ≡ true
unfolding managers
managers_some tree.none some = never some
managers_some (tree.last e) some = refl
managers_some (tree.piece e comma more) some = refl

-- an item without a star is an expression
pub unstarred : (e : Tree) → is_item e ≡ true → not (is_starred e) ≡ true → is_at 1 e ≡ true
unstarred (tree.starred star x) item plain = never plain
unstarred e item plain = item

managers_well : (found : Pieces) → ArePieces list_context.Items found → has_no_star found ≡ true → ArePieces list_context.WithItems (managers found)
unfolding managers IsWell
managers_well tree.none well plain = refl
managers_well (tree.last e) well plain = (refl, (precedence_at 1 e (unstarred e well.0 plain), well.1, tt), refl)
managers_well (tree.piece e comma more) well plain = (
  refl,
  (precedence_at 1 e (unstarred e well.0 (both_first (not (is_starred e)) (has_no_star more) plain)), well.1, tt),
  well.2,
  managers_well more well.3 (both_second (not (is_starred e)) (has_no_star more) plain),
)

-- an expression has no star
pub plain_star : (e : Tree) → is_at 1 e ≡ true → not (is_starred e) ≡ true
plain_star (tree.starred star x) high = never high
plain_star _ high = refl

second_of : (x y : Bool) → (x || y) ≡ true → not x ≡ true → y ≡ true
second_of true y either other = never other
second_of false y either other = either

-- what is read is not refused
clash : {A G : Type 0} {o : Parsed A} {p : A × List Token} → o ≡ Some p → o ≡ None → G
clash {p = p} is none = refused p (sym none ∙ is)

module _ (S : ℕ → Parser Tree) (full : Full S max_height) where
  pub listed_managers : (word_async : Option Token) (t opening : Token) (items : Pieces) (closing : Token) (ts rest : List Token)
      → Listed S list_context.WithItems ts items (closing ∷ rest) → opening.kind ≡ kind.Open bracket.Round → closing.kind ≡ kind.Close bracket.Round
      → is_colon (kind_of rest) ≡ true
      → grammar.with_enclosed S word_async t (opening ∷ ts) ≡ Some (line.with_enclosed word_async t opening items closing, rest)
  unfolding grammar.with_enclosed grammar.with_items
  listed_managers word_async t opening items closing ts rest all opens shut colon =
      step (expect (kind.Open bracket.Round) (opening ∷ ts)) _ opening ts _ (expected (kind.Open bracket.Round) opening ts opens)
      (step (grammar.with_items S ts) _ items (closing ∷ rest) _
      (step (rule.item S list_context.WithItems ts) _ all.first all.later _ all.starts all.lists)
      (step (expect (kind.Close bracket.Round) (closing ∷ rest)) _ closing rest _ (expected (kind.Close bracket.Round) closing rest shut)
      (checked_holds (is_colon (kind_of rest)) (line.with_enclosed word_async t opening items closing) rest colon)))

  -- items in parentheses are read as those of a header, where a colon follows
  managers_full : (word_async : Option Token) (t opening : Token) (found : Pieces) (closing : Token) (rest : List Token) → has_item found ≡ true
      → ArePieces list_context.Items found → has_no_star found ≡ true → pieces_height found + 1 ≤ max_height
      → opening.kind ≡ kind.Open bracket.Round → closing.kind ≡ kind.Close bracket.Round → is_colon (kind_of rest) ≡ true
      → grammar.with_enclosed S word_async t (opening ∷ (pieces_yield found ++ (closing ∷ rest)))
      ≡ Some (line.with_enclosed word_async t opening (managers found) closing, rest)
  managers_full word_async t opening found closing rest some well plain small opens shut colon =
      ap (λ z. grammar.with_enclosed S word_async t (opening ∷ (z ++ (closing ∷ rest)))) (sym (managers_yield found))
      ∙ listed_managers word_async t opening (managers found) closing (pieces_yield (managers found) ++ (closing ∷ rest)) rest
      (parse_items_from_full S max_height full (omega arith) list_context.WithItems (managers found) (closing ∷ rest) (managers_some found some)
      (managers_well found well plain) (omega (arith, managers_height found, small)) (ap (ends list_context.WithItems) shut)) opens shut colon

  -- so the only item of a header is not one in such parentheses
  never_enclosed : {G : Type 0} (word_async : Option Token) (t : Token) (e : Tree) (ts rest : List Token) → IsWell e → height e ≤ max_height
      → ts ≡ yield_of e ++ rest → is_colon (kind_of rest) ≡ true → grammar.with_enclosed S word_async t ts ≡ None → is_enclosed_item e ≡ true → G
  unfolding IsWell yield_of height
  never_enclosed word_async t (tree.with_item (tree.parenthesized opening x closing) tree.nothing) ts rest well small text colon none is =
      let high : is_at 1 x ≡ true = second_of (is_yield x) (is_at 1 x) well.1.2 is in
      clash
      (managers_full word_async t opening (tree.last x) closing rest refl (one_item x high, well.1.3, refl) (plain_star x high)
      (omega (arith, small)) well.1.0 well.1.1 colon)
      (ap (grammar.with_enclosed S word_async t)
      (sym (text ∙ ap (opening ∷◌) (ap (λ z. z ++ rest) (append-nil (yield_of x ++ closing ∷ [])) ∙ append_assoc (yield_of x) (closing ∷ []) rest))) ∙ none)
  never_enclosed word_async t (tree.with_item (tree.display display_kind.Tuple opening found closing) tree.nothing) ts rest well small text colon none is =
      clash
      (managers_full word_async t opening found closing rest (both_first (has_item found) (has_no_star found) is) well.1.3
      (both_second (has_item found) (has_no_star found) is)
      (omega (arith, small)) well.1.0 well.1.1 colon)
      (ap (grammar.with_enclosed S word_async t)
      (sym (text ∙ ap (opening ∷◌) (ap (λ z. z ++ rest) (append-nil (pieces_yield found ++ closing ∷ [])) ∙ append_assoc (pieces_yield found) (closing ∷ []) rest)))
      ∙ none)
  never_enclosed word_async t _ ts rest well small text colon none is = never is

-- the only item of a header is not in parentheses that belong to the header
open_ones : (S : ℕ → Parser Tree) → Full S max_height → (word_async : Option Token) (t : Token) (items : Pieces) (ts rest : List Token)
    → ArePart list_context.WithItems ts items rest → is_colon (kind_of rest) ≡ true → grammar.with_enclosed S word_async t ts ≡ None
    → is_open_with items ≡ true
unfolding IsWell yield_of height
open_ones S full word_async t (tree.last e) ts rest part colon none = by_test (is_enclosed_item e) refl
  where
    by_test : (b : Bool) → is_enclosed_item e ≡ b → not b ≡ true
    by_test true is = never_enclosed S full word_async t e ts rest part.pieces.1 part.low part.text colon none is
    by_test false is = refl
open_ones S full word_async t _ ts rest part colon none = refl

-- parentheses belong to the header of a `with` where they can
pub with_opens : Opens expression
unfolding grammar.with_items
with_opens =
    record {
      opens = λ word_async t ts items rest none is colon.
          after_item expression expression_sound list_context.WithItems _ ts (items, rest) is (λ x ts1 fitting part parse_items_from.
          let all = parse_items_from_sound expression expression_sound list_context.WithItems x ts ts1 items rest fitting part parse_items_from in
          open_ones expression expression_full word_async t items ts rest
          (record { pieces = all.pieces; text = all.text; low = all.low }) colon none);
    }
