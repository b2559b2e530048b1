-- Displays, comprehensions, parentheses, yields, calls and subscripts are read back.
use Rattle.std.proofs.Common.{◌≡◌, refl, ap, sym, ◌∙◌, subst, ℕ, suc, ◌≤◌, Bool, true, false, if◌then◌else◌, List, ◌∷◌, ◌++◌, Option, Some, append_assoc, arith}
use Rattle.pyc_token.specs.declared.tokens.Bracket.{Bracket}
use Rattle.pyc_token.specs.declared.tokens.Bracket.TheVariants as bracket
use Rattle.pyc_token.specs.declared.tokens.Keyword.TheVariants as word
use Rattle.pyc_token.specs.declared.tokens.Kind.{Kind}
use Rattle.pyc_token.specs.declared.tokens.Kind.TheVariants as kind
use Rattle.pyc_token.specs.declared.tokens.Token.{Token}
use Rattle.pyc_tree.specs.declared.list_context.ListContext.{ListContext}
use Rattle.pyc_tree.specs.declared.list_context.ListContext.TheVariants as list_context
use Rattle.pyc_tree.specs.declared.display_kind.DisplayKind.{DisplayKind}
use Rattle.pyc_tree.specs.declared.display_kind.DisplayKind.TheVariants as display_kind
use Rattle.pyc_tree.specs.Tree.{Tree, Pieces, Comprehensions}
use Rattle.pyc_tree.specs.Tree as tree
use Rattle.pyc_tree.specs.Kinds.{kind_of, same_kind, begins_comprehension, begins_expression}
use Rattle.pyc_tree.specs.Precedence.{precedence}
use Rattle.pyc_tree.specs.Yield.{yield_of, pieces_yield, comprehensions_yield}
use Rattle.pyc_tree.specs.Height.{height, max_height}
use Rattle.pyc_tree.specs.ListContexts.{is_at, fits, begins, next_context, may_end, is_item, is_entry, context_in, display_kind_of, empty_display_kind}
use Rattle.pyc_tree.specs.Well.{IsWell, ArePieces, AreArguments, AreComprehensions, has_item, has_for, is_yield, is_element, bracket_of}
use Rattle.pyc_tree.specs.Parser.{Parsed, Parser, take_one, expect, made}
use Rattle.pyc_tree.specs.Items as rule
use Rattle.pyc_tree.specs.Expressions as grammar
use Rattle.pyc_line.proofs.Sound.{first_of}
use Rattle.pyc_line.proofs.SoundTables.{never}
use Rattle.pyc_line.proofs.SoundTools.{refused, either_first, either_second}
use Rattle.pyc_line.proofs.CompleteTools.{step, yes, no, same_as, apart, expected, made_low}
use Rattle.pyc_line.proofs.CompleteTables.{ends, is_close, comprehension_follows, either}
use Rattle.pyc_line.proofs.Complete.{Full, opens, begins_item}
use Rattle.pyc_line.proofs.CompleteItems.{item_full}
use Rattle.pyc_line.proofs.CompleteLists.{Listed, parse_items_from_full, yield_expression_full, comprehensions_full, comprehensions_begin, one_item}

-- ---- between curly brackets

item_no_entry : (e : Tree) → is_item e ≡ true → is_entry e ≡ false
item_no_entry (tree.entry _ _ _) fit = never fit
item_no_entry (tree.mapping _ _) fit = never fit
item_no_entry _ fit = refl

braces_set : (found : Pieces) → ArePieces list_context.Set found → ArePieces list_context.Braces found
unfolding IsWell
braces_set tree.none h = refl
braces_set (tree.last x) h = (
  either_first (is_item x) (is_entry x) h.0,
  h.1,
  ap (λ (b : Bool). may_end (if b then list_context.Entries else list_context.Set)) (item_no_entry x h.0),
)
braces_set (tree.piece x comma more) h = (
  either_first (is_item x) (is_entry x) h.0,
  h.1,
  h.2,
  subst (λ (b : Bool). ArePieces (if b then list_context.Entries else list_context.Set) more) (sym (item_no_entry x h.0)) h.3,
)

braces_dict : (found : Pieces) → ArePieces list_context.Entries found → ArePieces list_context.Braces found
unfolding IsWell
braces_dict tree.none h = refl
braces_dict (tree.last x) h =
    (either_second (is_item x) (is_entry x) h.0, h.1, ap (λ (b : Bool). may_end (if b then list_context.Entries else list_context.Set)) h.0)
braces_dict (tree.piece x comma more) h = (
  either_second (is_item x) (is_entry x) h.0,
  h.1,
  h.2,
  subst (λ (b : Bool). ArePieces (if b then list_context.Entries else list_context.Set) more) (sym h.0) h.3,
)

same_tree : (x e : Tree) → ◌≡◌ {A = Option Tree} (Some x) (Some e) → x ≡ e
same_tree x e h = cc

-- what the first item says of the brackets
display_kind_by : (b : Bool) (e : Tree) → is_entry e ≡ b → display_kind_of bracket.Curly e ≡ (if b then display_kind.Dict else display_kind.Set)
display_kind_by b e is = ap (λ (c : Bool). if c then display_kind.Dict else display_kind.Set) is

first_set : (found : Pieces) (first : Tree) → first_of found ≡ Some first → ArePieces list_context.Set found → is_entry first ≡ false
unfolding IsWell
first_set tree.none first is h = refused first is
first_set (tree.last x) first is h = ap is_entry (sym (same_tree x first is)) ∙ item_no_entry x h.0
first_set (tree.piece x comma more) first is h = ap is_entry (sym (same_tree x first is)) ∙ item_no_entry x h.0

first_dict : (found : Pieces) (first : Tree) → first_of found ≡ Some first → ArePieces list_context.Entries found → is_entry first ≡ true
unfolding IsWell
first_dict tree.none first is h = refused first is
first_dict (tree.last x) first is h = ap is_entry (sym (same_tree x first is)) ∙ h.0
first_dict (tree.piece x comma more) first is h = ap is_entry (sym (same_tree x first is)) ∙ h.0

-- ---- arguments

is_generated : Pieces → Bool
is_generated (tree.last (tree.argument (tree.generator _ _))) = true
is_generated _ = false

may_end_argument : (x : Tree) → may_end (next_context list_context.Arguments x) ≡ true
may_end_argument (tree.double_starred _ _) = refl
may_end_argument (tree.keyword _ _ _) = refl
may_end_argument _ = refl

argument_pieces : (found : Pieces) → AreArguments found → is_generated found ≡ false → ArePieces list_context.Arguments found
unfolding IsWell is_generated
argument_pieces tree.none h other = refl
argument_pieces (tree.last (tree.argument (tree.generator e comprehensions))) h other = never (sym other)
argument_pieces (tree.last x) h other = (h.0, h.1, may_end_argument x)
argument_pieces (tree.piece x comma more) h other = h

module _ (S : ℕ → Parser Tree) (d : ℕ) (full : Full S d) (low : suc d ≤ max_height) where
  low_items : d ≤ max_height
  low_items = omega (arith, low)

  -- ---- parentheses and brackets

  -- what stands between brackets, by their form
  abbrev pub bracketed : Bracket → Parser Tree
  bracketed bracket.Round = grammar.parentheses S
  bracketed sign = grammar.brackets S sign

  parentheses_none : (opening closing : Token) (rest : List Token) → closing.kind ≡ kind.Close bracket.Round
      → height (tree.display display_kind.Tuple opening tree.none closing) ≤ suc d
      → grammar.parentheses S (opening ∷ closing ∷ rest) ≡ Some (tree.display display_kind.Tuple opening tree.none closing, rest)
  unfolding grammar.parentheses rule.parse_empty_brackets take_one
  parentheses_none opening closing rest is small =
      yes _ _ (same_kind closing.kind (kind.Close bracket.Round)) (closing ∷ rest) _ (same_as closing.kind (kind.Close bracket.Round) is)
      (made_low (tree.display display_kind.Tuple opening tree.none closing) rest (omega (arith, small, low)))

  brackets_none : (sign : Bracket) (opening closing : Token) (rest : List Token) → closing.kind ≡ kind.Close sign
      → height (tree.display (empty_display_kind sign) opening tree.none closing) ≤ suc d
      → grammar.brackets S sign (opening ∷ closing ∷ rest) ≡ Some (tree.display (empty_display_kind sign) opening tree.none closing, rest)
  unfolding grammar.brackets rule.parse_empty_brackets take_one
  brackets_none sign opening closing rest is small =
      yes _ _ (same_kind closing.kind (kind.Close sign)) (closing ∷ rest) _ (same_as closing.kind (kind.Close sign) is)
      (made_low (tree.display (empty_display_kind sign) opening tree.none closing) rest (omega (arith, small, low)))

  pub parentheses_filled : (opening : Token) (ts : List Token) (r : Parsed Tree) → begins list_context.Items (kind_of ts) ≡ true
      → rule.parse_filled_brackets S bracket.Round opening ts ≡ r → grammar.parentheses S (opening ∷ ts) ≡ r
  unfolding grammar.parentheses take_one
  parentheses_filled opening ts r begun next =
      no _ _ (same_kind (kind_of ts) (kind.Close bracket.Round)) ts r (apart (begins list_context.Items) (kind_of ts) (kind.Close bracket.Round) begun refl)
      (no _ _ (same_kind (kind_of ts) (kind.Keyword word.Yield)) ts r (apart (begins list_context.Items) (kind_of ts) (kind.Keyword word.Yield) begun refl) next)

  never_shut : (sign : Bracket) → begins (context_in sign) (kind.Close sign) ≡ false
  never_shut bracket.Round = refl
  never_shut bracket.Square = refl
  never_shut bracket.Curly = refl

  brackets_filled : (sign : Bracket) (opening : Token) (ts : List Token) (r : Parsed Tree) → begins (context_in sign) (kind_of ts) ≡ true
      → rule.parse_filled_brackets S sign opening ts ≡ r → grammar.brackets S sign (opening ∷ ts) ≡ r
  unfolding grammar.brackets take_one
  brackets_filled sign opening ts r begun next =
      no _ _ (same_kind (kind_of ts) (kind.Close sign)) ts r (apart (begins (context_in sign)) (kind_of ts) (kind.Close sign) begun (never_shut sign)) next

  bracketed_filled : (sign : Bracket) (opening : Token) (ts : List Token) (r : Parsed Tree) → begins (context_in sign) (kind_of ts) ≡ true
      → rule.parse_filled_brackets S sign opening ts ≡ r → bracketed sign (opening ∷ ts) ≡ r
  bracketed_filled bracket.Round opening ts r begun next = parentheses_filled opening ts r begun next
  bracketed_filled bracket.Square opening ts r begun next = brackets_filled bracket.Square opening ts r begun next
  bracketed_filled bracket.Curly opening ts r begun next = brackets_filled bracket.Curly opening ts r begun next

  -- ---- displays

  filled_listed : (sign : Bracket) (opening : Token) (found : Pieces) (closing : Token) (ts rest : List Token) (r : Parsed Tree)
      → (all : Listed S (context_in sign) ts found (closing ∷ rest)) → closing.kind ≡ kind.Close sign
      → rule.enclosed S sign all.first opening found closing rest ≡ r → rule.parse_filled_brackets S sign opening ts ≡ r
  unfolding rule.parse_filled_brackets rule.parse_display
  filled_listed sign opening found closing ts rest r all is next =
      step (rule.item S (context_in sign) ts) _ all.first all.later r all.starts
      (no _ _ (begins_comprehension (kind_of all.later)) all.later r all.no_comprehension
      (step (rule.parse_items_from S (context_in sign) all.first all.later) _ found (closing ∷ rest) r all.lists
      (step (expect (kind.Close sign) (closing ∷ rest)) _ closing rest r (expected (kind.Close sign) closing rest is) next)))

  close_ends : (here : ListContext) (sign : Bracket) (k : Kind) → k ≡ kind.Close sign → ends here k ≡ true
  close_ends here sign k is = ap (ends here) is

  -- items that make a display
  items_full : (sign : Bracket) (shown : DisplayKind) (opening : Token) (found : Pieces) (closing : Token) (rest : List Token) → has_item found ≡ true
      → ArePieces (context_in sign) found → closing.kind ≡ kind.Close sign → height (tree.display shown opening found closing) ≤ suc d
      → ((first : Tree) → first_of found ≡ Some first
      → rule.enclosed S sign first opening found closing rest ≡ made (tree.display shown opening found closing) rest)
      → bracketed sign (opening ∷ (pieces_yield found ++ (closing ∷ rest))) ≡ Some (tree.display shown opening found closing, rest)
  unfolding height
  items_full sign shown opening found closing rest some well is small encloses =
      let all = parse_items_from_full S d full low_items (context_in sign) found (closing ∷ rest) some well (omega (arith, small)) (close_ends (context_in sign) sign closing.kind is) in
      bracketed_filled sign opening (pieces_yield found ++ (closing ∷ rest)) _ all.begun
      (filled_listed sign opening found closing (pieces_yield found ++ (closing ∷ rest)) rest _ all is
      (encloses all.first all.same ∙ made_low (tree.display shown opening found closing) rest (omega (arith, small, low))))

  set_full : (opening : Token) (found : Pieces) (closing : Token) (rest : List Token) → has_item found ≡ true
      → ArePieces list_context.Set found → closing.kind ≡ kind.Close bracket.Curly → height (tree.display display_kind.Set opening found closing) ≤ suc d
      → bracketed bracket.Curly (opening ∷ (pieces_yield found ++ (closing ∷ rest))) ≡ Some (tree.display display_kind.Set opening found closing, rest)
  set_full opening found closing rest some well is small =
      items_full bracket.Curly display_kind.Set opening found closing rest some (braces_set found well) is small (λ first same.
      ap (λ s. made (tree.display s opening found closing) rest) (display_kind_by false first (first_set found first same well)))

  dict_full : (opening : Token) (found : Pieces) (closing : Token) (rest : List Token) → has_item found ≡ true
      → ArePieces list_context.Entries found → closing.kind ≡ kind.Close bracket.Curly → height (tree.display display_kind.Dict opening found closing) ≤ suc d
      → bracketed bracket.Curly (opening ∷ (pieces_yield found ++ (closing ∷ rest))) ≡ Some (tree.display display_kind.Dict opening found closing, rest)
  dict_full opening found closing rest some well is small =
      items_full bracket.Curly display_kind.Dict opening found closing rest some (braces_dict found well) is small (λ first same.
      ap (λ s. made (tree.display s opening found closing) rest) (display_kind_by true first (first_dict found first same well)))

  pub display_full : (shown : DisplayKind) (opening : Token) (found : Pieces) (closing : Token) (rest : List Token)
      → IsWell (tree.display shown opening found closing)
      → height (tree.display shown opening found closing) ≤ suc d
      → bracketed (bracket_of shown) (opening ∷ (pieces_yield found ++ (closing ∷ rest))) ≡ Some (tree.display shown opening found closing, rest)
  unfolding IsWell yield_of
  display_full display_kind.Tuple opening tree.none closing rest well small = parentheses_none opening closing rest well.1 small
  display_full display_kind.Tuple opening (tree.last x) closing rest well small = never well.2
  display_full display_kind.Tuple opening (tree.piece x comma more) closing rest well small =
      items_full bracket.Round display_kind.Tuple opening (tree.piece x comma more) closing rest refl well.3 well.1 small (λ first same. refl)
  display_full display_kind.List opening tree.none closing rest well small = brackets_none bracket.Square opening closing rest well.1 small
  display_full display_kind.List opening found closing rest well small =
      items_full bracket.Square display_kind.List opening found closing rest refl well.3 well.1 small (λ first same. refl)
  display_full display_kind.Set opening tree.none closing rest well small = never well.2
  display_full display_kind.Set opening found closing rest well small = set_full opening found closing rest refl well.3 well.1 small
  display_full display_kind.Dict opening tree.none closing rest well small = brackets_none bracket.Curly opening closing rest well.1 small
  display_full display_kind.Dict opening found closing rest well small = dict_full opening found closing rest refl well.3 well.1 small

  -- ---- parentheses round one form

  yield_begins : (e : Tree) (rest : List Token) → is_yield e ≡ true → IsWell e → kind_of (yield_of e ++ rest) ≡ kind.Keyword word.Yield
  unfolding IsWell yield_of
  yield_begins (tree.yield t value) rest is well = well.0
  yield_begins (tree.yield_from t from x) rest is well = well.0
  yield_begins _ rest is well = never is

  pub parenthesized_full : (opening : Token) (e : Tree) (closing : Token) (rest : List Token) → IsWell (tree.parenthesized opening e closing)
      → height (tree.parenthesized opening e closing) ≤ suc d
      → grammar.parentheses S (opening ∷ (yield_of e ++ (closing ∷ rest))) ≡ Some (tree.parenthesized opening e closing, rest)
  unfolding grammar.parentheses rule.yield_enclosed take_one same_kind IsWell yield_of height
  parenthesized_full opening e closing rest well small =
      either (is_yield e) (is_at 1 e) well.2
      (λ yields.
      let begun : kind_of (yield_of e ++ (closing ∷ rest)) ≡ kind.Keyword word.Yield = yield_begins e (closing ∷ rest) yields well.3 in
      no _ _ (same_kind (kind_of (yield_of e ++ (closing ∷ rest))) (kind.Close bracket.Round)) (yield_of e ++ (closing ∷ rest)) _
      (ap (λ k. same_kind k (kind.Close bracket.Round)) begun)
      (yes _ _ (same_kind (kind_of (yield_of e ++ (closing ∷ rest))) (kind.Keyword word.Yield)) (yield_of e ++ (closing ∷ rest)) _
      (same_as _ (kind.Keyword word.Yield) begun)
      (step (rule.yield_expression S (yield_of e ++ (closing ∷ rest))) _ e (closing ∷ rest) _
      (yield_expression_full S d full low_items e (closing ∷ rest) yields well.3 (omega (arith, small)) (close_ends list_context.Items bracket.Round closing.kind well.1))
      (step (expect (kind.Close bracket.Round) (closing ∷ rest)) _ closing rest _ (expected (kind.Close bracket.Round) closing rest well.1)
      (made_low (tree.parenthesized opening e closing) rest (omega (arith, small, low)))))))
      (λ high.
      let all = parse_items_from_full S d full low_items list_context.Items (tree.last e) (closing ∷ rest) refl (one_item e high, well.3, refl) (omega (arith, small))
      (close_ends list_context.Items bracket.Round closing.kind well.1) in
      parentheses_filled opening (yield_of e ++ (closing ∷ rest)) _ all.begun
      (filled_listed bracket.Round opening (tree.last e) closing (yield_of e ++ (closing ∷ rest)) rest _ all well.1
      (yes _ _ (is_at 1 e) rest _ high (made_low (tree.parenthesized opening e closing) rest (omega (arith, small, low))))))

  -- ---- comprehensions

  filled_comprehensions : (sign : Bracket) (opening : Token) (e : Tree) (found : Comprehensions) (closing : Token) (rest : List Token) → fits (context_in sign) e ≡ true
      → IsWell e → is_element (display_kind_of sign e) e ≡ true → has_for found ≡ true → AreComprehensions found → closing.kind ≡ kind.Close sign
      → height (tree.comprehension_display (display_kind_of sign e) opening e found closing) ≤ suc d
      → rule.parse_filled_brackets S sign opening (yield_of e ++ (comprehensions_yield found ++ (closing ∷ rest)))
      ≡ Some (tree.comprehension_display (display_kind_of sign e) opening e found closing, rest)
  unfolding rule.parse_filled_brackets rule.parse_comprehension_display height
  filled_comprehensions sign opening e found closing rest fit well element headed are is small =
      let begun : begins_comprehension (kind_of (comprehensions_yield found ++ (closing ∷ rest))) ≡ true = comprehensions_begin found (closing ∷ rest) are headed in
      step (rule.item S (context_in sign) (yield_of e ++ (comprehensions_yield found ++ (closing ∷ rest)))) _ e (comprehensions_yield found ++ (closing ∷ rest)) _
      (item_full S d full low_items (context_in sign) e (comprehensions_yield found ++ (closing ∷ rest)) fit well (omega (arith, small))
      (comprehension_follows (context_in sign) _ begun))
      (yes _ _ (begins_comprehension (kind_of (comprehensions_yield found ++ (closing ∷ rest)))) (comprehensions_yield found ++ (closing ∷ rest)) _ begun
      (step (rule.comprehensions S (comprehensions_yield found ++ (closing ∷ rest))) _ found (closing ∷ rest) _
      (comprehensions_full S d full low_items found closing rest are (omega (arith, small)) (ap is_close is))
      (step (expect (kind.Close sign) (closing ∷ rest)) _ closing rest _ (expected (kind.Close sign) closing rest is)
      (yes _ _ (is_element (display_kind_of sign e) e) rest _ element
      (made_low (tree.comprehension_display (display_kind_of sign e) opening e found closing) rest (omega (arith, small, low)))))))

  -- a comprehension of the sort that its element makes
  sorted_full : (sign : Bracket) (shown : DisplayKind) (opening : Token) (e : Tree) (found : Comprehensions) (closing : Token) (rest : List Token)
      → display_kind_of sign e ≡ shown → fits (context_in sign) e ≡ true
      → IsWell e → is_element shown e ≡ true → has_for found ≡ true → AreComprehensions found → closing.kind ≡ kind.Close sign
      → height (tree.comprehension_display shown opening e found closing) ≤ suc d
      → bracketed sign (opening ∷ (yield_of e ++ (comprehensions_yield found ++ (closing ∷ rest)))) ≡ Some (tree.comprehension_display shown opening e found closing, rest)
  unfolding height
  sorted_full sign shown opening e found closing rest same fit well element headed are is small =
      subst (λ s. bracketed sign (opening ∷ (yield_of e ++ (comprehensions_yield found ++ (closing ∷ rest)))) ≡ Some (tree.comprehension_display s opening e found closing, rest))
      same
      (bracketed_filled sign opening (yield_of e ++ (comprehensions_yield found ++ (closing ∷ rest))) _
      (begins_item (context_in sign) e (comprehensions_yield found ++ (closing ∷ rest)) fit well)
      (filled_comprehensions sign opening e found closing rest fit well (ap (λ s. is_element s e) same ∙ element) headed are is small))

  element_entry : (e : Tree) → is_element display_kind.Dict e ≡ true → is_entry e ≡ true
  element_entry (tree.entry _ _ _) h = refl
  element_entry _ h = never h

  pub comprehension_full : (shown : DisplayKind) (opening : Token) (e : Tree) (found : Comprehensions) (closing : Token) (rest : List Token)
      → IsWell (tree.comprehension_display shown opening e found closing)
      → height (tree.comprehension_display shown opening e found closing) ≤ suc d
      → bracketed (bracket_of shown) (opening ∷ (yield_of e ++ (comprehensions_yield found ++ (closing ∷ rest))))
      ≡ Some (tree.comprehension_display shown opening e found closing, rest)
  unfolding IsWell
  comprehension_full display_kind.Tuple opening e found closing rest well small =
      sorted_full bracket.Round display_kind.Tuple opening e found closing rest refl (one_item e well.2) well.3 well.2 well.4 well.5 well.1 small
  comprehension_full display_kind.List opening e found closing rest well small =
      sorted_full bracket.Square display_kind.List opening e found closing rest refl (one_item e well.2) well.3 well.2 well.4 well.5 well.1 small
  comprehension_full display_kind.Set opening e found closing rest well small =
      let item : is_item e ≡ true = one_item e well.2 in
      sorted_full bracket.Curly display_kind.Set opening e found closing rest (display_kind_by false e (item_no_entry e item))
      (either_first (is_item e) (is_entry e) item) well.3 well.2 well.4 well.5 well.1 small
  comprehension_full display_kind.Dict opening e found closing rest well small =
      let entry : is_entry e ≡ true = element_entry e well.2 in
      sorted_full bracket.Curly display_kind.Dict opening e found closing rest (display_kind_by true e entry)
      (either_second (is_item e) (is_entry e) entry) well.3 well.2 well.4 well.5 well.1 small

  -- ---- calls and subscripts

  call_items : (callee : Tree) (opening : Token) (found : Pieces) (closing : Token) (ts rest : List Token)
      → Listed S list_context.Arguments ts found (closing ∷ rest) → closing.kind ≡ kind.Close bracket.Round → height (tree.call callee opening found closing) ≤ suc d
      → rule.parse_call S callee (opening ∷ ts) ≡ Some (tree.call callee opening found closing, rest)
  unfolding rule.parse_call rule.parse_filled_call rule.parse_call_arguments take_one
  call_items callee opening found closing ts rest all is small =
      no _ _ (same_kind (kind_of ts) (kind.Close bracket.Round)) ts _ (apart (begins list_context.Arguments) (kind_of ts) (kind.Close bracket.Round) all.begun refl)
      (step (rule.item S list_context.Arguments ts) _ all.first all.later _ all.starts
      (no _ _ (begins_comprehension (kind_of all.later)) all.later _ all.no_comprehension
      (step (rule.parse_items_from S list_context.Arguments all.first all.later) _ found (closing ∷ rest) _ all.lists
      (step (expect (kind.Close bracket.Round) (closing ∷ rest)) _ closing rest _ (expected (kind.Close bracket.Round) closing rest is)
      (made_low (tree.call callee opening found closing) rest (omega (arith, small, low)))))))

  call_listed : (callee : Tree) (opening : Token) (found : Pieces) (closing : Token) (rest : List Token) → has_item found ≡ true
      → ArePieces list_context.Arguments found → closing.kind ≡ kind.Close bracket.Round → height (tree.call callee opening found closing) ≤ suc d
      → rule.parse_call S callee (opening ∷ (pieces_yield found ++ (closing ∷ rest))) ≡ Some (tree.call callee opening found closing, rest)
  unfolding height
  call_listed callee opening found closing rest some well is small =
      call_items callee opening found closing (pieces_yield found ++ (closing ∷ rest)) rest
      (parse_items_from_full S d full low_items list_context.Arguments found (closing ∷ rest) some well (omega (arith, small))
      (close_ends list_context.Arguments bracket.Round closing.kind is)) is small

  call_generator : (callee : Tree) (opening : Token) (e : Tree) (found : Comprehensions) (closing : Token) (rest : List Token)
      → 1 ≤ precedence e → IsWell e → has_for found ≡ true → AreComprehensions found → closing.kind ≡ kind.Close bracket.Round
      → height (tree.call callee opening (tree.last (tree.argument (tree.generator e found))) closing) ≤ suc d
      → rule.parse_call S callee (opening ∷ (yield_of e ++ (comprehensions_yield found ++ (closing ∷ rest))))
      ≡ Some (tree.call callee opening (tree.last (tree.argument (tree.generator e found))) closing, rest)
  unfolding rule.parse_call rule.parse_filled_call take_one IsWell yield_of height
  call_generator callee opening e found closing rest high well headed are is small =
      let begun : begins_comprehension (kind_of (comprehensions_yield found ++ (closing ∷ rest))) ≡ true = comprehensions_begin found (closing ∷ rest) are headed in
      no _ _ (same_kind (kind_of (yield_of e ++ (comprehensions_yield found ++ (closing ∷ rest)))) (kind.Close bracket.Round))
      (yield_of e ++ (comprehensions_yield found ++ (closing ∷ rest))) _
      (apart begins_expression _ (kind.Close bracket.Round) (opens e _ well high) refl)
      (step (rule.item S list_context.Arguments (yield_of e ++ (comprehensions_yield found ++ (closing ∷ rest)))) _ (tree.argument e) (comprehensions_yield found ++ (closing ∷ rest)) _
      (item_full S d full low_items list_context.Arguments (tree.argument e) (comprehensions_yield found ++ (closing ∷ rest)) refl (high, well) (omega (arith, small))
      (comprehension_follows list_context.Arguments _ begun))
      (yes _ _ (begins_comprehension (kind_of (comprehensions_yield found ++ (closing ∷ rest)))) (comprehensions_yield found ++ (closing ∷ rest)) _ begun
      (step (rule.comprehensions S (comprehensions_yield found ++ (closing ∷ rest))) _ found (closing ∷ rest) _
      (comprehensions_full S d full low_items found closing rest are (omega (arith, small)) (ap is_close is))
      (step (expect (kind.Close bracket.Round) (closing ∷ rest)) _ closing rest _ (expected (kind.Close bracket.Round) closing rest is)
      (step (made (tree.generator e found) rest) _ (tree.generator e found) rest _ (made_low (tree.generator e found) rest (omega (arith, small, low)))
      (step (made (tree.argument (tree.generator e found)) rest) _ (tree.argument (tree.generator e found)) rest _
      (made_low (tree.argument (tree.generator e found)) rest (omega (arith, small, low)))
      (made_low (tree.call callee opening (tree.last (tree.argument (tree.generator e found))) closing) rest (omega (arith, small, low)))))))))

  parse_empty_call : (callee : Tree) (opening closing : Token) (rest : List Token) → closing.kind ≡ kind.Close bracket.Round
      → height (tree.call callee opening tree.none closing) ≤ suc d
      → rule.parse_call S callee (opening ∷ closing ∷ rest) ≡ Some (tree.call callee opening tree.none closing, rest)
  unfolding rule.parse_call rule.parse_empty_call take_one
  parse_empty_call callee opening closing rest is small =
      yes _ _ (same_kind closing.kind (kind.Close bracket.Round)) (closing ∷ rest) _ (same_as closing.kind (kind.Close bracket.Round) is)
      (made_low (tree.call callee opening tree.none closing) rest (omega (arith, small, low)))

  pub parse_call_full : (callee : Tree) (opening : Token) (found : Pieces) (closing : Token) (rest : List Token)
      → AreArguments found → closing.kind ≡ kind.Close bracket.Round → height (tree.call callee opening found closing) ≤ suc d
      → rule.parse_call S callee (opening ∷ (pieces_yield found ++ (closing ∷ rest))) ≡ Some (tree.call callee opening found closing, rest)
  unfolding IsWell yield_of is_generated
  parse_call_full callee opening tree.none closing rest are is small = parse_empty_call callee opening closing rest is small
  parse_call_full callee opening (tree.last (tree.argument (tree.generator e found))) closing rest are is small =
      rw (append_assoc (yield_of e) (comprehensions_yield found) (closing ∷ rest))
      (call_generator callee opening e found closing rest are.0 are.1 are.2 are.3 is small)
  parse_call_full callee opening found closing rest are is small =
      call_listed callee opening found closing rest refl (argument_pieces found are refl) is small

  subscript_items : (e : Tree) (opening : Token) (found : Pieces) (closing : Token) (ts rest : List Token)
      → Listed S list_context.Subscript ts found (closing ∷ rest) → closing.kind ≡ kind.Close bracket.Square → height (tree.subscript e opening found closing) ≤ suc d
      → rule.parse_subscript S e (opening ∷ ts) ≡ Some (tree.subscript e opening found closing, rest)
  unfolding rule.parse_subscript take_one
  subscript_items e opening found closing ts rest all is small =
      step (rule.item S list_context.Subscript ts) _ all.first all.later _ all.starts
      (step (rule.parse_items_from S list_context.Subscript all.first all.later) _ found (closing ∷ rest) _ all.lists
      (step (expect (kind.Close bracket.Square) (closing ∷ rest)) _ closing rest _ (expected (kind.Close bracket.Square) closing rest is)
      (made_low (tree.subscript e opening found closing) rest (omega (arith, small, low)))))

  pub parse_subscript_full : (e : Tree) (opening : Token) (found : Pieces) (closing : Token) (rest : List Token) → has_item found ≡ true
      → ArePieces list_context.Subscript found → closing.kind ≡ kind.Close bracket.Square → height (tree.subscript e opening found closing) ≤ suc d
      → rule.parse_subscript S e (opening ∷ (pieces_yield found ++ (closing ∷ rest))) ≡ Some (tree.subscript e opening found closing, rest)
  unfolding height
  parse_subscript_full e opening found closing rest some well is small =
      subscript_items e opening found closing (pieces_yield found ++ (closing ∷ rest)) rest
      (parse_items_from_full S d full low_items list_context.Subscript found (closing ∷ rest) some well (omega (arith, small))
      (close_ends list_context.Subscript bracket.Square closing.kind is)) is small
