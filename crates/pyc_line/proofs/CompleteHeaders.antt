-- Each well-formed header is read back from its tokens, where a colon follows.
use Rattle.std.proofs.Common.{◌≡◌, refl, ap, ◌∙◌, ℕ, ◌≤◌, true, List, [], ◌∷◌, ◌++◌, Option, None, Some, append_assoc, arith}
use Rattle.pyc_token.specs.declared.tokens.Bracket.TheVariants as bracket
use Rattle.pyc_token.specs.declared.tokens.Delimiter.TheVariants as delimiter
use Rattle.pyc_token.specs.declared.tokens.Keyword.TheVariants as word
use Rattle.pyc_token.specs.declared.tokens.Kind.{Kind}
use Rattle.pyc_token.specs.declared.tokens.Kind.TheVariants as kind
use Rattle.pyc_token.specs.declared.tokens.Token.{Token}
use Rattle.pyc_tree.specs.declared.list_context.ListContext.TheVariants as list_context
use Rattle.pyc_tree.specs.Tree.{Tree, Pieces, Tail}
use Rattle.pyc_tree.specs.Kinds.{kind_of, same_kind}
use Rattle.pyc_tree.specs.Yield.{yield_of, pieces_yield, tail_yield, optional_token}
use Rattle.pyc_tree.specs.Height.{height, pieces_height, tail_height, max_height}
use Rattle.pyc_tree.specs.ListContexts.{is_colon}
use Rattle.pyc_tree.specs.Well.{IsAsync, ArePieces, has_item}
use Rattle.pyc_tree.specs.WellLines.{is_condition, is_word_header, ends_without_comma, is_open_with, IsAlias, IsHeader}
use Rattle.pyc_tree.specs.Statements.{Alias, alias_yield}
use Rattle.pyc_tree.specs.Lines as line
use Rattle.pyc_tree.specs.Lines.{Header, Line, header_yield, header_height}
use Rattle.pyc_tree.specs.Parser.{Parsed, Parser, take_one, expect, expect_name}
use Rattle.pyc_tree.specs.Items as rule
use Rattle.pyc_tree.specs.SimpleStatements.{alias}
use Rattle.pyc_tree.specs.Headers as grammar
use Rattle.pyc_line.proofs.SoundTables.{never}
use Rattle.pyc_line.proofs.CompleteTools.{step, yes, no, same_as, expected, name_expected, checked_holds}
use Rattle.pyc_line.proofs.CompleteTables.{ends, no_colon}
use Rattle.pyc_line.proofs.Complete.{Full, opens}
use Rattle.pyc_line.proofs.CompleteItems.{Halts, halts_as, after, tail_full}
use Rattle.pyc_line.proofs.CompleteLists.{Listed, parse_items_from_full, optional_items_full, expressions_full, targets_full}
use Rattle.pyc_line.proofs.CompleteNames.{alias_full}
use Rattle.pyc_line.proofs.CompleteWith.{listed_managers}

-- where the items of a `with` have no parentheses of the header, the grammar reads none
pub record Refuses (S : ℕ → Parser Tree) : Type 0 where
  pub none : (word_async : Option Token) (t : Token) (items : Pieces) (rest : List Token) → has_item items ≡ true → is_open_with items ≡ true
      → ArePieces list_context.WithItems items → pieces_height items ≤ max_height → kind_of rest ≡ kind.Delimiter delimiter.Colon
      → grammar.with_enclosed S word_async t (pieces_yield items ++ rest) ≡ None

colon_halts : (k : Kind) → k ≡ kind.Delimiter delimiter.Colon → Halts k
colon_halts k is = halts_as k (kind.Delimiter delimiter.Colon) is refl refl

alias_halts : (found : Option Alias) (rest : List Token) → IsAlias found → kind_of rest ≡ kind.Delimiter delimiter.Colon
    → Halts (kind_of (alias_yield found ++ rest))
alias_halts None rest well stop = colon_halts (kind_of rest) stop
alias_halts (Some a) rest well stop = halts_as a.word.kind (kind.Keyword word.As) well.0 refl refl

module _ (S : ℕ → Parser Tree) (full : Full S max_height) (rule_of_with : Refuses S) where
  low : max_height ≤ max_height
  low = omega arith

  -- ---- a header, by its first token

  by_line : (t : Token) (later : List Token) (q : Kind) (r : Parsed Line) → t.kind ≡ q → grammar.line_by S q (t ∷ later) ≡ r
      → grammar.any_line S (t ∷ later) ≡ r
  unfolding grammar.any_line
  by_line t later q r is next = ap (λ k. grammar.line_by S k (t ∷ later)) is ∙ next

  -- a header that is read, and what follows
  heads : (p : Parser Header) (ts : List Token) (h : Header) (left : List Token) (r : Parsed Line) → p ts ≡ Some (h, left) → grammar.suite S h left ≡ r
      → grammar.headed S p ts ≡ r
  unfolding grammar.headed
  heads p ts h left r is next = step (p ts) _ h left r is next

  -- a header that may stand behind `async`
  led : (p : Option Token → Parser Header) (q : Kind) → grammar.line_by S q ≡ grammar.headed S (p None)
      → ((w : Token) → grammar.async_by S w q ≡ p (Some w))
      → (word_async : Option Token) (t : Token) (later : List Token) (h : Header) (left : List Token) (r : Parsed Line) → IsAsync word_async → t.kind ≡ q
      → p word_async (t ∷ later) ≡ Some (h, left) → grammar.suite S h left ≡ r → grammar.any_line S (optional_token word_async ++ (t ∷ later)) ≡ r
  unfolding grammar.async take_one
  led p q by behind None t later h left r async is reads next =
      by_line t later q r is (ap (λ (l : Parser Line). l (t ∷ later)) by ∙ heads (p None) (t ∷ later) h left r reads next)
  led p q by behind (Some w) t later h left r async is reads next =
      by_line w (t ∷ later) (kind.Keyword word.Async) r async
      (heads (grammar.async S) (w ∷ t ∷ later) h left r
      (ap (λ k. grammar.async_by S w k (t ∷ later)) is ∙ (ap (λ (l : Parser Header). l (t ∷ later)) (behind w) ∙ reads)) next)

  by_condition : (k : Kind) → is_condition k ≡ true → grammar.line_by S k ≡ grammar.headed S (grammar.condition S)
  by_condition (kind.Keyword word.If) is = refl
  by_condition (kind.Keyword word.Elif) is = refl
  by_condition (kind.Keyword word.While) is = refl
  by_condition _ is = never is

  by_word : (k : Kind) → is_word_header k ≡ true → grammar.line_by S k ≡ grammar.headed S grammar.word_header
  by_word (kind.Keyword word.Else) is = refl
  by_word (kind.Keyword word.Try) is = refl
  by_word (kind.Keyword word.Finally) is = refl
  by_word _ is = never is

  -- ---- headers of each form

  condition_full : (t : Token) (e : Tree) (rest : List Token) (r : Parsed Line) → IsHeader (line.condition t e) → height e ≤ max_height
      → kind_of rest ≡ kind.Delimiter delimiter.Colon → grammar.suite S (line.condition t e) rest ≡ r
      → grammar.any_line S (t ∷ (yield_of e ++ rest)) ≡ r
  unfolding grammar.any_line grammar.condition take_one IsHeader
  condition_full t e rest r well small stop next =
      ap (λ (l : Parser Line). l (t ∷ (yield_of e ++ rest))) (by_condition t.kind well.0)
      ∙ heads (grammar.condition S) (t ∷ (yield_of e ++ rest)) (line.condition t e) rest r
      (after S max_height full low 1 e rest _ _ well.2 small (omega arith) well.1 (colon_halts (kind_of rest) stop) refl) next

  word_full : (t : Token) (rest : List Token) (r : Parsed Line) → is_word_header t.kind ≡ true → grammar.suite S (line.word t) rest ≡ r
      → grammar.any_line S (t ∷ rest) ≡ r
  unfolding grammar.any_line grammar.word_header take_one
  word_full t rest r well next =
      ap (λ (l : Parser Line). l (t ∷ rest)) (by_word t.kind well) ∙ heads grammar.word_header (t ∷ rest) (line.word t) rest r refl next

  for_each_full : (word_async : Option Token) (t : Token) (to : Tree) (word_in : Token) (e : Tree) (rest : List Token)
      → IsHeader (line.for_each word_async t to word_in e) → height to ≤ max_height → height e ≤ max_height
      → kind_of rest ≡ kind.Delimiter delimiter.Colon
      → grammar.for_each S word_async (t ∷ (yield_of to ++ (word_in ∷ (yield_of e ++ rest)))) ≡ Some (line.for_each word_async t to word_in e, rest)
  unfolding grammar.for_each take_one IsHeader
  for_each_full word_async t to word_in e rest well small_to small stop =
      let left : List Token = word_in ∷ (yield_of e ++ rest) in
      step (rule.targets S (yield_of to ++ left)) _ to left _ (targets_full S max_height full low to left well.2 well.3 small_to (ap (ends list_context.Targets) well.4))
      (step (expect (kind.Keyword word.In) left) _ word_in (yield_of e ++ rest) _ (expected (kind.Keyword word.In) word_in (yield_of e ++ rest) well.4)
      (step (rule.expressions S list_context.Items (yield_of e ++ rest)) _ e rest _
      (expressions_full S max_height full low e rest well.5 well.6 small (ap (ends list_context.Items) stop)) refl))

  except_full : (t : Token) (rest : List Token) → kind_of rest ≡ kind.Delimiter delimiter.Colon
      → grammar.except_header S (t ∷ rest) ≡ Some (line.except t, rest)
  unfolding grammar.except_header take_one
  except_full t rest stop = yes _ _ (is_colon (kind_of rest)) rest _ (ap is_colon stop) refl

  except_of_full : (t : Token) (e : Tree) (found : Option Alias) (rest : List Token) → IsHeader (line.except_of t e found) → height e ≤ max_height
      → kind_of rest ≡ kind.Delimiter delimiter.Colon
      → grammar.except_header S (t ∷ (yield_of e ++ (alias_yield found ++ rest))) ≡ Some (line.except_of t e found, rest)
  unfolding grammar.except_header take_one same_kind IsHeader
  except_of_full t e found rest well small stop =
      let left : List Token = alias_yield found ++ rest in
      no _ _ (is_colon (kind_of (yield_of e ++ left))) (yield_of e ++ left) _ (no_colon _ (opens e left well.2 well.1))
      (after S max_height full low 1 e left _ _ well.2 small (omega arith) well.1 (alias_halts found rest well.3 stop)
      (step (alias left) _ found rest _ (alias_full found rest well.3 (ap (λ k. same_kind k (kind.Keyword word.As)) stop)) refl))

  with_enclosed_full : (word_async : Option Token) (t opening : Token) (items : Pieces) (closing : Token) (rest : List Token)
      → IsHeader (line.with_enclosed word_async t opening items closing) → pieces_height items ≤ max_height
      → kind_of rest ≡ kind.Delimiter delimiter.Colon
      → grammar.with S word_async (t ∷ opening ∷ (pieces_yield items ++ (closing ∷ rest)))
      ≡ Some (line.with_enclosed word_async t opening items closing, rest)
  unfolding grammar.with take_one IsHeader
  with_enclosed_full word_async t opening items closing rest well small stop =
      ap (λ o. grammar.or_else o (grammar.with_unenclosed S word_async t (opening ∷ (pieces_yield items ++ (closing ∷ rest)))))
      (listed_managers S full word_async t opening items closing (pieces_yield items ++ (closing ∷ rest)) rest
      (parse_items_from_full S max_height full low list_context.WithItems items (closing ∷ rest) well.4 well.5 small (ap (ends list_context.WithItems) well.3))
      well.2 well.3 (ap is_colon stop))

  open_listed : (word_async : Option Token) (t : Token) (items : Pieces) (ts rest : List Token) → Listed S list_context.WithItems ts items rest
      → ends_without_comma items ≡ true
      → grammar.with_unenclosed S word_async t ts ≡ Some (line.with word_async t items, rest)
  unfolding grammar.with_unenclosed grammar.with_items
  open_listed word_async t items ts rest all comma =
      step (grammar.with_items S ts) _ items rest _ (step (rule.item S list_context.WithItems ts) _ all.first all.later _ all.starts all.lists)
      (checked_holds (ends_without_comma items) (line.with word_async t items) rest comma)

  with_unenclosed_full : (word_async : Option Token) (t : Token) (items : Pieces) (rest : List Token) → IsHeader (line.with word_async t items)
      → pieces_height items ≤ max_height → kind_of rest ≡ kind.Delimiter delimiter.Colon
      → grammar.with S word_async (t ∷ (pieces_yield items ++ rest)) ≡ Some (line.with word_async t items, rest)
  unfolding grammar.with take_one IsHeader
  with_unenclosed_full word_async t items rest well small stop =
      ap (λ o. grammar.or_else o (grammar.with_unenclosed S word_async t (pieces_yield items ++ rest)))
      (rule_of_with.none word_async t items rest well.2 well.4 well.5 small stop)
      ∙ open_listed word_async t items (pieces_yield items ++ rest) rest
      (parse_items_from_full S max_height full low list_context.WithItems items rest well.2 well.5 small (ap (ends list_context.WithItems) stop)) well.3

  function_full : (word_async : Option Token) (t name opening : Token) (parameters : Pieces) (closing : Token) (result : Tail) (rest : List Token)
      → IsHeader (line.def word_async t name opening parameters closing result) → pieces_height parameters ≤ max_height → tail_height result ≤ max_height
      → kind_of rest ≡ kind.Delimiter delimiter.Colon
      → grammar.function S word_async (t ∷ name ∷ opening ∷ (pieces_yield parameters ++ (closing ∷ (tail_yield result ++ rest))))
      ≡ Some (line.def word_async t name opening parameters closing result, rest)
  unfolding grammar.function take_one same_kind IsHeader
  function_full word_async t name opening parameters closing result rest well small small_result stop =
      let left : List Token = closing ∷ (tail_yield result ++ rest) in
      step (expect_name (name ∷ opening ∷ (pieces_yield parameters ++ left))) _ name (opening ∷ (pieces_yield parameters ++ left)) _
      (name_expected name (opening ∷ (pieces_yield parameters ++ left)) well.2)
      (step (expect (kind.Open bracket.Round) (opening ∷ (pieces_yield parameters ++ left))) _ opening (pieces_yield parameters ++ left) _
      (expected (kind.Open bracket.Round) opening (pieces_yield parameters ++ left) well.3)
      (step (rule.optional_items S (list_context.Parameters true) (pieces_yield parameters ++ left)) _ parameters left _
      (optional_items_full S max_height full low (list_context.Parameters true) parameters left well.5 small (ap (ends (list_context.Parameters true)) well.4))
      (step (expect (kind.Close bracket.Round) left) _ closing (tail_yield result ++ rest) _
      (expected (kind.Close bracket.Round) closing (tail_yield result ++ rest) well.4)
      (step (rule.tail S (kind.Delimiter delimiter.Arrow) (tail_yield result ++ rest)) _ result rest _
      (tail_full S max_height full low (kind.Delimiter delimiter.Arrow) result rest well.6 small_result (colon_halts (kind_of rest) stop)
      (ap (λ k. same_kind k (kind.Delimiter delimiter.Arrow)) stop)) refl))))

  class_full : (t name : Token) (rest : List Token) → IsHeader (line.class t name) → kind_of rest ≡ kind.Delimiter delimiter.Colon
      → grammar.class S (t ∷ name ∷ rest) ≡ Some (line.class t name, rest)
  unfolding grammar.class take_one same_kind IsHeader
  class_full t name rest well stop =
      step (expect_name (name ∷ rest)) _ name rest _ (name_expected name rest well.1)
      (no _ _ (same_kind (kind_of rest) (kind.Open bracket.Round)) rest _ (ap (λ k. same_kind k (kind.Open bracket.Round)) stop) refl)

  class_of_full : (t name opening : Token) (arguments : Pieces) (closing : Token) (rest : List Token)
      → IsHeader (line.class_of t name opening arguments closing) → pieces_height arguments ≤ max_height
      → grammar.class S (t ∷ name ∷ opening ∷ (pieces_yield arguments ++ (closing ∷ rest))) ≡ Some (line.class_of t name opening arguments closing, rest)
  unfolding grammar.class grammar.class_of take_one IsHeader
  class_of_full t name opening arguments closing rest well small =
      let left : List Token = opening ∷ (pieces_yield arguments ++ (closing ∷ rest)) in
      step (expect_name (name ∷ left)) _ name left _ (name_expected name left well.1)
      (yes _ _ (same_kind opening.kind (kind.Open bracket.Round)) left _ (same_as opening.kind (kind.Open bracket.Round) well.2)
      (step (rule.optional_items S list_context.Arguments (pieces_yield arguments ++ (closing ∷ rest))) _ arguments (closing ∷ rest) _
      (optional_items_full S max_height full low list_context.Arguments arguments (closing ∷ rest) well.4 small (ap (ends list_context.Arguments) well.3))
      (step (expect (kind.Close bracket.Round) (closing ∷ rest)) _ closing rest _ (expected (kind.Close bracket.Round) closing rest well.3) refl)))

  -- ---- any header

  pub header_full : (h : Header) (rest : List Token) (r : Parsed Line) → IsHeader h → header_height h ≤ max_height
      → kind_of rest ≡ kind.Delimiter delimiter.Colon → grammar.suite S h rest ≡ r → grammar.any_line S (header_yield h ++ rest) ≡ r
  unfolding IsHeader header_yield header_height
  header_full (line.condition t e) rest r well small stop next = condition_full t e rest r well (omega (arith, small)) stop next
  header_full (line.word t) rest r well small stop next = word_full t rest r well next
  header_full (line.for_each word_async t to word_in e) rest r well small stop next =
      rw (append_assoc (optional_token word_async) (t ∷ (yield_of to ++ word_in ∷ yield_of e)) rest)
      (rw (append_assoc (yield_of to) (word_in ∷ yield_of e) rest)
      (led (grammar.for_each S) (kind.Keyword word.For) refl (λ w. refl) word_async t (yield_of to ++ (word_in ∷ (yield_of e ++ rest)))
      (line.for_each word_async t to word_in e) rest r well.0 well.1
      (for_each_full word_async t to word_in e rest well (omega (arith, small)) (omega (arith, small)) stop) next))
  header_full (line.except t) rest r well small stop next =
      by_line t rest (kind.Keyword word.Except) r well (heads (grammar.except_header S) (t ∷ rest) (line.except t) rest r (except_full t rest stop) next)
  header_full (line.except_of t e found) rest r well small stop next =
      rw (append_assoc (yield_of e) (alias_yield found) rest)
      (by_line t (yield_of e ++ (alias_yield found ++ rest)) (kind.Keyword word.Except) r well.0
      (heads (grammar.except_header S) (t ∷ (yield_of e ++ (alias_yield found ++ rest))) (line.except_of t e found) rest r
      (except_of_full t e found rest well (omega (arith, small)) stop) next))
  header_full (line.with word_async t items) rest r well small stop next =
      rw (append_assoc (optional_token word_async) (t ∷ pieces_yield items) rest)
      (led (grammar.with S) (kind.Keyword word.With) refl (λ w. refl) word_async t (pieces_yield items ++ rest) (line.with word_async t items) rest r
      well.0 well.1 (with_unenclosed_full word_async t items rest well (omega (arith, small)) stop) next)
  header_full (line.with_enclosed word_async t opening items closing) rest r well small stop next =
      rw (append_assoc (optional_token word_async) (t ∷ opening ∷ (pieces_yield items ++ closing ∷ [])) rest)
      (rw (append_assoc (pieces_yield items) (closing ∷ []) rest)
      (led (grammar.with S) (kind.Keyword word.With) refl (λ w. refl) word_async t (opening ∷ (pieces_yield items ++ (closing ∷ rest)))
      (line.with_enclosed word_async t opening items closing) rest r
      well.0 well.1 (with_enclosed_full word_async t opening items closing rest well (omega (arith, small)) stop) next))
  header_full (line.def word_async t name opening parameters closing result) rest r well small stop next =
      rw (append_assoc (optional_token word_async) (t ∷ name ∷ opening ∷ (pieces_yield parameters ++ closing ∷ tail_yield result)) rest)
      (rw (append_assoc (pieces_yield parameters) (closing ∷ tail_yield result) rest)
      (led (grammar.function S) (kind.Keyword word.Def) refl (λ w. refl) word_async t
      (name ∷ opening ∷ (pieces_yield parameters ++ (closing ∷ (tail_yield result ++ rest))))
      (line.def word_async t name opening parameters closing result) rest r
      well.0 well.1 (function_full word_async t name opening parameters closing result rest well (omega (arith, small)) (omega (arith, small)) stop) next))
  header_full (line.class t name) rest r well small stop next =
      by_line t (name ∷ rest) (kind.Keyword word.Class) r well.0
      (heads (grammar.class S) (t ∷ name ∷ rest) (line.class t name) rest r (class_full t name rest well stop) next)
  header_full (line.class_of t name opening arguments closing) rest r well small stop next =
      rw (append_assoc (pieces_yield arguments) (closing ∷ []) rest)
      (by_line t (name ∷ opening ∷ (pieces_yield arguments ++ (closing ∷ rest))) (kind.Keyword word.Class) r well.0
      (heads (grammar.class S) (t ∷ name ∷ opening ∷ (pieces_yield arguments ++ (closing ∷ rest))) (line.class_of t name opening arguments closing) rest r
      (class_of_full t name opening arguments closing rest well (omega (arith, small))) next))
