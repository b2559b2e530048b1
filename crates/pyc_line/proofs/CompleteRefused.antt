-- A `with` whose items have no parentheses of the header is not read as one that has.
use Rattle.std.proofs.Common.{◌≡◌, refl, ap, sym, ◌∙◌, ℕ, suc, ◌+◌, ◌≤◌, Bool, true, false, not, ◌&&◌, if◌then◌else◌, List, [], ◌∷◌, ◌++◌, length, Option, None, Some, append_assoc, append-nil, arith}
use Rattle.pyc_token.specs.declared.tokens.Bracket.TheVariants as bracket
use Rattle.pyc_token.specs.declared.tokens.Delimiter.TheVariants as delimiter
use Rattle.pyc_token.specs.declared.tokens.Keyword.TheVariants as word
use Rattle.pyc_token.specs.declared.tokens.Kind.{Kind}
use Rattle.pyc_token.specs.declared.tokens.Kind.TheVariants as kind
use Rattle.pyc_token.specs.declared.tokens.Token.{Token}
use Rattle.pyc_tree.specs.declared.list_context.ListContext.TheVariants as list_context
use Rattle.pyc_tree.specs.declared.display_kind.DisplayKind.TheVariants as display_kind
use Rattle.pyc_tree.specs.Tree.{Tree, Pieces, Tail}
use Rattle.pyc_tree.specs.Tree as tree
use Rattle.pyc_tree.specs.Kinds.{kind_of, same_kind, is_string, begins_comprehension}
use Rattle.pyc_tree.specs.Precedence.{infix_precedence, precedence}
use Rattle.pyc_tree.specs.Yield.{yield_of, pieces_yield}
use Rattle.pyc_tree.specs.Height.{height, pieces_height, max_height}
use Rattle.pyc_tree.specs.ListContexts.{is_at, is_colon, fits}
use Rattle.pyc_tree.specs.Well.{IsWell, ArePieces, is_yield, has_item}
use Rattle.pyc_tree.specs.WellLines.{has_no_star, is_enclosed_item, is_open_with}
use Rattle.pyc_tree.specs.Lines.{Header}
use Rattle.pyc_tree.specs.Parser.{Parsed, Parser, and_then, take_one, expect, made}
use Rattle.pyc_tree.specs.Items as rule
use Rattle.pyc_tree.specs.Expressions as grammar
use Rattle.pyc_tree.specs.Expressions.{expression}
use Rattle.pyc_tree.specs.Headers as header
use Rattle.pyc_line.proofs.SoundTables.{never, is_colon_is}
use Rattle.pyc_line.proofs.SoundTools.{refused, bind, after_expected, after_made, at_precedence, either_second}
use Rattle.pyc_line.proofs.SoundItems.{after_item}
use Rattle.pyc_line.proofs.SoundLists.{is_first, parse_items_from_sound}
use Rattle.pyc_line.proofs.SoundExpressions.{expression_sound}
use Rattle.pyc_line.proofs.CompleteTools.{step, no}
use Rattle.pyc_line.proofs.CompleteTables.{ends}
use Rattle.pyc_line.proofs.Complete.{Full}
use Rattle.pyc_line.proofs.CompleteLists.{Listed, parse_items_from_full, last_full, one_item}
use Rattle.pyc_line.proofs.CompleteBrackets.{parentheses_filled}
use Rattle.pyc_line.proofs.CompleteExpressions.{operand, expr_full, expression_full}
use Rattle.pyc_line.proofs.CompleteWith.{unstarred, plain_star}
use Rattle.pyc_line.proofs.CompleteHeaders.{Refuses}

-- what is read is one thing
same_pair : {A : Type 0} (p q : A × List Token) → ◌≡◌ {A = Parsed A} (Some p) (Some q) → p ≡ q
same_pair p q e = cc

parts : {A G : Type 0} (a b : A) (ts rest : List Token) → ◌≡◌ {A = Parsed A} (Some (a, ts)) (Some (b, rest)) → (a ≡ b → ts ≡ rest → G) → G
parts a b ts rest e go =
    let same : ◌≡◌ {A = _ × List Token} (a, ts) (b, rest) = same_pair (a, ts) (b, rest) e in
    go (ap (λ p. p.0) same) (ap (λ p. p.1) same)

-- ---- context managers without targets are the items of a tuple

-- items up to a first target, and what stands behind them
record Split (h : ℕ) (items : Pieces) : Type 0 where
  found : Pieces
  word_as : Token
  more : List Token
  some : has_item found ≡ true
  pieces : ArePieces list_context.Items found
  low : pieces_height found ≤ h
  is : word_as.kind ≡ kind.Keyword word.As
  text : (rest : List Token) → pieces_yield items ++ rest ≡ pieces_yield found ++ (word_as ∷ (more ++ rest))

-- the items of a tuple with the same tokens
record Stripped (h : ℕ) (items : Pieces) : Type 0 where
  found : Pieces
  some : has_item found ≡ has_item items
  pieces : ArePieces list_context.Items found
  low : pieces_height found ≤ h
  plain : has_no_star found ≡ true
  text : pieces_yield items ≡ pieces_yield found

split_or : {G : Type 0} (items : Pieces) (h : ℕ) → ArePieces list_context.WithItems items → pieces_height items ≤ suc h → (Split h items → G)
    → (Stripped h items → G) → G
unfolding IsWell yield_of height
split_or tree.none h well small targeted bare =
    bare (record { found = tree.none; some = refl; pieces = refl; low = omega arith; plain = refl; text = refl })
split_or (tree.last (tree.with_item x tree.nothing)) h well small targeted bare =
    let high : is_at 1 x ≡ true = at_precedence 1 x well.1.0 in
    bare (record {
      found = tree.last x;
      some = refl;
      pieces = (one_item x high, well.1.1, refl);
      low = omega (arith, small);
      plain = plain_star x high;
      text = append-nil (yield_of x);
    })
split_or (tree.last (tree.with_item x (tree.after t to))) h well small targeted bare =
    targeted (record {
      found = tree.last x;
      word_as = t;
      more = yield_of to;
      some = refl;
      pieces = (one_item x (at_precedence 1 x well.1.0), well.1.1, refl);
      low = omega (arith, small);
      is = well.1.2.0;
      text = λ rest. append_assoc (yield_of x) (t ∷ yield_of to) rest;
    })
split_or (tree.piece (tree.with_item x (tree.after t to)) comma more) h well small targeted bare =
    targeted (record {
      found = tree.last x;
      word_as = t;
      more = yield_of to ++ comma ∷ pieces_yield more;
      some = refl;
      pieces = (one_item x (at_precedence 1 x well.1.0), well.1.1, refl);
      low = omega (arith, small);
      is = well.1.2.0;
      text = λ rest. simp append_assoc refl;
    })
split_or (tree.piece (tree.with_item x tree.nothing) comma more) h well small targeted bare =
    let high : is_at 1 x ≡ true = at_precedence 1 x well.1.0 in
    split_or more h well.3 (omega (arith, small))
    (λ later. targeted (record {
      found = tree.piece x comma later.found;
      word_as = later.word_as;
      more = later.more;
      some = refl;
      pieces = (one_item x high, well.1.1, well.2, later.pieces);
      low = omega (arith, small, later.low);
      is = later.is;
      text = λ rest. rw (append-nil (yield_of x)) (append_assoc (yield_of x) (comma ∷ pieces_yield more) rest
          ∙ (ap (λ z. yield_of x ++ (comma ∷ z)) (later.text rest)
          ∙ sym (append_assoc (yield_of x) (comma ∷ pieces_yield later.found) (later.word_as ∷ (later.more ++ rest)))));
    }))
    (λ later. bare (record {
      found = tree.piece x comma later.found;
      some = refl;
      pieces = (one_item x high, well.1.1, well.2, later.pieces);
      low = omega (arith, small, later.low);
      plain = both (plain_star x high) later.plain;
      text = rw (append-nil (yield_of x)) (ap (λ z. yield_of x ++ (comma ∷ z)) later.text);
    }))
  where
    both : {a b : Bool} → a ≡ true → b ≡ true → (a && b) ≡ true
    both {a = true} is then_is = then_is
    both {a = false} is then_is = never is
split_or (tree.last _) h well small targeted bare = never well.0
split_or (tree.piece _ comma more) h well small targeted bare = never well.0

-- ---- the parentheses of a tuple, or of one form

paren : Token → Pieces → Token → Tree
paren opening (tree.last x) closing = tree.parenthesized opening x closing
paren opening found closing = tree.display display_kind.Tuple opening found closing

paren_well : (opening : Token) (found : Pieces) (closing : Token) → opening.kind ≡ kind.Open bracket.Round → closing.kind ≡ kind.Close bracket.Round
    → has_item found ≡ true → ArePieces list_context.Items found → has_no_star found ≡ true → IsWell (paren opening found closing)
unfolding paren IsWell
paren_well opening tree.none closing opens shut some well plain = never some
paren_well opening (tree.last x) closing opens shut some well plain =
    (opens, shut, either_second (is_yield x) (is_at 1 x) (unstarred x well.0 plain), well.1)
paren_well opening (tree.piece x comma more) closing opens shut some well plain = (opens, shut, refl, well)

paren_height : (opening : Token) (found : Pieces) (closing : Token) → height (paren opening found closing) ≡ pieces_height found + 1
unfolding paren height
paren_height opening tree.none closing = refl
paren_height opening (tree.last x) closing = refl
paren_height opening (tree.piece x comma more) closing = refl

paren_yield : (opening : Token) (found : Pieces) (closing : Token) → yield_of (paren opening found closing) ≡ opening ∷ (pieces_yield found ++ closing ∷ [])
unfolding paren yield_of
paren_yield opening tree.none closing = refl
paren_yield opening (tree.last x) closing = refl
paren_yield opening (tree.piece x comma more) closing = refl

paren_precedence : (opening : Token) (found : Pieces) (closing : Token) → precedence (paren opening found closing) ≡ 16
unfolding paren
paren_precedence opening tree.none closing = refl
paren_precedence opening (tree.last x) closing = refl
paren_precedence opening (tree.piece x comma more) closing = refl

no_yield : (x : Tree) → is_at 1 x ≡ true → not (is_yield x) ≡ true
no_yield (tree.yield t value) high = never high
no_yield (tree.yield_from t from x) high = never high
no_yield _ high = refl

paren_enclosed : (opening : Token) (found : Pieces) (closing : Token) → has_item found ≡ true → ArePieces list_context.Items found → has_no_star found ≡ true
    → is_enclosed_item (tree.with_item (paren opening found closing) tree.nothing) ≡ true
unfolding paren IsWell
paren_enclosed opening tree.none closing some well plain = never some
paren_enclosed opening (tree.last x) closing some well plain = no_yield x (unstarred x well.0 plain)
paren_enclosed opening (tree.piece x comma more) closing some well plain = plain

-- ---- a form in parentheses with an `as` in it is refused

other_token : (k : Kind) (t : Token) (later : List Token) → same_kind t.kind k ≡ false → expect k (t ∷ later) ≡ None
unfolding expect take_one
other_token k t later other = ap (λ (b : Bool). if◌then◌else◌ {A = Parsed Token} b (Some (t, later)) None) other

stops : {A B : Type 0} (o : Parsed A) (f : A → Parser B) → o ≡ None → and_then o f ≡ None
stops o f none = ap (λ p. and_then p f) none

listed_as : (S : ℕ → Parser Tree) (opening : Token) (ts : List Token) (found : Pieces) (word_as : Token) (later : List Token)
    → Listed S list_context.Items ts found (word_as ∷ later) → word_as.kind ≡ kind.Keyword word.As → rule.parse_filled_brackets S bracket.Round opening ts ≡ None
unfolding rule.parse_filled_brackets rule.parse_display same_kind
listed_as S opening ts found word_as later all is =
    step (rule.item S list_context.Items ts) _ all.first all.later _ all.starts
    (no _ _ (begins_comprehension (kind_of all.later)) all.later _ all.no_comprehension
    (step (rule.parse_items_from S list_context.Items all.first all.later) _ found (word_as ∷ later) _ all.lists
    (stops (expect (kind.Close bracket.Round) (word_as ∷ later)) _
    (other_token (kind.Close bracket.Round) word_as later (ap (λ k. same_kind k (kind.Close bracket.Round)) is)))))

whole_as : (d : ℕ) → suc d ≤ max_height → (opening : Token) (found : Pieces) (word_as : Token) (later : List Token) → has_item found ≡ true
    → ArePieces list_context.Items found → pieces_height found ≤ d → opening.kind ≡ kind.Open bracket.Round → word_as.kind ≡ kind.Keyword word.As
    → grammar.expr (suc d) 1 (opening ∷ (pieces_yield found ++ (word_as ∷ later))) ≡ None
unfolding grammar.expr grammar.whole
whole_as d low opening found word_as later some well small opens is =
    let S : ℕ → Parser Tree = grammar.expr d in
    let full : Full S d = expr_full d (omega (arith, low)) in
    let ts : List Token = pieces_yield found ++ (word_as ∷ later) in
    let all = parse_items_from_full S d full (omega (arith, low)) list_context.Items found (word_as ∷ later) some well small (ap (ends list_context.Items) is) in
    stops (grammar.prefix S 1 (opening ∷ ts)) _
    (operand S d full low 1 opening ts (kind.Open bracket.Round) _ opens
    (parentheses_filled S d full low opening ts _ all.begun (listed_as S opening ts found word_as later all is)))

-- ---- the other reading

-- what is refused at its first expression is no item
no_item : (ts : List Token) → expression 1 ts ≡ None → rule.item expression list_context.WithItems ts ≡ None
unfolding rule.item rule.with_item
no_item ts none = stops (rule.with_item expression ts) _ (stops (expression 1 ts) _ none)

-- an expression before a colon is the only item
one_alone : (e : Tree) (ts later rest : List Token) (items : Pieces) → expression 1 ts ≡ Some (e, later)
    → kind_of later ≡ kind.Delimiter delimiter.Colon → Listed expression list_context.WithItems ts items rest
    → items ≡ tree.last (tree.with_item e tree.nothing)
unfolding rule.item rule.with_item rule.parse_items_from same_kind
one_alone e ts later rest items is colon all =
    let W : Tree = tree.with_item e tree.nothing in
    let reads : rule.with_item expression ts ≡ made W later =
    step (expression 1 ts) _ e later _ is
    (no _ _ (same_kind (kind_of later) (kind.Keyword word.As)) later _ (ap (λ k. same_kind k (kind.Keyword word.As)) colon) refl) in
    after_made W (λ x. rule.checked (fits list_context.WithItems x) x) later (all.first, all.later)
    (ap (λ o. and_then o (λ x. rule.checked (fits list_context.WithItems x) x)) (sym reads) ∙ all.starts) (λ low only.
    parts W all.first later all.later only (λ same same_later.
    parts (tree.last W) items later rest
    (sym (last_full expression max_height expression_full (omega arith) (length later) list_context.WithItems W later refl (ap (ends list_context.WithItems) colon))
    ∙ (ap (λ x. rule.parse_items_from expression list_context.WithItems x later) same ∙ (ap (λ us. rule.parse_items_from expression list_context.WithItems all.first us) same_later ∙ all.lists)))
    (λ found left. sym found)))

-- a `with` without parentheses of its own is not read with some
clashes : (word_async : Option Token) (t : Token) (items : Pieces) (ts rest : List Token) (r : Header × List Token) → is_open_with items ≡ true
    → Listed expression list_context.WithItems ts items rest → header.with_enclosed expression word_async t ts ≡ Some r → ⊥
unfolding header.with_enclosed header.with_items
clashes word_async t items ts rest r open_one all e =
    after_expected (kind.Open bracket.Round) _ ts r e (λ opening ts1 is_opening opens e1.
    bind (header.with_items expression ts1) _ r e1 (λ others ts2 are_others e2.
    after_item expression expression_sound list_context.WithItems _ ts1 (others, ts2) are_others (λ x ts3 fitting part parse_items_from.
    let found = parse_items_from_sound expression expression_sound list_context.WithItems x ts1 ts3 others ts2 fitting part parse_items_from in
    after_expected (kind.Close bracket.Round) _ ts2 r e2 (λ closing ts4 is_closing shut e3.
    split_or others 999 found.pieces found.low
    (λ targeted.
    refused (all.first, all.later)
    (sym (no_item ts
    (ap (expression 1) (is_opening ∙ ap (opening ∷◌) (found.text ∙ targeted.text ts2))
    ∙ whole_as 999 (omega arith) opening targeted.found targeted.word_as (targeted.more ++ ts2) targeted.some targeted.pieces targeted.low opens targeted.is))
    ∙ all.starts))
    (λ bare.
    let P : Tree = paren opening bare.found closing in
    let some : has_item bare.found ≡ true = bare.some ∙ is_first others x found.first in
    checks (is_colon (kind_of ts4)) _ ts4 r e3 (λ colon.
    let is_colon_here : kind_of ts4 ≡ kind.Delimiter delimiter.Colon = is_colon_is (kind_of ts4) colon in
    let text : ts ≡ yield_of P ++ ts4 =
    is_opening ∙ (ap (opening ∷◌) (found.text ∙ (ap (λ z. z ++ ts2) bare.text ∙ ap (pieces_yield bare.found ++◌) is_closing))
    ∙ (ap (opening ∷◌) (sym (append_assoc (pieces_yield bare.found) (closing ∷ []) ts4)) ∙ ap (λ z. z ++ ts4) (sym (paren_yield opening bare.found closing)))) in
    let reads : expression 1 ts ≡ Some (P, ts4) =
    ap (expression 1) text
    ∙ expression_full.reads 1 P ts4 (paren_well opening bare.found closing opens shut some bare.pieces bare.plain)
    (omega (arith, paren_height opening bare.found closing, bare.low)) (omega arith) (omega (arith, paren_precedence opening bare.found closing))
    (omega (arith, ap infix_precedence is_colon_here)) (ap is_string is_colon_here) in
    let only : items ≡ tree.last (tree.with_item P tree.nothing) = one_alone P ts ts4 rest items reads is_colon_here all in
    never (sym (ap not (paren_enclosed opening bare.found closing some bare.pieces bare.plain)) ∙ (ap is_open_with (sym only) ∙ open_one))))))))
  where
    checks : {A G : Type 0} (b : Bool) (a : A) (us : List Token) (s : A × List Token) → rule.checked b a us ≡ Some s → (b ≡ true → G) → G
    checks true a us s e go = go refl
    checks false a us s e go = refused s e

pub with_refuses : Refuses expression
with_refuses =
    record {
      none = λ word_async t items rest some open_one well small colon.
          by_case (header.with_enclosed expression word_async t (pieces_yield items ++ rest))
          (λ r. clashes word_async t items (pieces_yield items ++ rest) rest r open_one
          (parse_items_from_full expression max_height expression_full (omega arith) list_context.WithItems items rest some well small (ap (ends list_context.WithItems) colon)));
    }
  where
    by_case : (o : Parsed Header) → ((r : Header × List Token) → o ≡ Some r → ⊥) → o ≡ None
    by_case None never_some = refl
    by_case (Some r) never_some = absurd (never_some r refl)
