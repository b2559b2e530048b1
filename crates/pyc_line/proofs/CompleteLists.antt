-- Lists with commas, targets and clauses of comprehensions are read back.
use Rattle.std.proofs.Common.{◌≡◌, refl, ap, sym, ◌∙◌, ℕ, zero, suc, ◌+◌, ◌≤◌, ◌<◌, Bool, true, false, not, ◌||◌, ◌&&◌, List, ◌∷◌, ◌++◌, length, length-append, Option, None, Some, append_assoc, arith}
use Rattle.pyc_token.specs.declared.tokens.Delimiter.TheVariants as delimiter
use Rattle.pyc_token.specs.declared.tokens.Keyword.TheVariants as word
use Rattle.pyc_token.specs.declared.tokens.Kind.{Kind}
use Rattle.pyc_token.specs.declared.tokens.Kind.TheVariants as kind
use Rattle.pyc_token.specs.declared.tokens.Token.{Token}
use Rattle.pyc_tree.specs.declared.list_context.ListContext.{ListContext}
use Rattle.pyc_tree.specs.declared.list_context.ListContext.TheVariants as list_context
use Rattle.pyc_tree.specs.Tree.{Tree, Pieces, Comprehensions}
use Rattle.pyc_tree.specs.Tree as tree
use Rattle.pyc_tree.specs.Kinds.{kind_of, same_kind, is_string, begins_comprehension}
use Rattle.pyc_tree.specs.Precedence.{infix_precedence, precedence}
use Rattle.pyc_tree.specs.Yield.{yield_of, pieces_yield, comprehensions_yield, optional_token}
use Rattle.pyc_tree.specs.Height.{height, pieces_height, comprehensions_height, max_height}
use Rattle.pyc_tree.specs.Targets.{is_target, are_targets, is_item_target, is_starred}
use Rattle.pyc_tree.specs.ListContexts.{is_at, fits, begins, next_context, may_end, has_comma, is_item, is_target_item}
use Rattle.pyc_tree.specs.Well.{IsWell, ArePieces, AreComprehensions, has_item, has_for, is_expression_list, is_yield}
use Rattle.pyc_tree.specs.Parser.{Parser, take_one, expect}
use Rattle.pyc_tree.specs.Items as rule
use Rattle.pyc_line.proofs.Sound.{first_of}
use Rattle.pyc_line.proofs.SoundTables.{never}
use Rattle.pyc_line.proofs.SoundTools.{at_precedence, precedence_at, either_first}
use Rattle.pyc_line.proofs.CompleteTools.{step, yes, no, same_as, apart, expected, made_low, checked_holds}
use Rattle.pyc_line.proofs.CompleteTables.{ends, is_close, ends_follows, ends_comma, ends_begins, ends_next, ends_comprehension, comma_follows, after_items}
use Rattle.pyc_line.proofs.Complete.{Full, opens, begins_item}
use Rattle.pyc_line.proofs.CompleteItems.{both_first, both_second, Halts, after, item_full}

-- ---- how many turns a list takes

abbrev commas : Pieces → ℕ
commas tree.none = 0
commas (tree.last e) = 0
commas (tree.piece e comma more) = suc (commas more)

few_commas : (found : Pieces) → commas found ≤ length (pieces_yield found)
unfolding yield_of
few_commas tree.none = omega arith
few_commas (tree.last e) = omega arith
few_commas (tree.piece e comma more) = omega (arith, few_commas more, length-append (yield_of e) (comma ∷ pieces_yield more))

abbrev turns : Comprehensions → ℕ
turns tree.no_comprehension = 0
turns (tree.for_clause _ _ _ _ _ more) = suc (turns more)
turns (tree.if_clause _ _ more) = suc (turns more)

few_turns : (found : Comprehensions) → turns found ≤ length (comprehensions_yield found)
unfolding yield_of
few_turns tree.no_comprehension = omega arith
few_turns (tree.for_clause word_async word_for to word_in e more) =
    omega (
      arith,
      few_turns more,
      length-append (optional_token word_async) (word_for ∷ (yield_of to ++ word_in ∷ (yield_of e ++ comprehensions_yield more))),
      length-append (yield_of to) (word_in ∷ (yield_of e ++ comprehensions_yield more)),
      length-append (yield_of e) (comprehensions_yield more),
    )
few_turns (tree.if_clause word_if e more) = omega (arith, few_turns more, length-append (yield_of e) (comprehensions_yield more))

-- ---- items that make targets

pub one_item : (e : Tree) → is_at 1 e ≡ true → is_item e ≡ true
one_item (tree.starred star x) fit = never fit
one_item _ fit = fit

target_fits : (e : Tree) → is_item e ≡ true → is_item_target e ≡ true → is_target_item e ≡ true
unfolding is_target
target_fits (tree.starred star x) fit is = fit
target_fits (tree.name _) fit is = refl
target_fits (tree.attribute _ _ _) fit is = refl
target_fits (tree.subscript _ _ _ _) fit is = refl
target_fits (tree.parenthesized _ _ _) fit is = refl
target_fits (tree.display _ _ _ _) fit is = refl
target_fits (tree.bare _) fit is = never fit
target_fits _ fit is = never is

target_pieces : (was : Bool) (found : Pieces) → ArePieces list_context.Items found → are_targets was found ≡ true → ArePieces list_context.Targets found
unfolding IsWell is_target
target_pieces was tree.none h are = refl
target_pieces was (tree.last e) h are = (target_fits e h.0 (both_first (is_item_target e) (not (was && is_starred e)) are), h.1, refl)
target_pieces was (tree.piece e comma more) h are =
    let here : (is_item_target e && not (was && is_starred e)) ≡ true =
    both_first (is_item_target e && not (was && is_starred e)) (are_targets (was || is_starred e) more) are in (
      target_fits e h.0 (both_first (is_item_target e) (not (was && is_starred e)) here),
      h.1,
      h.2,
      target_pieces (was || is_starred e) more h.3 (both_second (is_item_target e && not (was && is_starred e)) (are_targets (was || is_starred e) more) are),
    )

abbrev is_bare : Tree → Bool
is_bare (tree.bare _) = true
is_bare _ = false

target_precedence : (e : Tree) → is_target e ≡ true → is_bare e ≡ false → 6 ≤ precedence e
unfolding is_target
target_precedence (tree.name _) is other = omega arith
target_precedence (tree.attribute _ _ _) is other = omega arith
target_precedence (tree.subscript _ _ _ _) is other = omega arith
target_precedence (tree.parenthesized _ _ _) is other = omega arith
target_precedence (tree.display _ _ _ _) is other = omega arith
target_precedence (tree.bare _) is other = never (sym other)
target_precedence _ is other = never is

single_target : (e : Tree) → 6 ≤ precedence e → is_target_item e ≡ true
single_target (tree.starred star x) high = absurd (omega arith)
single_target e high = at_precedence 6 e high

-- ---- a list begins as its place says

pieces_begin : (here : ListContext) (found : Pieces) (rest : List Token) → has_item found ≡ true → ArePieces here found
    → begins here (kind_of (pieces_yield found ++ rest)) ≡ true
unfolding IsWell yield_of
pieces_begin here tree.none rest some well = never some
pieces_begin here (tree.last x) rest some well = begins_item here x rest well.0 well.1
pieces_begin here (tree.piece x comma more) rest some well =
    rw (append_assoc (yield_of x) (comma ∷ pieces_yield more) rest) (begins_item here x (comma ∷ (pieces_yield more ++ rest)) well.0 well.1)

comma_item : (found : Pieces) → has_comma found ≡ true → has_item found ≡ true
comma_item (tree.piece _ _ _) h = refl
comma_item _ h = never h

pub list_begins : (e : Tree) (rest : List Token) → is_expression_list e ≡ true → IsWell e → begins list_context.Items (kind_of (yield_of e ++ rest)) ≡ true
unfolding IsWell yield_of
list_begins (tree.bare found) rest fit well = pieces_begin list_context.Items found rest (comma_item found well.0) well.1
list_begins e rest fit well = either_first _ _ (opens e rest well (precedence_at 1 e fit))

-- what ends items goes on with nothing
items_halt : (k : Kind) → ends list_context.Items k ≡ true → Halts k
items_halt k stop = let p = after_items k (ends_follows list_context.Items k stop) in record { loose = p.0; string = p.1 }

-- items are read with what follows them
pub record Listed (S : ℕ → Parser Tree) (here : ListContext) (ts : List Token) (found : Pieces) (rest : List Token) : Type 0 where
  pub first : Tree
  pub later : List Token
  pub begun : begins here (kind_of ts) ≡ true
  pub starts : rule.item S here ts ≡ Some (first, later)
  pub lists : rule.parse_items_from S here first later ≡ Some (found, rest)
  pub no_comprehension : begins_comprehension (kind_of later) ≡ false
  pub same : first_of found ≡ Some first

module _ (S : ℕ → Parser Tree) (d : ℕ) (full : Full S d) (low : d ≤ max_height) where
  -- ---- items with commas

  pub last_full : (n : ℕ) (here : ListContext) (x : Tree) (rest : List Token) → may_end (next_context here x) ≡ true → ends here (kind_of rest) ≡ true
      → rule.items S n here x rest ≡ Some (tree.last x, rest)
  unfolding rule.items
  last_full zero here x rest may stop = checked_holds (may_end (next_context here x)) (tree.last x) rest may
  last_full (suc n) here x rest may stop =
      no _ _ (same_kind (kind_of rest) (kind.Delimiter delimiter.Comma)) rest _ (ends_comma here (kind_of rest) stop)
      (checked_holds (may_end (next_context here x)) (tree.last x) rest may)

  pieces_full : (more : Pieces) (n : ℕ) (here : ListContext) (x : Tree) (comma : Token) (rest : List Token) → comma.kind ≡ kind.Delimiter delimiter.Comma
      → ArePieces (next_context here x) more → pieces_height more ≤ d → ends here (kind_of rest) ≡ true → commas more < n
      → rule.items S n here x (comma ∷ (pieces_yield more ++ rest)) ≡ Some (tree.piece x comma more, rest)
  unfolding rule.items take_one IsWell yield_of height
  pieces_full more zero here x comma rest is well small stop few = absurd (omega (arith, few))
  pieces_full tree.none (suc n) here x comma rest is well small stop few =
      yes _ _ (same_kind comma.kind (kind.Delimiter delimiter.Comma)) (comma ∷ rest) _ (same_as comma.kind (kind.Delimiter delimiter.Comma) is)
      (no _ _ (begins (next_context here x) (kind_of rest)) rest _
      (ends_begins (next_context here x) (kind_of rest) (ends_next here x (kind_of rest) stop))
      (checked_holds (may_end (next_context here x)) (tree.piece x comma tree.none) rest well))
  pieces_full (tree.last y) (suc n) here x comma rest is well small stop few =
      let stop_there : ends (next_context here x) (kind_of rest) ≡ true = ends_next here x (kind_of rest) stop in
      yes _ _ (same_kind comma.kind (kind.Delimiter delimiter.Comma)) (comma ∷ (yield_of y ++ rest)) _ (same_as comma.kind (kind.Delimiter delimiter.Comma) is)
      (yes _ _ (begins (next_context here x) (kind_of (yield_of y ++ rest))) (yield_of y ++ rest) _ (begins_item (next_context here x) y rest well.0 well.1)
      (step (rule.item S (next_context here x) (yield_of y ++ rest)) _ y rest _
      (item_full S d full low (next_context here x) y rest well.0 well.1 small (ends_follows (next_context here x) (kind_of rest) stop_there))
      (step (rule.items S n (next_context here x) y rest) _ (tree.last y) rest _
      (last_full n (next_context here x) y rest well.2 stop_there) refl)))
  pieces_full (tree.piece y between more) (suc n) here x comma rest is well small stop few =
      let stop_there : ends (next_context here x) (kind_of rest) ≡ true = ends_next here x (kind_of rest) stop in
      rw (append_assoc (yield_of y) (between ∷ pieces_yield more) rest)
      (yes _ _ (same_kind comma.kind (kind.Delimiter delimiter.Comma)) (comma ∷ (yield_of y ++ (between ∷ (pieces_yield more ++ rest)))) _
      (same_as comma.kind (kind.Delimiter delimiter.Comma) is)
      (yes _ _ (begins (next_context here x) (kind_of (yield_of y ++ (between ∷ (pieces_yield more ++ rest)))))
      (yield_of y ++ (between ∷ (pieces_yield more ++ rest))) _ (begins_item (next_context here x) y (between ∷ (pieces_yield more ++ rest)) well.0 well.1)
      (step (rule.item S (next_context here x) (yield_of y ++ (between ∷ (pieces_yield more ++ rest)))) _ y (between ∷ (pieces_yield more ++ rest)) _
      (item_full S d full low (next_context here x) y (between ∷ (pieces_yield more ++ rest)) well.0 well.1 (omega (arith, small))
      (comma_follows (next_context here x) between.kind well.2))
      (step (rule.items S n (next_context here x) y (between ∷ (pieces_yield more ++ rest))) _ (tree.piece y between more) rest _
      (pieces_full more n (next_context here x) y between rest well.2 well.3 (omega (arith, small)) stop_there (omega (arith, few))) refl))))

  -- items, of which there is one
  pub parse_items_from_full : (here : ListContext) (found : Pieces) (rest : List Token) → has_item found ≡ true → ArePieces here found → pieces_height found ≤ d
      → ends here (kind_of rest) ≡ true → Listed S here (pieces_yield found ++ rest) found rest
  unfolding rule.parse_items_from IsWell yield_of height
  parse_items_from_full here tree.none rest some well small stop = never some
  parse_items_from_full here (tree.last x) rest some well small stop =
      record {
        first = x;
        later = rest;
        begun = begins_item here x rest well.0 well.1;
        starts = item_full S d full low here x rest well.0 well.1 small (ends_follows here (kind_of rest) stop);
        lists = last_full (length rest) here x rest well.2 stop;
        no_comprehension = ends_comprehension here (kind_of rest) stop;
        same = refl;
      }
  parse_items_from_full here (tree.piece x comma more) rest some well small stop =
      let later : List Token = comma ∷ (pieces_yield more ++ rest) in
      rw (append_assoc (yield_of x) (comma ∷ pieces_yield more) rest)
      (record {
        first = x;
        later = later;
        begun = begins_item here x later well.0 well.1;
        starts = item_full S d full low here x later well.0 well.1 (omega (arith, small)) (comma_follows here comma.kind well.2);
        lists = pieces_full more (length later) here x comma rest well.2 well.3 (omega (arith, small)) stop
            (omega (arith, few_commas more, length-append (pieces_yield more) rest));
        no_comprehension = ap begins_comprehension well.2;
        same = refl;
      })

  -- items, if there is one
  pub optional_items_full : (here : ListContext) (found : Pieces) (rest : List Token) → ArePieces here found → pieces_height found ≤ d
      → ends here (kind_of rest) ≡ true → rule.optional_items S here (pieces_yield found ++ rest) ≡ Some (found, rest)
  unfolding rule.optional_items yield_of
  optional_items_full here tree.none rest well small stop = no _ _ (begins here (kind_of rest)) rest _ (ends_begins here (kind_of rest) stop) refl
  optional_items_full here found rest well small stop =
      let all = parse_items_from_full here found rest refl well small stop in
      yes _ _ (begins here (kind_of (pieces_yield found ++ rest))) (pieces_yield found ++ rest) _ all.begun
      (step (rule.item S here (pieces_yield found ++ rest)) _ all.first all.later _ all.starts all.lists)

  -- ---- expressions and targets

  bare_full : (here : ListContext) (found : Pieces) (rest : List Token) → has_comma found ≡ true → ArePieces here found → pieces_height found + 1 ≤ d
      → ends here (kind_of rest) ≡ true → rule.expressions S here (pieces_yield found ++ rest) ≡ Some (tree.bare found, rest)
  unfolding rule.expressions height
  bare_full here tree.none rest comma well small stop = never comma
  bare_full here (tree.last x) rest comma well small stop = never comma
  bare_full here (tree.piece x between more) rest comma well small stop =
      let found : Pieces = tree.piece x between more in
      let all = parse_items_from_full here found rest refl well (omega (arith, small)) stop in
      step (rule.item S here (pieces_yield found ++ rest)) _ all.first all.later _ all.starts
      (step (rule.parse_items_from S here all.first all.later) _ found rest _ all.lists
      (made_low (tree.bare found) rest (omega (arith, small, low))))

  single_full : (here : ListContext) (e : Tree) (rest : List Token) → fits here e ≡ true → IsWell e → may_end (next_context here e) ≡ true → height e ≤ d
      → is_at 1 e ≡ true → ends here (kind_of rest) ≡ true → rule.expressions S here (yield_of e ++ rest) ≡ Some (e, rest)
  unfolding rule.expressions IsWell yield_of height
  single_full here e rest fit well may small high stop =
      let all = parse_items_from_full here (tree.last e) rest refl (fit, well, may) small stop in
      step (rule.item S here (yield_of e ++ rest)) _ all.first all.later _ all.starts
      (step (rule.parse_items_from S here all.first all.later) _ (tree.last e) rest _ all.lists
      (checked_holds (is_at 1 e) e rest high))

  -- an expression, or a tuple without brackets
  pub expressions_full : (e : Tree) (rest : List Token) → is_expression_list e ≡ true → IsWell e → height e ≤ d
      → ends list_context.Items (kind_of rest) ≡ true → rule.expressions S list_context.Items (yield_of e ++ rest) ≡ Some (e, rest)
  unfolding IsWell yield_of height
  expressions_full (tree.bare found) rest fit well small stop = bare_full list_context.Items found rest well.0 well.1 small stop
  expressions_full e rest fit well small stop = single_full list_context.Items e rest (one_item e fit) well refl small fit stop

  -- a target, or a tuple of targets without brackets
  pub targets_full : (e : Tree) (rest : List Token) → is_target e ≡ true → IsWell e → height e ≤ d
      → ends list_context.Targets (kind_of rest) ≡ true → rule.targets S (yield_of e ++ rest) ≡ Some (e, rest)
  unfolding rule.targets IsWell yield_of height is_target
  targets_full (tree.bare found) rest is well small stop =
      step (rule.expressions S list_context.Targets (pieces_yield found ++ rest)) _ (tree.bare found) rest _
      (bare_full list_context.Targets found rest well.0 (target_pieces false found well.1 is) small stop)
      (checked_holds (is_target (tree.bare found)) (tree.bare found) rest is)
  targets_full e rest is well small stop =
      let high : 6 ≤ precedence e = target_precedence e is refl in
      step (rule.expressions S list_context.Targets (yield_of e ++ rest)) _ e rest _
      (single_full list_context.Targets e rest (single_target e high) well refl small (at_precedence 1 e (omega (arith, high))) stop)
      (checked_holds (is_target e) e rest is)

  -- ---- `yield`

  pub yield_expression_full : (e : Tree) (rest : List Token) → is_yield e ≡ true → IsWell e → height e ≤ d → ends list_context.Items (kind_of rest) ≡ true
      → rule.yield_expression S (yield_of e ++ rest) ≡ Some (e, rest)
  unfolding rule.yield_expression rule.yield_from rule.yield_value take_one IsWell yield_of height
  yield_expression_full (tree.yield t tree.absent) rest is well small stop =
      no _ _ (same_kind (kind_of rest) (kind.Keyword word.From)) rest _ (apart (ends list_context.Items) (kind_of rest) (kind.Keyword word.From) stop refl)
      (no _ _ (begins list_context.Items (kind_of rest)) rest _ (ends_begins list_context.Items (kind_of rest) stop)
      (made_low (tree.yield t tree.absent) rest (omega (arith, small, low))))
  yield_expression_full (tree.yield t (tree.present x)) rest is well small stop =
      let begun : begins list_context.Items (kind_of (yield_of x ++ rest)) ≡ true = list_begins x rest well.1.0 well.1.1 in
      no _ _ (same_kind (kind_of (yield_of x ++ rest)) (kind.Keyword word.From)) (yield_of x ++ rest) _
      (apart (begins list_context.Items) _ (kind.Keyword word.From) begun refl)
      (yes _ _ (begins list_context.Items (kind_of (yield_of x ++ rest))) (yield_of x ++ rest) _ begun
      (step (rule.expressions S list_context.Items (yield_of x ++ rest)) _ x rest _
      (expressions_full x rest well.1.0 well.1.1 (omega (arith, small)) stop)
      (made_low (tree.yield t (tree.present x)) rest (omega (arith, small, low)))))
  yield_expression_full (tree.yield_from t from x) rest is well small stop =
      yes _ _ (same_kind from.kind (kind.Keyword word.From)) (from ∷ (yield_of x ++ rest)) _ (same_as from.kind (kind.Keyword word.From) well.1)
      (after S d full low 1 x rest _ _ well.3 (omega (arith, small)) (omega arith) well.2 (items_halt (kind_of rest) stop)
      (made_low (tree.yield_from t from x) rest (omega (arith, small, low))))
  yield_expression_full _ rest is well small stop = never is

  -- ---- clauses of comprehensions

  for_clause_full : (word_async : Option Token) (word_for : Token) (to : Tree) (word_in : Token) (e : Tree) (later : List Token)
      → word_for.kind ≡ kind.Keyword word.For → is_target to ≡ true → IsWell to → word_in.kind ≡ kind.Keyword word.In → 2 ≤ precedence e → IsWell e
      → height to ≤ d → height e ≤ d → infix_precedence (kind_of later) < 2 → is_string (kind_of later) ≡ false
      → rule.for_clause S word_async (word_for ∷ (yield_of to ++ (word_in ∷ (yield_of e ++ later))))
      ≡ Some (tree.for_clause word_async word_for to word_in e, later)
  unfolding rule.for_clause
  for_clause_full word_async word_for to word_in e later is_for is well_to is_in high well small_to small stop string =
      step (expect (kind.Keyword word.For) (word_for ∷ (yield_of to ++ (word_in ∷ (yield_of e ++ later))))) _ word_for
      (yield_of to ++ (word_in ∷ (yield_of e ++ later))) _ (expected (kind.Keyword word.For) word_for _ is_for)
      (step (rule.targets S (yield_of to ++ (word_in ∷ (yield_of e ++ later)))) _ to (word_in ∷ (yield_of e ++ later)) _
      (targets_full to (word_in ∷ (yield_of e ++ later)) is well_to small_to (ap (ends list_context.Targets) is_in))
      (step (expect (kind.Keyword word.In) (word_in ∷ (yield_of e ++ later))) _ word_in (yield_of e ++ later) _
      (expected (kind.Keyword word.In) word_in _ is_in)
      (step (S 2 (yield_of e ++ later)) _ e later _ (full.reads 2 e later well small (omega arith) high stop string) refl)))

  close_none : (k : Kind) → is_close k ≡ true → rule.comprehension_by S k ≡ None
  close_none (kind.Close b) is = refl
  close_none _ is = never is

  close_halts : (k : Kind) → is_close k ≡ true → (infix_precedence k < 2) × (is_string k ≡ false)
  close_halts (kind.Close b) is = (omega arith, refl)
  close_halts _ is = never is

  halts_by : (k q : Kind) → k ≡ q → (infix_precedence q < 2) × (is_string q ≡ false) → (infix_precedence k < 2) × (is_string k ≡ false)
  halts_by k q is h = (omega (arith, ap infix_precedence is, h.0), ap is_string is ∙ h.1)

  -- what stands behind an operand of a clause
  behind_comprehension : (more : Comprehensions) (closing : Token) (rest : List Token) → AreComprehensions more → is_close closing.kind ≡ true
      → (infix_precedence (kind_of (comprehensions_yield more ++ (closing ∷ rest))) < 2) × (is_string (kind_of (comprehensions_yield more ++ (closing ∷ rest))) ≡ false)
  unfolding IsWell yield_of
  behind_comprehension tree.no_comprehension closing rest well close = close_halts closing.kind close
  behind_comprehension (tree.for_clause None word_for to word_in e more) closing rest well close =
      halts_by word_for.kind (kind.Keyword word.For) well.1 (omega arith, refl)
  behind_comprehension (tree.for_clause (Some word_async) word_for to word_in e more) closing rest well close =
      halts_by word_async.kind (kind.Keyword word.Async) well.0 (omega arith, refl)
  behind_comprehension (tree.if_clause word_if e more) closing rest well close = halts_by word_if.kind (kind.Keyword word.If) well.0 (omega arith, refl)

  joined_full : (comprehension : Parser (Comprehensions → Comprehensions)) (k : Kind) (q : Kind) (p : Parser Comprehensions) (ts : List Token) (front : Comprehensions → Comprehensions)
      (later : List Token) (more : Comprehensions) (rest : List Token) → k ≡ q → rule.comprehension_by S q ≡ Some comprehension → comprehension ts ≡ Some (front, later)
      → p later ≡ Some (more, rest)
      → rule.joined S (rule.comprehension_by S k) p ts ≡ Some (front more, rest)
  joined_full comprehension k q p ts front later more rest is by one others =
      ap (λ c. rule.joined S c p ts) (ap (rule.comprehension_by S) is ∙ by)
      ∙ step (comprehension ts) _ front later _ one (step (p later) _ more rest _ others refl)

  comprehensions_of_full : (found : Comprehensions) (n : ℕ) (closing : Token) (rest : List Token) → AreComprehensions found → comprehensions_height found ≤ d → turns found ≤ n
      → is_close closing.kind ≡ true → rule.comprehensions_of S n (comprehensions_yield found ++ (closing ∷ rest)) ≡ Some (found, closing ∷ rest)
  unfolding rule.comprehensions_of rule.async_clause rule.if_clause take_one IsWell yield_of height
  comprehensions_of_full tree.no_comprehension zero closing rest well small few close = refl
  comprehensions_of_full tree.no_comprehension (suc n) closing rest well small few close =
      ap (λ c. rule.joined S c (rule.comprehensions_of S n) (closing ∷ rest)) (close_none closing.kind close)
  comprehensions_of_full (tree.for_clause None word_for to word_in e more) zero closing rest well small few close = absurd (omega (arith, few))
  comprehensions_of_full (tree.for_clause (Some word_async) word_for to word_in e more) zero closing rest well small few close = absurd (omega (arith, few))
  comprehensions_of_full (tree.if_clause word_if e more) zero closing rest well small few close = absurd (omega (arith, few))
  comprehensions_of_full (tree.for_clause None word_for to word_in e more) (suc n) closing rest well small few close =
      let behind = behind_comprehension more closing rest well.7 close in
      rw (append_assoc (yield_of to) (word_in ∷ (yield_of e ++ comprehensions_yield more)) (closing ∷ rest))
      (rw (append_assoc (yield_of e) (comprehensions_yield more) (closing ∷ rest))
      (joined_full (rule.for_clause S None) word_for.kind (kind.Keyword word.For) (rule.comprehensions_of S n) _ (tree.for_clause None word_for to word_in e)
      (comprehensions_yield more ++ (closing ∷ rest)) more (closing ∷ rest) well.1 refl
      (for_clause_full None word_for to word_in e (comprehensions_yield more ++ (closing ∷ rest)) well.1 well.2 well.3 well.4 well.5 well.6
      (omega (arith, small)) (omega (arith, small)) behind.0 behind.1)
      (comprehensions_of_full more n closing rest well.7 (omega (arith, small)) (omega (arith, few)) close)))
  comprehensions_of_full (tree.for_clause (Some word_async) word_for to word_in e more) (suc n) closing rest well small few close =
      let behind = behind_comprehension more closing rest well.7 close in
      rw (append_assoc (yield_of to) (word_in ∷ (yield_of e ++ comprehensions_yield more)) (closing ∷ rest))
      (rw (append_assoc (yield_of e) (comprehensions_yield more) (closing ∷ rest))
      (joined_full (rule.async_clause S) word_async.kind (kind.Keyword word.Async) (rule.comprehensions_of S n) _
      (tree.for_clause (Some word_async) word_for to word_in e)
      (comprehensions_yield more ++ (closing ∷ rest)) more (closing ∷ rest) well.0 refl
      (for_clause_full (Some word_async) word_for to word_in e (comprehensions_yield more ++ (closing ∷ rest)) well.1 well.2 well.3 well.4 well.5 well.6
      (omega (arith, small)) (omega (arith, small)) behind.0 behind.1)
      (comprehensions_of_full more n closing rest well.7 (omega (arith, small)) (omega (arith, few)) close)))
  comprehensions_of_full (tree.if_clause word_if e more) (suc n) closing rest well small few close =
      let behind = behind_comprehension more closing rest well.3 close in
      rw (append_assoc (yield_of e) (comprehensions_yield more) (closing ∷ rest))
      (joined_full (rule.if_clause S) word_if.kind (kind.Keyword word.If) (rule.comprehensions_of S n) _ (tree.if_clause word_if e)
      (comprehensions_yield more ++ (closing ∷ rest)) more (closing ∷ rest) well.0 refl
      (step (S 2 (yield_of e ++ (comprehensions_yield more ++ (closing ∷ rest)))) _ e (comprehensions_yield more ++ (closing ∷ rest)) _
      (full.reads 2 e (comprehensions_yield more ++ (closing ∷ rest)) well.2 (omega (arith, small)) (omega arith) well.1 behind.0 behind.1) refl)
      (comprehensions_of_full more n closing rest well.3 (omega (arith, small)) (omega (arith, few)) close))

  -- the clauses of a comprehension, which a bracket closes
  pub comprehensions_full : (found : Comprehensions) (closing : Token) (rest : List Token) → AreComprehensions found → comprehensions_height found ≤ d
      → is_close closing.kind ≡ true → rule.comprehensions S (comprehensions_yield found ++ (closing ∷ rest)) ≡ Some (found, closing ∷ rest)
  unfolding rule.comprehensions
  comprehensions_full found closing rest well small close =
      comprehensions_of_full found (length (comprehensions_yield found ++ (closing ∷ rest))) closing rest well small
      (omega (arith, few_turns found, length-append (comprehensions_yield found) (closing ∷ rest))) close

-- a comprehension begins with its first clause
pub comprehensions_begin : (found : Comprehensions) (rest : List Token) → AreComprehensions found → has_for found ≡ true
    → begins_comprehension (kind_of (comprehensions_yield found ++ rest)) ≡ true
unfolding IsWell yield_of
comprehensions_begin (tree.for_clause None word_for to word_in e more) rest well headed = ap begins_comprehension well.1
comprehensions_begin (tree.for_clause (Some word_async) word_for to word_in e more) rest well headed = ap begins_comprehension well.0
comprehensions_begin _ rest well headed = never headed
