-- Lists with commas are well-formed where they stand, and so are targets and clauses.
use Rattle.std.proofs.Common.{◌≡◌, refl, ap, sym, ◌∙◌, ℕ, zero, suc, ◌≤◌, true, List, [], ◌∷◌, ◌++◌, length, Option, None, Some, append_assoc, arith}
use Rattle.pyc_token.specs.declared.tokens.Delimiter.TheVariants as delimiter
use Rattle.pyc_token.specs.declared.tokens.Keyword.TheVariants as word
use Rattle.pyc_token.specs.declared.tokens.Kind.{Kind}
use Rattle.pyc_token.specs.declared.tokens.Kind.TheVariants as kind
use Rattle.pyc_token.specs.declared.tokens.Token.{Token}
use Rattle.pyc_tree.specs.declared.list_context.ListContext.{ListContext}
use Rattle.pyc_tree.specs.declared.list_context.ListContext.TheVariants as list_context
use Rattle.pyc_tree.specs.Tree.{Tree, Pieces, Comprehensions}
use Rattle.pyc_tree.specs.Tree as tree
use Rattle.pyc_tree.specs.Kinds.{kind_of, same_kind, begins_comprehension}
use Rattle.pyc_tree.specs.Yield.{yield_of, pieces_yield, comprehensions_yield, optional_token}
use Rattle.pyc_tree.specs.Height.{height, pieces_height, max_height}
use Rattle.pyc_tree.specs.Targets.{is_target}
use Rattle.pyc_tree.specs.ListContexts.{is_at, fits, begins, next_context, may_end, is_item, is_target_item}
use Rattle.pyc_tree.specs.Well.{IsWell, ArePieces, AreComprehensions, IsAsync, has_item, has_for, is_expression_list}
use Rattle.pyc_tree.specs.Parser.{Parser, and_then}
use Rattle.pyc_tree.specs.Items as rule
use Rattle.pyc_line.proofs.Sound.{IsPart, IsOf, ArePart, AreListed, IsComprehension, AreComprehensionsRead, Good, first_of}
use Rattle.pyc_line.proofs.SoundTables.{never, same_kind_is}
use Rattle.pyc_line.proofs.SoundTools.{refused, bind, choose, after_one, after_expected, pure_as, checked_as, made_as, at_precedence, precedence_at}
use Rattle.pyc_line.proofs.SoundItems.{after_self, after_item}

-- ---- items that make targets

target_item : (e : Tree) → is_target_item e ≡ true → is_item e ≡ true
target_item (tree.starred star x) h = h
target_item e h = at_precedence 1 e (omega (arith, precedence_at 6 e h))

target_pieces : (found : Pieces) → ArePieces list_context.Targets found → ArePieces list_context.Items found
unfolding IsWell
target_pieces tree.none h = refl
target_pieces (tree.last e) h = (target_item e h.0, h.1, refl)
target_pieces (tree.piece e comma more) h = (target_item e h.0, h.1, h.2, target_pieces more h.3)

list_at : (e : Tree) → is_at 1 e ≡ true → is_expression_list e ≡ true
list_at (tree.bare found) h = refl
list_at e h = h

-- the first item is there
pub is_first : (found : Pieces) (e : Tree) → first_of found ≡ Some e → has_item found ≡ true
is_first tree.none e first = refused _ first
is_first (tree.last x) e first = refl
is_first (tree.piece x comma more) e first = refl

-- no clause begins where no token is left
none_begins : {G : Type 0} (ts : List Token) → length ts ≤ 0 → begins_comprehension (kind_of ts) ≡ true → G
none_begins [] few is = never is
none_begins (t ∷ ts) few is = absurd (omega arith)

module _ (S : ℕ → Parser Tree) (good : Good S) where
  -- ---- items with commas

  last_sound : (here : ListContext) (e : Tree) (ts0 ts : List Token) (found : Pieces) (rest : List Token) → fits here e ≡ true → IsPart ts0 e ts
      → rule.checked (may_end (next_context here e)) (tree.last e) ts ≡ Some (found, rest) → AreListed here e ts0 found rest
  unfolding IsWell yield_of height
  last_sound here e ts0 ts found rest fitting part is =
      checked_as (AreListed here e ts0) (may_end (next_context here e)) (tree.last e) found ts rest is (λ ends.
      record { pieces = (fitting, part.well, ends); text = part.text; low = part.low; first = refl })

  items_sound : (n : ℕ) (here : ListContext) (e : Tree) (ts0 ts : List Token) (found : Pieces) (rest : List Token) → fits here e ≡ true → IsPart ts0 e ts
      → rule.items S n here e ts ≡ Some (found, rest) → AreListed here e ts0 found rest
  unfolding rule.items IsWell yield_of height
  items_sound zero here e ts0 ts found rest fitting part is = last_sound here e ts0 ts found rest fitting part is
  items_sound (suc n) here e ts0 ts found rest fitting part is =
      choose _ _ (same_kind (kind_of ts) (kind.Delimiter delimiter.Comma)) ts (found, rest) is
      (λ comes e0.
      after_one _ ts (found, rest) e0 (λ comma ts1 is_one same e1.
      let sign : comma.kind ≡ kind.Delimiter delimiter.Comma = same ∙ same_kind_is (kind_of ts) (kind.Delimiter delimiter.Comma) comes in
      choose _ _ (begins (next_context here e) (kind_of ts1)) ts1 (found, rest) e1
      (λ begun e2.
      after_item S good (next_context here e) _ ts1 (found, rest) e2 (λ x ts2 fitting_x part_x e3.
      bind (rule.items S n (next_context here e) x ts2) _ (found, rest) e3 (λ more ts3 is_more e4.
      let later = items_sound n (next_context here e) x ts1 ts2 more ts3 fitting_x part_x is_more in
      pure_as (AreListed here e ts0) (tree.piece e comma more) found ts3 rest e4
      (record { pieces = (fitting, part.well, sign, later.pieces); text = simp append_assoc (cc); low = omega arith; first = refl }))))
      (λ none e2.
      checked_as (AreListed here e ts0) (may_end (next_context here e)) (tree.piece e comma tree.none) found ts1 rest e2 (λ ends.
      record { pieces = (fitting, part.well, sign, ends); text = simp append_assoc (cc); low = omega arith; first = refl }))))
      (λ other e0. last_sound here e ts0 ts found rest fitting part e0)

  -- items after the first
  pub parse_items_from_sound : (here : ListContext) (e : Tree) (ts0 ts : List Token) (found : Pieces) (rest : List Token) → fits here e ≡ true → IsPart ts0 e ts
      → rule.parse_items_from S here e ts ≡ Some (found, rest) → AreListed here e ts0 found rest
  unfolding rule.parse_items_from
  parse_items_from_sound here e ts0 ts found rest fitting part is = items_sound (length ts) here e ts0 ts found rest fitting part is

  pub after_listed : {B G : Type 0} (here : ListContext) (e : Tree) (f : Pieces → Parser B) (ts0 ts : List Token) (r : B × List Token)
      → and_then (rule.parse_items_from S here e ts) f ≡ Some r → fits here e ≡ true → IsPart ts0 e ts
      → ((found : Pieces) (later : List Token) → AreListed here e ts0 found later → f found later ≡ Some r → G) → G
  after_listed here e f ts0 ts r is fitting part go =
      bind (rule.parse_items_from S here e ts) f r is (λ found later one next. go found later (parse_items_from_sound here e ts0 ts found later fitting part one) next)

  -- items, if one begins
  pub optional_items_sound : (here : ListContext) (ts : List Token) (found : Pieces) (rest : List Token) → may_end here ≡ true
      → rule.optional_items S here ts ≡ Some (found, rest) → ArePart here ts found rest
  unfolding rule.optional_items IsWell yield_of height
  optional_items_sound here ts found rest ends is =
      choose _ _ (begins here (kind_of ts)) ts (found, rest) is
      (λ begun e0.
      after_item S good here _ ts (found, rest) e0 (λ e ts1 fitting part e1.
      let all = parse_items_from_sound here e ts ts1 found rest fitting part e1 in
      record { pieces = all.pieces; text = all.text; low = all.low }))
      (λ none e0. pure_as (ArePart here ts) tree.none found ts rest e0 (record { pieces = ends; text = refl; low = omega arith }))

  -- ---- expressions and targets

  single_or_tuple_sound : (found : Pieces) (ts0 ts : List Token) (t : Tree) (rest : List Token) → ArePieces list_context.Items found
      → ts0 ≡ pieces_yield found ++ ts
      → pieces_height found ≤ max_height → has_item found ≡ true → rule.single_or_tuple S found ts ≡ Some (t, rest) → IsOf is_expression_list ts0 t rest
  unfolding IsWell yield_of height
  single_or_tuple_sound tree.none ts0 ts t rest pieces text low some e = never some
  single_or_tuple_sound (tree.last x) ts0 ts t rest pieces text low some e =
      checked_as (IsOf is_expression_list ts0) (is_at 1 x) x t ts rest e (λ high.
      record { well = pieces.1; text = text; low = low; passes = list_at x high })
  single_or_tuple_sound (tree.piece x comma more) ts0 ts t rest pieces text low some e =
      made_as (IsOf is_expression_list ts0) (tree.bare (tree.piece x comma more)) t ts rest e (λ small.
      record { well = (refl, pieces); text = text; low = small; passes = refl })

  expressions_at : (here : ListContext) (ts : List Token) (t : Tree) (rest : List Token)
      → ((found : Pieces) → ArePieces here found → ArePieces list_context.Items found)
      → rule.expressions S here ts ≡ Some (t, rest) → IsOf is_expression_list ts t rest
  unfolding rule.expressions
  expressions_at here ts t rest are_items e =
      after_item S good here _ ts (t, rest) e (λ x ts1 fitting part e1.
      after_listed here x _ ts ts1 (t, rest) e1 fitting part (λ found ts2 all e2.
      single_or_tuple_sound found ts ts2 t rest (are_items found all.pieces) all.text all.low (is_first found x all.first) e2))

  -- an expression, or a tuple without brackets
  pub expressions_sound : (ts : List Token) (t : Tree) (rest : List Token) → rule.expressions S list_context.Items ts ≡ Some (t, rest)
      → IsOf is_expression_list ts t rest
  expressions_sound ts t rest e = expressions_at list_context.Items ts t rest (λ found pieces. pieces) e

  -- a target, or a tuple of targets without brackets
  pub targets_sound : (ts : List Token) (t : Tree) (rest : List Token) → rule.targets S ts ≡ Some (t, rest) → IsOf is_target ts t rest
  unfolding rule.targets
  targets_sound ts t rest e =
      bind (rule.expressions S list_context.Targets ts) _ (t, rest) e (λ x ts1 is e1.
      let got = expressions_at list_context.Targets ts x ts1 target_pieces is in
      checked_as (IsOf is_target ts) (is_target x) x t ts1 rest e1 (λ passes.
      record { well = got.well; text = got.text; low = got.low; passes = passes }))

  -- ---- clauses of comprehensions

  for_clause_sound : (word_async : Option Token) (ts0 ts : List Token) (front : Comprehensions → Comprehensions) (rest : List Token) → IsAsync word_async
      → ts0 ≡ optional_token word_async ++ ts → rule.for_clause S word_async ts ≡ Some (front, rest) → IsComprehension ts0 front rest
  unfolding rule.for_clause IsWell yield_of
  for_clause_sound word_async ts0 ts front rest async text e =
      after_expected (kind.Keyword word.For) _ ts (front, rest) e (λ word_for ts1 is_for sign_for e1.
      bind (rule.targets S ts1) _ (front, rest) e1 (λ to ts2 is_to e2.
      let target = targets_sound ts1 to ts2 is_to in
      after_expected (kind.Keyword word.In) _ ts2 (front, rest) e2 (λ word_in ts3 is_in sign_in e3.
      after_self S good 2 _ ts3 (front, rest) e3 (omega arith) (omega arith) (λ x ts4 got e4.
      pure_as (IsComprehension ts0) (tree.for_clause word_async word_for to word_in x) front ts4 rest e4
      (record {
        comprehensions = λ more are. (async, sign_for, target.passes, target.well, sign_in, got.high, got.well, are);
        text = λ more left is. simp append_assoc (cc);
        heads = λ more begins. refl;
      })))))

  async_clause_sound : (ts : List Token) (front : Comprehensions → Comprehensions) (rest : List Token) → kind_of ts ≡ kind.Keyword word.Async
      → rule.async_clause S ts ≡ Some (front, rest) → IsComprehension ts front rest
  unfolding rule.async_clause
  async_clause_sound ts front rest is e =
      after_one _ ts (front, rest) e (λ word_async ts1 is_one same e1.
      for_clause_sound (Some word_async) ts ts1 front rest (same ∙ is) is_one e1)

  if_clause_sound : (ts : List Token) (front : Comprehensions → Comprehensions) (rest : List Token) → kind_of ts ≡ kind.Keyword word.If
      → rule.if_clause S ts ≡ Some (front, rest) → IsComprehension ts front rest
  unfolding rule.if_clause IsWell yield_of
  if_clause_sound ts front rest is e =
      after_one _ ts (front, rest) e (λ word_if ts1 is_one same e1.
      after_self S good 2 _ ts1 (front, rest) e1 (omega arith) (omega arith) (λ x ts2 got e2.
      pure_as (IsComprehension ts) (tree.if_clause word_if x) front ts2 rest e2
      (record {
        comprehensions = λ more are. (same ∙ is, got.high, got.well, are);
        text = λ more left is. simp append_assoc (cc);
        heads = λ more begins. never (sym (ap begins_comprehension is) ∙ begins);
      })))

  -- a clause in front of those after it
  one_more : (comprehension : Parser (Comprehensions → Comprehensions)) (n : ℕ) (ts : List Token) (found : Comprehensions) (rest : List Token)
      → ((us : List Token) (more : Comprehensions) (left : List Token) → rule.comprehensions_of S n us ≡ Some (more, left) → AreComprehensionsRead n us more left)
      → ((front : Comprehensions → Comprehensions) (left : List Token) → comprehension ts ≡ Some (front, left) → IsComprehension ts front left)
      → rule.joined S (Some comprehension) (rule.comprehensions_of S n) ts ≡ Some (found, rest) → AreComprehensionsRead (suc n) ts found rest
  one_more comprehension n ts found rest later first e =
      bind (comprehension ts) _ (found, rest) e (λ front ts1 is e1.
      let head = first front ts1 is in
      bind (rule.comprehensions_of S n ts1) _ (found, rest) e1 (λ more ts2 is_more e2.
      let after = later ts1 more ts2 is_more in
      pure_as (AreComprehensionsRead (suc n) ts) (front more) found ts2 rest e2
      (record { comprehensions = head.comprehensions more after.comprehensions; text = head.text more ts2 after.text; heads = λ begins few. head.heads more begins })))

  comprehensions_by : (k : Kind) (n : ℕ) (ts : List Token) (found : Comprehensions) (rest : List Token) → kind_of ts ≡ k
      → ((us : List Token) (more : Comprehensions) (left : List Token) → rule.comprehensions_of S n us ≡ Some (more, left) → AreComprehensionsRead n us more left)
      → rule.joined S (rule.comprehension_by S k) (rule.comprehensions_of S n) ts ≡ Some (found, rest) → AreComprehensionsRead (suc n) ts found rest
  unfolding IsWell yield_of
  comprehensions_by (kind.Keyword word.For) n ts found rest is later e =
      one_more (rule.for_clause S None) n ts found rest later (λ front left one. for_clause_sound None ts ts front left tt refl one) e
  comprehensions_by (kind.Keyword word.Async) n ts found rest is later e =
      one_more (rule.async_clause S) n ts found rest later (λ front left one. async_clause_sound ts front left is one) e
  comprehensions_by (kind.Keyword word.If) n ts found rest is later e =
      one_more (rule.if_clause S) n ts found rest later (λ front left one. if_clause_sound ts front left is one) e
  comprehensions_by _ n ts found rest is later e =
      pure_as (AreComprehensionsRead (suc n) ts) tree.no_comprehension found ts rest e
      (record { comprehensions = tt; text = refl; heads = λ begins few. never (sym (ap begins_comprehension is) ∙ begins) })

  comprehensions_of_sound : (n : ℕ) (ts : List Token) (found : Comprehensions) (rest : List Token) → rule.comprehensions_of S n ts ≡ Some (found, rest)
      → AreComprehensionsRead n ts found rest
  unfolding rule.comprehensions_of IsWell yield_of
  comprehensions_of_sound zero ts found rest e =
      pure_as (AreComprehensionsRead 0 ts) tree.no_comprehension found ts rest e (record { comprehensions = tt; text = refl; heads = λ begins few. none_begins ts few begins })
  comprehensions_of_sound (suc n) ts found rest e = comprehensions_by (kind_of ts) n ts found rest refl (comprehensions_of_sound n) e

  -- the clauses of a comprehension, of which the first begins
  pub after_comprehensions : {B G : Type 0} (f : Comprehensions → Parser B) (ts : List Token) (r : B × List Token) → and_then (rule.comprehensions S ts) f ≡ Some r
      → begins_comprehension (kind_of ts) ≡ true
      → ((found : Comprehensions) (later : List Token) → AreComprehensions found → has_for found ≡ true → ts ≡ comprehensions_yield found ++ later → f found later ≡ Some r → G) → G
  unfolding rule.comprehensions
  after_comprehensions f ts r e begins go =
      bind (rule.comprehensions S ts) f r e (λ found later is next.
      let got = comprehensions_of_sound (length ts) ts found later is in
      go found later got.comprehensions (got.heads begins (omega arith)) got.text next)
