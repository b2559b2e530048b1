-- Each item of a list is read back where it stands.
use Rattle.std.proofs.Common.{◌≡◌, refl, ap, ◌∙◌, ℕ, ◌≤◌, ◌<◌, Bool, true, false, not, ◌||◌, ◌&&◌, List, ◌∷◌, ◌++◌, Some, append_assoc, append-nil, arith}
use Rattle.pyc_token.specs.declared.tokens.Delimiter.TheVariants as delimiter
use Rattle.pyc_token.specs.declared.tokens.Keyword.TheVariants as word
use Rattle.pyc_token.specs.declared.tokens.Kind.{Kind}
use Rattle.pyc_token.specs.declared.tokens.Kind.TheVariants as kind
use Rattle.pyc_token.specs.declared.tokens.Token.{Token}
use Rattle.pyc_tree.specs.declared.list_context.ListContext.{ListContext}
use Rattle.pyc_tree.specs.declared.list_context.ListContext.TheVariants as list_context
use Rattle.pyc_tree.specs.Tree.{Tree, Pieces, Links, Comprehensions, Perhaps, Tail}
use Rattle.pyc_tree.specs.Tree as tree
use Rattle.pyc_tree.specs.Kinds.{kind_of, same_kind, is_name, is_string, begins_expression}
use Rattle.pyc_tree.specs.Precedence.{infix_precedence, precedence}
use Rattle.pyc_tree.specs.Yield.{yield_of, perhaps_yield, tail_yield}
use Rattle.pyc_tree.specs.Height.{height, perhaps_height, tail_height, max_height}
use Rattle.pyc_tree.specs.Targets.{is_target}
use Rattle.pyc_tree.specs.ListContexts.{is_at, fits, is_star, is_double_star, is_colon, is_annotation, is_item, is_target_item, is_entry, is_index, is_with_item, is_argument, is_parameter}
use Rattle.pyc_tree.specs.Well.{IsWell, MayBe, MayFollow}
use Rattle.pyc_tree.specs.Parser.{Parsed, Parser, and_then, take_one, expect_name}
use Rattle.pyc_tree.specs.Items as rule
use Rattle.pyc_line.proofs.SoundTables.{never}
use Rattle.pyc_line.proofs.SoundTools.{precedence_at, or_first, either_first, either_second}
use Rattle.pyc_line.proofs.CompleteTools.{step, yes, no, same_as, apart, name_expected, made_low, checked_holds}
use Rattle.pyc_line.proofs.CompleteTables.{name_begins, tight_begins, no_star, no_double_star, no_colon, follows, is_common, Plain, plain, Bare, bare_parameters, bare_after_star, bare_keyword_only, after_targets, after_items, after_managers}
use Rattle.pyc_line.proofs.Complete.{Full, opens, last_keyword, keyword_any, plain_late, late_any}

-- ---- tokens that go on with nothing

pub record Halts (k : Kind) : Type 0 where
  pub loose : infix_precedence k ≡ 0
  pub string : is_string k ≡ false

pub halts_plain : {k : Kind} → Plain k → Halts k
halts_plain p = record { loose = p.loose; string = p.string }

halts_bare : {b : Bool} {k : Kind} → Bare b k → Halts k
halts_bare p = record { loose = p.loose; string = p.string }

pub halts_as : (k q : Kind) → k ≡ q → infix_precedence q ≡ 0 → is_string q ≡ false → Halts k
halts_as k q is loose string = record { loose = ap infix_precedence is ∙ loose; string = ap is_string is ∙ string }

-- no colon is none
no_such_colon : (k : Kind) → is_colon k ≡ false → same_kind k (kind.Delimiter delimiter.Colon) ≡ false
no_such_colon k none = apart (λ z. not (is_colon z)) k (kind.Delimiter delimiter.Colon) (ap not none) refl

pub both_first : (a b : Bool) → (a && b) ≡ true → a ≡ true
both_first true b h = refl
both_first false b h = never h

pub both_second : (a b : Bool) → (a && b) ≡ true → b ≡ true
both_second true b h = h
both_second false b h = never h

-- an item that may be starred, else an expression of a precedence
abbrev pub stands_at : ℕ → Tree → Bool
stands_at loosest (tree.starred _ e) = is_at 6 e
stands_at loosest e = is_at loosest e

item_stands : (e : Tree) → is_item e ≡ true → stands_at 1 e ≡ true
item_stands (tree.starred star x) fit = fit
item_stands _ fit = fit

target_stands : (e : Tree) → is_target_item e ≡ true → stands_at 6 e ≡ true
target_stands (tree.starred star x) fit = fit
target_stands _ fit = fit

module _ (S : ℕ → Parser Tree) (d : ℕ) (full : Full S d) (low : d ≤ max_height) where
  -- an expression that ends
  pub self_full : (loosest : ℕ) (t : Tree) (rest : List Token) → IsWell t → height t ≤ d → 1 ≤ loosest → loosest ≤ precedence t → Halts (kind_of rest)
      → S loosest (yield_of t ++ rest) ≡ Some (t, rest)
  self_full loosest t rest well small some high halts = full.reads loosest t rest well small some high (omega (arith, halts.loose)) halts.string

  pub after : {B : Type 0} (loosest : ℕ) (t : Tree) (rest : List Token) (f : Tree → Parser B) (r : Parsed B) → IsWell t → height t ≤ d → 1 ≤ loosest
      → loosest ≤ precedence t → Halts (kind_of rest) → f t rest ≡ r → and_then (S loosest (yield_of t ++ rest)) f ≡ r
  after loosest t rest f r well small some high halts next =
      step (S loosest (yield_of t ++ rest)) f t rest r (self_full loosest t rest well small some high halts) next

  -- ---- what stands behind a token

  pub tail_full : (k : Kind) (found : Tail) (rest : List Token) → MayFollow k (is_at 1) found → tail_height found ≤ d → Halts (kind_of rest)
      → same_kind (kind_of rest) k ≡ false → rule.tail S k (tail_yield found ++ rest) ≡ Some (found, rest)
  unfolding rule.tail take_one IsWell yield_of height
  tail_full k tree.nothing rest well small halts other = no _ _ (same_kind (kind_of rest) k) rest _ other refl
  tail_full k (tree.after t e) rest well small halts other =
      yes _ _ (same_kind t.kind k) (t ∷ (yield_of e ++ rest)) _ (same_as t.kind k well.0)
      (after 1 e rest _ _ well.2 small (omega arith) (precedence_at 1 e well.1) halts refl)

  optional_bound_full : (found : Perhaps) (rest : List Token) → MayBe (is_at 1) found → perhaps_height found ≤ d → Halts (kind_of rest)
      → begins_expression (kind_of rest) ≡ false → rule.optional_bound S (perhaps_yield found ++ rest) ≡ Some (found, rest)
  unfolding rule.optional_bound IsWell yield_of height
  optional_bound_full tree.absent rest well small halts other = no _ _ (begins_expression (kind_of rest)) rest _ other refl
  optional_bound_full (tree.present e) rest well small halts other =
      yes _ _ (begins_expression (kind_of (yield_of e ++ rest))) (yield_of e ++ rest) _ (opens e rest well.1 (precedence_at 1 e well.0))
      (after 1 e rest _ _ well.1 small (omega arith) (precedence_at 1 e well.0) halts refl)

  -- ---- items of displays

  starred_full : (loosest : ℕ) (star : Token) (e : Tree) (rest : List Token) → IsWell (tree.starred star e) → height (tree.starred star e) ≤ d
      → 1 ≤ loosest → loosest ≤ precedence e → infix_precedence (kind_of rest) < loosest → is_string (kind_of rest) ≡ false
      → rule.starred S loosest (star ∷ (yield_of e ++ rest)) ≡ Some (tree.starred star e, rest)
  unfolding rule.starred take_one IsWell height
  starred_full loosest star e rest well small some high stop string =
      step (S loosest (yield_of e ++ rest)) _ e rest _ (full.reads loosest e rest well.2 (omega (arith, small)) some high stop string)
      (made_low (tree.starred star e) rest (omega (arith, small, low)))

  starred_or_expression_full : (loosest : ℕ) (e : Tree) (rest : List Token) → IsWell e → height e ≤ d → 1 ≤ loosest → loosest ≤ 6 → stands_at loosest e ≡ true
      → infix_precedence (kind_of rest) < loosest → is_string (kind_of rest) ≡ false
      → rule.starred_or_expression S loosest (kind_of (yield_of e ++ rest)) (yield_of e ++ rest) ≡ Some (e, rest)
  unfolding IsWell yield_of
  starred_or_expression_full loosest (tree.starred star x) rest well small some few fit stop string =
      yes _ _ (is_star star.kind) (star ∷ (yield_of x ++ rest)) _ (ap is_star well.0)
      (starred_full 6 star x rest well small (omega arith) (precedence_at 6 x fit) (omega (arith, stop)) string)
  starred_or_expression_full loosest e rest well small some few fit stop string =
      let high : loosest ≤ precedence e = precedence_at loosest e fit in
      no _ _ (is_star (kind_of (yield_of e ++ rest))) (yield_of e ++ rest) _ (no_star _ (opens e rest well (omega (arith, high))))
      (full.reads loosest e rest well small some high stop string)

  mapping_full : (stars : Token) (e : Tree) (rest : List Token) → IsWell (tree.mapping stars e) → height (tree.mapping stars e) ≤ d
      → Halts (kind_of rest)
      → rule.mapping S (stars ∷ (yield_of e ++ rest)) ≡ Some (tree.mapping stars e, rest)
  unfolding rule.mapping take_one IsWell height
  mapping_full stars e rest well small halts =
      after 6 e rest _ _ well.2 small (omega arith) well.1 halts (made_low (tree.mapping stars e) rest (omega (arith, small, low)))

  entry_full : (key : Tree) (colon : Token) (value : Tree) (rest : List Token) → IsWell (tree.entry key colon value)
      → height (tree.entry key colon value) ≤ d → Halts (kind_of rest)
      → rule.element_or_entry S (yield_of key ++ (colon ∷ (yield_of value ++ rest))) ≡ Some (tree.entry key colon value, rest)
  unfolding rule.element_or_entry take_one IsWell height
  entry_full key colon value rest well small halts =
      after 1 key (colon ∷ (yield_of value ++ rest)) _ _ well.1 (omega (arith, small)) (omega arith) well.0
      (halts_as colon.kind (kind.Delimiter delimiter.Colon) well.2 refl refl)
      (yes _ _ (is_colon colon.kind) (colon ∷ (yield_of value ++ rest)) _ (ap is_colon well.2)
      (after 1 value rest _ _ well.4 (omega (arith, small)) (omega arith) well.3 halts
      (made_low (tree.entry key colon value) rest (omega (arith, small, low)))))

  element_full : (e : Tree) (rest : List Token) → IsWell e → height e ≤ d → 1 ≤ precedence e → Plain (kind_of rest)
      → rule.brace_item_by_kind S (kind_of (yield_of e ++ rest)) (yield_of e ++ rest) ≡ Some (e, rest)
  unfolding rule.element_or_entry
  element_full e rest well small high p =
      let begun : begins_expression (kind_of (yield_of e ++ rest)) ≡ true = opens e rest well high in
      no _ _ (is_star (kind_of (yield_of e ++ rest))) (yield_of e ++ rest) _ (no_star _ begun)
      (no _ _ (is_double_star (kind_of (yield_of e ++ rest))) (yield_of e ++ rest) _ (no_double_star _ begun)
      (after 1 e rest _ _ well small (omega arith) high (halts_plain p)
      (no _ _ (is_colon (kind_of rest)) rest _ p.colon refl)))

  brace_full : (e : Tree) (rest : List Token) → (is_item e || is_entry e) ≡ true → IsWell e → height e ≤ d → Plain (kind_of rest)
      → rule.brace_item_by_kind S (kind_of (yield_of e ++ rest)) (yield_of e ++ rest) ≡ Some (e, rest)
  unfolding IsWell yield_of
  brace_full (tree.starred star x) rest fit well small p =
      yes _ _ (is_star star.kind) (star ∷ (yield_of x ++ rest)) _ (ap is_star well.0)
      (starred_full 6 star x rest well small (omega arith) (precedence_at 6 x (or_first (is_at 6 x) false fit refl)) (omega (arith, p.loose)) p.string)
  brace_full (tree.entry key colon value) rest fit well small p =
      let begun : begins_expression (kind_of (yield_of key ++ (colon ∷ (yield_of value ++ rest)))) ≡ true = opens key _ well.1 well.0 in
      rw (append_assoc (yield_of key) (colon ∷ yield_of value) rest)
      (no _ _ (is_star (kind_of (yield_of key ++ (colon ∷ (yield_of value ++ rest))))) (yield_of key ++ (colon ∷ (yield_of value ++ rest))) _ (no_star _ begun)
      (no _ _ (is_double_star (kind_of (yield_of key ++ (colon ∷ (yield_of value ++ rest))))) _ _ (no_double_star _ begun)
      (entry_full key colon value rest well small (halts_plain p))))
  brace_full (tree.mapping stars x) rest fit well small p =
      no _ _ (is_star stars.kind) (stars ∷ (yield_of x ++ rest)) _ (ap is_star well.0)
      (yes _ _ (is_double_star stars.kind) (stars ∷ (yield_of x ++ rest)) _ (ap is_double_star well.0)
      (mapping_full stars x rest well small (halts_plain p)))
  brace_full e rest fit well small p = element_full e rest well small (precedence_at 1 e (or_first (is_at 1 e) false fit refl)) p

  -- ---- arguments

  argument_full : (e : Tree) (rest : List Token) → is_argument e ≡ true → IsWell e → height e ≤ d → Plain (kind_of rest)
      → rule.argument_by_kind S (kind_of (yield_of e ++ rest)) (yield_of e ++ rest) ≡ Some (e, rest)
  unfolding rule.double_starred rule.argument take_one IsWell yield_of height
  argument_full (tree.starred star x) rest fit well small p =
      yes _ _ (is_star star.kind) (star ∷ (yield_of x ++ rest)) _ (ap is_star well.0)
      (starred_full 1 star x rest well small (omega arith) (precedence_at 1 x fit) (omega (arith, p.loose)) p.string)
  argument_full (tree.double_starred stars x) rest fit well small p =
      no _ _ (is_star stars.kind) (stars ∷ (yield_of x ++ rest)) _ (ap is_star well.0)
      (yes _ _ (is_double_star stars.kind) (stars ∷ (yield_of x ++ rest)) _ (ap is_double_star well.0)
      (after 1 x rest _ _ well.2 (omega (arith, small)) (omega arith) well.1 (halts_plain p)
      (made_low (tree.double_starred stars x) rest (omega (arith, small, low)))))
  argument_full (tree.keyword name equal x) rest fit well small p =
      let begun : begins_expression name.kind ≡ true = tight_begins name.kind (name_begins name.kind well.0) in
      no _ _ (is_star name.kind) (name ∷ equal ∷ (yield_of x ++ rest)) _ (no_star name.kind begun)
      (no _ _ (is_double_star name.kind) (name ∷ equal ∷ (yield_of x ++ rest)) _ (no_double_star name.kind begun)
      (after 1 (tree.name name) (equal ∷ (yield_of x ++ rest)) _ _ well.0 (omega (arith, small)) (omega arith) (omega arith)
      (halts_as equal.kind (kind.Delimiter delimiter.Equal) well.1 refl refl)
      (yes _ _ (same_kind equal.kind (kind.Delimiter delimiter.Equal)) (equal ∷ (yield_of x ++ rest)) _ (same_as equal.kind (kind.Delimiter delimiter.Equal) well.1)
      (after 1 x rest _ _ well.3 (omega (arith, small)) (omega arith) well.2 (halts_plain p)
      (made_low (tree.keyword name equal x) rest (omega (arith, small, low)))))))
  argument_full (tree.argument x) rest fit well small p =
      let begun : begins_expression (kind_of (yield_of x ++ rest)) ≡ true = opens x rest well.1 well.0 in
      no _ _ (is_star (kind_of (yield_of x ++ rest))) (yield_of x ++ rest) _ (no_star _ begun)
      (no _ _ (is_double_star (kind_of (yield_of x ++ rest))) (yield_of x ++ rest) _ (no_double_star _ begun)
      (after 1 x rest _ _ well.1 (omega (arith, small)) (omega arith) well.0 (halts_plain p)
      (no _ _ (same_kind (kind_of rest) (kind.Delimiter delimiter.Equal)) rest _ p.equal
      (made_low (tree.argument x) rest (omega (arith, small, low))))))
  argument_full _ rest fit well small p = never fit

  -- ---- indices

  parse_slice_full : (lower : Perhaps) (colon : Token) (upper : Perhaps) (rest : List Token) → IsWell (tree.slice lower colon upper)
      → height (tree.slice lower colon upper) ≤ d → Plain (kind_of rest)
      → rule.parse_slice S lower (colon ∷ (perhaps_yield upper ++ rest)) ≡ Some (tree.slice lower colon upper, rest)
  unfolding rule.parse_slice take_one IsWell height
  parse_slice_full lower colon upper rest well small p =
      step (rule.optional_bound S (perhaps_yield upper ++ rest)) _ upper rest _
      (optional_bound_full upper rest well.2 (omega (arith, small)) (halts_plain p) p.begins)
      (no _ _ (is_colon (kind_of rest)) rest _ p.colon (made_low (tree.slice lower colon upper) rest (omega (arith, small, low))))

  stride_full : (lower : Perhaps) (colon : Token) (upper : Perhaps) (second : Token) (by : Perhaps) (rest : List Token)
      → IsWell (tree.stride lower colon upper second by)
      → height (tree.stride lower colon upper second by) ≤ d → Plain (kind_of rest)
      → rule.parse_slice S lower (colon ∷ (perhaps_yield upper ++ (second ∷ (perhaps_yield by ++ rest)))) ≡ Some (tree.stride lower colon upper second by, rest)
  unfolding rule.parse_slice take_one IsWell height
  stride_full lower colon upper second by rest well small p =
      step (rule.optional_bound S (perhaps_yield upper ++ (second ∷ (perhaps_yield by ++ rest)))) _ upper (second ∷ (perhaps_yield by ++ rest)) _
      (optional_bound_full upper (second ∷ (perhaps_yield by ++ rest)) well.2 (omega (arith, small))
      (halts_as second.kind (kind.Delimiter delimiter.Colon) well.3 refl refl) (ap begins_expression well.3))
      (yes _ _ (is_colon second.kind) (second ∷ (perhaps_yield by ++ rest)) _ (ap is_colon well.3)
      (step (rule.optional_bound S (perhaps_yield by ++ rest)) _ by rest _
      (optional_bound_full by rest well.4 (omega (arith, small)) (halts_plain p) p.begins)
      (made_low (tree.stride lower colon upper second by) rest (omega (arith, small, low)))))

  -- a slice after its lower bound, which is read
  bounded_full : (lower : Perhaps) (colon : Token) (later : List Token) (r : Parsed Tree) → MayBe (is_at 1) lower → perhaps_height lower ≤ d
      → colon.kind ≡ kind.Delimiter delimiter.Colon → rule.parse_slice S lower (colon ∷ later) ≡ r
      → rule.index S (perhaps_yield lower ++ (colon ∷ later)) ≡ r
  unfolding rule.index IsWell yield_of height
  bounded_full tree.absent colon later r well small is next = yes _ _ (is_colon colon.kind) (colon ∷ later) r (ap is_colon is) next
  bounded_full (tree.present x) colon later r well small is next =
      no _ _ (is_colon (kind_of (yield_of x ++ (colon ∷ later)))) (yield_of x ++ (colon ∷ later)) r
      (no_colon _ (opens x (colon ∷ later) well.1 (precedence_at 1 x well.0)))
      (after 1 x (colon ∷ later) _ r well.1 small (omega arith) (precedence_at 1 x well.0) (halts_as colon.kind (kind.Delimiter delimiter.Colon) is refl refl)
      (yes _ _ (is_colon colon.kind) (colon ∷ later) r (ap is_colon is) next))

  plain_index_full : (e : Tree) (rest : List Token) → IsWell e → height e ≤ d → 1 ≤ precedence e → Plain (kind_of rest)
      → rule.index S (yield_of e ++ rest) ≡ Some (e, rest)
  unfolding rule.index
  plain_index_full e rest well small high p =
      no _ _ (is_colon (kind_of (yield_of e ++ rest))) (yield_of e ++ rest) _ (no_colon _ (opens e rest well high))
      (after 1 e rest _ _ well small (omega arith) high (halts_plain p)
      (no _ _ (is_colon (kind_of rest)) rest _ p.colon refl))

  index_full : (e : Tree) (rest : List Token) → is_index e ≡ true → IsWell e → height e ≤ d → Plain (kind_of rest)
      → rule.index S (yield_of e ++ rest) ≡ Some (e, rest)
  unfolding IsWell yield_of height
  index_full (tree.slice lower colon upper) rest fit well small p =
      rw (append_assoc (perhaps_yield lower) (colon ∷ perhaps_yield upper) rest)
      (bounded_full lower colon (perhaps_yield upper ++ rest) _ well.0 (omega (arith, small)) well.1 (parse_slice_full lower colon upper rest well small p))
  index_full (tree.stride lower colon upper second by) rest fit well small p =
      rw (append_assoc (perhaps_yield lower) (colon ∷ (perhaps_yield upper ++ second ∷ perhaps_yield by)) rest)
      (rw (append_assoc (perhaps_yield upper) (second ∷ perhaps_yield by) rest)
      (bounded_full lower colon (perhaps_yield upper ++ (second ∷ (perhaps_yield by ++ rest))) _ well.0 (omega (arith, small)) well.1
      (stride_full lower colon upper second by rest well small p)))
  index_full e rest fit well small p = plain_index_full e rest well small (precedence_at 1 e fit) p

  -- ---- parameters

  annotation_full : (b : Bool) (found : Tail) (rest : List Token) → is_annotation b found ≡ true
      → MayFollow (kind.Delimiter delimiter.Colon) (is_at 1) found
      → tail_height found ≤ d → Halts (kind_of rest) → (b ≡ true → is_colon (kind_of rest) ≡ false)
      → rule.annotation S b (tail_yield found ++ rest) ≡ Some (found, rest)
  unfolding yield_of
  annotation_full true found rest fit well small halts colon =
      tail_full (kind.Delimiter delimiter.Colon) found rest well small halts (no_such_colon (kind_of rest) (colon refl))
  annotation_full false tree.nothing rest fit well small halts colon = refl
  annotation_full false (tree.after t e) rest fit well small halts colon = never fit

  -- what stands behind an annotation: a default, or what follows the parameter
  after_annotation : (b : Bool) (default : Tail) (rest : List Token) → MayFollow (kind.Delimiter delimiter.Equal) (is_at 1) default → Bare b (kind_of rest)
      → Halts (kind_of (tail_yield default ++ rest)) × (b ≡ true → is_colon (kind_of (tail_yield default ++ rest)) ≡ false)
  unfolding IsWell yield_of
  after_annotation b tree.nothing rest well p = (halts_bare p, p.colon)
  after_annotation b (tree.after t e) rest well p = (halts_as t.kind (kind.Delimiter delimiter.Equal) well.0 refl refl, λ h. ap is_colon well.0)

  plain_parameter_full : (b : Bool) (name : Token) (annotation default : Tail) (rest : List Token) → is_annotation b annotation ≡ true
      → IsWell (tree.parameter name annotation default)
      → height (tree.parameter name annotation default) ≤ d → Bare b (kind_of rest)
      → rule.plain_parameter S b (name ∷ (tail_yield annotation ++ (tail_yield default ++ rest))) ≡ Some (tree.parameter name annotation default, rest)
  unfolding rule.plain_parameter IsWell height
  plain_parameter_full b name annotation default rest fit well small p =
      let behind = after_annotation b default rest well.2 p in
      step (expect_name (name ∷ (tail_yield annotation ++ (tail_yield default ++ rest)))) _ name (tail_yield annotation ++ (tail_yield default ++ rest)) _
      (name_expected name _ well.0)
      (step (rule.annotation S b (tail_yield annotation ++ (tail_yield default ++ rest))) _ annotation (tail_yield default ++ rest) _
      (annotation_full b annotation (tail_yield default ++ rest) fit well.1 (omega (arith, small)) behind.0 behind.1)
      (step (rule.tail S (kind.Delimiter delimiter.Equal) (tail_yield default ++ rest)) _ default rest _
      (tail_full (kind.Delimiter delimiter.Equal) default rest well.2 (omega (arith, small)) (halts_bare p) p.equal)
      (made_low (tree.parameter name annotation default) rest (omega (arith, small, low)))))

  star_parameter_full : (b : Bool) (star name : Token) (annotation : Tail) (rest : List Token) → is_annotation b annotation ≡ true
      → IsWell (tree.star_parameter star name annotation)
      → height (tree.star_parameter star name annotation) ≤ d → Bare b (kind_of rest)
      → rule.star_parameter S b (star ∷ name ∷ (tail_yield annotation ++ rest)) ≡ Some (tree.star_parameter star name annotation, rest)
  unfolding rule.star_parameter take_one IsWell height
  star_parameter_full b star name annotation rest fit well small p =
      yes _ _ (is_name name.kind) (name ∷ (tail_yield annotation ++ rest)) _ well.1
      (step (rule.annotation S b (tail_yield annotation ++ rest)) _ annotation rest _
      (annotation_full b annotation rest fit well.2 (omega (arith, small)) (halts_bare p) p.colon)
      (made_low (tree.star_parameter star name annotation) rest (omega (arith, small, low))))

  bare_star_full : (b : Bool) (star : Token) (rest : List Token) → height (tree.bare_star star) ≤ d → Bare b (kind_of rest)
      → rule.star_parameter S b (star ∷ rest) ≡ Some (tree.bare_star star, rest)
  unfolding rule.star_parameter take_one
  bare_star_full b star rest small p =
      no _ _ (is_name (kind_of rest)) rest _ p.name (made_low (tree.bare_star star) rest (omega (arith, small, low)))

  double_parameter_full : (b : Bool) (stars name : Token) (annotation : Tail) (rest : List Token) → is_annotation b annotation ≡ true
      → IsWell (tree.double_parameter stars name annotation)
      → height (tree.double_parameter stars name annotation) ≤ d → Bare b (kind_of rest)
      → rule.double_parameter S b (stars ∷ name ∷ (tail_yield annotation ++ rest)) ≡ Some (tree.double_parameter stars name annotation, rest)
  unfolding rule.double_parameter take_one IsWell height
  double_parameter_full b stars name annotation rest fit well small p =
      step (expect_name (name ∷ (tail_yield annotation ++ rest))) _ name (tail_yield annotation ++ rest) _ (name_expected name _ well.1)
      (step (rule.annotation S b (tail_yield annotation ++ rest)) _ annotation rest _
      (annotation_full b annotation rest fit well.2 (omega (arith, small)) (halts_bare p) p.colon)
      (made_low (tree.double_parameter stars name annotation) rest (omega (arith, small, low))))

  parameter_full : (b : Bool) (e : Tree) (rest : List Token) → is_parameter b e ≡ true → IsWell e → height e ≤ d → Bare b (kind_of rest)
      → rule.parameter_by_kind S b (kind_of (yield_of e ++ rest)) (yield_of e ++ rest) ≡ Some (e, rest)
  unfolding IsWell yield_of
  parameter_full b (tree.star_parameter star name annotation) rest fit well small p =
      yes _ _ (is_star star.kind) (star ∷ name ∷ (tail_yield annotation ++ rest)) _ (ap is_star well.0)
      (star_parameter_full b star name annotation rest fit well small p)
  parameter_full b (tree.bare_star star) rest fit well small p =
      yes _ _ (is_star star.kind) (star ∷ rest) _ (ap is_star well) (bare_star_full b star rest small p)
  parameter_full b (tree.double_parameter stars name annotation) rest fit well small p =
      no _ _ (is_star stars.kind) (stars ∷ name ∷ (tail_yield annotation ++ rest)) _ (ap is_star well.0)
      (yes _ _ (is_double_star stars.kind) (stars ∷ name ∷ (tail_yield annotation ++ rest)) _ (ap is_double_star well.0)
      (double_parameter_full b stars name annotation rest fit well small p))
  parameter_full b (tree.parameter name annotation default) rest fit well small p =
      let begun : begins_expression name.kind ≡ true = tight_begins name.kind (name_begins name.kind well.0) in
      rw (append_assoc (tail_yield annotation) (tail_yield default) rest)
      (no _ _ (is_star name.kind) (name ∷ (tail_yield annotation ++ (tail_yield default ++ rest))) _ (no_star name.kind begun)
      (no _ _ (is_double_star name.kind) (name ∷ (tail_yield annotation ++ (tail_yield default ++ rest))) _ (no_double_star name.kind begun)
      (plain_parameter_full b name annotation default rest fit well small p)))
  parameter_full b _ rest fit well small p = never fit

  -- ---- context managers

  managed_full : (e : Tree) (rest : List Token) → is_with_item e ≡ true → IsWell e → height e ≤ d → Halts (kind_of rest)
      → same_kind (kind_of rest) (kind.Keyword word.As) ≡ false → rule.with_item S (yield_of e ++ rest) ≡ Some (e, rest)
  unfolding rule.with_item rule.with_target take_one IsWell yield_of height
  managed_full (tree.with_item x tree.nothing) rest fit well small halts other =
      rw (append-nil (yield_of x))
      (after 1 x rest _ _ well.1 (omega (arith, small)) (omega arith) well.0 halts
      (no _ _ (same_kind (kind_of rest) (kind.Keyword word.As)) rest _ other
      (made_low (tree.with_item x tree.nothing) rest (omega (arith, small, low)))))
  managed_full (tree.with_item x (tree.after t to)) rest fit well small halts other =
      rw (append_assoc (yield_of x) (t ∷ yield_of to) rest)
      (after 1 x (t ∷ (yield_of to ++ rest)) _ _ well.1 (omega (arith, small)) (omega arith) well.0 (halts_as t.kind (kind.Keyword word.As) well.2.0 refl refl)
      (yes _ _ (same_kind t.kind (kind.Keyword word.As)) (t ∷ (yield_of to ++ rest)) _ (same_as t.kind (kind.Keyword word.As) well.2.0)
      (after 6 to rest _ _ well.2.2 (omega (arith, small)) (omega arith) (precedence_at 6 to (both_first (is_at 6 to) (is_target to) well.2.1)) halts
      (yes _ _ (is_target to) rest _ (both_second (is_at 6 to) (is_target to) well.2.1)
      (made_low (tree.with_item x (tree.after t to)) rest (omega (arith, small, low)))))))
  managed_full _ rest fit well small halts other = never fit

  -- ---- by context

  item_by_context_full : (here : ListContext) (e : Tree) (rest : List Token) → fits here e ≡ true → IsWell e → height e ≤ d → follows here (kind_of rest) ≡ true
      → rule.item_by_context S here (kind_of (yield_of e ++ rest)) (yield_of e ++ rest) ≡ Some (e, rest)
  item_by_context_full list_context.Items e rest fit well small behind =
      let p = after_items (kind_of rest) behind in
      starred_or_expression_full 1 e rest well small (omega arith) (omega arith) (item_stands e fit) (omega (arith, p.0)) p.1
  item_by_context_full list_context.Targets e rest fit well small behind =
      let p = after_targets (kind_of rest) behind in
      starred_or_expression_full 6 e rest well small (omega arith) (omega arith) (target_stands e fit) p.0 p.1
  item_by_context_full list_context.Subscript e rest fit well small behind =
      index_full e rest fit well small (plain (kind_of rest) (or_first (is_common (kind_of rest)) false behind refl))
  item_by_context_full list_context.WithItems e rest fit well small behind =
      let p = after_managers (kind_of rest) behind in
      managed_full e rest fit well small (record { loose = p.0; string = p.1 }) p.2
  item_by_context_full list_context.Braces e rest fit well small behind =
      brace_full e rest fit well small (plain (kind_of rest) (or_first (is_common (kind_of rest)) false behind refl))
  item_by_context_full list_context.Set e rest fit well small behind =
      brace_full e rest (either_first (is_item e) (is_entry e) fit) well small
      (plain (kind_of rest) (or_first (is_common (kind_of rest)) false behind refl))
  item_by_context_full list_context.Entries e rest fit well small behind =
      brace_full e rest (either_second (is_item e) (is_entry e) fit) well small
      (plain (kind_of rest) (or_first (is_common (kind_of rest)) false behind refl))
  item_by_context_full list_context.Arguments e rest fit well small behind =
      argument_full e rest fit well small (plain (kind_of rest) (or_first (is_common (kind_of rest)) false behind refl))
  item_by_context_full list_context.KeywordArguments e rest fit well small behind =
      argument_full e rest (keyword_any e fit) well small (plain (kind_of rest) (or_first (is_common (kind_of rest)) false behind refl))
  item_by_context_full list_context.LastArguments e rest fit well small behind =
      argument_full e rest (keyword_any e (last_keyword e fit)) well small
      (plain (kind_of rest) (or_first (is_common (kind_of rest)) false behind refl))
  item_by_context_full (list_context.Parameters b) e rest fit well small behind = parameter_full b e rest fit well small (bare_parameters b (kind_of rest) behind)
  item_by_context_full (list_context.AfterStar b) e rest fit well small behind =
      parameter_full b e rest (late_any b e (plain_late b e fit)) well small (bare_after_star b (kind_of rest) behind)
  item_by_context_full (list_context.KeywordOnly b) e rest fit well small behind =
      parameter_full b e rest (late_any b e fit) well small (bare_keyword_only b (kind_of rest) behind)
  item_by_context_full list_context.Ended e rest fit well small behind = never fit

  -- an item that fits its place
  pub item_full : (here : ListContext) (e : Tree) (rest : List Token) → fits here e ≡ true → IsWell e → height e ≤ d → follows here (kind_of rest) ≡ true
      → rule.item S here (yield_of e ++ rest) ≡ Some (e, rest)
  unfolding rule.item
  item_full here e rest fit well small behind =
      step (rule.item_by_context S here (kind_of (yield_of e ++ rest)) (yield_of e ++ rest)) _ e rest _ (item_by_context_full here e rest fit well small behind)
      (checked_holds (fits here e) e rest fit)
