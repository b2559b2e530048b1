-- Each well-formed expression is read back from its tokens, where what follows does not go on with it.
use Rattle.std.proofs.Common.{◌≡◌, refl, ap, sym, ◌∙◌, ℕ, zero, suc, ◌+◌, ◌-◌, ◌≤◌, ◌<◌, Bool, true, false, not, ◌&&◌, nat_lt, if◌then◌else◌, List, [], ◌∷◌, ◌++◌, length, length-append, take, drop, Option, None, Some, take_while, append_assoc, arith}
use Rattle.std.proofs.lemmas.Bool.{lt-ltb, le-ltb}
use Rattle.std.proofs.Math.Seq.{take-append_seam, drop-append_seam}
use Rattle.std.specs.List.{prefix_len}
use Rattle.pyc_token.specs.declared.tokens.Arithmetic.TheVariants as op
use Rattle.pyc_token.specs.declared.tokens.Bracket.{Bracket}
use Rattle.pyc_token.specs.declared.tokens.Bracket.TheVariants as bracket
use Rattle.pyc_token.specs.declared.tokens.Delimiter.TheVariants as delimiter
use Rattle.pyc_token.specs.declared.tokens.Keyword.TheVariants as word
use Rattle.pyc_token.specs.declared.tokens.Kind.{Kind}
use Rattle.pyc_token.specs.declared.tokens.Kind.TheVariants as kind
use Rattle.pyc_token.specs.declared.tokens.Token.{Token}
use Rattle.pyc_tree.specs.declared.list_context.ListContext.TheVariants as list_context
use Rattle.pyc_tree.specs.Tree.{Tree, Pieces, Links}
use Rattle.pyc_tree.specs.Tree as tree
use Rattle.pyc_tree.specs.Kinds.{kind_of, same_kind, is_name, is_number, is_string, is_constant, is_comparison}
use Rattle.pyc_tree.specs.Precedence.{infix_precedence, left_precedence, right_precedence, prefix_precedence, precedence}
use Rattle.pyc_tree.specs.Yield.{yield_of, pieces_yield, comprehensions_yield, links_yield, optional_token}
use Rattle.pyc_tree.specs.Height.{height, links_height, max_height}
use Rattle.pyc_tree.specs.Well.{IsWell, AreLinks, IsSecondWord, is_bytes, are_joined, bracket_of}
use Rattle.pyc_tree.specs.Parser.{Parsed, Parser, take_one, expect, expect_name}
use Rattle.pyc_tree.specs.Items as rule
use Rattle.pyc_tree.specs.Expressions as grammar
use Rattle.pyc_line.proofs.SoundTables.{never, left_near, left_below, infix_precedence_comparison}
use Rattle.pyc_line.proofs.CompleteTools.{step, yes, no, same_as, apart, expected, name_expected, made_low, checked_holds}
use Rattle.pyc_line.proofs.CompleteTables.{begins_tight, ends, sign_stop, loose_stop, right_stop, compare_stop, left_string, comparison_string, comparison_left}
use Rattle.pyc_line.proofs.Complete.{Full, opens_tight}
use Rattle.pyc_line.proofs.CompleteItems.{both_first, both_second}
use Rattle.pyc_line.proofs.CompleteLists.{optional_items_full}
use Rattle.pyc_line.proofs.CompleteBrackets.{bracketed, display_full, comprehension_full, parenthesized_full, parse_call_full, parse_subscript_full}

-- ---- atoms

-- the literals at the front are all of them
literals_length : (of_bytes : Bool) (more rest : List Token) → are_joined of_bytes more ≡ true → is_string (kind_of rest) ≡ false
    → prefix_len grammar.is_literal (more ++ rest) ≡ length more
literals_length of_bytes [] [] joined stop = refl
literals_length of_bytes [] (t ∷ rest) joined stop = ap (λ (b : Bool). if b then 1 + prefix_len grammar.is_literal rest else 0) stop
literals_length of_bytes (t ∷ more) rest joined stop =
    let test : Bool = if of_bytes then is_bytes t.kind else not (is_bytes t.kind) in
    let here : is_string t.kind ≡ true =
    both_first (is_string t.kind) test (both_first (is_string t.kind && test) (are_joined of_bytes more) joined) in
    let later : prefix_len grammar.is_literal (more ++ rest) ≡ length more =
    literals_length of_bytes more rest (both_second (is_string t.kind && test) (are_joined of_bytes more) joined) stop in
    ap (λ (b : Bool). if b then 1 + prefix_len grammar.is_literal (more ++ rest) else 0) here ∙ omega (arith, later)

literals_full : (of_bytes : Bool) (more rest : List Token) → are_joined of_bytes more ≡ true → is_string (kind_of rest) ≡ false
    → grammar.literals (more ++ rest) ≡ Some (more, rest)
unfolding grammar.literals
literals_full of_bytes more rest joined stop =
    let front : take_while grammar.is_literal (more ++ rest) ≡ more =
    ap (λ n. take n (more ++ rest)) (literals_length of_bytes more rest joined stop) ∙ take-append_seam more rest in
    ap {B = Parsed (List Token)} (λ z. Some (z, drop (length z) (more ++ rest))) front
    ∙ ap {B = Parsed (List Token)} (λ z. Some (more, z)) (drop-append_seam more rest)

strings_full : (t : Token) (more rest : List Token) → are_joined (is_bytes t.kind) more ≡ true → is_string (kind_of rest) ≡ false
    → grammar.strings (t ∷ (more ++ rest)) ≡ Some (tree.strings t more, rest)
unfolding grammar.strings take_one
strings_full t more rest joined stop =
    step (grammar.literals (more ++ rest)) _ more rest _ (literals_full (is_bytes t.kind) more rest joined stop)
    (checked_holds (are_joined (is_bytes t.kind) more) (tree.strings t more) rest joined)

-- ---- comparisons

second_full : (k : Kind) (second : Option Token) (ts : List Token) → is_comparison k ≡ true → IsSecondWord k second
    → same_kind (kind_of ts) (kind.Keyword word.Not) ≡ false → grammar.second_word k (optional_token second ++ ts) ≡ Some (second, ts)
unfolding grammar.second_word take_one
second_full (kind.Keyword word.Not) None ts is fit other = absurd fit
second_full (kind.Keyword word.Not) (Some t) ts is fit other =
    step (expect (kind.Keyword word.In) (t ∷ ts)) _ t ts _ (expected (kind.Keyword word.In) t ts fit) refl
second_full (kind.Keyword word.Is) None ts is fit other = no _ _ (same_kind (kind_of ts) (kind.Keyword word.Not)) ts _ other refl
second_full (kind.Keyword word.Is) (Some t) ts is fit other =
    yes _ _ (same_kind t.kind (kind.Keyword word.Not)) (t ∷ ts) _ (same_as t.kind (kind.Keyword word.Not) fit) refl
second_full (kind.Keyword word.In) None ts is fit other = refl
second_full (kind.Keyword word.In) (Some t) ts is fit other = absurd fit
second_full (kind.Comparison c) None ts is fit other = refl
second_full (kind.Comparison c) (Some t) ts is fit other = absurd fit
second_full _ second ts is fit other = never is

abbrev count : Links → ℕ
count tree.unlinked = 0
count (tree.link _ _ _ more) = suc (count more)

few_links : (found : Links) → count found ≤ length (links_yield found)
unfolding yield_of
few_links tree.unlinked = omega arith
few_links (tree.link first second e more) =
    omega (arith, few_links more, length-append (optional_token second) (yield_of e ++ links_yield more), length-append (yield_of e) (links_yield more))

-- ---- the left spine

-- how many operators stand above the first operand
spine : Tree → ℕ
spine (tree.attribute e _ _) = suc (spine e)
spine (tree.call e _ _ _) = suc (spine e)
spine (tree.subscript e _ _ _) = suc (spine e)
spine (tree.binary a _ _) = suc (spine a)
spine (tree.compare a _) = suc (spine a)
spine (tree.conditional a _ _ _ _) = suc (spine a)
spine _ = 0

-- an expression begins with an operand, after which its operators are read
record ReadsOperandFirst (S : ℕ → Parser Tree) (m : ℕ) (t : Tree) (ts rest : List Token) : Type 0 where
  first : Tree
  later : List Token
  reads : grammar.prefix S m ts ≡ Some (first, later)
  climbs : (j n : ℕ) → n ≡ j + spine t → grammar.climb S m n first later ≡ grammar.climb S m j t rest
  enough : spine t + length rest ≤ length later

module _ (S : ℕ → Parser Tree) (d : ℕ) (full : Full S d) (low : suc d ≤ max_height) where
  low_items : d ≤ max_height
  low_items = omega (arith, low)

  -- ---- operands

  pub operand : (m : ℕ) (t : Token) (later : List Token) (q : Kind) (r : Parsed Tree) → t.kind ≡ q → grammar.prefix_by S m q (t ∷ later) ≡ r
      → grammar.prefix S m (t ∷ later) ≡ r
  unfolding grammar.prefix
  operand m t later q r is next = ap (λ k. grammar.prefix_by S m k (t ∷ later)) is ∙ next

  by_name : (m : ℕ) (k : Kind) → is_name k ≡ true → grammar.prefix_by S m k ≡ grammar.atom tree.name
  by_name m (kind.Name w) is = refl
  by_name m _ is = never is

  by_number : (m : ℕ) (k : Kind) → is_number k ≡ true → grammar.prefix_by S m k ≡ grammar.atom tree.number
  by_number m (kind.Number n) is = refl
  by_number m _ is = never is

  by_string : (m : ℕ) (k : Kind) → is_string k ≡ true → grammar.prefix_by S m k ≡ grammar.strings
  by_string m (kind.String p) is = refl
  by_string m _ is = never is

  by_constant : (m : ℕ) (k : Kind) → is_constant k ≡ true → grammar.prefix_by S m k ≡ grammar.atom tree.constant
  by_constant m (kind.Keyword word.False) is = refl
  by_constant m (kind.Keyword word.None) is = refl
  by_constant m (kind.Keyword word.True) is = refl
  by_constant m (kind.Delimiter delimiter.Ellipsis) is = refl
  by_constant m _ is = never is

  by_sign : (m : ℕ) (k : Kind) → 1 ≤ prefix_precedence k → grammar.prefix_by S m k ≡ grammar.parse_unary S m (prefix_precedence k)
  by_sign m (kind.Keyword word.Not) some = refl
  by_sign m (kind.Arithmetic op.Plus) some = refl
  by_sign m (kind.Arithmetic op.Minus) some = refl
  by_sign m (kind.Delimiter delimiter.Tilde) some = refl
  by_sign m _ some = absurd (omega arith)

  by_bracket : (m : ℕ) (sign : Bracket) → grammar.prefix_by S m (kind.Open sign) ≡ bracketed S d full low sign
  by_bracket m bracket.Round = refl
  by_bracket m bracket.Square = refl
  by_bracket m bracket.Curly = refl

  -- a token by itself
  atom_full : (m : ℕ) (t : Token) (rest : List Token) (form : Token → Tree) → grammar.prefix_by S m t.kind ≡ grammar.atom form
      → grammar.prefix S m (t ∷ rest) ≡ Some (form t, rest)
  unfolding grammar.prefix take_one
  atom_full m t rest form by = ap (λ (p : Parser Tree). p (t ∷ rest)) by

  in_brackets : (m : ℕ) (opening : Token) (later : List Token) (sign : Bracket) (r : Parsed Tree) → opening.kind ≡ kind.Open sign
      → bracketed S d full low sign (opening ∷ later) ≡ r → grammar.prefix S m (opening ∷ later) ≡ r
  in_brackets m opening later sign r is next =
      operand m opening later (kind.Open sign) r is (ap (λ (p : Parser Tree). p (opening ∷ later)) (by_bracket m sign) ∙ next)

  unary_full : (m : ℕ) (sign : Token) (e : Tree) (rest : List Token) → IsWell (tree.unary sign e) → height (tree.unary sign e) ≤ suc d
      → m ≤ prefix_precedence sign.kind → left_precedence (kind_of rest) ≤ prefix_precedence sign.kind → is_string (kind_of rest) ≡ false
      → grammar.prefix S m (sign ∷ (yield_of e ++ rest)) ≡ Some (tree.unary sign e, rest)
  unfolding grammar.prefix grammar.parse_unary take_one IsWell height
  unary_full m sign e rest well small high fits string =
      let own : ℕ = prefix_precedence sign.kind in
      ap (λ (p : Parser Tree). p (sign ∷ (yield_of e ++ rest))) (by_sign m sign.kind well.0)
      ∙ no _ _ (nat_lt own m) (sign ∷ (yield_of e ++ rest)) _ (le-ltb own m high)
      (step (S own (yield_of e ++ rest)) _ e rest _
      (full.reads own e rest well.2 (omega (arith, small)) well.0 well.1 (sign_stop sign.kind (kind_of rest) well.0 fits) string)
      (made_low (tree.unary sign e) rest (omega (arith, small, low))))

  await_full : (m : ℕ) (t : Token) (e : Tree) (rest : List Token) → IsWell (tree.await t e) → height (tree.await t e) ≤ suc d
      → m ≤ 14 → left_precedence (kind_of rest) ≤ 14 → is_string (kind_of rest) ≡ false
      → grammar.prefix S m (t ∷ (yield_of e ++ rest)) ≡ Some (tree.await t e, rest)
  unfolding grammar.await_expression take_one IsWell height
  await_full m t e rest well small high fits string =
      operand m t (yield_of e ++ rest) (kind.Keyword word.Await) _ well.0
      (no _ _ (nat_lt 14 m) (t ∷ (yield_of e ++ rest)) _ (le-ltb 14 m high)
      (step (S 15 (yield_of e ++ rest)) _ e rest _
      (full.reads 15 e rest well.2 (omega (arith, small)) (omega arith) well.1 (omega (arith, left_near (kind_of rest))) string)
      (made_low (tree.await t e) rest (omega (arith, small, low)))))

  lambda_full : (m : ℕ) (t : Token) (found : Pieces) (colon : Token) (body : Tree) (rest : List Token) → IsWell (tree.lambda t found colon body)
      → height (tree.lambda t found colon body) ≤ suc d → m ≤ 1 → left_precedence (kind_of rest) ≤ 1 → is_string (kind_of rest) ≡ false
      → grammar.prefix S m (t ∷ (pieces_yield found ++ (colon ∷ (yield_of body ++ rest)))) ≡ Some (tree.lambda t found colon body, rest)
  unfolding grammar.lambda take_one IsWell height
  lambda_full m t found colon body rest well small high fits string =
      operand m t (pieces_yield found ++ (colon ∷ (yield_of body ++ rest))) (kind.Keyword word.Lambda) _ well.0
      (no _ _ (nat_lt 1 m) (t ∷ (pieces_yield found ++ (colon ∷ (yield_of body ++ rest)))) _ (le-ltb 1 m high)
      (step (rule.optional_items S (list_context.Parameters false) (pieces_yield found ++ (colon ∷ (yield_of body ++ rest)))) _ found (colon ∷ (yield_of body ++ rest)) _
      (optional_items_full S d full low_items (list_context.Parameters false) found (colon ∷ (yield_of body ++ rest)) well.1 (omega (arith, small))
      (ap (ends (list_context.Parameters false)) well.2))
      (step (expect (kind.Delimiter delimiter.Colon) (colon ∷ (yield_of body ++ rest))) _ colon (yield_of body ++ rest) _
      (expected (kind.Delimiter delimiter.Colon) colon (yield_of body ++ rest) well.2)
      (step (S 1 (yield_of body ++ rest)) _ body rest _
      (full.reads 1 body rest well.4 (omega (arith, small)) (omega arith) well.3 (loose_stop (kind_of rest) fits) string)
      (made_low (tree.lambda t found colon body) rest (omega (arith, small, low)))))))

  string_operand : (m : ℕ) (t : Token) (more rest : List Token) → is_string t.kind ≡ true
      → grammar.strings (t ∷ (more ++ rest)) ≡ Some (tree.strings t more, rest)
      → grammar.prefix S m (t ∷ (more ++ rest)) ≡ Some (tree.strings t more, rest)
  unfolding grammar.prefix
  string_operand m t more rest is next = ap (λ (p : Parser Tree). p (t ∷ (more ++ rest))) (by_string m t.kind is) ∙ next

  -- ---- operators

  operates : (left : Tree) (t : Token) (later : List Token) (q : Kind) (r : Parsed Tree) → t.kind ≡ q → grammar.operation_by S left q (t ∷ later) ≡ r
      → grammar.operation S left (t ∷ later) ≡ r
  unfolding grammar.operation
  operates left t later q r is next = ap (λ k. grammar.operation_by S left k (t ∷ later)) is ∙ next

  by_operator : (left : Tree) (k : Kind) → 1 ≤ right_precedence k → grammar.operation_by S left k ≡ grammar.parse_binary S left (right_precedence k)
  by_operator left (kind.Keyword word.Or) some = refl
  by_operator left (kind.Keyword word.And) some = refl
  by_operator left (kind.Arithmetic o) some = refl
  by_operator left _ some = absurd (omega arith)

  by_comparison : (left : Tree) (k : Kind) → is_comparison k ≡ true → grammar.operation_by S left k ≡ grammar.parse_comparisons S left
  by_comparison left (kind.Keyword word.In) is = refl
  by_comparison left (kind.Keyword word.Is) is = refl
  by_comparison left (kind.Keyword word.Not) is = refl
  by_comparison left (kind.Comparison c) is = refl
  by_comparison left _ is = never is

  binary_full : (a : Tree) (sign : Token) (b : Tree) (rest : List Token) → IsWell (tree.binary a sign b) → height (tree.binary a sign b) ≤ suc d
      → left_precedence (kind_of rest) ≤ infix_precedence sign.kind → is_string (kind_of rest) ≡ false
      → grammar.operation S a (sign ∷ (yield_of b ++ rest)) ≡ Some (tree.binary a sign b, rest)
  unfolding grammar.operation grammar.parse_binary take_one IsWell height
  binary_full a sign b rest well small fits string =
      let right : ℕ = right_precedence sign.kind in
      ap (λ (p : Parser Tree). p (sign ∷ (yield_of b ++ rest))) (by_operator a sign.kind well.0)
      ∙ step (S right (yield_of b ++ rest)) _ b rest _
      (full.reads right b rest well.4 (omega (arith, small)) well.0 well.2 (right_stop sign.kind (kind_of rest) well.0 fits) string)
      (made_low (tree.binary a sign b) rest (omega (arith, small, low)))

  conditional_full : (a : Tree) (word_if : Token) (test : Tree) (word_else : Token) (b : Tree) (rest : List Token)
      → IsWell (tree.conditional a word_if test word_else b)
      → height (tree.conditional a word_if test word_else b) ≤ suc d → left_precedence (kind_of rest) ≤ 1 → is_string (kind_of rest) ≡ false
      → grammar.operation S a (word_if ∷ (yield_of test ++ (word_else ∷ (yield_of b ++ rest)))) ≡ Some (tree.conditional a word_if test word_else b, rest)
  unfolding grammar.conditional take_one IsWell height
  conditional_full a word_if test word_else b rest well small fits string =
      operates a word_if (yield_of test ++ (word_else ∷ (yield_of b ++ rest))) (kind.Keyword word.If) _ well.2
      (step (S 2 (yield_of test ++ (word_else ∷ (yield_of b ++ rest)))) _ test (word_else ∷ (yield_of b ++ rest)) _
      (full.reads 2 test (word_else ∷ (yield_of b ++ rest)) well.4 (omega (arith, small)) (omega arith) well.3 (omega (arith, ap infix_precedence well.5)) (ap is_string well.5))
      (step (expect (kind.Keyword word.Else) (word_else ∷ (yield_of b ++ rest))) _ word_else (yield_of b ++ rest) _
      (expected (kind.Keyword word.Else) word_else (yield_of b ++ rest) well.5)
      (step (S 1 (yield_of b ++ rest)) _ b rest _
      (full.reads 1 b rest well.7 (omega (arith, small)) (omega arith) well.6 (loose_stop (kind_of rest) fits) string)
      (made_low (tree.conditional a word_if test word_else b) rest (omega (arith, small, low))))))

  attribute_full : (e : Tree) (dot name : Token) (rest : List Token) → IsWell (tree.attribute e dot name) → height (tree.attribute e dot name) ≤ suc d
      → grammar.operation S e (dot ∷ name ∷ rest) ≡ Some (tree.attribute e dot name, rest)
  unfolding grammar.attribute take_one IsWell
  attribute_full e dot name rest well small =
      operates e dot (name ∷ rest) (kind.Delimiter delimiter.Dot) _ well.2
      (step (expect_name (name ∷ rest)) _ name rest _ (name_expected name rest well.3)
      (made_low (tree.attribute e dot name) rest (omega (arith, small, low))))

  -- what stands behind the operand of a comparison
  behind_link : (more : Links) (rest : List Token) → AreLinks more → infix_precedence (kind_of rest) < 6 → is_string (kind_of rest) ≡ false
      → (infix_precedence (kind_of (links_yield more ++ rest)) < 6) × (is_string (kind_of (links_yield more ++ rest)) ≡ false)
  unfolding IsWell yield_of
  behind_link tree.unlinked rest well stop string = (stop, string)
  behind_link (tree.link first second e more) rest well stop string =
      (omega (arith, infix_precedence_comparison first.kind well.0.0), comparison_string first.kind well.0.0)

  links_full : (found : Links) (n : ℕ) (rest : List Token) → AreLinks found → links_height found ≤ d → count found ≤ n
      → is_comparison (kind_of rest) ≡ false → infix_precedence (kind_of rest) < 6 → is_string (kind_of rest) ≡ false
      → grammar.links S n (links_yield found ++ rest) ≡ Some (found, rest)
  unfolding grammar.links grammar.one_link take_one IsWell yield_of height
  links_full tree.unlinked zero rest well small few other stop string = refl
  links_full tree.unlinked (suc n) rest well small few other stop string = no _ _ (is_comparison (kind_of rest)) rest _ other refl
  links_full (tree.link first second e more) zero rest well small few other stop string = absurd (omega (arith, few))
  links_full (tree.link first second e more) (suc n) rest well small few other stop string =
      let left : List Token = yield_of e ++ (links_yield more ++ rest) in
      let behind = behind_link more rest well.2 stop string in
      rw (append_assoc (optional_token second) (yield_of e ++ links_yield more) rest)
      (rw (append_assoc (yield_of e) (links_yield more) rest)
      (yes _ _ (is_comparison first.kind) (first ∷ (optional_token second ++ left)) _ well.0.0
      (step (grammar.one_link S (first ∷ (optional_token second ++ left))) _ (tree.link first second e) (links_yield more ++ rest) _
      (step (grammar.second_word first.kind (optional_token second ++ left)) _ second left _
      (second_full first.kind second left well.0.0 well.0.1
      (apart begins_tight (kind_of left) (kind.Keyword word.Not) (opens_tight e (links_yield more ++ rest) well.1 well.0.2) refl))
      (step (S 6 left) _ e (links_yield more ++ rest) _
      (full.reads 6 e (links_yield more ++ rest) well.1 (omega (arith, small)) (omega arith) well.0.2 behind.0 behind.1) refl))
      (step (grammar.links S n (links_yield more ++ rest)) _ more rest _
      (links_full more n rest well.2 (omega (arith, small)) (omega (arith, few)) other stop string) refl))))

  compare_full : (a : Tree) (first : Token) (second : Option Token) (e : Tree) (more : Links) (rest : List Token)
      → IsWell (tree.compare a (tree.link first second e more)) → height (tree.compare a (tree.link first second e more)) ≤ suc d
      → left_precedence (kind_of rest) ≤ 5 → is_string (kind_of rest) ≡ false
      → grammar.operation S a (links_yield (tree.link first second e more) ++ rest) ≡ Some (tree.compare a (tree.link first second e more), rest)
  unfolding grammar.operation grammar.parse_comparisons grammar.all_links IsWell yield_of height
  compare_full a first second e more rest well small fits string =
      let found : Links = tree.link first second e more in
      ap (λ (p : Parser Tree). p (links_yield found ++ rest)) (by_comparison a first.kind well.2.0)
      ∙ step (grammar.all_links S (links_yield found ++ rest)) _ found rest _
      (links_full found (length (links_yield found ++ rest)) rest (well.2, well.3, well.4) (omega (arith, small))
      (omega (arith, few_links found, length-append (links_yield found) rest)) (compare_stop (kind_of rest) fits)
      (omega (arith, left_near (kind_of rest))) string)
      (made_low (tree.compare a found) rest (omega (arith, small, low)))

  -- ---- the operators of an expression, one after another

  climb_more : (m j : ℕ) (a t : Tree) (us rest : List Token) → m ≤ infix_precedence (kind_of us) → grammar.operation S a us ≡ Some (t, rest)
      → grammar.climb S m (suc j) a us ≡ grammar.climb S m j t rest
  unfolding grammar.climb
  climb_more m j a t us rest tight is =
      no _ _ (nat_lt (infix_precedence (kind_of us)) m) us _ (le-ltb (infix_precedence (kind_of us)) m tight) (step (grammar.operation S a us) _ t rest _ is refl)

  climb_stop : (m j : ℕ) (t : Tree) (rest : List Token) → infix_precedence (kind_of rest) < m → grammar.climb S m j t rest ≡ Some (t, rest)
  unfolding grammar.climb
  climb_stop m zero t rest stop = refl
  climb_stop m (suc j) t rest stop = yes _ _ (nat_lt (infix_precedence (kind_of rest)) m) rest _ (lt-ltb (infix_precedence (kind_of rest)) m stop) refl

  -- an operand alone
  at_once : (m : ℕ) (t : Tree) (ts rest : List Token) → grammar.prefix S m ts ≡ Some (t, rest) → spine t ≡ 0 → ReadsOperandFirst S m t ts rest
  at_once m t ts rest is none =
      record {
        first = t;
        later = rest;
        reads = is;
        climbs = λ j n all. ap (λ i. grammar.climb S m i t rest) (omega (arith, all, none));
        enough = omega (arith, none);
      }

  -- one operator more
  longer : (m : ℕ) (a t : Tree) (front more us rest : List Token) → ReadsOperandFirst S m a (front ++ us) us → us ≡ more ++ rest
      → grammar.operation S a us ≡ Some (t, rest) → m ≤ infix_precedence (kind_of us)
      → spine t ≡ suc (spine a) → length rest < length us → ReadsOperandFirst S m t ((front ++ more) ++ rest) rest
  longer m a t front more us rest before text is tight one_more less =
      record {
        first = before.first;
        later = before.later;
        reads = ap (grammar.prefix S m) (append_assoc front more rest ∙ ap (front ++◌) (sym text)) ∙ before.reads;
        climbs = λ j n all. before.climbs (suc j) n (omega (arith, all, one_more)) ∙ climb_more m j a t us rest tight is;
        enough = omega (arith, before.enough, one_more, less);
      }

  front : (t : Tree) (m : ℕ) (rest : List Token) → IsWell t → height t ≤ suc d → m ≤ precedence t → 1 ≤ precedence t → left_precedence (kind_of rest) ≤ precedence t
      → is_string (kind_of rest) ≡ false → ReadsOperandFirst S m t (yield_of t ++ rest) rest
  unfolding IsWell yield_of height spine
  front (tree.name t) m rest well small high some fits string =
      at_once m (tree.name t) (t ∷ rest) rest (atom_full m t rest tree.name (by_name m t.kind well)) refl
  front (tree.number t) m rest well small high some fits string =
      at_once m (tree.number t) (t ∷ rest) rest (atom_full m t rest tree.number (by_number m t.kind well)) refl
  front (tree.constant t) m rest well small high some fits string =
      at_once m (tree.constant t) (t ∷ rest) rest (atom_full m t rest tree.constant (by_constant m t.kind well)) refl
  front (tree.strings t more) m rest well small high some fits string =
      at_once m (tree.strings t more) (t ∷ (more ++ rest)) rest (string_operand m t more rest well.0 (strings_full t more rest well.1 string)) refl
  front (tree.parenthesized opening e closing) m rest well small high some fits string =
      at_once m (tree.parenthesized opening e closing) (opening ∷ ((yield_of e ++ closing ∷ []) ++ rest)) rest
      (ap (λ z. grammar.prefix S m (opening ∷ z)) (append_assoc (yield_of e) (closing ∷ []) rest)
      ∙ in_brackets m opening (yield_of e ++ (closing ∷ rest)) bracket.Round _ well.0 (parenthesized_full S d full low opening e closing rest well small)) refl
  front (tree.display shown opening found closing) m rest well small high some fits string =
      at_once m (tree.display shown opening found closing) (opening ∷ ((pieces_yield found ++ closing ∷ []) ++ rest)) rest
      (ap (λ z. grammar.prefix S m (opening ∷ z)) (append_assoc (pieces_yield found) (closing ∷ []) rest)
      ∙ in_brackets m opening (pieces_yield found ++ (closing ∷ rest)) (bracket_of shown) _ well.0
      (display_full S d full low shown opening found closing rest well small)) refl
  front (tree.comprehension_display shown opening e found closing) m rest well small high some fits string =
      at_once m (tree.comprehension_display shown opening e found closing) (opening ∷ ((yield_of e ++ (comprehensions_yield found ++ closing ∷ [])) ++ rest)) rest
      (ap (λ z. grammar.prefix S m (opening ∷ z))
      (append_assoc (yield_of e) (comprehensions_yield found ++ closing ∷ []) rest ∙ ap (yield_of e ++◌) (append_assoc (comprehensions_yield found) (closing ∷ []) rest))
      ∙ in_brackets m opening (yield_of e ++ (comprehensions_yield found ++ (closing ∷ rest))) (bracket_of shown) _ well.0
      (comprehension_full S d full low shown opening e found closing rest well small)) refl
  front (tree.await t e) m rest well small high some fits string =
      at_once m (tree.await t e) (t ∷ (yield_of e ++ rest)) rest (await_full m t e rest well small high fits string) refl
  front (tree.unary sign e) m rest well small high some fits string =
      at_once m (tree.unary sign e) (sign ∷ (yield_of e ++ rest)) rest (unary_full m sign e rest well small high fits string) refl
  front (tree.lambda t found colon body) m rest well small high some fits string =
      at_once m (tree.lambda t found colon body) (t ∷ ((pieces_yield found ++ colon ∷ yield_of body) ++ rest)) rest
      (ap (λ z. grammar.prefix S m (t ∷ z)) (append_assoc (pieces_yield found) (colon ∷ yield_of body) rest)
      ∙ lambda_full m t found colon body rest well small high fits string) refl
  front (tree.attribute e dot name) m rest well small high some fits string =
      let us : List Token = dot ∷ name ∷ rest in
      longer m e (tree.attribute e dot name) (yield_of e) (dot ∷ name ∷ []) us rest
      (front e m us well.1 (omega (arith, small)) (omega (arith, high, well.0)) (omega (arith, well.0)) (omega (arith, well.0, ap left_precedence well.2))
      (ap is_string well.2)) refl
      (attribute_full e dot name rest well small) (omega (arith, high, ap infix_precedence well.2)) refl (omega arith)
  front (tree.call e opening found closing) m rest well small high some fits string =
      let us : List Token = opening ∷ (pieces_yield found ++ (closing ∷ rest)) in
      longer m e (tree.call e opening found closing) (yield_of e) (opening ∷ (pieces_yield found ++ closing ∷ [])) us rest
      (front e m us well.1 (omega (arith, small)) (omega (arith, high, well.0)) (omega (arith, well.0)) (omega (arith, well.0, ap left_precedence well.2))
      (ap is_string well.2)) (ap (opening ∷◌) (sym (append_assoc (pieces_yield found) (closing ∷ []) rest)))
      (operates e opening (pieces_yield found ++ (closing ∷ rest)) (kind.Open bracket.Round) _ well.2
      (parse_call_full S d full low e opening found closing rest well.4 well.3 small))
      (omega (arith, high, ap infix_precedence well.2)) refl (omega (arith, length-append (pieces_yield found) (closing ∷ rest)))
  front (tree.subscript e opening found closing) m rest well small high some fits string =
      let us : List Token = opening ∷ (pieces_yield found ++ (closing ∷ rest)) in
      longer m e (tree.subscript e opening found closing) (yield_of e) (opening ∷ (pieces_yield found ++ closing ∷ [])) us rest
      (front e m us well.1 (omega (arith, small)) (omega (arith, high, well.0)) (omega (arith, well.0)) (omega (arith, well.0, ap left_precedence well.2))
      (ap is_string well.2)) (ap (opening ∷◌) (sym (append_assoc (pieces_yield found) (closing ∷ []) rest)))
      (operates e opening (pieces_yield found ++ (closing ∷ rest)) (kind.Open bracket.Square) _ well.2
      (parse_subscript_full S d full low e opening found closing rest well.4 well.5 well.3 small))
      (omega (arith, high, ap infix_precedence well.2)) refl (omega (arith, length-append (pieces_yield found) (closing ∷ rest)))
  front (tree.binary a sign b) m rest well small high some fits string =
      let us : List Token = sign ∷ (yield_of b ++ rest) in
      longer m a (tree.binary a sign b) (yield_of a) (sign ∷ yield_of b) us rest
      (front a m us well.3 (omega (arith, small)) (omega (arith, high, well.1, left_near sign.kind)) (omega (arith, some, well.1, left_near sign.kind))
      well.1 (left_string sign.kind (omega (arith, some, left_near sign.kind)))) refl
      (binary_full a sign b rest well small fits string) high refl (omega (arith, length-append (yield_of b) rest))
  front (tree.compare a tree.unlinked) m rest well small high some fits string = absurd well
  front (tree.compare a (tree.link first second e more)) m rest well small high some fits string =
      let found : Links = tree.link first second e more in
      let us : List Token = links_yield found ++ rest in
      longer m a (tree.compare a found) (yield_of a) (links_yield found) us rest
      (front a m us well.1 (omega (arith, small)) (omega (arith, high, well.0)) (omega (arith, well.0))
      (omega (arith, well.0, comparison_left first.kind well.2.0)) (comparison_string first.kind well.2.0)) refl
      (compare_full a first second e more rest well small fits string) (omega (arith, high, infix_precedence_comparison first.kind well.2.0)) refl
      (omega (arith, length-append (optional_token second ++ (yield_of e ++ links_yield more)) rest))
  front (tree.conditional a word_if test word_else b) m rest well small high some fits string =
      let us : List Token = word_if ∷ (yield_of test ++ (word_else ∷ (yield_of b ++ rest))) in
      longer m a (tree.conditional a word_if test word_else b) (yield_of a) (word_if ∷ (yield_of test ++ word_else ∷ yield_of b)) us rest
      (front a m us well.1 (omega (arith, small)) (omega (arith, high, well.0)) (omega (arith, well.0)) (omega (arith, well.0, ap left_precedence well.2))
      (ap is_string well.2)) (ap (word_if ∷◌) (sym (append_assoc (yield_of test) (word_else ∷ yield_of b) rest)))
      (conditional_full a word_if test word_else b rest well small fits string) (omega (arith, high, ap infix_precedence well.2)) refl
      (omega (arith, length-append (yield_of test) (word_else ∷ (yield_of b ++ rest)), length-append (yield_of b) rest))
  front _ m rest well small high some fits string = absurd (omega arith)

  whole_full : (m : ℕ) (t : Tree) (rest : List Token) → IsWell t → height t ≤ suc d → 1 ≤ m → m ≤ precedence t → infix_precedence (kind_of rest) < m
      → is_string (kind_of rest) ≡ false → grammar.whole S m (yield_of t ++ rest) ≡ Some (t, rest)
  unfolding grammar.whole grammar.operations
  whole_full m t rest well small some high stop string =
      let begun = front t m rest well small high (omega (arith, some, high)) (omega (arith, left_below (kind_of rest) m stop, high)) string in
      step (grammar.prefix S m (yield_of t ++ rest)) _ begun.first begun.later _ begun.reads
      (begun.climbs (length begun.later - spine t) (length begun.later) (omega (arith, begun.enough))
      ∙ climb_stop m (length begun.later - spine t) t rest stop)

-- a tree of a precedence has a node
height_some : (t : Tree) → 1 ≤ precedence t → 1 ≤ height t
unfolding height
height_some (tree.entry _ _ _) some = absurd (omega arith)
height_some (tree.mapping _ _) some = absurd (omega arith)
height_some _ some = omega arith

-- expressions no higher than the depth are read back
pub expr_full : (depth : ℕ) → depth ≤ max_height → Full (grammar.expr depth) depth
unfolding grammar.expr
expr_full zero low =
    record { reads = λ loosest t rest well small some high stop string. absurd (omega (arith, small, height_some t (omega (arith, some, high)))) }
expr_full (suc depth) low =
    record {
      reads = λ loosest t rest well small some high stop string.
          whole_full (grammar.expr depth) depth (expr_full depth (omega (arith, low))) low loosest t rest well small some high stop string;
    }

-- and so are those of the profile
pub expression_full : Full grammar.expression max_height
expression_full = expr_full max_height (omega arith)
