-- What the grammar reads as an expression is a well-formed tree, whose tokens are those that were taken.
use Rattle.std.proofs.Common.{◌≡◌, refl, ap, sym, ◌∙◌, ℕ, zero, suc, ◌≤◌, ◌<◌, Bool, true, false, nat_lt, List, [], ◌∷◌, ◌++◌, length, take, drop, Option, None, Some, take_while, append_assoc, arith}
use Rattle.std.proofs.lemmas.Bool.{ltb-true, ltb-false}
use Rattle.std.specs.List.{prefix_len}
use Rattle.pyc_token.specs.declared.tokens.Arithmetic.TheVariants as op
use Rattle.pyc_token.specs.declared.tokens.Bracket.{Bracket}
use Rattle.pyc_token.specs.declared.tokens.Bracket.TheVariants as bracket
use Rattle.pyc_token.specs.declared.tokens.Delimiter.TheVariants as delimiter
use Rattle.pyc_token.specs.declared.tokens.Keyword.TheVariants as word
use Rattle.pyc_token.specs.declared.tokens.Kind.{Kind}
use Rattle.pyc_token.specs.declared.tokens.Kind.TheVariants as kind
use Rattle.pyc_token.specs.declared.tokens.Token.{Token}
use Rattle.pyc_tree.specs.declared.list_context.ListContext.TheVariants as list_context
use Rattle.pyc_tree.specs.Tree.{Tree, Links}
use Rattle.pyc_tree.specs.Tree as tree
use Rattle.pyc_tree.specs.Kinds.{kind_of, same_kind, is_name, is_number, is_string, is_constant, is_comparison}
use Rattle.pyc_tree.specs.Precedence.{infix_precedence, left_precedence, right_precedence, prefix_precedence, precedence}
use Rattle.pyc_tree.specs.Yield.{yield_of, links_yield, optional_token}
use Rattle.pyc_tree.specs.Height.{height, max_height}
use Rattle.pyc_tree.specs.Well.{IsWell, AreLinks, IsSecondWord, is_bytes, are_joined}
use Rattle.pyc_tree.specs.Parser.{Parser}
use Rattle.pyc_tree.specs.Items as rule
use Rattle.pyc_tree.specs.Expressions as grammar
use Rattle.pyc_line.proofs.Sound.{IsRead, Starts, IsForm, Continues, Good}
use Rattle.pyc_line.proofs.SoundTables.{never, same_kind_is, left_below, left_awaited, left_low, right_near, right_arithmetic, infix_precedence_comparison, left_after, left_compared}
use Rattle.pyc_line.proofs.SoundTools.{refused, bind, choose, unless, after_one, after_expected, after_name, pure_as, checked_as, made_as, one_less, no_more}
use Rattle.pyc_line.proofs.SoundItems.{after_self}
use Rattle.pyc_line.proofs.SoundLists.{optional_items_sound}
use Rattle.pyc_line.proofs.SoundBrackets.{parse_empty_brackets_sound, parse_filled_brackets_sound, yield_enclosed_sound, parse_call_sound, parse_subscript_sound}

-- ---- atoms

-- a form of the tightest precedence starts an expression of any
starts_form : (loosest : ℕ) (ts : List Token) (t : Tree) (rest : List Token) → loosest ≤ 16 → IsForm 16 ts t rest → Starts loosest ts t rest
starts_form loosest ts t rest high form =
    let below = left_low (kind_of rest) in
    record { well = form.well; high = omega (arith, form.at); text = form.text; low = form.low; fits = omega (arith, form.at) }

atom_sound : (form : Token → Tree) (ts : List Token) (t : Tree) (rest : List Token)
    → ((u : Token) → u.kind ≡ kind_of ts → IsWell (form u)) → ((u : Token) → yield_of (form u) ≡ u ∷ []) → ((u : Token) → height (form u) ≡ 1)
    → ((u : Token) → precedence (form u) ≡ 16) → grammar.atom form ts ≡ Some (t, rest) → IsForm 16 ts t rest
atom_sound form ts t rest well text low at e =
    after_one _ ts (t, rest) e (λ u ts1 is_one same e1.
    pure_as (IsForm 16 ts) (form u) t ts1 rest e1
    (record { well = well u same; text = is_one ∙ sym (ap (λ z. z ++ ts1) (text u)); low = omega (arith, low u); at = at u }))

-- a list is its front and what is left
split : {A : Type 0} (n : ℕ) (xs : List A) → xs ≡ take n xs ++ drop (length (take n xs)) xs
split zero xs = refl
split (suc n) [] = refl
split (suc n) (x ∷ xs) = ap (x ∷◌) (split n xs)

strings_sound : (ts : List Token) (t : Tree) (rest : List Token) → is_string (kind_of ts) ≡ true → grammar.strings ts ≡ Some (t, rest)
    → IsForm 16 ts t rest
unfolding grammar.strings grammar.literals IsWell yield_of height
strings_sound ts t rest is e =
    after_one _ ts (t, rest) e (λ u ts1 is_one same e1.
    let more : List Token = take_while grammar.is_literal ts1 in
    checked_as (IsForm 16 ts) (are_joined (is_bytes u.kind) more) (tree.strings u more) t (drop (length more) ts1) rest e1 (λ joined.
    record {
      well = (ap is_string same ∙ is, joined);
      text = is_one ∙ ap (u ∷◌) (split (prefix_len grammar.is_literal ts1) ts1);
      low = omega arith;
      at = refl;
    }))

-- ---- comparisons

abbrev is_linked : Links → Bool
is_linked tree.unlinked = false
is_linked (tree.link _ _ _ _) = true

-- a comparison, in front of any others
record IsFirstLink (ts : List Token) (front : Links → Links) (rest : List Token) : Type 0 where
  links : (more : Links) → AreLinks more → AreLinks (front more)
  text : (more : Links) (left : List Token) → rest ≡ links_yield more ++ left → ts ≡ links_yield (front more) ++ left
  linked : (more : Links) → is_linked (front more) ≡ true
  stop : infix_precedence (kind_of rest) < 6
  shorter : length rest < length ts

-- comparisons, as many as a number allows
record AreLinksRead (n : ℕ) (ts : List Token) (found : Links) (rest : List Token) : Type 0 where
  links : AreLinks found
  text : ts ≡ links_yield found ++ rest
  linked : is_comparison (kind_of ts) ≡ true → length ts ≤ n → is_linked found ≡ true
  stop : length ts ≤ n → is_comparison (kind_of rest) ≡ false
  below : infix_precedence (kind_of ts) < 6 → infix_precedence (kind_of rest) < 6
  shorter : is_linked found ≡ true → length rest < length ts

compared_well : (left : Tree) (found : Links) → 6 ≤ precedence left → IsWell left → AreLinks found → is_linked found ≡ true
    → IsWell (tree.compare left found)
unfolding IsWell
compared_well left tree.unlinked high well links linked = never linked
compared_well left (tree.link first second b more) high well links linked = (high, well, links.0, links.1, links.2)

-- the second word of a comparison's operator
record IsSecond (k : Kind) (ts : List Token) (second : Option Token) (rest : List Token) : Type 0 where
  fits : IsSecondWord k second
  text : ts ≡ optional_token second ++ rest

second_sound : (k : Kind) (ts : List Token) (second : Option Token) (rest : List Token) → is_comparison k ≡ true
    → grammar.second_word k ts ≡ Some (second, rest)
    → IsSecond k ts second rest
unfolding grammar.second_word
second_sound (kind.Keyword word.Not) ts second rest is e =
    after_expected (kind.Keyword word.In) _ ts (second, rest) e (λ t ts1 is_one same e1.
    pure_as (IsSecond (kind.Keyword word.Not) ts) (Some t) second ts1 rest e1 (record { fits = same; text = is_one }))
second_sound (kind.Keyword word.Is) ts second rest is e =
    choose _ _ (same_kind (kind_of ts) (kind.Keyword word.Not)) ts (second, rest) e
    (λ comes e0.
    after_one _ ts (second, rest) e0 (λ t ts1 is_one same e1.
    pure_as (IsSecond (kind.Keyword word.Is) ts) (Some t) second ts1 rest e1
    (record { fits = same ∙ same_kind_is (kind_of ts) (kind.Keyword word.Not) comes; text = is_one })))
    (λ other e0. pure_as (IsSecond (kind.Keyword word.Is) ts) None second ts rest e0 (record { fits = tt; text = refl }))
second_sound (kind.Keyword word.In) ts second rest is e =
    pure_as (IsSecond (kind.Keyword word.In) ts) None second ts rest e (record { fits = tt; text = refl })
second_sound (kind.Comparison c) ts second rest is e =
    pure_as (IsSecond (kind.Comparison c) ts) None second ts rest e (record { fits = tt; text = refl })
second_sound _ ts second rest is e = never is

module _ (S : ℕ → Parser Tree) (good : Good S) where
  one_link_sound : (ts : List Token) (front : Links → Links) (rest : List Token) → is_comparison (kind_of ts) ≡ true
      → grammar.one_link S ts ≡ Some (front, rest)
      → IsFirstLink ts front rest
  unfolding grammar.one_link IsWell yield_of
  one_link_sound ts front rest is e =
      after_one _ ts (front, rest) e (λ first ts1 is_one same e1.
      let compares : is_comparison first.kind ≡ true = ap is_comparison same ∙ is in
      bind (grammar.second_word first.kind ts1) _ (front, rest) e1 (λ second ts2 is_second e2.
      let word = second_sound first.kind ts1 second ts2 compares is_second in
      after_self S good 6 _ ts2 (front, rest) e2 (omega arith) (omega arith) (λ x ts3 got e3.
      pure_as (IsFirstLink ts) (tree.link first second x) front ts3 rest e3
      (record {
        links = λ more are. ((compares, word.fits, got.high), got.well, are);
        text = λ more left is_more. simp append_assoc (cc);
        linked = λ more. refl;
        stop = got.stop;
        shorter = omega (arith, one_less ts first ts1 is_one, no_more ts1 (optional_token second) ts2 word.text, no_more ts2 (yield_of x) ts3 got.text);
      }))))

  links_sound : (n : ℕ) (ts : List Token) (found : Links) (rest : List Token) → grammar.links S n ts ≡ Some (found, rest)
      → AreLinksRead n ts found rest
  unfolding grammar.links IsWell yield_of
  links_sound zero ts found rest e =
      pure_as (AreLinksRead 0 ts) tree.unlinked found ts rest e
      (record {
        links = tt;
        text = refl;
        linked = λ is few. none_compares ts few is;
        stop = λ few. none_left ts few;
        below = λ h. h;
        shorter = λ linked. never linked;
      })
    where
      none_left : (us : List Token) → length us ≤ 0 → is_comparison (kind_of us) ≡ false
      none_left [] few = refl
      none_left (u ∷ us) few = absurd (omega arith)

      none_compares : (us : List Token) → length us ≤ 0 → is_comparison (kind_of us) ≡ true → is_linked tree.unlinked ≡ true
      none_compares us few is = sym (none_left us few) ∙ is
  links_sound (suc n) ts found rest e =
      choose _ _ (is_comparison (kind_of ts)) ts (found, rest) e
      (λ is e0.
      bind (grammar.one_link S ts) _ (found, rest) e0 (λ front ts1 one e1.
      let first = one_link_sound ts front ts1 is one in
      bind (grammar.links S n ts1) _ (found, rest) e1 (λ more ts2 is_more e2.
      let later = links_sound n ts1 more ts2 is_more in
      pure_as (AreLinksRead (suc n) ts) (front more) found ts2 rest e2
      (record {
        links = first.links more later.links;
        text = first.text more ts2 later.text;
        linked = λ compares few. first.linked more;
        stop = λ few. later.stop (omega (arith, first.shorter));
        below = λ h. later.below first.stop;
        shorter = λ linked. omega (arith, first.shorter, no_more ts1 (links_yield more) ts2 later.text);
      }))))
      (λ other e0. pure_as (AreLinksRead (suc n) ts) tree.unlinked found ts rest e0
      (record {
        links = tt;
        text = refl;
        linked = λ compares few. sym other ∙ compares;
        stop = λ few. other;
        below = λ h. h;
        shorter = λ linked. never linked;
      }))

  -- ---- operands

  parse_unary_sound : (loosest own : ℕ) (ts : List Token) (t : Tree) (rest : List Token) → prefix_precedence (kind_of ts) ≡ own → 1 ≤ own → own ≤ 16
      → grammar.parse_unary S loosest own ts ≡ Some (t, rest) → Starts loosest ts t rest
  unfolding grammar.parse_unary IsWell yield_of
  parse_unary_sound loosest own ts t rest is some high e =
      unless _ (nat_lt own loosest) ts (t, rest) e (λ tight e0.
      let within : loosest ≤ own = ltb-false own loosest tight in
      after_one _ ts (t, rest) e0 (λ sign ts1 is_one same e1.
      after_self S good own _ ts1 (t, rest) e1 some high (λ x ts2 got e2.
      let at : prefix_precedence sign.kind ≡ own = ap prefix_precedence same ∙ is in
      made_as (Starts loosest ts) (tree.unary sign x) t ts2 rest e2 (λ small.
      record {
        well = (omega arith, omega (arith, got.high), got.well);
        high = omega arith;
        text = cc;
        low = small;
        fits = omega (arith, left_below (kind_of ts2) own got.stop);
      }))))

  await_expression_sound : (loosest : ℕ) (ts : List Token) (t : Tree) (rest : List Token) → kind_of ts ≡ kind.Keyword word.Await
      → grammar.await_expression S loosest ts ≡ Some (t, rest) → Starts loosest ts t rest
  unfolding grammar.await_expression IsWell yield_of
  await_expression_sound loosest ts t rest is e =
      unless _ (nat_lt 14 loosest) ts (t, rest) e (λ tight e0.
      after_one _ ts (t, rest) e0 (λ await ts1 is_one same e1.
      after_self S good 15 _ ts1 (t, rest) e1 (omega arith) (omega arith) (λ x ts2 got e2.
      made_as (Starts loosest ts) (tree.await await x) t ts2 rest e2 (λ small.
      record {
        well = (same ∙ is, got.high, got.well);
        high = ltb-false 14 loosest tight;
        text = cc;
        low = small;
        fits = left_awaited (kind_of ts2) got.stop;
      }))))

  lambda_sound : (loosest : ℕ) (ts : List Token) (t : Tree) (rest : List Token) → kind_of ts ≡ kind.Keyword word.Lambda
      → grammar.lambda S loosest ts ≡ Some (t, rest) → Starts loosest ts t rest
  unfolding grammar.lambda IsWell yield_of
  lambda_sound loosest ts t rest is e =
      unless _ (nat_lt 1 loosest) ts (t, rest) e (λ tight e0.
      after_one _ ts (t, rest) e0 (λ word_lambda ts1 is_one same e1.
      bind (rule.optional_items S (list_context.Parameters false) ts1) _ (t, rest) e1 (λ found ts2 is_found e2.
      let parameters = optional_items_sound S good (list_context.Parameters false) ts1 found ts2 refl is_found in
      after_expected (kind.Delimiter delimiter.Colon) _ ts2 (t, rest) e2 (λ colon ts3 is_colon same_colon e3.
      after_self S good 1 _ ts3 (t, rest) e3 (omega arith) (omega arith) (λ body ts4 got e4.
      made_as (Starts loosest ts) (tree.lambda word_lambda found colon body) t ts4 rest e4 (λ small.
      record {
        well = (same ∙ is, parameters.pieces, same_colon, got.high, got.well);
        high = ltb-false 1 loosest tight;
        text = simp append_assoc (cc);
        low = small;
        fits = left_below (kind_of ts4) 1 got.stop;
      }))))))

  parentheses_sound : (ts : List Token) (t : Tree) (rest : List Token) → kind_of ts ≡ kind.Open bracket.Round
      → grammar.parentheses S ts ≡ Some (t, rest)
      → IsForm 16 ts t rest
  unfolding grammar.parentheses
  parentheses_sound ts t rest is e =
      after_one _ ts (t, rest) e (λ opening ts1 is_one same e1.
      choose _ _ (same_kind (kind_of ts1) (kind.Close bracket.Round)) ts1 (t, rest) e1
      (λ shut e2. parse_empty_brackets_sound S good bracket.Round opening ts ts1 t rest (same ∙ is) is_one shut e2)
      (λ other e2. choose _ _ (same_kind (kind_of ts1) (kind.Keyword word.Yield)) ts1 (t, rest) e2
      (λ yields e3. yield_enclosed_sound S good opening ts ts1 t rest (same ∙ is) is_one (same_kind_is (kind_of ts1) (kind.Keyword word.Yield) yields) e3)
      (λ any e3. parse_filled_brackets_sound S good bracket.Round opening ts ts1 t rest (same ∙ is) is_one e3)))

  brackets_sound : (sign : Bracket) (ts : List Token) (t : Tree) (rest : List Token) → kind_of ts ≡ kind.Open sign
      → grammar.brackets S sign ts ≡ Some (t, rest)
      → IsForm 16 ts t rest
  unfolding grammar.brackets
  brackets_sound sign ts t rest is e =
      after_one _ ts (t, rest) e (λ opening ts1 is_one same e1.
      choose _ _ (same_kind (kind_of ts1) (kind.Close sign)) ts1 (t, rest) e1
      (λ shut e2. parse_empty_brackets_sound S good sign opening ts ts1 t rest (same ∙ is) is_one shut e2)
      (λ other e2. parse_filled_brackets_sound S good sign opening ts ts1 t rest (same ∙ is) is_one e2))

  constant_sound : (ts : List Token) (t : Tree) (rest : List Token) → is_constant (kind_of ts) ≡ true
      → grammar.atom tree.constant ts ≡ Some (t, rest) → IsForm 16 ts t rest
  unfolding IsWell yield_of height
  constant_sound ts t rest is e = atom_sound tree.constant ts t rest (λ u same. ap is_constant same ∙ is) (λ u. refl) (λ u. refl) (λ u. refl) e

  prefix_by_sound : (loosest : ℕ) (k : Kind) (ts : List Token) (t : Tree) (rest : List Token) → loosest ≤ 16 → kind_of ts ≡ k
      → grammar.prefix_by S loosest k ts ≡ Some (t, rest) → Starts loosest ts t rest
  unfolding IsWell yield_of height
  prefix_by_sound loosest (kind.Name w) ts t rest high is e =
      starts_form loosest ts t rest high (atom_sound tree.name ts t rest (λ u same. ap is_name (same ∙ is)) (λ u. refl) (λ u. refl) (λ u. refl) e)
  prefix_by_sound loosest (kind.Number n) ts t rest high is e =
      starts_form loosest ts t rest high (atom_sound tree.number ts t rest (λ u same. ap is_number (same ∙ is)) (λ u. refl) (λ u. refl) (λ u. refl) e)
  prefix_by_sound loosest (kind.String p) ts t rest high is e = starts_form loosest ts t rest high (strings_sound ts t rest (ap is_string is) e)
  prefix_by_sound loosest (kind.Keyword word.False) ts t rest high is e = starts_form loosest ts t rest high (constant_sound ts t rest (ap is_constant is) e)
  prefix_by_sound loosest (kind.Keyword word.None) ts t rest high is e = starts_form loosest ts t rest high (constant_sound ts t rest (ap is_constant is) e)
  prefix_by_sound loosest (kind.Keyword word.True) ts t rest high is e = starts_form loosest ts t rest high (constant_sound ts t rest (ap is_constant is) e)
  prefix_by_sound loosest (kind.Delimiter delimiter.Ellipsis) ts t rest high is e =
      starts_form loosest ts t rest high (constant_sound ts t rest (ap is_constant is) e)
  prefix_by_sound loosest (kind.Keyword word.Not) ts t rest high is e = parse_unary_sound loosest 4 ts t rest (ap prefix_precedence is) (omega arith) (omega arith) e
  prefix_by_sound loosest (kind.Arithmetic op.Plus) ts t rest high is e = parse_unary_sound loosest 12 ts t rest (ap prefix_precedence is) (omega arith) (omega arith) e
  prefix_by_sound loosest (kind.Arithmetic op.Minus) ts t rest high is e = parse_unary_sound loosest 12 ts t rest (ap prefix_precedence is) (omega arith) (omega arith) e
  prefix_by_sound loosest (kind.Delimiter delimiter.Tilde) ts t rest high is e =
      parse_unary_sound loosest 12 ts t rest (ap prefix_precedence is) (omega arith) (omega arith) e
  prefix_by_sound loosest (kind.Keyword word.Await) ts t rest high is e = await_expression_sound loosest ts t rest is e
  prefix_by_sound loosest (kind.Keyword word.Lambda) ts t rest high is e = lambda_sound loosest ts t rest is e
  prefix_by_sound loosest (kind.Open bracket.Round) ts t rest high is e = starts_form loosest ts t rest high (parentheses_sound ts t rest is e)
  prefix_by_sound loosest (kind.Open bracket.Square) ts t rest high is e = starts_form loosest ts t rest high (brackets_sound bracket.Square ts t rest is e)
  prefix_by_sound loosest (kind.Open bracket.Curly) ts t rest high is e = starts_form loosest ts t rest high (brackets_sound bracket.Curly ts t rest is e)
  prefix_by_sound loosest _ ts t rest high is e = refused _ e

  prefix_sound : (loosest : ℕ) (ts : List Token) (t : Tree) (rest : List Token) → loosest ≤ 16 → grammar.prefix S loosest ts ≡ Some (t, rest)
      → Starts loosest ts t rest
  unfolding grammar.prefix
  prefix_sound loosest ts t rest high e = prefix_by_sound loosest (kind_of ts) ts t rest high refl e

  -- ---- operators

  parse_binary_sound : (left : Tree) (n : ℕ) (ts : List Token) (t : Tree) (rest : List Token) → IsWell left → left_precedence (kind_of ts) ≤ precedence left
      → right_precedence (kind_of ts) ≡ n → 1 ≤ n → grammar.parse_binary S left n ts ≡ Some (t, rest) → Continues left ts t rest
  unfolding grammar.parse_binary IsWell yield_of
  parse_binary_sound left n ts t rest well fits is some e =
      let table = right_near (kind_of ts) (omega arith) in
      after_one _ ts (t, rest) e (λ sign ts1 is_one same e1.
      after_self S good n _ ts1 (t, rest) e1 some (omega (arith, table)) (λ x ts2 got e2.
      made_as (Continues left ts) (tree.binary left sign x) t ts2 rest e2 (λ small.
      let right_is : right_precedence sign.kind ≡ n = ap right_precedence same ∙ is in
      record {
        well = (omega arith, omega (arith, ap left_precedence same), omega (arith, got.high), well, got.well);
        text = simp append_assoc (cc);
        low = small;
        at = ap infix_precedence same;
        fits = omega (arith, ap infix_precedence same, left_after (kind_of ts) (kind_of ts2) (omega arith) (omega (arith, got.stop)));
        shorter = omega (arith, one_less ts sign ts1 is_one, no_more ts1 (yield_of x) ts2 got.text);
      })))

  conditional_sound : (left : Tree) (ts : List Token) (t : Tree) (rest : List Token) → IsWell left → 2 ≤ precedence left
      → kind_of ts ≡ kind.Keyword word.If
      → grammar.conditional S left ts ≡ Some (t, rest) → Continues left ts t rest
  unfolding grammar.conditional IsWell yield_of
  conditional_sound left ts t rest well high is e =
      after_one _ ts (t, rest) e (λ word_if ts1 is_one same e1.
      after_self S good 2 _ ts1 (t, rest) e1 (omega arith) (omega arith) (λ test ts2 tested e2.
      after_expected (kind.Keyword word.Else) _ ts2 (t, rest) e2 (λ word_else ts3 is_else same_else e3.
      after_self S good 1 _ ts3 (t, rest) e3 (omega arith) (omega arith) (λ x ts4 got e4.
      made_as (Continues left ts) (tree.conditional left word_if test word_else x) t ts4 rest e4 (λ small.
      record {
        well = (high, well, same ∙ is, tested.high, tested.well, same_else, got.high, got.well);
        text = simp append_assoc (cc);
        low = small;
        at = sym (ap infix_precedence is);
        fits = left_below (kind_of ts4) 1 got.stop;
        shorter = omega (
          arith,
          one_less ts word_if ts1 is_one,
          no_more ts1 (yield_of test) ts2 tested.text,
          one_less ts2 word_else ts3 is_else,
          no_more ts3 (yield_of x) ts4 got.text,
        );
      })))))

  attribute_sound : (left : Tree) (ts : List Token) (t : Tree) (rest : List Token) → IsWell left → 15 ≤ precedence left
      → kind_of ts ≡ kind.Delimiter delimiter.Dot
      → grammar.attribute S left ts ≡ Some (t, rest) → Continues left ts t rest
  unfolding grammar.attribute IsWell yield_of
  attribute_sound left ts t rest well high is e =
      after_one _ ts (t, rest) e (λ dot ts1 is_one same e1.
      after_name _ ts1 (t, rest) e1 (λ name ts2 is_name_one named e2.
      made_as (Continues left ts) (tree.attribute left dot name) t ts2 rest e2 (λ small.
      record {
        well = (high, well, same ∙ is, named);
        text = simp append_assoc (cc);
        low = small;
        at = sym (ap infix_precedence is);
        fits = left_low (kind_of ts2);
        shorter = omega (arith, one_less ts dot ts1 is_one, one_less ts1 name ts2 is_name_one);
      })))

  parse_comparisons_sound : (left : Tree) (ts : List Token) (t : Tree) (rest : List Token) → IsWell left → 6 ≤ precedence left → is_comparison (kind_of ts) ≡ true
      → grammar.parse_comparisons S left ts ≡ Some (t, rest) → Continues left ts t rest
  unfolding grammar.parse_comparisons grammar.all_links yield_of
  parse_comparisons_sound left ts t rest well high is e =
      bind (grammar.all_links S ts) _ (t, rest) e (λ found ts1 is_found e1.
      let got = links_sound (length ts) ts found ts1 is_found in
      let five : infix_precedence (kind_of ts) ≡ 5 = infix_precedence_comparison (kind_of ts) is in
      let linked : is_linked found ≡ true = got.linked is (omega arith) in
      made_as (Continues left ts) (tree.compare left found) t ts1 rest e1 (λ small.
      record {
        well = compared_well left found high well got.links linked;
        text = simp append_assoc (cc);
        low = small;
        at = sym five;
        fits = left_compared (kind_of ts1) (got.stop (omega arith)) (got.below (omega arith));
        shorter = got.shorter linked;
      }))

  operation_by_sound : (left : Tree) (k : Kind) (ts : List Token) (t : Tree) (rest : List Token) → IsWell left → left_precedence k ≤ precedence left
      → 1 ≤ infix_precedence k → kind_of ts ≡ k
      → grammar.operation_by S left k ts ≡ Some (t, rest) → Continues left ts t rest
  operation_by_sound left (kind.Keyword word.If) ts t rest well fits some is e = conditional_sound left ts t rest well fits is e
  operation_by_sound left (kind.Keyword word.In) ts t rest well fits some is e = parse_comparisons_sound left ts t rest well fits (ap is_comparison is) e
  operation_by_sound left (kind.Keyword word.Is) ts t rest well fits some is e = parse_comparisons_sound left ts t rest well fits (ap is_comparison is) e
  operation_by_sound left (kind.Keyword word.Not) ts t rest well fits some is e = parse_comparisons_sound left ts t rest well fits (ap is_comparison is) e
  operation_by_sound left (kind.Comparison c) ts t rest well fits some is e = parse_comparisons_sound left ts t rest well fits (ap is_comparison is) e
  operation_by_sound left (kind.Open bracket.Round) ts t rest well fits some is e = parse_call_sound S good left ts t rest fits well is e
  operation_by_sound left (kind.Open bracket.Square) ts t rest well fits some is e = parse_subscript_sound S good left ts t rest fits well is e
  operation_by_sound left (kind.Delimiter delimiter.Dot) ts t rest well fits some is e = attribute_sound left ts t rest well fits is e
  operation_by_sound left (kind.Keyword word.Or) ts t rest well fits some is e =
      parse_binary_sound left 3 ts t rest well (omega (arith, ap left_precedence is)) (ap right_precedence is) (omega arith) e
  operation_by_sound left (kind.Keyword word.And) ts t rest well fits some is e =
      parse_binary_sound left 4 ts t rest well (omega (arith, ap left_precedence is)) (ap right_precedence is) (omega arith) e
  operation_by_sound left (kind.Arithmetic o) ts t rest well fits some is e =
      parse_binary_sound left (right_precedence (kind.Arithmetic o)) ts t rest well (omega (arith, ap left_precedence is)) (ap right_precedence is) (right_arithmetic o) e
  operation_by_sound left _ ts t rest well fits some is e = absurd (omega arith)

  operation_sound : (left : Tree) (ts : List Token) (t : Tree) (rest : List Token) → IsWell left → left_precedence (kind_of ts) ≤ precedence left
      → 1 ≤ infix_precedence (kind_of ts)
      → grammar.operation S left ts ≡ Some (t, rest) → Continues left ts t rest
  unfolding grammar.operation
  operation_sound left ts t rest well fits some e = operation_by_sound left (kind_of ts) ts t rest well fits some refl e

  climb_sound : (loosest n : ℕ) (left : Tree) (ts0 ts : List Token) (t : Tree) (rest : List Token) → 1 ≤ loosest → Starts loosest ts0 left ts
      → length ts ≤ n
      → grammar.climb S loosest n left ts ≡ Some (t, rest) → IsRead loosest ts0 t rest
  unfolding grammar.climb
  climb_sound loosest zero left ts0 ts t rest some start few e =
      pure_as (IsRead loosest ts0) left t ts rest e
      (record { well = start.well; high = start.high; text = start.text; low = start.low; stop = omega (arith, no_infix_precedence ts few) })
    where
      no_infix_precedence : (us : List Token) → length us ≤ 0 → infix_precedence (kind_of us) ≡ 0
      no_infix_precedence [] few = refl
      no_infix_precedence (u ∷ us) few = absurd (omega arith)
  climb_sound loosest (suc n) left ts0 ts t rest some start few e =
      choose _ _ (nat_lt (infix_precedence (kind_of ts)) loosest) ts (t, rest) e
      (λ ends e0.
      pure_as (IsRead loosest ts0) left t ts rest e0
      (record { well = start.well; high = start.high; text = start.text; low = start.low; stop = ltb-true (infix_precedence (kind_of ts)) loosest ends }))
      (λ goes_on e0.
      let tight : loosest ≤ infix_precedence (kind_of ts) = ltb-false (infix_precedence (kind_of ts)) loosest goes_on in
      bind (grammar.operation S left ts) _ (t, rest) e0 (λ longer ts1 is e1.
      let continues = operation_sound left ts longer ts1 start.well start.fits (omega arith) is in
      climb_sound loosest n longer ts0 ts1 t rest some
      (record { well = continues.well; high = omega (arith, continues.at); text = start.text ∙ continues.text; low = continues.low; fits = continues.fits })
      (omega (arith, continues.shorter)) e1))

  whole_sound : (loosest : ℕ) (ts : List Token) (t : Tree) (rest : List Token) → 1 ≤ loosest → loosest ≤ 16 → grammar.whole S loosest ts ≡ Some (t, rest)
      → IsRead loosest ts t rest
  unfolding grammar.whole grammar.operations
  whole_sound loosest ts t rest some high e =
      bind (grammar.prefix S loosest ts) _ (t, rest) e (λ first ts1 is e1.
      climb_sound loosest (length ts1) first ts ts1 t rest some (prefix_sound loosest ts first ts1 high is) (omega arith) e1)

-- expressions are read to each depth
pub expr_sound : (depth : ℕ) → Good (grammar.expr depth)
unfolding grammar.expr
expr_sound zero = record { reads = λ loosest ts t rest e some high. refused _ e }
expr_sound (suc depth) = record { reads = λ loosest ts t rest e some high. whole_sound (grammar.expr depth) (expr_sound depth) loosest ts t rest some high e }

-- and so are those of the profile
pub expression_sound : Good grammar.expression
expression_sound = expr_sound max_height
