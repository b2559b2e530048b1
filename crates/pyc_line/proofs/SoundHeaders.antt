-- What the grammar reads as a header is well-formed, and its tokens are those that were taken.
use Rattle.std.proofs.Common.{◌≡◌, refl, ap, ◌∙◌, ℕ, true, List, ◌∷◌, ◌++◌, Option, None, Some, append_assoc, arith}
use Rattle.pyc_token.specs.declared.tokens.Bracket.TheVariants as bracket
use Rattle.pyc_token.specs.declared.tokens.Delimiter.TheVariants as delimiter
use Rattle.pyc_token.specs.declared.tokens.Keyword.TheVariants as word
use Rattle.pyc_token.specs.declared.tokens.Kind.{Kind}
use Rattle.pyc_token.specs.declared.tokens.Kind.TheVariants as kind
use Rattle.pyc_token.specs.declared.tokens.Token.{Token}
use Rattle.pyc_tree.specs.declared.list_context.ListContext.TheVariants as list_context
use Rattle.pyc_tree.specs.Tree.{Tree, Pieces}
use Rattle.pyc_tree.specs.Kinds.{kind_of, same_kind, is_name}
use Rattle.pyc_tree.specs.Yield.{pieces_yield, optional_token}
use Rattle.pyc_tree.specs.ListContexts.{is_colon}
use Rattle.pyc_tree.specs.Well.{IsAsync, ArePieces, has_item}
use Rattle.pyc_tree.specs.WellLines.{is_condition, is_word_header, ends_without_comma, is_open_with, IsHeader}
use Rattle.pyc_tree.specs.Lines as line
use Rattle.pyc_tree.specs.Lines.{Header, header_yield}
use Rattle.pyc_tree.specs.Parser.{Parsed, Parser}
use Rattle.pyc_tree.specs.Items as rule
use Rattle.pyc_tree.specs.SimpleStatements.{alias}
use Rattle.pyc_tree.specs.Headers as grammar
use Rattle.pyc_line.proofs.Sound.{Good}
use Rattle.pyc_line.proofs.SoundTables.{same_kind_is}
use Rattle.pyc_line.proofs.SoundTools.{refused, bind, choose, after_one, after_expected, after_name, pure_as, checked_as}
use Rattle.pyc_line.proofs.SoundItems.{after_self, after_item, tail_sound}
use Rattle.pyc_line.proofs.SoundLists.{is_first, parse_items_from_sound, expressions_sound, targets_sound, optional_items_sound}
use Rattle.pyc_line.proofs.SoundStatements.{alias_sound}

-- a header; whether parentheses belong to that of a `with` is seen by the colon behind it
pub record IsHead (ts : List Token) (h : Header) (rest : List Token) : Type 0 where
  pub well : is_colon (kind_of rest) ≡ true → IsHeader h
  pub text : ts ≡ header_yield h ++ rest

-- where parentheses may belong to the header of a `with`, they do
pub record Opens (S : ℕ → Parser Tree) : Type 0 where
  pub opens : (word_async : Option Token) (t : Token) (ts : List Token) (items : Pieces) (rest : List Token)
      → grammar.with_enclosed S word_async t ts ≡ None → grammar.with_items S ts ≡ Some (items, rest) → is_colon (kind_of rest) ≡ true
      → is_open_with items ≡ true

-- items of a `with`
record AreManaged (ts : List Token) (items : Pieces) (rest : List Token) : Type 0 where
  some : has_item items ≡ true
  pieces : ArePieces list_context.WithItems items
  text : ts ≡ pieces_yield items ++ rest

either_way : {A G : Type 0} (o other : Parsed A) (r : A × List Token) → grammar.or_else o other ≡ Some r
    → (o ≡ Some r → G) → (o ≡ None → other ≡ Some r → G) → G
either_way (Some p) other r e first second = first e
either_way None other r e first second = second refl e

pub word_header_sound : (ts : List Token) (h : Header) (rest : List Token) → is_word_header (kind_of ts) ≡ true
    → grammar.word_header ts ≡ Some (h, rest) → IsHead ts h rest
unfolding grammar.word_header IsHeader header_yield
word_header_sound ts h rest is e =
    after_one _ ts (h, rest) e (λ t ts1 is_one same e1.
    pure_as (IsHead ts) (line.word t) h ts1 rest e1 (record { well = λ colon. ap is_word_header same ∙ is; text = is_one }))

module _ (S : ℕ → Parser Tree) (good : Good S) (rule_of_with : Opens S) where
  pub condition_sound : (ts : List Token) (h : Header) (rest : List Token) → is_condition (kind_of ts) ≡ true
      → grammar.condition S ts ≡ Some (h, rest) → IsHead ts h rest
  unfolding grammar.condition IsHeader header_yield
  condition_sound ts h rest is e =
      after_one _ ts (h, rest) e (λ t ts1 is_one same e1.
      after_self S good 1 _ ts1 (h, rest) e1 (omega arith) (omega arith) (λ x ts2 got e2.
      pure_as (IsHead ts) (line.condition t x) h ts2 rest e2
      (record { well = λ colon. (ap is_condition same ∙ is, got.high, got.well); text = cc })))

  pub for_each_sound : (word_async : Option Token) (ts0 ts : List Token) (h : Header) (rest : List Token) → IsAsync word_async
      → ts0 ≡ optional_token word_async ++ ts → kind_of ts ≡ kind.Keyword word.For
      → grammar.for_each S word_async ts ≡ Some (h, rest) → IsHead ts0 h rest
  unfolding grammar.for_each IsHeader header_yield
  for_each_sound word_async ts0 ts h rest async text is e =
      after_one _ ts (h, rest) e (λ t ts1 is_one same e1.
      bind (rule.targets S ts1) _ (h, rest) e1 (λ to ts2 is_to e2.
      let target = targets_sound S good ts1 to ts2 is_to in
      after_expected (kind.Keyword word.In) _ ts2 (h, rest) e2 (λ word_in ts3 is_in sign e3.
      bind (rule.expressions S list_context.Items ts3) _ (h, rest) e3 (λ x ts4 is_list e4.
      let got = expressions_sound S good ts3 x ts4 is_list in
      pure_as (IsHead ts0) (line.for_each word_async t to word_in x) h ts4 rest e4
      (record {
        well = λ colon. (async, same ∙ is, target.passes, target.well, sign, got.passes, got.well);
        text = simp append_assoc (cc);
      })))))

  pub except_header_sound : (ts : List Token) (h : Header) (rest : List Token) → kind_of ts ≡ kind.Keyword word.Except
      → grammar.except_header S ts ≡ Some (h, rest) → IsHead ts h rest
  unfolding grammar.except_header IsHeader header_yield
  except_header_sound ts h rest is e =
      after_one _ ts (h, rest) e (λ t ts1 is_one same e1.
      choose _ _ (is_colon (kind_of ts1)) ts1 (h, rest) e1
      (λ ends e2. pure_as (IsHead ts) (line.except t) h ts1 rest e2 (record { well = λ colon. same ∙ is; text = is_one }))
      (λ other e2.
      after_self S good 1 _ ts1 (h, rest) e2 (omega arith) (omega arith) (λ x ts2 got e3.
      bind (alias ts2) _ (h, rest) e3 (λ as_name ts3 is_alias e4.
      let named = alias_sound ts2 as_name ts3 is_alias in
      pure_as (IsHead ts) (line.except_of t x as_name) h ts3 rest e4
      (record { well = λ colon. (same ∙ is, got.high, got.well, named.well); text = simp append_assoc (cc) })))))

  -- ---- `with`

  with_items_sound : (ts : List Token) (items : Pieces) (rest : List Token) → grammar.with_items S ts ≡ Some (items, rest) → AreManaged ts items rest
  unfolding grammar.with_items
  with_items_sound ts items rest e =
      after_item S good list_context.WithItems _ ts (items, rest) e (λ x ts1 fitting part e1.
      let all = parse_items_from_sound S good list_context.WithItems x ts ts1 items rest fitting part e1 in
      record { some = is_first items x all.first; pieces = all.pieces; text = all.text })

  with_enclosed_sound : (word_async : Option Token) (t : Token) (ts0 ts : List Token) (h : Header) (rest : List Token) → IsAsync word_async
      → t.kind ≡ kind.Keyword word.With → ts0 ≡ optional_token word_async ++ t ∷ ts
      → grammar.with_enclosed S word_async t ts ≡ Some (h, rest) → IsHead ts0 h rest
  unfolding grammar.with_enclosed IsHeader header_yield
  with_enclosed_sound word_async t ts0 ts h rest async is text e =
      after_expected (kind.Open bracket.Round) _ ts (h, rest) e (λ opening ts1 is_opening opened e1.
      bind (grammar.with_items S ts1) _ (h, rest) e1 (λ items ts2 are_items e2.
      let found = with_items_sound ts1 items ts2 are_items in
      after_expected (kind.Close bracket.Round) _ ts2 (h, rest) e2 (λ closing ts3 is_closing shut e3.
      checked_as (IsHead ts0) (is_colon (kind_of ts3)) (line.with_enclosed word_async t opening items closing) h ts3 rest e3 (λ ends.
      record {
        well = λ colon. (async, is, opened, shut, found.some, found.pieces);
        text = simp append_assoc (cc);
      }))))

  with_unenclosed_sound : (word_async : Option Token) (t : Token) (ts0 ts : List Token) (h : Header) (rest : List Token) → IsAsync word_async
      → t.kind ≡ kind.Keyword word.With → ts0 ≡ optional_token word_async ++ t ∷ ts → grammar.with_enclosed S word_async t ts ≡ None
      → grammar.with_unenclosed S word_async t ts ≡ Some (h, rest) → IsHead ts0 h rest
  unfolding grammar.with_unenclosed IsHeader header_yield
  with_unenclosed_sound word_async t ts0 ts h rest async is text none e =
      bind (grammar.with_items S ts) _ (h, rest) e (λ items ts1 are_items e1.
      let found = with_items_sound ts items ts1 are_items in
      checked_as (IsHead ts0) (ends_without_comma items) (line.with word_async t items) h ts1 rest e1 (λ ends.
      record {
        well = λ colon. (async, is, found.some, ends, rule_of_with.opens word_async t ts items ts1 none are_items colon, found.pieces);
        text = simp append_assoc (cc);
      }))

  pub with_sound : (word_async : Option Token) (ts0 ts : List Token) (h : Header) (rest : List Token) → IsAsync word_async
      → ts0 ≡ optional_token word_async ++ ts → kind_of ts ≡ kind.Keyword word.With
      → grammar.with S word_async ts ≡ Some (h, rest) → IsHead ts0 h rest
  unfolding grammar.with
  with_sound word_async ts0 ts h rest async text is e =
      after_one _ ts (h, rest) e (λ t ts1 is_one same e1.
      let whole : ts0 ≡ optional_token word_async ++ t ∷ ts1 = cc in
      either_way (grammar.with_enclosed S word_async t ts1) (grammar.with_unenclosed S word_async t ts1) (h, rest) e1
      (λ enclosed. with_enclosed_sound word_async t ts0 ts1 h rest async (same ∙ is) whole enclosed)
      (λ none open_ones. with_unenclosed_sound word_async t ts0 ts1 h rest async (same ∙ is) whole none open_ones))

  -- ---- functions and classes

  pub function_sound : (word_async : Option Token) (ts0 ts : List Token) (h : Header) (rest : List Token) → IsAsync word_async
      → ts0 ≡ optional_token word_async ++ ts → kind_of ts ≡ kind.Keyword word.Def
      → grammar.function S word_async ts ≡ Some (h, rest) → IsHead ts0 h rest
  unfolding grammar.function IsHeader header_yield
  function_sound word_async ts0 ts h rest async text is e =
      after_one _ ts (h, rest) e (λ t ts1 is_one same e1.
      after_name _ ts1 (h, rest) e1 (λ name ts2 is_name_one named e2.
      after_expected (kind.Open bracket.Round) _ ts2 (h, rest) e2 (λ opening ts3 is_opening opened e3.
      bind (rule.optional_items S (list_context.Parameters true) ts3) _ (h, rest) e3 (λ parameters ts4 are_parameters e4.
      let found = optional_items_sound S good (list_context.Parameters true) ts3 parameters ts4 refl are_parameters in
      after_expected (kind.Close bracket.Round) _ ts4 (h, rest) e4 (λ closing ts5 is_closing shut e5.
      bind (rule.tail S (kind.Delimiter delimiter.Arrow) ts5) _ (h, rest) e5 (λ result ts6 is_result e6.
      let answer = tail_sound S good (kind.Delimiter delimiter.Arrow) ts5 result ts6 is_result in
      pure_as (IsHead ts0) (line.def word_async t name opening parameters closing result) h ts6 rest e6
      (record {
        well = λ colon. (async, same ∙ is, named, opened, shut, found.pieces, answer.follows);
        text = simp append_assoc (cc);
      })))))))

  class_of_sound : (t name : Token) (ts0 ts : List Token) (h : Header) (rest : List Token) → t.kind ≡ kind.Keyword word.Class
      → is_name name.kind ≡ true → ts0 ≡ t ∷ name ∷ ts → kind_of ts ≡ kind.Open bracket.Round
      → grammar.class_of S t name ts ≡ Some (h, rest) → IsHead ts0 h rest
  unfolding grammar.class_of IsHeader header_yield
  class_of_sound t name ts0 ts h rest is named text opens e =
      after_one _ ts (h, rest) e (λ opening ts1 is_one same e1.
      bind (rule.optional_items S list_context.Arguments ts1) _ (h, rest) e1 (λ arguments ts2 are_arguments e2.
      let found = optional_items_sound S good list_context.Arguments ts1 arguments ts2 refl are_arguments in
      after_expected (kind.Close bracket.Round) _ ts2 (h, rest) e2 (λ closing ts3 is_closing shut e3.
      pure_as (IsHead ts0) (line.class_of t name opening arguments closing) h ts3 rest e3
      (record { well = λ colon. (is, named, same ∙ opens, shut, found.pieces); text = simp append_assoc (cc) }))))

  pub class_sound : (ts : List Token) (h : Header) (rest : List Token) → kind_of ts ≡ kind.Keyword word.Class
      → grammar.class S ts ≡ Some (h, rest) → IsHead ts h rest
  unfolding grammar.class IsHeader header_yield
  class_sound ts h rest is e =
      after_one _ ts (h, rest) e (λ t ts1 is_one same e1.
      after_name _ ts1 (h, rest) e1 (λ name ts2 is_name_one named e2.
      choose _ _ (same_kind (kind_of ts2) (kind.Open bracket.Round)) ts2 (h, rest) e2
      (λ opens e3. class_of_sound t name ts ts2 h rest (same ∙ is) named (cc) (same_kind_is (kind_of ts2) (kind.Open bracket.Round) opens) e3)
      (λ other e3. pure_as (IsHead ts) (line.class t name) h ts2 rest e3 (record { well = λ colon. (same ∙ is, named); text = cc }))))

  -- ---- `async`

  async_by_sound : (word_async : Token) (k : Kind) (ts0 ts : List Token) (h : Header) (rest : List Token) → IsAsync (Some word_async)
      → ts0 ≡ word_async ∷ ts → kind_of ts ≡ k → grammar.async_by S word_async k ts ≡ Some (h, rest) → IsHead ts0 h rest
  async_by_sound word_async (kind.Keyword word.Def) ts0 ts h rest async text is e = function_sound (Some word_async) ts0 ts h rest async text is e
  async_by_sound word_async (kind.Keyword word.For) ts0 ts h rest async text is e = for_each_sound (Some word_async) ts0 ts h rest async text is e
  async_by_sound word_async (kind.Keyword word.With) ts0 ts h rest async text is e = with_sound (Some word_async) ts0 ts h rest async text is e
  async_by_sound word_async _ ts0 ts h rest async text is e = refused _ e

  pub async_sound : (ts : List Token) (h : Header) (rest : List Token) → kind_of ts ≡ kind.Keyword word.Async
      → grammar.async S ts ≡ Some (h, rest) → IsHead ts h rest
  unfolding grammar.async
  async_sound ts h rest is e =
      after_one _ ts (h, rest) e (λ word_async ts1 is_one same e1.
      async_by_sound word_async (kind_of ts1) ts ts1 h rest (same ∙ is) is_one refl e1)
