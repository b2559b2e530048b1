-- Each well-formed tree is read back from its tokens: what that says of expressions of a precedence, and how trees
-- begin.
use Rattle.std.proofs.Common.{◌≡◌, refl, ap, ◌∙◌, ℕ, ◌≤◌, ◌<◌, Bool, true, false, ◌||◌, List, [], ◌∷◌, ◌++◌, Some, append_assoc, arith}
use Rattle.pyc_token.specs.declared.tokens.Kind.{Kind}
use Rattle.pyc_token.specs.declared.tokens.Token.{Token}
use Rattle.pyc_tree.specs.declared.list_context.ListContext.{ListContext}
use Rattle.pyc_tree.specs.declared.list_context.ListContext.TheVariants as list_context
use Rattle.pyc_tree.specs.Tree.{Tree, Pieces, Links, Comprehensions, Perhaps, Tail}
use Rattle.pyc_tree.specs.Tree as tree
use Rattle.pyc_tree.specs.Kinds.{kind_of, is_string, begins_expression, is_name}
use Rattle.pyc_tree.specs.Precedence.{infix_precedence, precedence}
use Rattle.pyc_tree.specs.Yield.{yield_of, pieces_yield}
use Rattle.pyc_tree.specs.Height.{height}
use Rattle.pyc_tree.specs.ListContexts.{fits, begins, is_star, is_double_star, is_colon, is_item, is_target_item, is_entry, is_index, is_with_item, is_argument, is_keyword_argument, is_last_argument, is_plain_parameter, is_late_parameter, is_parameter}
use Rattle.pyc_tree.specs.Well.{IsWell}
use Rattle.pyc_tree.specs.Parser.{Parser}
use Rattle.pyc_line.proofs.SoundTables.{never, left_near}
use Rattle.pyc_line.proofs.SoundTools.{precedence_at, either_first, either_second}
use Rattle.pyc_line.proofs.CompleteTables.{begins_tight, name_begins, number_begins, string_begins, constant_begins, sign_begins, sign_begins_tight, tight_begins, either}

-- expressions of each precedence are read back, where what follows neither goes on with them nor joins a string
pub record Full (S : ℕ → Parser Tree) (d : ℕ) : Type 0 where
  pub reads : (loosest : ℕ) (t : Tree) (rest : List Token) → IsWell t → height t ≤ d → 1 ≤ loosest → loosest ≤ precedence t → infix_precedence (kind_of rest) < loosest
      → is_string (kind_of rest) ≡ false → S loosest (yield_of t ++ rest) ≡ Some (t, rest)

-- ---- what an expression begins with

-- the first token passes a test; it stays the first where more tokens stand behind
abbrev Begins : (Kind → Bool) → List Token → Type 0
Begins test ts = test (kind_of ts) ≡ true

pub in_front : (test : Kind → Bool) (front more rest : List Token) → Begins test (front ++ (more ++ rest)) → Begins test ((front ++ more) ++ rest)
in_front test front more rest h = ap (λ ts. test (kind_of ts)) (append_assoc front more rest) ∙ h

pub opens_tight : (t : Tree) (rest : List Token) → IsWell t → 6 ≤ precedence t → begins_tight (kind_of (yield_of t ++ rest)) ≡ true
unfolding IsWell yield_of
opens_tight (tree.name t) rest well high = name_begins t.kind well
opens_tight (tree.number t) rest well high = number_begins t.kind well
opens_tight (tree.constant t) rest well high = constant_begins t.kind well
opens_tight (tree.strings t more) rest well high = string_begins t.kind well.0
opens_tight (tree.parenthesized opening e closing) rest well high = ap begins_tight well.0
opens_tight (tree.display display_kind opening items closing) rest well high = ap begins_tight well.0
opens_tight (tree.comprehension_display display_kind opening e comprehensions closing) rest well high = ap begins_tight well.0
opens_tight (tree.attribute e dot name) rest well high =
    in_front begins_tight (yield_of e) (dot ∷ name ∷ []) rest (opens_tight e _ well.1 (omega (arith, well.0)))
opens_tight (tree.call e opening arguments closing) rest well high =
    in_front begins_tight (yield_of e) (opening ∷ (pieces_yield arguments ++ closing ∷ [])) rest (opens_tight e _ well.1 (omega (arith, well.0)))
opens_tight (tree.subscript e opening index closing) rest well high =
    in_front begins_tight (yield_of e) (opening ∷ (pieces_yield index ++ closing ∷ [])) rest (opens_tight e _ well.1 (omega (arith, well.0)))
opens_tight (tree.await t e) rest well high = ap begins_tight well.0
opens_tight (tree.unary sign e) rest well high = sign_begins_tight sign.kind high
opens_tight (tree.binary a sign b) rest well high =
    in_front begins_tight (yield_of a) (sign ∷ yield_of b) rest (opens_tight a _ well.3 (omega (arith, high, well.1, left_near sign.kind)))
opens_tight _ rest well high = absurd (omega arith)

pub opens : (t : Tree) (rest : List Token) → IsWell t → 1 ≤ precedence t → begins_expression (kind_of (yield_of t ++ rest)) ≡ true
unfolding IsWell yield_of
opens (tree.name t) rest well high = tight_begins t.kind (name_begins t.kind well)
opens (tree.number t) rest well high = tight_begins t.kind (number_begins t.kind well)
opens (tree.constant t) rest well high = tight_begins t.kind (constant_begins t.kind well)
opens (tree.strings t more) rest well high = tight_begins t.kind (string_begins t.kind well.0)
opens (tree.parenthesized opening e closing) rest well high = ap begins_expression well.0
opens (tree.display display_kind opening items closing) rest well high = ap begins_expression well.0
opens (tree.comprehension_display display_kind opening e comprehensions closing) rest well high = ap begins_expression well.0
opens (tree.attribute e dot name) rest well high =
    in_front begins_expression (yield_of e) (dot ∷ name ∷ []) rest (opens e _ well.1 (omega (arith, well.0)))
opens (tree.call e opening arguments closing) rest well high =
    in_front begins_expression (yield_of e) (opening ∷ (pieces_yield arguments ++ closing ∷ [])) rest (opens e _ well.1 (omega (arith, well.0)))
opens (tree.subscript e opening index closing) rest well high =
    in_front begins_expression (yield_of e) (opening ∷ (pieces_yield index ++ closing ∷ [])) rest (opens e _ well.1 (omega (arith, well.0)))
opens (tree.await t e) rest well high = ap begins_expression well.0
opens (tree.unary sign e) rest well high = sign_begins sign.kind well.0
opens (tree.binary a sign b) rest well high =
    in_front begins_expression (yield_of a) (sign ∷ yield_of b) rest
    (opens a _ well.3 (omega (arith, high, well.1, left_near sign.kind)))
opens (tree.compare a tree.unlinked) rest well high = absurd well
opens (tree.compare a (tree.link first second b more)) rest well high =
    in_front begins_expression (yield_of a) _ rest (opens a _ well.1 (omega (arith, well.0)))
opens (tree.conditional a word_if test word_else b) rest well high =
    in_front begins_expression (yield_of a) (word_if ∷ (yield_of test ++ word_else ∷ yield_of b)) rest (opens a _ well.1 (omega (arith, well.0)))
opens (tree.lambda t parameters colon body) rest well high = ap begins_expression well.0
opens _ rest well high = absurd (omega arith)

-- ---- what an item begins with

starts_item : (e : Tree) (rest : List Token) → is_item e ≡ true → IsWell e
    → (begins_expression (kind_of (yield_of e ++ rest)) || is_star (kind_of (yield_of e ++ rest))) ≡ true
unfolding IsWell yield_of
starts_item (tree.starred star x) rest fit well = either_second (begins_expression star.kind) (is_star star.kind) (ap is_star well.0)
starts_item e rest fit well = either_first _ _ (opens e rest well (precedence_at 1 e fit))

starts_target : (e : Tree) (rest : List Token) → is_target_item e ≡ true → IsWell e
    → (begins_expression (kind_of (yield_of e ++ rest)) || is_star (kind_of (yield_of e ++ rest))) ≡ true
unfolding IsWell yield_of
starts_target (tree.starred star x) rest fit well = either_second (begins_expression star.kind) (is_star star.kind) (ap is_star well.0)
starts_target e rest fit well =
    let high : 6 ≤ precedence e = precedence_at 6 e fit in
    either_first _ _ (opens e rest well (omega (arith, high)))

-- an expression, `*` or `**`
abbrev BeginsAny : List Token → Type 0
BeginsAny ts = (begins_expression (kind_of ts) || is_star (kind_of ts) || is_double_star (kind_of ts)) ≡ true

-- the first, the second or the third of three
first_three : (a b c : Bool) → a ≡ true → (a || b || c) ≡ true
first_three a b c h = either_first (a || b) c (either_first a b h)

second_three : (a b c : Bool) → b ≡ true → (a || b || c) ≡ true
second_three a b c h = either_first (a || b) c (either_second a b h)

starts_entry : (e : Tree) (rest : List Token) → is_entry e ≡ true → IsWell e → BeginsAny (yield_of e ++ rest)
unfolding IsWell yield_of
starts_entry (tree.entry key colon value) rest fit well =
    first_three _ _ _ (in_front begins_expression (yield_of key) (colon ∷ yield_of value) rest (opens key _ well.1 well.0))
starts_entry (tree.mapping stars x) rest fit well =
    either_second (begins_expression stars.kind || is_star stars.kind) (is_double_star stars.kind) (ap is_double_star well.0)
starts_entry _ rest fit well = never fit

starts_argument : (e : Tree) (rest : List Token) → is_argument e ≡ true → IsWell e → BeginsAny (yield_of e ++ rest)
unfolding IsWell yield_of
starts_argument (tree.starred star x) rest fit well =
    second_three (begins_expression star.kind) (is_star star.kind) (is_double_star star.kind) (ap is_star well.0)
starts_argument (tree.double_starred stars x) rest fit well =
    either_second (begins_expression stars.kind || is_star stars.kind) (is_double_star stars.kind) (ap is_double_star well.0)
starts_argument (tree.keyword name equal x) rest fit well =
    first_three (begins_expression name.kind) _ _ (tight_begins name.kind (name_begins name.kind well.0))
starts_argument (tree.argument x) rest fit well = first_three _ _ _ (opens x rest well.1 well.0)
starts_argument _ rest fit well = never fit

starts_index : (e : Tree) (rest : List Token) → is_index e ≡ true → IsWell e
    → (begins_expression (kind_of (yield_of e ++ rest)) || is_colon (kind_of (yield_of e ++ rest))) ≡ true
unfolding IsWell yield_of
starts_index (tree.slice tree.absent colon upper) rest fit well = either_second (begins_expression colon.kind) (is_colon colon.kind) (ap is_colon well.1)
starts_index (tree.slice (tree.present x) colon upper) rest fit well =
    either_first _ _ (in_front begins_expression (yield_of x) _ rest (opens x _ well.0.1 (precedence_at 1 x well.0.0)))
starts_index (tree.stride tree.absent colon upper second by) rest fit well =
    either_second (begins_expression colon.kind) (is_colon colon.kind) (ap is_colon well.1)
starts_index (tree.stride (tree.present x) colon upper second by) rest fit well =
    either_first _ _ (in_front begins_expression (yield_of x) _ rest (opens x _ well.0.1 (precedence_at 1 x well.0.0)))
starts_index e rest fit well = either_first _ _ (opens e rest well (precedence_at 1 e fit))

starts_managed : (e : Tree) (rest : List Token) → is_with_item e ≡ true → IsWell e → begins_expression (kind_of (yield_of e ++ rest)) ≡ true
unfolding IsWell yield_of
starts_managed (tree.with_item x target) rest fit well = in_front begins_expression (yield_of x) _ rest (opens x _ well.1 well.0)
starts_managed _ rest fit well = never fit

starts_plain : (is_annotated : Bool) (e : Tree) (rest : List Token) → is_plain_parameter is_annotated e ≡ true → IsWell e
    → is_name (kind_of (yield_of e ++ rest)) ≡ true
unfolding IsWell yield_of
starts_plain is_annotated (tree.parameter name annotation default) rest fit well = well.0
starts_plain is_annotated _ rest fit well = never fit

starts_late : (is_annotated : Bool) (e : Tree) (rest : List Token) → is_late_parameter is_annotated e ≡ true → IsWell e
    → (is_name (kind_of (yield_of e ++ rest)) || is_double_star (kind_of (yield_of e ++ rest))) ≡ true
unfolding IsWell yield_of
starts_late is_annotated (tree.double_parameter stars name annotation) rest fit well =
    either_second (is_name stars.kind) (is_double_star stars.kind) (ap is_double_star well.0)
starts_late is_annotated e rest fit well = either_first _ _ (starts_plain is_annotated e rest fit well)

starts_parameter : (is_annotated : Bool) (e : Tree) (rest : List Token) → is_parameter is_annotated e ≡ true → IsWell e
    → begins (list_context.Parameters is_annotated) (kind_of (yield_of e ++ rest)) ≡ true
unfolding IsWell yield_of
starts_parameter is_annotated (tree.star_parameter star name annotation) rest fit well =
    second_three (is_name star.kind) (is_star star.kind) (is_double_star star.kind) (ap is_star well.0)
starts_parameter is_annotated (tree.bare_star star) rest fit well =
    second_three (is_name star.kind) (is_star star.kind) (is_double_star star.kind) (ap is_star well)
starts_parameter is_annotated (tree.double_parameter stars name annotation) rest fit well =
    either_second (is_name stars.kind || is_star stars.kind) (is_double_star stars.kind) (ap is_double_star well.0)
starts_parameter is_annotated e rest fit well = first_three _ _ _ (starts_plain is_annotated e rest fit well)

-- a keyword argument is an argument, and so on
pub last_keyword : (e : Tree) → is_last_argument e ≡ true → is_keyword_argument e ≡ true
last_keyword (tree.keyword _ _ _) fit = refl
last_keyword (tree.double_starred _ _) fit = refl
last_keyword _ fit = never fit

pub keyword_any : (e : Tree) → is_keyword_argument e ≡ true → is_argument e ≡ true
keyword_any (tree.argument _) fit = refl
keyword_any _ fit = fit

pub plain_late : (is_annotated : Bool) (e : Tree) → is_plain_parameter is_annotated e ≡ true → is_late_parameter is_annotated e ≡ true
plain_late is_annotated (tree.parameter _ _ _) fit = fit
plain_late is_annotated _ fit = never fit

pub late_any : (is_annotated : Bool) (e : Tree) → is_late_parameter is_annotated e ≡ true → is_parameter is_annotated e ≡ true
late_any is_annotated (tree.parameter _ _ _) fit = fit
late_any is_annotated (tree.double_parameter _ _ _) fit = fit
late_any is_annotated _ fit = never fit

-- an item begins as its place says
pub begins_item : (here : ListContext) (e : Tree) (rest : List Token) → fits here e ≡ true → IsWell e → begins here (kind_of (yield_of e ++ rest)) ≡ true
begins_item list_context.Items e rest fit well = starts_item e rest fit well
begins_item list_context.Targets e rest fit well = starts_target e rest fit well
begins_item list_context.Subscript e rest fit well = starts_index e rest fit well
begins_item list_context.WithItems e rest fit well = starts_managed e rest fit well
begins_item list_context.Braces e rest fit well =
    either (is_item e) (is_entry e) fit (λ item. either_first _ _ (starts_item e rest item well)) (λ entry. starts_entry e rest entry well)
begins_item list_context.Set e rest fit well = starts_item e rest fit well
begins_item list_context.Entries e rest fit well = starts_entry e rest fit well
begins_item list_context.Arguments e rest fit well = starts_argument e rest fit well
begins_item list_context.KeywordArguments e rest fit well = starts_argument e rest (keyword_any e fit) well
begins_item list_context.LastArguments e rest fit well = starts_argument e rest (keyword_any e (last_keyword e fit)) well
begins_item (list_context.Parameters is_annotated) e rest fit well = starts_parameter is_annotated e rest fit well
begins_item (list_context.AfterStar is_annotated) e rest fit well = starts_plain is_annotated e rest fit well
begins_item (list_context.KeywordOnly is_annotated) e rest fit well = starts_late is_annotated e rest fit well
begins_item list_context.Ended e rest fit well = never fit
