-- What the grammar reads as a simple statement is well-formed, and its tokens are those that were taken.
use Rattle.std.proofs.Common.{◌≡◌, refl, ap, sym, ◌∙◌, subst, ℕ, zero, suc, ◌+◌, Bool, true, false, not, ◌&&◌, if◌then◌else◌, List, [], ◌∷◌, ◌++◌, length, take, drop, Option, None, Some, take_while, append_assoc, arith}
use Rattle.std.specs.List.{prefix_len}
use Rattle.pyc_token.specs.declared.tokens.Bracket.TheVariants as bracket
use Rattle.pyc_token.specs.declared.tokens.Delimiter.TheVariants as delimiter
use Rattle.pyc_token.specs.declared.tokens.Keyword.TheVariants as word
use Rattle.pyc_token.specs.declared.tokens.Kind.{Kind}
use Rattle.pyc_token.specs.declared.tokens.Kind.TheVariants as kind
use Rattle.pyc_token.specs.declared.tokens.Token.{Token}
use Rattle.pyc_tree.specs.declared.list_context.ListContext.TheVariants as list_context
use Rattle.pyc_tree.specs.Tree.{Tree, Perhaps, Tail}
use Rattle.pyc_tree.specs.Tree as tree
use Rattle.pyc_tree.specs.Kinds.{kind_of, same_kind, is_name, end_of_line}
use Rattle.pyc_tree.specs.Yield.{yield_of, tail_yield}
use Rattle.pyc_tree.specs.ListContexts.{is_colon}
use Rattle.pyc_tree.specs.Targets.{is_target, is_single_target}
use Rattle.pyc_tree.specs.Well.{IsWell, MayFollow, is_yield, is_expression_list}
use Rattle.pyc_tree.specs.WellLines.{is_value, is_word_statement, is_declaration, is_augmented, is_dot, IsAlias, AreParts, IsDotted, AreDots, IsSourceOf, AreSeparated, IsImportedModule, IsImportedName, AreAssigned, IsStatement, AreStatements}
use Rattle.pyc_tree.specs.Statements.{SimpleStatement, Separated, no_item, last_item, item, Alias, DottedPart, Dotted, Source, Assigned, ImportedModule, ImportedName, alias_yield, parts_yield, dotted_yield, optional_path, module_yield, name_yield, targets_yield, separated_yield, statement_yield}
use Rattle.pyc_tree.specs.Statements as statement
use Rattle.pyc_tree.specs.Parser.{Parser, and_then, expect_name}
use Rattle.pyc_tree.specs.Items as rule
use Rattle.pyc_tree.specs.SimpleStatements as grammar
use Rattle.pyc_line.proofs.Sound.{IsOf, Good}
use Rattle.pyc_line.proofs.SoundTables.{never, same_kind_is, is_colon_is}
use Rattle.pyc_line.proofs.SoundTools.{refused, bind, choose, only, after_one, after_expected, after_name, pure_as, either_first, either_second}
use Rattle.pyc_line.proofs.SoundItems.{after_self, tail_sound}
use Rattle.pyc_line.proofs.SoundLists.{expressions_sound, targets_sound}
use Rattle.pyc_line.proofs.SoundBrackets.{yield_expression_sound}

-- what is read is well-formed, and its tokens are those that were taken
pub record Spells {A : Type 0} (Is : A → Type 0) (yield : A → List Token) (ts : List Token) (x : A) (rest : List Token) : Type 0 where
  pub well : Is x
  pub text : ts ≡ yield x ++ rest

-- ---- names with commas

-- what each item is, all of them are
one_before : {A : Type 0} (Is : A → Type 0) (k : Kind) (may_trail : Bool) (x : A) (between : Token) (more : Separated A) → Is x → between.kind ≡ k
    → AreSeparated Is k may_trail more → AreSeparated Is k may_trail (item x between more)
one_before Is k may_trail x between no_item well same are = absurd are
one_before Is k may_trail x between (last_item y) well same are = (well, same, are)
one_before Is k may_trail x between (item y next more) well same are = (well, same, are)

and_left : (a b : Bool) → (a && b) ≡ true → a ≡ true
and_left true b e = refl
and_left false b e = never e

separated_sound : {A : Type 0} (Is : A → Type 0) (yield : A → List Token) (one : Parser A)
    → ((ts : List Token) (x : A) (rest : List Token) → one ts ≡ Some (x, rest) → Spells Is yield ts x rest)
    → (may_trail : Bool) (n : ℕ) (ts : List Token) (found : Separated A) (rest : List Token)
    → grammar.separated one may_trail n ts ≡ Some (found, rest)
    → Spells (AreSeparated Is (kind.Delimiter delimiter.Comma) may_trail) (separated_yield yield) ts found rest
separated_sound Is yield one each may_trail zero ts found rest e = refused _ e
separated_sound Is yield one each may_trail (suc n) ts found rest e =
    let All : Separated _ → Type 0 = AreSeparated Is (kind.Delimiter delimiter.Comma) may_trail in
    bind (one ts) _ (found, rest) e (λ x ts1 is e1.
    let first = each ts x ts1 is in
    choose _ _ (same_kind (kind_of ts1) (kind.Delimiter delimiter.Comma)) ts1 (found, rest) e1
    (λ comes e2.
    after_one _ ts1 (found, rest) e2 (λ comma ts2 is_one same e3.
    let sign : comma.kind ≡ kind.Delimiter delimiter.Comma = same ∙ same_kind_is (kind_of ts1) (kind.Delimiter delimiter.Comma) comes in
    choose _ _ (may_trail && not (is_name (kind_of ts2))) ts2 (found, rest) e3
    (λ trails e4.
    pure_as (Spells All (separated_yield yield) ts) (item x comma no_item) found ts2 rest e4
    (record { well = (and_left may_trail (not (is_name (kind_of ts2))) trails, first.well, sign); text = simp append_assoc (cc) }))
    (λ other e4.
    bind (grammar.separated one may_trail n ts2) _ (found, rest) e4 (λ more ts3 is_more e5.
    let later = separated_sound Is yield one each may_trail n ts2 more ts3 is_more in
    pure_as (Spells All (separated_yield yield) ts) (item x comma more) found ts3 rest e5
    (record {
      well = one_before Is (kind.Delimiter delimiter.Comma) may_trail x comma more first.well sign later.well;
      text = simp append_assoc (cc);
    })))))
    (λ other e2. pure_as (Spells All (separated_yield yield) ts) (last_item x) found ts1 rest e2 (record { well = first.well; text = first.text })))

pub alias_sound : (ts : List Token) (found : Option Alias) (rest : List Token) → grammar.alias ts ≡ Some (found, rest)
    → Spells IsAlias alias_yield ts found rest
unfolding grammar.alias
alias_sound ts found rest e =
    choose _ _ (same_kind (kind_of ts) (kind.Keyword word.As)) ts (found, rest) e
    (λ comes e0.
    after_one _ ts (found, rest) e0 (λ t ts1 is_one same e1.
    after_name _ ts1 (found, rest) e1 (λ name ts2 is_name_one named e2.
    pure_as (Spells IsAlias alias_yield ts) (Some (record { word = t; name = name })) found ts2 rest e2
    (record { well = (same ∙ same_kind_is (kind_of ts) (kind.Keyword word.As) comes, named); text = cc }))))
    (λ other e0. pure_as (Spells IsAlias alias_yield ts) None found ts rest e0 (record { well = tt; text = refl }))

parts_sound : (n : ℕ) (ts : List Token) (found : List DottedPart) (rest : List Token) → grammar.parts n ts ≡ Some (found, rest)
    → Spells AreParts parts_yield ts found rest
unfolding grammar.parts
parts_sound zero ts found rest e = pure_as (Spells AreParts parts_yield ts) [] found ts rest e (record { well = tt; text = refl })
parts_sound (suc n) ts found rest e =
    choose _ _ (same_kind (kind_of ts) (kind.Delimiter delimiter.Dot)) ts (found, rest) e
    (λ comes e0.
    after_one _ ts (found, rest) e0 (λ dot ts1 is_one same e1.
    after_name _ ts1 (found, rest) e1 (λ name ts2 is_name_one named e2.
    bind (grammar.parts n ts2) _ (found, rest) e2 (λ more ts3 is_more e3.
    let later = parts_sound n ts2 more ts3 is_more in
    pure_as (Spells AreParts parts_yield ts) (record { dot = dot; name = name } ∷ more) found ts3 rest e3
    (record { well = (same ∙ same_kind_is (kind_of ts) (kind.Delimiter delimiter.Dot) comes, named, later.well); text = cc })))))
    (λ other e0. pure_as (Spells AreParts parts_yield ts) [] found ts rest e0 (record { well = tt; text = refl }))

dotted_name_sound : (ts : List Token) (found : Dotted) (rest : List Token) → grammar.dotted_name ts ≡ Some (found, rest) → Spells IsDotted dotted_yield ts found rest
unfolding grammar.dotted_name grammar.all_parts
dotted_name_sound ts found rest e =
    after_name _ ts (found, rest) e (λ first ts1 is_one named e1.
    bind (grammar.all_parts ts1) _ (found, rest) e1 (λ more ts2 is_more e2.
    let later = parts_sound (length ts1) ts1 more ts2 is_more in
    pure_as (Spells IsDotted dotted_yield ts) (record { first = first; parts = more }) found ts2 rest e2
    (record { well = (named, later.well); text = cc })))

-- ---- imports

module_sound : (ts : List Token) (m : ImportedModule) (rest : List Token) → grammar.imported_module ts ≡ Some (m, rest)
    → Spells IsImportedModule module_yield ts m rest
unfolding grammar.imported_module
module_sound ts m rest e =
    bind (grammar.dotted_name ts) _ (m, rest) e (λ path ts1 is_path e1.
    let named = dotted_name_sound ts path ts1 is_path in
    bind (grammar.alias ts1) _ (m, rest) e1 (λ as_name ts2 is_alias e2.
    let renamed = alias_sound ts1 as_name ts2 is_alias in
    pure_as (Spells IsImportedModule module_yield ts) (record { path = path; alias = as_name }) m ts2 rest e2
    (record { well = (named.well, renamed.well); text = simp append_assoc (cc) })))

imported_name_sound : (ts : List Token) (n : ImportedName) (rest : List Token) → grammar.imported_name ts ≡ Some (n, rest)
    → Spells IsImportedName name_yield ts n rest
unfolding grammar.imported_name
imported_name_sound ts n rest e =
    after_name _ ts (n, rest) e (λ name ts1 is_one named e1.
    bind (grammar.alias ts1) _ (n, rest) e1 (λ as_name ts2 is_alias e2.
    let renamed = alias_sound ts1 as_name ts2 is_alias in
    pure_as (Spells IsImportedName name_yield ts) (record { name = name; alias = as_name }) n ts2 rest e2
    (record { well = (named, renamed.well); text = cc })))

imported_sound : (ts : List Token) (s : SimpleStatement) (rest : List Token) → kind_of ts ≡ kind.Keyword word.Import → grammar.imported ts ≡ Some (s, rest)
    → Spells IsStatement statement_yield ts s rest
unfolding grammar.imported IsStatement statement_yield
imported_sound ts s rest is e =
    after_one _ ts (s, rest) e (λ t ts1 is_one same e1.
    bind (grammar.all_separated grammar.imported_module false ts1) _ (s, rest) e1 (λ modules ts2 is_modules e2.
    let found = separated_sound IsImportedModule module_yield grammar.imported_module module_sound false (length ts1) ts1 modules ts2 is_modules in
    pure_as (Spells IsStatement statement_yield ts) (statement.import t modules) s ts2 rest e2
    (record { well = (same ∙ is, found.well); text = is_one ∙ ap (t ∷◌) found.text })))

-- a list is its front and what is left
split : {A : Type 0} (n : ℕ) (xs : List A) → xs ≡ take n xs ++ drop (length (take n xs)) xs
split zero xs = refl
split (suc n) [] = refl
split (suc n) (x ∷ xs) = ap (x ∷◌) (split n xs)

-- the dots at the front are dots
are_dots : (ts : List Token) → AreDots (take_while grammar.is_dot_token ts)
are_dots [] = tt
are_dots (t ∷ ts) = by_test (is_dot t.kind) refl (are_dots ts)
  where
    by_test : (b : Bool) → is_dot t.kind ≡ b → AreDots (take_while grammar.is_dot_token ts)
        → AreDots (take (if b then 1 + prefix_len grammar.is_dot_token ts else 0) (t ∷ ts))
    by_test true e are =
        let n : ℕ = prefix_len grammar.is_dot_token ts in
        let same : suc n ≡ 1 + n = omega arith in
        subst (λ m. AreDots (take m (t ∷ ts))) same (e, are)
    by_test false e are = tt

-- a module after its dots
path_sound : (dots : List Token) (k : Kind) (ts : List Token) (found : Option Dotted) (rest : List Token) → AreDots dots
    → grammar.path_after dots k ts ≡ Some (found, rest) → Spells (IsSourceOf dots) optional_path ts found rest
path_sound (dot ∷ more) (kind.Keyword word.Import) ts found rest are e =
    pure_as (Spells (IsSourceOf (dot ∷ more)) optional_path ts) None found ts rest e (record { well = are; text = refl })
path_sound dots k ts found rest are e =
    bind (grammar.dotted_name ts) _ (found, rest) e (λ path ts1 is_path e1.
    let named = dotted_name_sound ts path ts1 is_path in
    pure_as (Spells (IsSourceOf dots) optional_path ts) (Some path) found ts1 rest e1 (record { well = (are, named.well); text = named.text }))

source_sound : (ts : List Token) (s : Source) (rest : List Token) → grammar.source ts ≡ Some (s, rest)
    → Spells (λ from. IsSourceOf from.dots from.path) (λ from. from.dots ++ optional_path from.path) ts s rest
unfolding grammar.source grammar.dots
source_sound ts s rest e =
    let found : List Token = take_while grammar.is_dot_token ts in
    let left : List Token = drop (length found) ts in
    bind (grammar.path_after found (kind_of left) left) _ (s, rest) e (λ path ts1 is_path e1.
    let named = path_sound found (kind_of left) left path ts1 (are_dots ts) is_path in
    pure_as (Spells (λ from. IsSourceOf from.dots from.path) (λ from. from.dots ++ optional_path from.path) ts)
    (record { dots = found; path = path }) s ts1 rest e1
    (record { well = named.well; text = split (prefix_len grammar.is_dot_token ts) ts ∙ (ap (found ++◌) named.text ∙ sym (append_assoc found _ _)) }))

-- a module that is imported from, and what follows it
record IsFrom (ts : List Token) (t : Token) (from : Source) (word_import : Token) (rest : List Token) : Type 0 where
  sign : t.kind ≡ kind.Keyword word.From
  well : IsSourceOf from.dots from.path
  imports : word_import.kind ≡ kind.Keyword word.Import
  text : ts ≡ t ∷ ((from.dots ++ optional_path from.path) ++ word_import ∷ rest)

enclosed_sound : (t : Token) (from : Source) (word_import : Token) (ts0 ts : List Token) (s : SimpleStatement) (rest : List Token)
    → IsFrom ts0 t from word_import ts → kind_of ts ≡ kind.Open bracket.Round → grammar.enclosed_names t from word_import ts ≡ Some (s, rest)
    → Spells IsStatement statement_yield ts0 s rest
unfolding grammar.enclosed_names IsStatement statement_yield
enclosed_sound t from word_import ts0 ts s rest head is e =
    after_one _ ts (s, rest) e (λ opening ts1 is_one same e1.
    bind (grammar.all_separated grammar.imported_name true ts1) _ (s, rest) e1 (λ names ts2 is_names e2.
    let found = separated_sound IsImportedName name_yield grammar.imported_name imported_name_sound true (length ts1) ts1 names ts2 is_names in
    after_expected (kind.Close bracket.Round) _ ts2 (s, rest) e2 (λ closing ts3 is_closing shut e3.
    pure_as (Spells IsStatement statement_yield ts0) (statement.import_from t from word_import (Some opening) names (Some closing)) s ts3 rest e3
    (record {
      well = (head.sign, head.well, head.imports, (same ∙ is, shut, found.well));
      text = head.text ∙ rw (is_one, found.text, is_closing) (simp append_assoc refl);
    }))))

open_sound : (t : Token) (from : Source) (word_import : Token) (ts0 ts : List Token) (s : SimpleStatement) (rest : List Token)
    → IsFrom ts0 t from word_import ts → grammar.open_names t from word_import ts ≡ Some (s, rest)
    → Spells IsStatement statement_yield ts0 s rest
unfolding grammar.open_names IsStatement statement_yield
open_sound t from word_import ts0 ts s rest head e =
    bind (grammar.all_separated grammar.imported_name false ts) _ (s, rest) e (λ names ts1 is_names e1.
    let found = separated_sound IsImportedName name_yield grammar.imported_name imported_name_sound false (length ts) ts names ts1 is_names in
    pure_as (Spells IsStatement statement_yield ts0) (statement.import_from t from word_import None names None) s ts1 rest e1
    (record { well = (head.sign, head.well, head.imports, found.well); text = head.text ∙ rw found.text (simp append_assoc refl) }))

import_from_statement_sound : (ts : List Token) (s : SimpleStatement) (rest : List Token) → kind_of ts ≡ kind.Keyword word.From
    → grammar.import_from_statement ts ≡ Some (s, rest) → Spells IsStatement statement_yield ts s rest
unfolding grammar.import_from_statement
import_from_statement_sound ts s rest is e =
    after_one _ ts (s, rest) e (λ t ts1 is_one same e1.
    bind (grammar.source ts1) _ (s, rest) e1 (λ from ts2 is_from e2.
    let found = source_sound ts1 from ts2 is_from in
    after_expected (kind.Keyword word.Import) _ ts2 (s, rest) e2 (λ word_import ts3 is_import imports e3.
    let head : IsFrom ts t from word_import ts3 = record { sign = same ∙ is; well = found.well; imports = imports; text = cc } in
    choose _ _ (same_kind (kind_of ts3) (kind.Open bracket.Round)) ts3 (s, rest) e3
    (λ opens e4. enclosed_sound t from word_import ts ts3 s rest head (same_kind_is (kind_of ts3) (kind.Open bracket.Round) opens) e4)
    (λ other e4. open_sound t from word_import ts ts3 s rest head e4))))

-- ---- statements of a word

word_sound : (ts : List Token) (s : SimpleStatement) (rest : List Token) → is_word_statement (kind_of ts) ≡ true
    → grammar.word_statement ts ≡ Some (s, rest) → Spells IsStatement statement_yield ts s rest
unfolding grammar.word_statement IsStatement statement_yield
word_sound ts s rest is e =
    after_one _ ts (s, rest) e (λ t ts1 is_one same e1.
    pure_as (Spells IsStatement statement_yield ts) (statement.word t) s ts1 rest e1
    (record { well = ap is_word_statement same ∙ is; text = is_one }))

expected_name : (ts : List Token) (name : Token) (rest : List Token) → expect_name ts ≡ Some (name, rest)
    → Spells (λ t. is_name t.kind ≡ true) (λ t. t ∷ []) ts name rest
expected_name ts name rest e =
    after_name (λ t. λ us. Some (t, us)) ts (name, rest) (ap (λ o. and_then o (λ t. λ us. Some (t, us))) e) (λ t ts1 is_one named e1.
    pure_as (Spells (λ t. is_name t.kind ≡ true) (λ t. t ∷ []) ts) t name ts1 rest e1 (record { well = named; text = is_one }))

declared_sound : (ts : List Token) (s : SimpleStatement) (rest : List Token) → is_declaration (kind_of ts) ≡ true
    → grammar.declared ts ≡ Some (s, rest) → Spells IsStatement statement_yield ts s rest
unfolding grammar.declared IsStatement statement_yield
declared_sound ts s rest is e =
    after_one _ ts (s, rest) e (λ t ts1 is_one same e1.
    bind (grammar.all_separated expect_name false ts1) _ (s, rest) e1 (λ names ts2 is_names e2.
    let found = separated_sound (λ u. is_name u.kind ≡ true) (λ u. u ∷ []) expect_name expected_name false (length ts1) ts1 names ts2 is_names in
    pure_as (Spells IsStatement statement_yield ts) (statement.declare t names) s ts2 rest e2
    (record { well = (ap is_declaration same ∙ is, found.well); text = is_one ∙ ap (t ∷◌) found.text })))

-- a chain of targets and its last value
record IsChain (ts : List Token) (found : List Assigned × Tree) (rest : List Token) : Type 0 where
  targets : AreAssigned found.0
  passes : is_value found.1 ≡ true
  well : IsWell found.1
  text : ts ≡ targets_yield found.0 ++ (yield_of found.1 ++ rest)

-- at the end of the tokens, or not
pub after_end : {B G : Type 0} (f : Bool → Parser B) (ts : List Token) (r : B × List Token) → and_then (grammar.at_end ts) f ≡ Some r
    → ((b : Bool) → f b ts ≡ Some r → G) → G
after_end f [] r e go = go true e
after_end f (t ∷ ts) r e go = go false e

module _ (S : ℕ → Parser Tree) (good : Good S) where
  -- ---- values and targets

  listed_value : (ts : List Token) (e : Tree) (rest : List Token) → rule.expressions S list_context.Items ts ≡ Some (e, rest) → IsOf is_value ts e rest
  listed_value ts x rest e =
      let got = expressions_sound S good ts x rest e in
      record { well = got.well; text = got.text; low = got.low; passes = either_second (is_yield x) (is_expression_list x) got.passes }

  yielded_value : (ts : List Token) (e : Tree) (rest : List Token) → kind_of ts ≡ kind.Keyword word.Yield → rule.yield_expression S ts ≡ Some (e, rest)
      → IsOf is_value ts e rest
  yielded_value ts x rest is e =
      let got = yield_expression_sound S good ts x rest is e in
      record { well = got.well; text = got.text; low = got.low; passes = either_first (is_yield x) (is_expression_list x) got.passes }

  value_by_sound : (k : Kind) (ts : List Token) (e : Tree) (rest : List Token) → kind_of ts ≡ k → grammar.value_by S k ts ≡ Some (e, rest)
      → IsOf is_value ts e rest
  value_by_sound (kind.Keyword word.Yield) ts x rest is e = yielded_value ts x rest is e
  value_by_sound _ ts x rest is e = listed_value ts x rest e

  value_sound : (ts : List Token) (e : Tree) (rest : List Token) → grammar.value S ts ≡ Some (e, rest) → IsOf is_value ts e rest
  unfolding grammar.value
  value_sound ts x rest e = value_by_sound (kind_of ts) ts x rest refl e

  after_value : {B G : Type 0} (f : Tree → Parser B) (ts : List Token) (r : B × List Token) → and_then (grammar.value S ts) f ≡ Some r
      → ((x : Tree) (later : List Token) → IsOf is_value ts x later → f x later ≡ Some r → G) → G
  after_value f ts r e go = bind (grammar.value S ts) f r e (λ x later is next. go x later (value_sound ts x later is) next)

  given_sound : (ts : List Token) (found : Tail) (rest : List Token) → grammar.given S ts ≡ Some (found, rest)
      → Spells (MayFollow (kind.Delimiter delimiter.Equal) is_value) tail_yield ts found rest
  unfolding grammar.given IsWell yield_of
  given_sound ts found rest e =
      choose _ _ (same_kind (kind_of ts) (kind.Delimiter delimiter.Equal)) ts (found, rest) e
      (λ comes e0.
      after_one _ ts (found, rest) e0 (λ t ts1 is_one same e1.
      after_value _ ts1 (found, rest) e1 (λ x ts2 got e2.
      pure_as (Spells (MayFollow (kind.Delimiter delimiter.Equal) is_value) tail_yield ts) (tree.after t x) found ts2 rest e2
      (record { well = (same ∙ same_kind_is (kind_of ts) (kind.Delimiter delimiter.Equal) comes, got.passes, got.well); text = cc }))))
      (λ other e0. pure_as (Spells (MayFollow (kind.Delimiter delimiter.Equal) is_value) tail_yield ts) tree.nothing found ts rest e0
      (record { well = tt; text = refl }))

  -- ---- assignments

  chain_sound : (n : ℕ) (x : Tree) (ts0 ts : List Token) (found : List Assigned × Tree) (rest : List Token) → IsOf is_value ts0 x ts
      → grammar.chain S n x ts ≡ Some (found, rest) → IsChain ts0 found rest
  unfolding grammar.chain
  chain_sound zero x ts0 ts found rest got e =
      pure_as (IsChain ts0) ([], x) found ts rest e (record { targets = tt; passes = got.passes; well = got.well; text = got.text })
  chain_sound (suc n) x ts0 ts found rest got e =
      choose _ _ (same_kind (kind_of ts) (kind.Delimiter delimiter.Equal)) ts (found, rest) e
      (λ comes e0.
      only _ (is_target x) ts (found, rest) e0 (λ target e1.
      after_one _ ts (found, rest) e1 (λ equal ts1 is_one same e2.
      after_value _ ts1 (found, rest) e2 (λ y ts2 value e3.
      bind (grammar.chain S n y ts2) _ (found, rest) e3 (λ more ts3 is_more e4.
      let later = chain_sound n y ts1 ts2 more ts3 value is_more in
      pure_as (IsChain ts0) (record { target = x; equal = equal } ∷ more.0, more.1) found ts3 rest e4
      (record {
        targets = (target, got.well, same ∙ same_kind_is (kind_of ts) (kind.Delimiter delimiter.Equal) comes, later.targets);
        passes = later.passes;
        well = later.well;
        text = simp append_assoc (cc);
      }))))))
      (λ other e0. pure_as (IsChain ts0) ([], x) found ts rest e0
      (record { targets = tt; passes = got.passes; well = got.well; text = got.text }))

  chained_sound : (found : List Assigned × Tree) (ts rest : List Token) → IsChain ts found rest
      → Spells IsStatement statement_yield ts (grammar.chained S found) rest
  unfolding IsStatement statement_yield
  chained_sound ([], x) ts rest chain = record { well = (chain.passes, chain.well); text = chain.text }
  chained_sound (assigned ∷ more, x) ts rest chain =
      record { well = (chain.targets, chain.passes, chain.well); text = chain.text ∙ sym (append_assoc (targets_yield (assigned ∷ more)) (yield_of x) rest) }

  assigned_sound : (x : Tree) (ts0 ts : List Token) (s : SimpleStatement) (rest : List Token) → IsOf is_value ts0 x ts
      → grammar.assigned S x ts ≡ Some (s, rest) → Spells IsStatement statement_yield ts0 s rest
  unfolding grammar.assigned
  assigned_sound x ts0 ts s rest got e =
      bind (grammar.chain S (length ts) x ts) _ (s, rest) e (λ found ts1 is_found e1.
      pure_as (Spells IsStatement statement_yield ts0) (grammar.chained S found) s ts1 rest e1
      (chained_sound found ts0 ts1 (chain_sound (length ts) x ts0 ts found ts1 got is_found)))

  annotated_target_sound : (x : Tree) (ts0 ts : List Token) (s : SimpleStatement) (rest : List Token) → IsOf is_value ts0 x ts → is_colon (kind_of ts) ≡ true
      → grammar.annotated_target S x ts ≡ Some (s, rest) → Spells IsStatement statement_yield ts0 s rest
  unfolding grammar.annotated_target IsStatement statement_yield
  annotated_target_sound x ts0 ts s rest got is e =
      only _ (is_single_target x) ts (s, rest) e (λ single e0.
      after_one _ ts (s, rest) e0 (λ colon ts1 is_one same e1.
      after_self S good 1 _ ts1 (s, rest) e1 (omega arith) (omega arith) (λ annotation ts2 annotated_target e2.
      bind (grammar.given S ts2) _ (s, rest) e2 (λ value ts3 is_value e3.
      let later = given_sound ts2 value ts3 is_value in
      pure_as (Spells IsStatement statement_yield ts0) (statement.annotate x colon annotation value) s ts3 rest e3
      (record {
        well = (single, got.well, same ∙ is_colon_is (kind_of ts) is, annotated_target.high, annotated_target.well, later.well);
        text = simp append_assoc (cc);
      })))))

  augmented_assignment_sound : (x : Tree) (ts0 ts : List Token) (s : SimpleStatement) (rest : List Token) → IsOf is_value ts0 x ts
      → is_augmented (kind_of ts) ≡ true → grammar.augmented_assignment S x ts ≡ Some (s, rest) → Spells IsStatement statement_yield ts0 s rest
  unfolding grammar.augmented_assignment IsStatement statement_yield
  augmented_assignment_sound x ts0 ts s rest got is e =
      only _ (is_single_target x) ts (s, rest) e (λ single e0.
      after_one _ ts (s, rest) e0 (λ sign ts1 is_one same e1.
      after_value _ ts1 (s, rest) e1 (λ y ts2 value e2.
      pure_as (Spells IsStatement statement_yield ts0) (statement.augment x sign y) s ts2 rest e2
      (record { well = (single, got.well, ap is_augmented same ∙ is, value.passes, value.well); text = simp append_assoc (cc) }))))

  expression_or_assignment_sound : (ts : List Token) (s : SimpleStatement) (rest : List Token) → grammar.expression_or_assignment S ts ≡ Some (s, rest)
      → Spells IsStatement statement_yield ts s rest
  unfolding grammar.expression_or_assignment
  expression_or_assignment_sound ts s rest e =
      bind (rule.expressions S list_context.Items ts) _ (s, rest) e (λ x ts1 is e1.
      let got = listed_value ts x ts1 is in
      choose _ _ (is_colon (kind_of ts1)) ts1 (s, rest) e1
      (λ colon e2. annotated_target_sound x ts ts1 s rest got colon e2)
      (λ other e2. choose _ _ (is_augmented (kind_of ts1)) ts1 (s, rest) e2
      (λ augments e3. augmented_assignment_sound x ts ts1 s rest got augments e3)
      (λ none e3. assigned_sound x ts ts1 s rest got e3)))

  yield_statement_sound : (ts : List Token) (s : SimpleStatement) (rest : List Token) → kind_of ts ≡ kind.Keyword word.Yield
      → grammar.yield_statement S ts ≡ Some (s, rest) → Spells IsStatement statement_yield ts s rest
  unfolding grammar.yield_statement IsStatement statement_yield
  yield_statement_sound ts s rest is e =
      bind (rule.yield_expression S ts) _ (s, rest) e (λ x ts1 is_yielded e1.
      let got = yielded_value ts x ts1 is is_yielded in
      pure_as (Spells IsStatement statement_yield ts) (statement.expression x) s ts1 rest e1 (record { well = (got.passes, got.well); text = got.text }))

  -- ---- statements of a keyword

  return_statement_sound : (ts : List Token) (s : SimpleStatement) (rest : List Token) → kind_of ts ≡ kind.Keyword word.Return
      → grammar.return_statement S ts ≡ Some (s, rest) → Spells IsStatement statement_yield ts s rest
  unfolding grammar.return_statement IsStatement statement_yield IsWell yield_of
  return_statement_sound ts s rest is e =
      after_one _ ts (s, rest) e (λ t ts1 is_one same e1.
      choose _ _ (same_kind (kind_of ts1) end_of_line) ts1 (s, rest) e1
      (λ ends e2. pure_as (Spells IsStatement statement_yield ts) (statement.return t tree.absent) s ts1 rest e2
      (record { well = (same ∙ is, tt); text = is_one }))
      (λ other e2.
      bind (rule.expressions S list_context.Items ts1) _ (s, rest) e2 (λ x ts2 is_list e3.
      let got = expressions_sound S good ts1 x ts2 is_list in
      pure_as (Spells IsStatement statement_yield ts) (statement.return t (tree.present x)) s ts2 rest e3
      (record { well = (same ∙ is, (got.passes, got.well)); text = cc }))))

  raise_statement_sound : (ts : List Token) (s : SimpleStatement) (rest : List Token) → kind_of ts ≡ kind.Keyword word.Raise
      → grammar.raise_statement S ts ≡ Some (s, rest) → Spells IsStatement statement_yield ts s rest
  unfolding grammar.raise_statement IsStatement statement_yield yield_of
  raise_statement_sound ts s rest is e =
      after_one _ ts (s, rest) e (λ t ts1 is_one same e1.
      choose _ _ (same_kind (kind_of ts1) end_of_line) ts1 (s, rest) e1
      (λ ends e2. pure_as (Spells IsStatement statement_yield ts) (statement.raise t tree.absent tree.nothing) s ts1 rest e2
      (record { well = (same ∙ is, tt); text = is_one }))
      (λ other e2.
      after_self S good 1 _ ts1 (s, rest) e2 (omega arith) (omega arith) (λ x ts2 got e3.
      bind (rule.tail S (kind.Keyword word.From) ts2) _ (s, rest) e3 (λ cause ts3 is_cause e4.
      let later = tail_sound S good (kind.Keyword word.From) ts2 cause ts3 is_cause in
      pure_as (Spells IsStatement statement_yield ts) (statement.raise t (tree.present x) cause) s ts3 rest e4
      (record { well = (same ∙ is, (got.high, got.well, later.follows)); text = simp append_assoc (cc) })))))

  assert_statement_sound : (ts : List Token) (s : SimpleStatement) (rest : List Token) → kind_of ts ≡ kind.Keyword word.Assert
      → grammar.assert_statement S ts ≡ Some (s, rest) → Spells IsStatement statement_yield ts s rest
  unfolding grammar.assert_statement IsStatement statement_yield
  assert_statement_sound ts s rest is e =
      after_one _ ts (s, rest) e (λ t ts1 is_one same e1.
      after_self S good 1 _ ts1 (s, rest) e1 (omega arith) (omega arith) (λ x ts2 got e2.
      bind (rule.tail S (kind.Delimiter delimiter.Comma) ts2) _ (s, rest) e2 (λ message ts3 is_message e3.
      let later = tail_sound S good (kind.Delimiter delimiter.Comma) ts2 message ts3 is_message in
      pure_as (Spells IsStatement statement_yield ts) (statement.assert t x message) s ts3 rest e3
      (record { well = (same ∙ is, got.high, got.well, later.follows); text = simp append_assoc (cc) }))))

  delete_statement_sound : (ts : List Token) (s : SimpleStatement) (rest : List Token) → kind_of ts ≡ kind.Keyword word.Del
      → grammar.delete_statement S ts ≡ Some (s, rest) → Spells IsStatement statement_yield ts s rest
  unfolding grammar.delete_statement IsStatement statement_yield
  delete_statement_sound ts s rest is e =
      after_one _ ts (s, rest) e (λ t ts1 is_one same e1.
      bind (rule.targets S ts1) _ (s, rest) e1 (λ to ts2 is_to e2.
      let got = targets_sound S good ts1 to ts2 is_to in
      pure_as (Spells IsStatement statement_yield ts) (statement.delete t to) s ts2 rest e2
      (record { well = (same ∙ is, got.passes, got.well); text = cc })))

  statement_by_sound : (k : Kind) (ts : List Token) (s : SimpleStatement) (rest : List Token) → kind_of ts ≡ k
      → grammar.statement_by S k ts ≡ Some (s, rest) → Spells IsStatement statement_yield ts s rest
  statement_by_sound (kind.Keyword word.Pass) ts s rest is e = word_sound ts s rest (ap is_word_statement is) e
  statement_by_sound (kind.Keyword word.Break) ts s rest is e = word_sound ts s rest (ap is_word_statement is) e
  statement_by_sound (kind.Keyword word.Continue) ts s rest is e = word_sound ts s rest (ap is_word_statement is) e
  statement_by_sound (kind.Keyword word.Return) ts s rest is e = return_statement_sound ts s rest is e
  statement_by_sound (kind.Keyword word.Raise) ts s rest is e = raise_statement_sound ts s rest is e
  statement_by_sound (kind.Keyword word.Assert) ts s rest is e = assert_statement_sound ts s rest is e
  statement_by_sound (kind.Keyword word.Del) ts s rest is e = delete_statement_sound ts s rest is e
  statement_by_sound (kind.Keyword word.Global) ts s rest is e = declared_sound ts s rest (ap is_declaration is) e
  statement_by_sound (kind.Keyword word.Nonlocal) ts s rest is e = declared_sound ts s rest (ap is_declaration is) e
  statement_by_sound (kind.Keyword word.Import) ts s rest is e = imported_sound ts s rest is e
  statement_by_sound (kind.Keyword word.From) ts s rest is e = import_from_statement_sound ts s rest is e
  statement_by_sound (kind.Keyword word.Yield) ts s rest is e = yield_statement_sound ts s rest is e
  statement_by_sound _ ts s rest is e = expression_or_assignment_sound ts s rest e

  -- a simple statement
  pub simple_sound : (ts : List Token) (s : SimpleStatement) (rest : List Token) → grammar.simple S ts ≡ Some (s, rest)
      → Spells IsStatement statement_yield ts s rest
  unfolding grammar.simple
  simple_sound ts s rest e = statement_by_sound (kind_of ts) ts s rest refl e

  statements_sound : (n : ℕ) (ts : List Token) (found : Separated SimpleStatement) (rest : List Token) → grammar.statements S n ts ≡ Some (found, rest)
      → Spells AreStatements (separated_yield statement_yield) ts found rest
  unfolding grammar.statements
  statements_sound zero ts found rest e = refused _ e
  statements_sound (suc n) ts found rest e =
      bind (grammar.simple S ts) _ (found, rest) e (λ s ts1 is e1.
      let first = simple_sound ts s ts1 is in
      after_end _ ts1 (found, rest) e1 (λ is_last e2.
      choose _ _ is_last ts1 (found, rest) e2
      (λ last e3. pure_as (Spells AreStatements (separated_yield statement_yield) ts) (last_item s) found ts1 rest e3
      (record { well = first.well; text = first.text }))
      (λ goes_on e3.
      after_expected (kind.Delimiter delimiter.Semicolon) _ ts1 (found, rest) e3 (λ semicolon ts2 is_one same e4.
      after_end _ ts2 (found, rest) e4 (λ is_done e5.
      choose _ _ is_done ts2 (found, rest) e5
      (λ done e6. pure_as (Spells AreStatements (separated_yield statement_yield) ts) (item s semicolon no_item) found ts2 rest e6
      (record { well = (refl, first.well, same); text = simp append_assoc (cc) }))
      (λ more_come e6.
      bind (grammar.statements S n ts2) _ (found, rest) e6 (λ more ts3 is_more e7.
      let later = statements_sound n ts2 more ts3 is_more in
      pure_as (Spells AreStatements (separated_yield statement_yield) ts) (item s semicolon more) found ts3 rest e7
      (record {
        well = one_before IsStatement (kind.Delimiter delimiter.Semicolon) true s semicolon more first.well same later.well;
        text = simp append_assoc (cc);
      }))))))))

  -- statements joined by semicolons
  pub all_statements_sound : (ts : List Token) (found : Separated SimpleStatement) (rest : List Token) → grammar.all_statements S ts ≡ Some (found, rest)
      → Spells AreStatements (separated_yield statement_yield) ts found rest
  unfolding grammar.all_statements
  all_statements_sound ts found rest e = statements_sound (length ts) ts found rest e
