-- Each well-formed simple statement is read back from its tokens, where the statement ends.
use Rattle.std.proofs.Common.{◌≡◌, refl, ap, ◌∙◌, ℕ, zero, suc, ◌≤◌, ◌<◌, Bool, true, false, if◌then◌else◌, List, [], ◌∷◌, ◌++◌, length, length-append, Option, None, Some, append_assoc, arith}
use Rattle.pyc_token.specs.declared.tokens.Bracket.TheVariants as bracket
use Rattle.pyc_token.specs.declared.tokens.Delimiter.TheVariants as delimiter
use Rattle.pyc_token.specs.declared.tokens.Keyword.TheVariants as word
use Rattle.pyc_token.specs.declared.tokens.Kind.{Kind}
use Rattle.pyc_token.specs.declared.tokens.Kind.TheVariants as kind
use Rattle.pyc_token.specs.declared.tokens.Token.{Token}
use Rattle.pyc_tree.specs.declared.list_context.ListContext.TheVariants as list_context
use Rattle.pyc_tree.specs.Tree.{Tree, Perhaps, Tail}
use Rattle.pyc_tree.specs.Tree as tree
use Rattle.pyc_tree.specs.Kinds.{kind_of, same_kind, is_name, is_string, end_of_line}
use Rattle.pyc_tree.specs.Precedence.{infix_precedence, precedence}
use Rattle.pyc_tree.specs.Yield.{yield_of, tail_yield, perhaps_yield, optional_token}
use Rattle.pyc_tree.specs.Height.{height, tail_height, perhaps_height, max_height}
use Rattle.pyc_tree.specs.ListContexts.{is_colon, is_at, begins}
use Rattle.pyc_tree.specs.Targets.{is_target, is_single_target}
use Rattle.pyc_tree.specs.Well.{IsWell, MayFollow, is_yield, is_expression_list}
use Rattle.pyc_tree.specs.WellLines.{is_value, is_word_statement, is_declaration, is_augmented, AreImportedNames, IsImportedModule, IsImportedName, AreAssigned, IsStatement}
use Rattle.pyc_tree.specs.Statements.{SimpleStatement, Separated, no_item, last_item, item, Source, Assigned, ImportedModule, ImportedName, optional_path, module_yield, name_yield, targets_yield, targets_height, separated_yield, statement_yield, statement_height}
use Rattle.pyc_tree.specs.Statements as statement
use Rattle.pyc_tree.specs.Parser.{Parsed, Parser, take_one, expect, expect_name}
use Rattle.pyc_tree.specs.Items as rule
use Rattle.pyc_tree.specs.SimpleStatements as grammar
use Rattle.pyc_line.proofs.SoundTables.{never}
use Rattle.pyc_line.proofs.SoundTools.{at_precedence, either_second}
use Rattle.pyc_line.proofs.CompleteTools.{step, yes, no, same_as, apart, expected}
use Rattle.pyc_line.proofs.CompleteTables.{ends, either}
use Rattle.pyc_line.proofs.Complete.{Full}
use Rattle.pyc_line.proofs.CompleteItems.{Halts, halts_as, after, tail_full}
use Rattle.pyc_line.proofs.CompleteLists.{expressions_full, targets_full, yield_expression_full, list_begins}
use Rattle.pyc_line.proofs.CompleteNames.{ends_names, names_full, names_begin, modules_named, names_named, tokens_named, source_parts}

-- ---- what a statement begins with

pub yield_kind : (e : Tree) (rest : List Token) → is_yield e ≡ true → IsWell e → kind_of (yield_of e ++ rest) ≡ kind.Keyword word.Yield
unfolding IsWell yield_of
yield_kind (tree.yield t value) rest is well = well.0
yield_kind (tree.yield_from t from x) rest is well = well.0
yield_kind _ rest is well = never is

-- a target may stand where an expression or a tuple does
pub target_list : (e : Tree) → is_target e ≡ true → is_expression_list e ≡ true
unfolding is_target
target_list (tree.name _) is = refl
target_list (tree.attribute _ _ _) is = refl
target_list (tree.subscript _ _ _ _) is = refl
target_list (tree.parenthesized _ _ _) is = refl
target_list (tree.display _ _ _ _) is = refl
target_list (tree.bare _) is = refl
target_list _ is = never is

pub single_list : (e : Tree) → is_single_target e ≡ true → is_expression_list e ≡ true
single_list (tree.name _) is = refl
single_list (tree.attribute _ _ _) is = refl
single_list (tree.subscript _ _ _ _) is = refl
single_list (tree.parenthesized _ _ _) is = refl
single_list _ is = never is

-- ---- what follows

end_halts : (k : Kind) → k ≡ end_of_line → Halts k
end_halts k is = halts_as k end_of_line is refl refl

-- a token with an expression after it, or nothing, before the end of a statement
behind_tail : (k : Kind) (test : Tree → Bool) (found : Tail) (rest : List Token) → MayFollow k test found → infix_precedence k ≡ 0 → is_string k ≡ false
    → Halts (kind_of rest) → Halts (kind_of (tail_yield found ++ rest))
unfolding IsWell yield_of
behind_tail k test tree.nothing rest well loose string halts = halts
behind_tail k test (tree.after t e) rest well loose string halts = halts_as t.kind k well.0 loose string

no_equal : (k : Kind) → k ≡ end_of_line → same_kind k (kind.Delimiter delimiter.Equal) ≡ false
unfolding same_kind
no_equal k is = ap (λ z. same_kind z (kind.Delimiter delimiter.Equal)) is

module _ (S : ℕ → Parser Tree) (d : ℕ) (full : Full S d) (low : d ≤ max_height) where
  -- ---- values

  by_value : (k : Kind) → begins list_context.Items k ≡ true → grammar.value_by S k ≡ rule.expressions S list_context.Items
  by_value (kind.Keyword word.Yield) begun = never begun
  by_value _ begun = refl

  value_full : (e : Tree) (rest : List Token) → is_value e ≡ true → IsWell e → height e ≤ d → ends list_context.Items (kind_of rest) ≡ true
      → grammar.value S (yield_of e ++ rest) ≡ Some (e, rest)
  unfolding grammar.value
  value_full e rest fit well small stop =
      either (is_yield e) (is_expression_list e) fit
      (λ yields.
      ap (λ k. grammar.value_by S k (yield_of e ++ rest)) (yield_kind e rest yields well) ∙ yield_expression_full S d full low e rest yields well small stop)
      (λ list.
      ap (λ (p : Parser Tree). p (yield_of e ++ rest)) (by_value (kind_of (yield_of e ++ rest)) (list_begins e rest list well))
      ∙ expressions_full S d full low e rest list well small stop)

  given_full : (found : Tail) (rest : List Token) → MayFollow (kind.Delimiter delimiter.Equal) is_value found → tail_height found ≤ d
      → kind_of rest ≡ end_of_line → grammar.given S (tail_yield found ++ rest) ≡ Some (found, rest)
  unfolding grammar.given take_one IsWell yield_of height
  given_full tree.nothing rest well small stop =
      no _ _ (same_kind (kind_of rest) (kind.Delimiter delimiter.Equal)) rest _ (no_equal (kind_of rest) stop) refl
  given_full (tree.after t e) rest well small stop =
      yes _ _ (same_kind t.kind (kind.Delimiter delimiter.Equal)) (t ∷ (yield_of e ++ rest)) _ (same_as t.kind (kind.Delimiter delimiter.Equal) well.0)
      (step (grammar.value S (yield_of e ++ rest)) _ e rest _ (value_full e rest well.1 well.2 small (ap (ends list_context.Items) stop)) refl)

  -- ---- assignments

  chain_end : (n : ℕ) (e : Tree) (rest : List Token) → kind_of rest ≡ end_of_line
      → ◌≡◌ {A = Parsed (List Assigned × Tree)} (grammar.chain S n e rest) (Some (([], e), rest))
  unfolding grammar.chain
  chain_end zero e rest stop = refl
  chain_end (suc n) e rest stop =
      no _ _ (same_kind (kind_of rest) (kind.Delimiter delimiter.Equal)) rest _ (no_equal (kind_of rest) stop) refl

  chain_full : (more : List Assigned) (n : ℕ) (x : Tree) (equal : Token) (e : Tree) (rest : List Token) → is_target x ≡ true
      → equal.kind ≡ kind.Delimiter delimiter.Equal → AreAssigned more → is_value e ≡ true → IsWell e → height e ≤ d → targets_height more ≤ d
      → length more < n → kind_of rest ≡ end_of_line
      → ◌≡◌ {A = Parsed (List Assigned × Tree)} (grammar.chain S n x (equal ∷ (targets_yield more ++ (yield_of e ++ rest))))
      (Some ((record { target = x; equal = equal } ∷ more, e), rest))
  unfolding grammar.chain take_one
  chain_full more zero x equal e rest target is are fit well small low_targets few stop = absurd (omega (arith, few))
  chain_full [] (suc n) x equal e rest target is are fit well small low_targets few stop =
      yes _ _ (same_kind equal.kind (kind.Delimiter delimiter.Equal)) (equal ∷ (yield_of e ++ rest)) _ (same_as equal.kind (kind.Delimiter delimiter.Equal) is)
      (yes _ _ (is_target x) (equal ∷ (yield_of e ++ rest)) _ target
      (step (grammar.value S (yield_of e ++ rest)) _ e rest _ (value_full e rest fit well small (ap (ends list_context.Items) stop))
      (step (grammar.chain S n e rest) _ ([], e) rest _ (chain_end n e rest stop) refl)))
  chain_full (a ∷ more) (suc n) x equal e rest target is are fit well small low_targets few stop =
      let left : List Token = a.equal ∷ (targets_yield more ++ (yield_of e ++ rest)) in
      rw (append_assoc (yield_of a.target) (a.equal ∷ targets_yield more) (yield_of e ++ rest))
      (yes _ _ (same_kind equal.kind (kind.Delimiter delimiter.Equal)) (equal ∷ (yield_of a.target ++ left)) _
      (same_as equal.kind (kind.Delimiter delimiter.Equal) is)
      (yes _ _ (is_target x) (equal ∷ (yield_of a.target ++ left)) _ target
      (step (grammar.value S (yield_of a.target ++ left)) _ a.target left _
      (value_full a.target left (either_second (is_yield a.target) (is_expression_list a.target) (target_list a.target are.0)) are.1 (omega (arith, low_targets))
      (ap (ends list_context.Items) are.2))
      (step (grammar.chain S n a.target left) _ (a ∷ more, e) rest _
      (chain_full more n a.target a.equal e rest are.0 are.2 are.3 fit well small (omega (arith, low_targets)) (omega (arith, few)) stop) refl))))

  -- ---- statements that begin with an expression

  by_expression : (k : Kind) → begins list_context.Items k ≡ true → grammar.statement_by S k ≡ grammar.expression_or_assignment S
  by_expression (kind.Keyword word.Pass) begun = never begun
  by_expression (kind.Keyword word.Break) begun = never begun
  by_expression (kind.Keyword word.Continue) begun = never begun
  by_expression (kind.Keyword word.Return) begun = never begun
  by_expression (kind.Keyword word.Raise) begun = never begun
  by_expression (kind.Keyword word.Assert) begun = never begun
  by_expression (kind.Keyword word.Del) begun = never begun
  by_expression (kind.Keyword word.Global) begun = never begun
  by_expression (kind.Keyword word.Nonlocal) begun = never begun
  by_expression (kind.Keyword word.Import) begun = never begun
  by_expression (kind.Keyword word.From) begun = never begun
  by_expression (kind.Keyword word.Yield) begun = never begun
  by_expression _ begun = refl

  -- an expression, and what the statement makes of it
  leads : (e : Tree) (later : List Token) (r : Parsed SimpleStatement) → is_expression_list e ≡ true → IsWell e → height e ≤ d
      → ends list_context.Items (kind_of later) ≡ true
      → (if is_colon (kind_of later) then grammar.annotated_target S e
      else (if is_augmented (kind_of later) then grammar.augmented_assignment S e else grammar.assigned S e)) later ≡ r
      → grammar.simple S (yield_of e ++ later) ≡ r
  unfolding grammar.simple grammar.expression_or_assignment
  leads e later r fit well small stop next =
      ap (λ (p : Parser SimpleStatement). p (yield_of e ++ later)) (by_expression (kind_of (yield_of e ++ later)) (list_begins e later fit well))
      ∙ step (rule.expressions S list_context.Items (yield_of e ++ later)) _ e later r (expressions_full S d full low e later fit well small stop) next

  expression_statement : (e : Tree) (rest : List Token) → is_value e ≡ true → IsWell e → height e ≤ d → kind_of rest ≡ end_of_line
      → grammar.simple S (yield_of e ++ rest) ≡ Some (statement.expression e, rest)
  unfolding grammar.simple grammar.yield_statement grammar.assigned
  expression_statement e rest fit well small stop =
      either (is_yield e) (is_expression_list e) fit
      (λ yields.
      ap (λ k. grammar.statement_by S k (yield_of e ++ rest)) (yield_kind e rest yields well)
      ∙ step (rule.yield_expression S (yield_of e ++ rest)) _ e rest _ (yield_expression_full S d full low e rest yields well small (ap (ends list_context.Items) stop)) refl)
      (λ list.
      leads e rest _ list well small (ap (ends list_context.Items) stop)
      (no _ _ (is_colon (kind_of rest)) rest _ (ap is_colon stop)
      (no _ _ (is_augmented (kind_of rest)) rest _ (ap is_augmented stop)
      (step (grammar.chain S (length rest) e rest) _ ([], e) rest _ (chain_end (length rest) e rest stop) refl))))

  few_targets : (more : List Assigned) → length more ≤ length (targets_yield more)
  few_targets [] = omega arith
  few_targets (a ∷ more) = omega (arith, few_targets more, length-append (yield_of a.target) (a.equal ∷ targets_yield more))

  assign_full : (a : Assigned) (more : List Assigned) (e : Tree) (rest : List Token) → AreAssigned (a ∷ more) → is_value e ≡ true → IsWell e
      → targets_height (a ∷ more) ≤ d → height e ≤ d → kind_of rest ≡ end_of_line
      → grammar.simple S (yield_of a.target ++ (a.equal ∷ (targets_yield more ++ (yield_of e ++ rest)))) ≡ Some (statement.assign (a ∷ more) e, rest)
  unfolding grammar.assigned
  assign_full a more e rest are fit well low_targets small stop =
      let left : List Token = a.equal ∷ (targets_yield more ++ (yield_of e ++ rest)) in
      leads a.target left _ (target_list a.target are.0) are.1 (omega (arith, low_targets)) (ap (ends list_context.Items) are.2)
      (no _ _ (is_colon a.equal.kind) left _ (ap is_colon are.2)
      (no _ _ (is_augmented a.equal.kind) left _ (ap is_augmented are.2)
      (step (grammar.chain S (length left) a.target left) _ (a ∷ more, e) rest _
      (chain_full more (length left) a.target a.equal e rest are.0 are.2 are.3 fit well small (omega (arith, low_targets))
      (omega (arith, few_targets more, length-append (targets_yield more) (yield_of e ++ rest))) stop) refl)))

  annotate_full : (target : Tree) (colon : Token) (annotation : Tree) (value : Tail) (rest : List Token) → IsStatement (statement.annotate target colon annotation value)
      → height target ≤ d → height annotation ≤ d → tail_height value ≤ d → kind_of rest ≡ end_of_line
      → grammar.simple S (yield_of target ++ (colon ∷ (yield_of annotation ++ (tail_yield value ++ rest)))) ≡ Some (statement.annotate target colon annotation value, rest)
  unfolding grammar.annotated_target take_one IsStatement
  annotate_full target colon annotation value rest well small_target small_annotation small_value stop =
      let left : List Token = colon ∷ (yield_of annotation ++ (tail_yield value ++ rest)) in
      leads target left _ (single_list target well.0) well.1 small_target (ap (ends list_context.Items) well.2)
      (yes _ _ (is_colon colon.kind) left _ (ap is_colon well.2)
      (yes _ _ (is_single_target target) left _ well.0
      (after S d full low 1 annotation (tail_yield value ++ rest) _ _ well.4 small_annotation (omega arith) well.3
      (behind_tail (kind.Delimiter delimiter.Equal) is_value value rest well.5 refl refl (end_halts (kind_of rest) stop))
      (step (grammar.given S (tail_yield value ++ rest)) _ value rest _ (given_full value rest well.5 small_value stop) refl))))

  augmented_ends : (k : Kind) → is_augmented k ≡ true → (ends list_context.Items k ≡ true) × (is_colon k ≡ false)
  augmented_ends (kind.Augmented o) is = (refl, refl)
  augmented_ends _ is = never is

  augment_full : (target : Tree) (sign : Token) (e : Tree) (rest : List Token) → IsStatement (statement.augment target sign e)
      → height target ≤ d → height e ≤ d → kind_of rest ≡ end_of_line
      → grammar.simple S (yield_of target ++ (sign ∷ (yield_of e ++ rest))) ≡ Some (statement.augment target sign e, rest)
  unfolding grammar.augmented_assignment take_one IsStatement
  augment_full target sign e rest well small_target small stop =
      let left : List Token = sign ∷ (yield_of e ++ rest) in
      let sign_ends = augmented_ends sign.kind well.2 in
      leads target left _ (single_list target well.0) well.1 small_target sign_ends.0
      (no _ _ (is_colon sign.kind) left _ sign_ends.1
      (yes _ _ (is_augmented sign.kind) left _ well.2
      (yes _ _ (is_single_target target) left _ well.0
      (step (grammar.value S (yield_of e ++ rest)) _ e rest _ (value_full e rest well.3 well.4 small (ap (ends list_context.Items) stop)) refl))))

  -- ---- statements of a keyword

  -- a statement, by its first token
  by_word : (t : Token) (later : List Token) (q : Kind) (r : Parsed SimpleStatement) → t.kind ≡ q → grammar.statement_by S q (t ∷ later) ≡ r
      → grammar.simple S (t ∷ later) ≡ r
  unfolding grammar.simple
  by_word t later q r is next = ap (λ k. grammar.statement_by S k (t ∷ later)) is ∙ next

  word_by : (k : Kind) → is_word_statement k ≡ true → grammar.statement_by S k ≡ grammar.word_statement
  word_by (kind.Keyword word.Pass) is = refl
  word_by (kind.Keyword word.Break) is = refl
  word_by (kind.Keyword word.Continue) is = refl
  word_by _ is = never is

  declaration_by : (k : Kind) → is_declaration k ≡ true → grammar.statement_by S k ≡ grammar.declared
  declaration_by (kind.Keyword word.Global) is = refl
  declaration_by (kind.Keyword word.Nonlocal) is = refl
  declaration_by _ is = never is

  word_full : (t : Token) (rest : List Token) → is_word_statement t.kind ≡ true → grammar.simple S (t ∷ rest) ≡ Some (statement.word t, rest)
  unfolding grammar.simple grammar.word_statement take_one
  word_full t rest is = ap (λ (p : Parser SimpleStatement). p (t ∷ rest)) (word_by t.kind is)

  return_full : (t : Token) (value : Perhaps) (rest : List Token) → IsStatement (statement.return t value) → perhaps_height value ≤ d
      → kind_of rest ≡ end_of_line → grammar.simple S (t ∷ (perhaps_yield value ++ rest)) ≡ Some (statement.return t value, rest)
  unfolding grammar.return_statement take_one IsStatement IsWell yield_of height
  return_full t tree.absent rest well small stop =
      by_word t rest (kind.Keyword word.Return) _ well.0 (yes _ _ (same_kind (kind_of rest) end_of_line) rest _ (same_as (kind_of rest) end_of_line stop) refl)
  return_full t (tree.present e) rest well small stop =
      by_word t (yield_of e ++ rest) (kind.Keyword word.Return) _ well.0
      (no _ _ (same_kind (kind_of (yield_of e ++ rest)) end_of_line) (yield_of e ++ rest) _
      (apart (begins list_context.Items) _ end_of_line (list_begins e rest well.1.0 well.1.1) refl)
      (step (rule.expressions S list_context.Items (yield_of e ++ rest)) _ e rest _
      (expressions_full S d full low e rest well.1.0 well.1.1 small (ap (ends list_context.Items) stop)) refl))

  differs : (k q : Kind) → k ≡ end_of_line → same_kind end_of_line q ≡ false → same_kind k q ≡ false
  differs k q is other = ap (λ z. same_kind z q) is ∙ other

  at_list : (e : Tree) → 1 ≤ precedence e → is_expression_list e ≡ true
  at_list (tree.bare found) high = refl
  at_list e high = at_precedence 1 e high

  raise_full : (t : Token) (value : Perhaps) (cause : Tail) (rest : List Token) → IsStatement (statement.raise t value cause) → perhaps_height value ≤ d
      → tail_height cause ≤ d → kind_of rest ≡ end_of_line
      → grammar.simple S (t ∷ (perhaps_yield value ++ (tail_yield cause ++ rest))) ≡ Some (statement.raise t value cause, rest)
  unfolding grammar.raise_statement take_one same_kind IsStatement yield_of height
  raise_full t tree.absent tree.nothing rest well small small_cause stop =
      by_word t rest (kind.Keyword word.Raise) _ well.0 (yes _ _ (same_kind (kind_of rest) end_of_line) rest _ (same_as (kind_of rest) end_of_line stop) refl)
  raise_full t tree.absent (tree.after u x) rest well small small_cause stop = absurd well.1
  raise_full t (tree.present e) cause rest well small small_cause stop =
      let left : List Token = tail_yield cause ++ rest in
      by_word t (yield_of e ++ left) (kind.Keyword word.Raise) _ well.0
      (no _ _ (same_kind (kind_of (yield_of e ++ left)) end_of_line) (yield_of e ++ left) _
      (apart (begins list_context.Items) _ end_of_line (list_begins e left (at_list e well.1.0) well.1.1) refl)
      (after S d full low 1 e left _ _ well.1.1 small (omega arith) well.1.0
      (behind_tail (kind.Keyword word.From) (is_at 1) cause rest well.1.2 refl refl (end_halts (kind_of rest) stop))
      (step (rule.tail S (kind.Keyword word.From) left) _ cause rest _
      (tail_full S d full low (kind.Keyword word.From) cause rest well.1.2 small_cause (end_halts (kind_of rest) stop)
      (differs (kind_of rest) (kind.Keyword word.From) stop refl)) refl)))

  assert_full : (t : Token) (test : Tree) (message : Tail) (rest : List Token) → IsStatement (statement.assert t test message) → height test ≤ d
      → tail_height message ≤ d → kind_of rest ≡ end_of_line
      → grammar.simple S (t ∷ (yield_of test ++ (tail_yield message ++ rest))) ≡ Some (statement.assert t test message, rest)
  unfolding grammar.assert_statement take_one same_kind IsStatement
  assert_full t test message rest well small small_message stop =
      let left : List Token = tail_yield message ++ rest in
      by_word t (yield_of test ++ left) (kind.Keyword word.Assert) _ well.0
      (after S d full low 1 test left _ _ well.2 small (omega arith) well.1
      (behind_tail (kind.Delimiter delimiter.Comma) (is_at 1) message rest well.3 refl refl (end_halts (kind_of rest) stop))
      (step (rule.tail S (kind.Delimiter delimiter.Comma) left) _ message rest _
      (tail_full S d full low (kind.Delimiter delimiter.Comma) message rest well.3 small_message (end_halts (kind_of rest) stop)
      (differs (kind_of rest) (kind.Delimiter delimiter.Comma) stop refl)) refl))

  delete_full : (t : Token) (to : Tree) (rest : List Token) → IsStatement (statement.delete t to) → height to ≤ d → kind_of rest ≡ end_of_line
      → grammar.simple S (t ∷ (yield_of to ++ rest)) ≡ Some (statement.delete t to, rest)
  unfolding grammar.delete_statement take_one IsStatement
  delete_full t to rest well small stop =
      by_word t (yield_of to ++ rest) (kind.Keyword word.Del) _ well.0
      (step (rule.targets S (yield_of to ++ rest)) _ to rest _ (targets_full S d full low to rest well.1 well.2 small (ap (ends list_context.Targets) stop)) refl)

  -- ---- statements of names

  declare_full : (t : Token) (names : Separated Token) (rest : List Token) → IsStatement (statement.declare t names) → kind_of rest ≡ end_of_line
      → grammar.simple S (t ∷ (separated_yield (λ name. name ∷ []) names ++ rest)) ≡ Some (statement.declare t names, rest)
  unfolding grammar.simple grammar.declared take_one IsStatement
  declare_full t names rest well stop =
      let left : List Token = separated_yield (λ name. name ∷ []) names ++ rest in
      ap (λ (p : Parser SimpleStatement). p (t ∷ left)) (declaration_by t.kind well.0)
      ∙ step (grammar.all_separated expect_name false left) _ names rest _
      (names_full (λ name. is_name name.kind ≡ true) (λ name. name ∷ []) expect_name tokens_named false names rest well.1 (ap ends_names stop)) refl

  import_full : (t : Token) (modules : Separated ImportedModule) (rest : List Token) → IsStatement (statement.import t modules)
      → kind_of rest ≡ end_of_line → grammar.simple S (t ∷ (separated_yield module_yield modules ++ rest)) ≡ Some (statement.import t modules, rest)
  unfolding grammar.imported take_one IsStatement
  import_full t modules rest well stop =
      by_word t (separated_yield module_yield modules ++ rest) (kind.Keyword word.Import) _ well.0
      (step (grammar.all_separated grammar.imported_module false (separated_yield module_yield modules ++ rest)) _ modules rest _
      (names_full IsImportedModule module_yield grammar.imported_module modules_named false modules rest well.1 (ap ends_names stop)) refl)

  -- the names of a from-import, after its module
  imported_names : (t : Token) (from : Source) (word_import : Token) (opening : Option Token) (names : Separated ImportedName) (closing : Option Token)
      (rest : List Token) → AreImportedNames opening names closing → kind_of rest ≡ end_of_line
      → (if same_kind (kind_of (optional_token opening ++ (separated_yield name_yield names ++ (optional_token closing ++ rest)))) (kind.Open bracket.Round)
      then grammar.enclosed_names t from word_import else grammar.open_names t from word_import)
      (optional_token opening ++ (separated_yield name_yield names ++ (optional_token closing ++ rest)))
      ≡ Some (statement.import_from t from word_import opening names closing, rest)
  unfolding grammar.enclosed_names grammar.open_names take_one
  imported_names t from word_import None names None rest well stop =
      let left : List Token = separated_yield name_yield names ++ rest in
      no _ _ (same_kind (kind_of left) (kind.Open bracket.Round)) left _
      (apart is_name (kind_of left) (kind.Open bracket.Round)
      (names_begin IsImportedName name_yield grammar.imported_name names_named false names rest well) refl)
      (step (grammar.all_separated grammar.imported_name false left) _ names rest _
      (names_full IsImportedName name_yield grammar.imported_name names_named false names rest well (ap ends_names stop)) refl)
  imported_names t from word_import (Some opening) names (Some closing) rest well stop =
      let left : List Token = separated_yield name_yield names ++ (closing ∷ rest) in
      yes _ _ (same_kind opening.kind (kind.Open bracket.Round)) (opening ∷ left) _ (same_as opening.kind (kind.Open bracket.Round) well.0)
      (step (grammar.all_separated grammar.imported_name true left) _ names (closing ∷ rest) _
      (names_full IsImportedName name_yield grammar.imported_name names_named true names (closing ∷ rest) well.2 (ap ends_names well.1))
      (step (expect (kind.Close bracket.Round) (closing ∷ rest)) _ closing rest _ (expected (kind.Close bracket.Round) closing rest well.1) refl))
  imported_names t from word_import None names (Some closing) rest well stop = absurd well
  imported_names t from word_import (Some opening) names None rest well stop = absurd well

  import_from_full : (t : Token) (from : Source) (word_import : Token) (opening : Option Token) (names : Separated ImportedName) (closing : Option Token)
      (rest : List Token) → IsStatement (statement.import_from t from word_import opening names closing) → kind_of rest ≡ end_of_line
      → grammar.simple S (t ∷ (from.dots ++ (optional_path from.path ++ (word_import ∷ (optional_token opening
      ++ (separated_yield name_yield names ++ (optional_token closing ++ rest)))))))
      ≡ Some (statement.import_from t from word_import opening names closing, rest)
  unfolding grammar.import_from_statement take_one IsStatement
  import_from_full t from word_import opening names closing rest well stop =
      let left : List Token = optional_token opening ++ (separated_yield name_yield names ++ (optional_token closing ++ rest)) in
      by_word t (from.dots ++ (optional_path from.path ++ (word_import ∷ left))) (kind.Keyword word.From) _ well.0
      (step (grammar.source (from.dots ++ (optional_path from.path ++ (word_import ∷ left)))) _ from (word_import ∷ left) _
      (source_parts from.dots from.path (word_import ∷ left) well.1 well.2)
      (step (expect (kind.Keyword word.Import) (word_import ∷ left)) _ word_import left _ (expected (kind.Keyword word.Import) word_import left well.2)
      (imported_names t from word_import opening names closing rest well.3 stop)))

  -- ---- a simple statement

  pub simple_full : (s : SimpleStatement) (rest : List Token) → IsStatement s → statement_height s ≤ suc d → kind_of rest ≡ end_of_line
      → grammar.simple S (statement_yield s ++ rest) ≡ Some (s, rest)
  unfolding IsStatement statement_yield statement_height
  simple_full (statement.expression e) rest well small stop = expression_statement e rest well.0 well.1 (omega (arith, small)) stop
  simple_full (statement.assign [] e) rest well small stop = absurd well
  simple_full (statement.assign (a ∷ more) e) rest well small stop =
      rw (append_assoc (targets_yield (a ∷ more)) (yield_of e) rest)
      (rw (append_assoc (yield_of a.target) (a.equal ∷ targets_yield more) (yield_of e ++ rest))
      (assign_full a more e rest well.0 well.1 well.2 (omega (arith, small)) (omega (arith, small)) stop))
  simple_full (statement.annotate target colon annotation value) rest well small stop =
      rw (append_assoc (yield_of target) (colon ∷ (yield_of annotation ++ tail_yield value)) rest)
      (rw (append_assoc (yield_of annotation) (tail_yield value) rest)
      (annotate_full target colon annotation value rest well (omega (arith, small)) (omega (arith, small)) (omega (arith, small)) stop))
  simple_full (statement.augment target sign e) rest well small stop =
      rw (append_assoc (yield_of target) (sign ∷ yield_of e) rest)
      (augment_full target sign e rest well (omega (arith, small)) (omega (arith, small)) stop)
  simple_full (statement.word t) rest well small stop = word_full t rest well
  simple_full (statement.return t value) rest well small stop = return_full t value rest well (omega (arith, small)) stop
  simple_full (statement.raise t value cause) rest well small stop =
      rw (append_assoc (perhaps_yield value) (tail_yield cause) rest)
      (raise_full t value cause rest well (omega (arith, small)) (omega (arith, small)) stop)
  simple_full (statement.assert t test message) rest well small stop =
      rw (append_assoc (yield_of test) (tail_yield message) rest)
      (assert_full t test message rest well (omega (arith, small)) (omega (arith, small)) stop)
  simple_full (statement.delete t to) rest well small stop = delete_full t to rest well (omega (arith, small)) stop
  simple_full (statement.declare t names) rest well small stop = declare_full t names rest well stop
  simple_full (statement.import t modules) rest well small stop = import_full t modules rest well stop
  simple_full (statement.import_from t from word_import opening names closing) rest well small stop =
      let tail : List Token = separated_yield name_yield names ++ optional_token closing in
      rw (append_assoc from.dots (optional_path from.path ++ word_import ∷ (optional_token opening ++ tail)) rest)
      (rw (append_assoc (optional_path from.path) (word_import ∷ (optional_token opening ++ tail)) rest)
      (rw (append_assoc (optional_token opening) tail rest)
      (rw (append_assoc (separated_yield name_yield names) (optional_token closing) rest)
      (import_from_full t from word_import opening names closing rest well stop))))
