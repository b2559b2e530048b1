-- The abstract statement that a simple statement of the grammar is (Python reference 3.13, "Simple statements").
use Rattle.std.specs.Prelude.{ℕ, ◌+◌, List, [], ◌∷◌, Option, None, Some, map, option_map}
use Rattle.pyc_ast.specs.declared.position.Position.{Position}
use Rattle.pyc_ast.specs.declared.stmt.Alias.{Alias}
use Rattle.pyc_ast.specs.Exprs.{Expr, at_of}
use Rattle.pyc_ast.specs.Statements.{ImportedModule, ImportFrom, Stmt, StmtForm, stmt}
use Rattle.pyc_ast.specs.Statements as plain
use Rattle.pyc_ast.specs.Targets.{Target}
use Rattle.pyc_lower_atom.specs.declared.role.Role.TheVariants.{Value, Annotation}
use Rattle.pyc_lower_expression.specs.Expressions.{expr_in}
use Rattle.pyc_lower_atom.specs.Operators.{augmented_operator}
use Rattle.pyc_lower_atom.specs.Origins.{Origin, name_at, position_at}
use Rattle.pyc_lower_statement.specs.Parameters.{perhaps_in, tail_in}
use Rattle.pyc_lower_statement.specs.Targets.{target_in, target_at, placeholder}
use Rattle.pyc_token.specs.declared.tokens.Delimiter.TheVariants as delimiter
use Rattle.pyc_token.specs.declared.tokens.Keyword.TheVariants as word
use Rattle.pyc_token.specs.declared.tokens.Kind.{Kind}
use Rattle.pyc_token.specs.declared.tokens.Kind.TheVariants as kind
use Rattle.pyc_token.specs.declared.tokens.Token.{Token}
use Rattle.pyc_tree.specs.Statements.{Separated, SimpleStatement, Dotted, Assigned}
use Rattle.pyc_tree.specs.Statements as tree
use Rattle.pyc_tree.specs.Tree.{Tree, Tail}

-- ---- names ("The import statement", "The global statement")

-- each item, without what stands between them
abbrev pub separated_in : {A B : Type 0} → (A → B) → Separated A → List B
separated_in item_in tree.no_item = []
separated_in item_in (tree.last_item x) = item_in x ∷ []
separated_in item_in (tree.item x between rest) = item_in x ∷ separated_in item_in rest

-- the name after `as`
abbrev pub alias_in : Origin → Option tree.Alias → Option (List ℕ)
alias_in o alias = option_map (λ found. name_at o found.name) alias

-- the parts of a dotted name
abbrev pub path_in : Origin → Dotted → List (List ℕ)
path_in o path = name_at o path.first ∷ map (λ part. name_at o part.name) path.parts

-- a module that is imported
abbrev pub module_in : Origin → tree.ImportedModule → ImportedModule
module_in o found = record { path = path_in o found.path; alias = alias_in o found.alias }

-- a name that is imported
abbrev pub imported_in : Origin → tree.ImportedName → Alias
imported_in o found = record { name = name_at o found.name; alias = alias_in o found.alias }

-- how many levels a token of dots stands for: `...` is three
abbrev pub dots_of : Kind → ℕ
dots_of (kind.Delimiter delimiter.Ellipsis) = 3
dots_of _ = 1

abbrev pub count_dots : List Token → ℕ
count_dots [] = 0
count_dots (dot ∷ dots) = dots_of dot.kind + count_dots dots

-- the name of a module, where it has one
abbrev pub optional_path_in : Origin → Option Dotted → List (List ℕ)
optional_path_in o None = []
optional_path_in o (Some path) = path_in o path

-- names imported from a module
abbrev pub import_from_in : Origin → tree.Source → Separated tree.ImportedName → ImportFrom
import_from_in o source names =
    record {
      dots = count_dots source.dots;
      path = optional_path_in o source.path;
      names = separated_in (imported_in o) names;
    }

-- ---- statements

-- `pass`, `break` or `continue`; no other word stands alone
abbrev pub word_form : Kind → StmtForm
word_form (kind.Keyword word.Break) = plain.break
word_form (kind.Keyword word.Continue) = plain.continue
word_form _ = plain.pass

-- `global` or `nonlocal`; no other word declares
abbrev pub declared_form : Kind → List (List ℕ) → StmtForm
declared_form (kind.Keyword word.Nonlocal) names = plain.nonlocal names
declared_form _ names = plain.global names

-- where the first of some targets begins
abbrev pub targets_at : List Target → Position
targets_at [] = target_at placeholder
targets_at (to ∷ targets) = target_at to

module _ (spelled : List ℕ → Position → Option Expr) where
  -- the targets of an assignment
  abbrev pub assigned_in : Origin → List Assigned → List Target
  assigned_in o assigned = map (λ found. target_in spelled o found.target) assigned

  -- a target with its annotation, and perhaps a value ("Annotated assignment statements")
  abbrev pub annotated_in : Origin → Tree → Tree → Tail → Stmt
  annotated_in o to annotation value =
      let target = target_in spelled o to in
      stmt (target_at target) (plain.annotate (record {
        target = target;
        annotation = expr_in spelled o Annotation annotation;
        value = tail_in spelled o Value value;
      }))

  -- the statement that a simple statement is
  abbrev pub statement_in : Origin → SimpleStatement → Stmt
  statement_in o (tree.expression e) =
      let value = expr_in spelled o Value e in stmt (at_of value) (plain.expression value)
  statement_in o (tree.assign assigned e) =
      let targets = assigned_in o assigned in
      stmt (targets_at targets) (plain.assign targets (expr_in spelled o Value e))
  statement_in o (tree.annotate to colon annotation value) = annotated_in o to annotation value
  statement_in o (tree.augment to sign e) =
      let target = target_in spelled o to in
      stmt (target_at target) (plain.augment (record {
        target = target;
        operator = augmented_operator sign.kind;
        value = expr_in spelled o Value e;
      }))
  statement_in o (tree.word t) = stmt (position_at o t) (word_form t.kind)
  statement_in o (tree.return t value) = stmt (position_at o t) (plain.return (perhaps_in spelled o Value value))
  statement_in o (tree.raise t value cause) =
      stmt (position_at o t) (plain.raise (perhaps_in spelled o Value value) (tail_in spelled o Value cause))
  statement_in o (tree.assert t test message) =
      stmt (position_at o t) (plain.assert (expr_in spelled o Value test) (tail_in spelled o Value message))
  statement_in o (tree.delete t targets) = stmt (position_at o t) (plain.delete (target_in spelled o targets))
  statement_in o (tree.declare t names) = stmt (position_at o t) (declared_form t.kind (separated_in (name_at o) names))
  statement_in o (tree.import t modules) = stmt (position_at o t) (plain.import (separated_in (module_in o) modules))
  statement_in o (tree.import_from t source word_import opening names closing) =
      stmt (position_at o t) (plain.import_from (import_from_in o source names))
