-- What a string spells, by what its content is.
use Rattle.std.proofs.Common.{◌≡◌, refl, ap, sym, ◌∙◌, ℕ, true, false, List, Option, None, Some}
use Rattle.std.specs.Option.{option_and_then}
use Rattle.pyc_ast.specs.declared.position.Position.{Position}
use Rattle.pyc_ast.specs.Exprs.{Expr}
use Rattle.pyc_lex.specs.Lines.{lines_of}
use Rattle.pyc_lower.specs.ExpressionInput.{expression_of_line, tree_read, expression_input}
use Rattle.pyc_lower.specs.Strings.{is_skipped, content, spelled_in}
use Rattle.pyc_lower_atom.specs.declared.role.Role.TheVariants.{Annotation}
use Rattle.pyc_lower_expression.specs.Expressions.{expr_in}
use Rattle.pyc_tree.specs.Lines.{Line}
use Rattle.pyc_tree.specs.Tree.{Tree}

-- what the content of a string is, by the tree of its only line
content_input : (text source : List ℕ) (line : Option Line) (e : Option Tree) → source ≡ content text
    → line ≡ tree_read (lines_of source) → option_and_then expression_of_line line ≡ e → expression_input (content text) ≡ e
unfolding expression_input
content_input text source line e is read found =
    ap (λ s. option_and_then expression_of_line (tree_read (lines_of s))) (sym is)
    ∙ ap (option_and_then expression_of_line) (sym read) ∙ found

module _ (inner : List ℕ → Position → Option Expr) (text : List ℕ) (at : Position) where
  -- a string that is passed over spells nothing
  pub spelled-none : is_skipped text ≡ true → None ≡ spelled_in inner text at
  unfolding spelled_in
  spelled-none found = rw found refl

  -- nor does one whose content is no expression
  pub spelled-other : (source : List ℕ) (line : Option Line) → is_skipped text ≡ false → source ≡ content text
      → line ≡ tree_read (lines_of source) → option_and_then expression_of_line line ≡ None → None ≡ spelled_in inner text at
  unfolding spelled_in
  spelled-other source line plain is read none =
      let tree : expression_input (content text) ≡ None = content_input text source line None is read none in
      rw plain (rw tree refl)

  -- the expression that the content is
  pub spelled-tree : (source : List ℕ) (line : Option Line) (e : Tree) → is_skipped text ≡ false
      → source ≡ content text → line ≡ tree_read (lines_of source) → option_and_then expression_of_line line ≡ Some e
      → Some (expr_in inner (record { source = source; string = Some at }) Annotation e) ≡ spelled_in inner text at
  unfolding spelled_in
  spelled-tree source line e plain is read found =
      let tree : expression_input (content text) ≡ Some e = content_input text source line (Some e) is read found in
      ap (λ s. Some (expr_in inner (record { source = s; string = Some at }) Annotation e)) is ∙ rw plain (rw tree refl)
