-- Sources that are an expression (Python reference 3.13, "Expression input"): one logical line, whatever its indent,
-- that is one expression.
use Rattle.std.specs.Prelude.{ℕ, Bool, not, if◌then◌else◌, List, [], ◌∷◌, Option, None, Some, Result, Ok, Err}
use Rattle.std.specs.Option.{option_and_then}
use Rattle.pyc_lex.specs.declared.fault.LexFault.{LexFault}
use Rattle.pyc_lex.specs.Lines.{Lexis, lines_of}
use Rattle.pyc_lex.specs.Lines as lex
use Rattle.pyc_tree.specs.Headers.{line_tree}
use Rattle.pyc_tree.specs.Lines.{Line, simple}
use Rattle.pyc_tree.specs.Statements.{SimpleStatement, expression, Separated, last_item}
use Rattle.pyc_tree.specs.Tree.{Tree, bare}
use Rattle.pyc_tree.specs.Well.{is_yield}
use Rattle.pyc_tree.specs.WellLines.{has_no_star}

-- whether what stands as a statement is an expression list: a `yield` and a starred item need brackets there
abbrev pub is_input : Tree → Bool
is_input (bare items) = has_no_star items
is_input e = not (is_yield e)

-- the expression that a simple statement is
abbrev pub expression_of_statement : SimpleStatement → Option Tree
expression_of_statement (expression e) = if is_input e then Some e else None
expression_of_statement _ = None

-- that of simple statements: of one with no semicolon
abbrev pub expression_of_statements : Separated SimpleStatement → Option Tree
expression_of_statements (last_item found) = expression_of_statement found
expression_of_statements _ = None

-- that of a line
abbrev pub expression_of_line : Line → Option Tree
expression_of_line (simple statements) = expression_of_statements statements
expression_of_line _ = None

-- the tree of the only one of some logical lines: it may stand at any indent
abbrev pub only_tree : List lex.Line → Option Line
only_tree (found ∷ []) = line_tree found.tokens
only_tree _ = None

-- that of a source with these logical lines: one with a lexical fault has none
abbrev pub tree_read : Result Lexis LexFault → Option Line
tree_read (Ok lexis) = only_tree lexis.lines
tree_read (Err reported) = None

-- the expression that a source is
unfoldable pub expression_input : List ℕ → Option Tree
expression_input source = option_and_then expression_of_line (tree_read (lines_of source))
