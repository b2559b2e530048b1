-- What lines of a module are by themselves (Python reference 3.13, "File input").
use Rattle.std.specs.Prelude.{◌≡◌, ℕ, Bool, false, ◌||◌, List, [], ◌++◌, map, Option, None, Some, Result, Ok, Err}
use Rattle.pyc_ast.specs.declared.position.Position.{Position}
use Rattle.pyc_ast.specs.Exprs.{Expr}
use Rattle.pyc_ast.specs.Statements.{Stmt}
use Rattle.pyc_ast.specs.StatementView.{stmt_of}
use Rattle.pyc_lex.specs.Lines as lex
use Rattle.pyc_line.specs.declared.fault.ParseFault.{ParseFault}
use Rattle.pyc_line.specs.declared.fault.What.{What}
use Rattle.pyc_line.specs.declared.fault.What.TheVariants as what
use Rattle.pyc_lower.specs.Strings.{spelled}
use Rattle.pyc_lower.specs.declared.parts.Lowered.{Lowered}
use Rattle.pyc_lower.specs.declared.parts.Parts.{Parts}
use Rattle.pyc_lower.specs.declared.parts.Parts.TheVariants as parts
use Rattle.pyc_lower_atom.specs.Origins.{Origin}
use Rattle.pyc_lower_block.specs.Blocks.{stmts_in}
use Rattle.pyc_lower_block.specs.Suspends.{stmts_suspend}
use Rattle.pyc_parse.specs.Modules as concrete

-- the statements of a module or a part of it, and whether they suspend
abbrev pub Statements : Type 0
Statements = List Stmt × Bool

-- these logical lines without a comment
abbrev pub alone : List lex.Line → lex.Lexis
alone lines = record { lines = lines; ignores = []; whole_file = false }

module _ (read : List ℕ → Position → Option Expr) where
  -- those of a module with a tree, or its fault
  abbrev pub statements_in : Origin → Result concrete.Module ParseFault → Result Statements ParseFault
  statements_in o (Ok found) = Ok (stmts_in read o found.statements, stmts_suspend found.statements)
  statements_in o (Err fault) = Err fault

  -- what these logical lines are
  abbrev pub part_in : Origin → List lex.Line → Result Statements ParseFault
  part_in o lines = statements_in o (concrete.module_of (alone lines))

-- what the logical lines of a source are
abbrev pub lines_in : List ℕ → List lex.Line → Result Statements ParseFault
lines_in source lines = part_in spelled (record { source = source; string = None }) lines

-- statements before those of a part
abbrev pub added : Statements → Result Statements ParseFault → Result Statements ParseFault
added front (Ok more) = Ok (front.0 ++ more.0, front.1 || more.1)
added front (Err fault) = Err fault

-- ---- what the code answers

-- what a value of the code holds
abbrev pub lowered_of : Lowered → Statements
lowered_of found = (map stmt_of found.statements.items, found.suspends)

-- a part is added, or has this fault
abbrev pub AddsPart : Result Statements ParseFault → Statements → Option ParseFault → Statements → Type 0
AddsPart part old None new = added old part ≡ Ok new
AddsPart part old (Some fault) new = part ≡ Err fault

abbrev pub of_what : What → ParseFault → Parts
of_what what.Block fault = parts.Misplaced
of_what _ fault = parts.Fault fault

-- what comes of lines of which a part has this fault: one of its blocks need not be one of theirs
abbrev pub parts_of_fault : ParseFault → Parts
parts_of_fault fault = of_what fault.what fault

-- what is answered is what the lines are; that a part's blocks have a fault says nothing
abbrev pub AnswersParts : Result Statements ParseFault → Parts → Type 0
AnswersParts expected (parts.Lowered found) = expected ≡ Ok (lowered_of found)
AnswersParts expected (parts.Fault fault) = expected ≡ Err fault
AnswersParts expected parts.Misplaced = Unit {0}

-- what is answered is what the lines are
abbrev pub AnswersWhole : Result Statements ParseFault → Parts → Type 0
AnswersWhole expected (parts.Lowered found) = expected ≡ Ok (lowered_of found)
AnswersWhole expected (parts.Fault fault) = expected ≡ Err fault
AnswersWhole expected parts.Misplaced = ⊥
