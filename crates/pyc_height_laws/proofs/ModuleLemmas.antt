-- No expression of a source is higher than expressions are read deep.
use Rattle.std.proofs.Common.{◌≡◌, ◌≤◌, subst, arith, ℕ, List, None, Ok, Err, Result}
use Rattle.pyc_ast.specs.Modules.{Module, Outcome, tree, fault}
use Rattle.pyc_expr.specs.Values.{most_depth}
use Rattle.pyc_height_laws.specs.Heights.{stmts_height}
use Rattle.pyc_height_laws.proofs.BlockHeights.{stmts_top}
use Rattle.pyc_height_laws.proofs.BlockLemmas.{stmts_low}
use Rattle.pyc_height_laws.proofs.PlacedLemmas.{IsModuleLow, module_low}
use Rattle.pyc_lex.specs.declared.fault.LexFault.{LexFault}
use Rattle.pyc_lex.specs.declared.fault.LexFault.TheVariants as lexical
use Rattle.pyc_lex.specs.Lines.{Lexis, lines_of}
use Rattle.pyc_line.specs.declared.fault.ParseFault.{ParseFault}
use Rattle.pyc_lower.specs.Reading.{module_in, outcome_in, read_of}
use Rattle.pyc_lower.specs.Strings.{spelled}
use Rattle.pyc_parse.specs.Modules as concrete
use Rattle.pyc_parse.specs.Modules.{module_of}
use Rattle.pyc_parse.specs.Outcome as concrete_outcome
use Rattle.pyc_parse.specs.Outcome.{lexical_outcome, parse_outcome, scan_outcome, outcome_of}
use Rattle.pyc_tree.specs.Height.{max_height}

-- the tree of the grammar that a source is, is at most so high
abbrev IsTreeLow : concrete_outcome.Outcome → Type 0
IsTreeLow (concrete_outcome.tree found) = stmts_top found.statements ≤ max_height
IsTreeLow (concrete_outcome.fault line text) = Unit {0}

-- no expression of the module that a source is, is higher
abbrev IsLow : Outcome → Type 0
IsLow (tree m) = stmts_height m.statements ≤ most_depth
IsLow (fault line text) = Unit {0}

lexical_low : (reported : LexFault) → IsTreeLow (lexical_outcome reported)
lexical_low lexical.NotUtf8 = tt
lexical_low _ = tt

parse_outcome_low : (r : Result concrete.Module ParseFault) → IsModuleLow r → IsTreeLow (parse_outcome r)
parse_outcome_low (Ok found) low = low
parse_outcome_low (Err reported) low = tt

scan_outcome_low : (r : Result Lexis LexFault) → IsTreeLow (scan_outcome r)
scan_outcome_low (Ok lexis) = parse_outcome_low (module_of lexis) (module_low lexis)
scan_outcome_low (Err reported) = lexical_low reported

outcome_low : (source : List ℕ) → IsTreeLow (outcome_of source)
unfolding outcome_of
outcome_low source = scan_outcome_low (lines_of source)

lowered_low : (source : List ℕ) (o : concrete_outcome.Outcome) → IsTreeLow o → IsLow (outcome_in source o)
unfolding module_in most_depth
lowered_low source (concrete_outcome.tree found) low =
    omega (arith, low, stmts_low spelled (record { source = source; string = None }) found.statements)
lowered_low source (concrete_outcome.fault line text) low = tt

read_low : (source : List ℕ) → IsLow (read_of source)
unfolding read_of
read_low source = lowered_low source (outcome_of source) (outcome_low source)

pub modules_are_low : (source : List ℕ) (m : Module) → read_of source ≡ tree m → stmts_height m.statements ≤ most_depth
modules_are_low source m is = subst IsLow is (read_low source)
