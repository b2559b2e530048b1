-- What a source is: its module, or its first fault (Python reference 3.13, "File input").
use Rattle.std.specs.Prelude.{ℕ, List, map, None}
use Rattle.pyc_ast.specs.Modules.{Module, Outcome, tree, fault}
use Rattle.pyc_ast.specs.Statements.{stmts}
use Rattle.pyc_lower.specs.Ignores.{ignore_in}
use Rattle.pyc_lower.specs.Strings.{spelled}
use Rattle.pyc_lower_block.specs.Blocks.{stmts_in}
use Rattle.pyc_lower_block.specs.Suspends.{stmts_suspend}
use Rattle.pyc_parse.specs.Modules as concrete
use Rattle.pyc_parse.specs.Outcome as concrete_outcome
use Rattle.pyc_parse.specs.Outcome.{outcome_of}

-- the module that a tree of the grammar of this source is
unfoldable pub module_in : List ℕ → concrete.Module → Module
module_in source found = record {
  statements = stmts (stmts_in spelled (record { source = source; string = None }) found.statements);
  suspends = stmts_suspend found.statements;
  ignores = map (ignore_in source) found.ignores;
  whole_file = found.whole_file;
}

-- what a source is, by what the grammar reads there
abbrev pub outcome_in : List ℕ → concrete_outcome.Outcome → Outcome
outcome_in source (concrete_outcome.tree found) = tree (module_in source found)
outcome_in source (concrete_outcome.fault line text) = fault line text

-- what a source is
unfoldable pub read_of : List ℕ → Outcome
read_of source = outcome_in source (outcome_of source)
