-- Modules, and what a source is, as plain values (Python reference 3.13, "File input").
use Rattle.std.specs.Prelude.{ℕ, Bool, List, map}
use Rattle.pyc_ast.specs.declared.module.Codes.{Codes as CodesOf}
use Rattle.pyc_ast.specs.declared.module.Codes.TheVariants as c
use Rattle.pyc_ast.specs.declared.module.Ignore.{Ignore as IgnoreOf}
use Rattle.pyc_ast.specs.declared.module.Module.{Module as ModuleOf}
use Rattle.pyc_ast.specs.declared.module.Outcome.{Outcome as OutcomeOf}
use Rattle.pyc_ast.specs.declared.module.Outcome.TheVariants as o
use Rattle.pyc_ast.specs.Statements.{Stmts, stmts}
use Rattle.pyc_ast.specs.StatementView.{stmt_of}

-- which errors an ignore comment suppresses: all, or those of these codes
pub data Codes : Type 0 where
  all : Codes
  listed : List (List ℕ) → Codes

-- an ignore comment with its physical line
pub record Ignore : Type 0 where
  pub line : ℕ
  pub codes : Codes

-- a module: its statements, whether a `yield` or `await` stands in them outside functions, classes and lambdas, its
-- ignore comments, and whether one of them suppresses the whole file
pub record Module : Type 0 where
  pub statements : Stmts
  pub suspends : Bool
  pub ignores : List Ignore
  pub whole_file : Bool

-- what a source is: its module, or the physical line of its first fault and what is reported of it
pub data Outcome : Type 0 where
  tree : Module → Outcome
  fault : ℕ → List ℕ → Outcome

-- ---- those of the code

abbrev pub codes_of : CodesOf → Codes
codes_of c.All = all
codes_of (c.Listed codes) = listed codes.items

abbrev pub ignore_of : IgnoreOf → Ignore
ignore_of i = record { line = i.line; codes = codes_of i.codes }

abbrev pub module_of : ModuleOf → Module
module_of m =
    record {
      statements = stmts (map stmt_of m.statements.items);
      suspends = m.suspends;
      ignores = map ignore_of
          m.ignores.items;
      whole_file = m.whole_file;
    }

abbrev pub outcome_of : OutcomeOf → Outcome
outcome_of (o.Tree m) = tree (module_of m)
outcome_of (o.Fault f) = fault f.line f.text.now
