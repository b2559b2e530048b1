-- What the parts of statements that are no blocks are: a parameter of the rules of blocks.
use Rattle.std.specs.Prelude.{ℕ, List, Option}
use Rattle.pyc_ast.specs.declared.position.Position.{Position}
use Rattle.pyc_ast.specs.Exprs.{Expr}
use Rattle.pyc_ast.specs.Statements.{StmtForm, For, WithItem}
use Rattle.pyc_locals.specs.FlowStates.{FlowState}
use Rattle.pyc_narrowing.specs.SplitStates.{SplitStates}
use Rattle.pyc_places.specs.Places.{Place}
use Rattle.pyc_reading.specs.Traces.{Step}

pub record PartReads : Type 0 where
  -- a simple statement or a definition that begins at a position
  pub simple : Position → StmtForm → FlowState → Step FlowState
  -- a condition: the states where it is true, and where it is not
  pub check_test : Expr → FlowState → Step SplitStates
  -- the beginning of each turn of a `for` that assigns these places: from the point before the loop to that at which
  -- its block begins
  pub turn : For → List Place → FlowState → Step FlowState
  -- what a handler catches, and the name that it binds: from the point at which the handler begins to that at which its
  -- block does
  pub caught : Option Expr → Option (List ℕ) → FlowState → Step FlowState
  -- the items of a `with`
  pub items : List WithItem → FlowState → Step FlowState
