-- Blocks of statements (Python reference 3.13, "Compound statements"; typing specification, "Type narrowing"): what is
-- asked and reported, and what is known after them. No statement is checked to which no run comes.
use Rattle.std.specs.Prelude.{ℕ, List, [], ◌++◌, Option}
use Rattle.pyc_locals.specs.AssignedPlaces.{assigned_places, places_in, handlers_places, drop_places}
use Rattle.pyc_ast.specs.declared.position.Position.{Position}
use Rattle.pyc_ast.specs.Exprs.{Expr}
use Rattle.pyc_ast.specs.Statements.{Stmt, stmt, StmtForm, Stmts, no_stmt, another_stmt, Branches, no_branch, For}
use Rattle.pyc_ast.specs.Statements.{another_branch, branch, Handlers, no_handler, another_handler, handler, WithItem}
use Rattle.pyc_ast.specs.Statements as plain
use Rattle.pyc_blocks.specs.Flows.{
  Flow,
  Handled,
  flow_at,
  at_flow_state,
  with_state,
  make_unreachable,
  entered,
  broken,
  exhausted,
}
use Rattle.pyc_blocks.specs.Flows.{after_loop, block_ended, join_branch_ends, join_states, after_finally}
use Rattle.pyc_blocks.specs.Parts.{PartReads}
use Rattle.pyc_locals.specs.FlowStates.{FlowState, in_state}
use Rattle.pyc_places.specs.Places.{Place}
use Rattle.pyc_places.specs.States.{State, unreachable, reachable}
use Rattle.pyc_reading.specs.Traces.{Step}
use Rattle.pyc_reading.specs.Readings.{Done, ◌>>=◌}

abbrev pub Reader : Type 0
Reader = Flow → Step Flow

-- what is checked only if a run comes to it
abbrev pub reached : State → Reader → Reader
reached unreachable read f = Done f
reached (reachable narrowings) read f = read f

-- ---- the rules of blocks: what their parts are, and the places that are assigned on the way out of the innermost loop

pub record Rules : Type 0 where
  pub parts : PartReads
  pub on_the_way_out : List Place

-- at the beginning of a loop no place is assigned on the way out of it
abbrev pub within_loop : Rules → Rules
within_loop rules = record { parts = rules.parts; on_the_way_out = [] }

-- inside a `try` the places that its `finally` assigns are assigned on the way out
abbrev pub within_try : Rules → List Place → Rules
within_try rules finally = record { parts = rules.parts; on_the_way_out = rules.on_the_way_out ++ finally }

-- ---- the `if` statement

-- a branch of an `if`, where the tests before it failed
unfoldable pub branch_by : PartReads → Expr → (inside : Reader) → Handled → Step Handled
branch_by parts test inside so_far = do
  states ← parts.check_test test so_far.flow.flow_state
  g ← inside (with_state so_far.flow states.if_true)
  Done (block_ended so_far states.if_false g)

-- the branches, the `else` where all their tests failed, and after them all
unfoldable pub if_by : (branches : Handled → Step Handled) → (orelse : Reader) → Reader
if_by branches orelse f = do
  tried ← branches (record { flow = f; ends = [] })
  g ← orelse tried.flow
  Done (with_state g (join_branch_ends tried.ends g.flow_state.state))

-- ---- the `while` and `for` statements, and `break`

-- how a turn of a loop begins: the flow at the beginning of its block, the state in which its `else` begins, and the
-- states in which the loop around it was left
pub record Begun : Type 0 where
  pub flow : Flow
  pub exit : State
  pub around : List State

-- a `while` checks its condition at the entry
unfoldable pub while_begun : PartReads → Expr → (places : List Place) → Flow → Step Begun
while_begun parts test places f = do
  states ← parts.check_test test (entered places f).flow_state
  Done (record { flow = with_state (entered places f) states.if_true; exit = states.if_false; around = f.left })

-- a `for` is exhausted at the entry
unfoldable pub for_begun : PartReads → For → (places : List Place) → Flow → Step Begun
for_begun parts head places f = do
  p ← parts.turn head places f.flow_state
  Done (record { flow = flow_at p; exit = drop_places places f.flow_state.state; around = f.left })

-- the places that the turns of a `for` assign
abbrev pub turn_places : For → Stmts → List Place
turn_places head inside = assigned_places inside ++ places_in head.target

-- the block of a loop, its `else`, and after them or a `break` of the block
unfoldable pub loop_by : (inside orelse : Reader) → Begun → Step Flow
loop_by inside orelse begun = do
  g ← inside begun.flow
  h ← orelse (exhausted g begun.exit begun.around)
  Done (after_loop h g.left)

unfoldable pub while_by : PartReads → Expr → (places : List Place) → (inside orelse : Reader) → Reader
while_by parts test places inside orelse f = do
  begun ← while_begun parts test places f
  loop_by inside orelse begun

unfoldable pub for_by : PartReads → For → (places : List Place) → (inside orelse : Reader) → Reader
for_by parts head places inside orelse f = do
  begun ← for_begun parts head places f
  loop_by inside orelse begun

-- ---- the `try` statement

-- the places that the block of a `try` assigns, those that its handlers and its `else` do, and those that its `finally`
-- does
pub record TryPlaces : Type 0 where
  pub inside : List Place
  pub others : List Place
  pub finally : List Place

abbrev pub try_places : (inside : Stmts) → Handlers → (orelse finally : Stmts) → TryPlaces
try_places inside handlers orelse finally =
    record {
      inside = assigned_places inside;
      others = handlers_places handlers ++ assigned_places orelse;
      finally = assigned_places finally;
    }

-- a handler begins anywhere in the block: in the state before the `try`, but for what the block assigns
abbrev pub raised_state : TryPlaces → State → State
raised_state places before = drop_places places.inside before

-- `finally` begins anywhere in the block, a handler or the `else`
abbrev pub finally_state : TryPlaces → (raised : State) → State
finally_state places raised = drop_places places.others raised

-- after a `try`: where its block with its `else` ends, or one of its handlers; what its block and `finally` assign is
-- not known there
abbrev pub tried_state : TryPlaces → (end : State) → (ends : List State) → State
tried_state places end ends = drop_places places.finally (drop_places places.inside (join_states end ends))

-- a handler that begins in a state
unfoldable pub handler_by
    : PartReads → State → Option Expr → Option (List ℕ) → (inside : Reader) → Handled → Step Handled
handler_by parts from found name inside so_far = do
  p ← parts.caught found name (in_state so_far.flow.flow_state from)
  g ← inside (at_flow_state so_far.flow p)
  Done (block_ended so_far unreachable g)

-- the block, the handlers, and the `else` where the block ended: the flow at the end of the `else`, and the states in
-- which handlers ended
unfoldable pub clauses_by
    : (inside : Reader) → (handlers : Handled → Step Handled) → (orelse : Reader) → Flow → Step Handled
clauses_by inside handlers orelse f = do
  g ← inside f
  caught ← handlers (record { flow = make_unreachable g; ends = [] })
  h ← orelse (with_state caught.flow g.flow_state.state)
  Done (record { flow = h; ends = caught.ends })

-- `finally`, and after it
unfoldable pub finally_by : TryPlaces → (raised : State) → (finally : Reader) → Handled → Step Flow
finally_by places raised finally tried = do
  last ← finally (with_state tried.flow (finally_state places raised))
  Done (with_state last
      (after_finally last.flow_state.state (tried_state places tried.flow.flow_state.state tried.ends)))

unfoldable pub try_by
    : TryPlaces → (inside : Reader) → (handlers : State → Handled → Step Handled) → (orelse finally : Reader) → Reader
try_by places inside handlers orelse finally f = do
  tried ← clauses_by inside (handlers (raised_state places f.flow_state.state)) orelse f
  finally_by places (raised_state places f.flow_state.state) finally tried

-- ---- the `with` statement

unfoldable pub with_by : PartReads → List WithItem → (inside : Reader) → Reader
with_by parts items inside f = do
  p ← parts.items items f.flow_state
  inside (at_flow_state f p)

-- ---- simple statements and definitions

unfoldable pub simple_by : PartReads → Position → StmtForm → Reader
simple_by parts at form f = do
  p ← parts.simple at form f.flow_state
  Done (at_flow_state f p)

-- ---- the whole

abbrev mutual
  -- the statements of a block in turn, as far as a run comes
  pub block_read : Rules → Stmts → Reader
  block_read rules no_stmt f = Done f
  block_read rules (another_stmt found rest) f = do
    g ← reached f.flow_state.state (statement_read rules found) f
    block_read rules rest g

  pub statement_read : Rules → Stmt → Reader
  statement_read rules (stmt at form) f = form_read rules at form f

  pub form_read : Rules → Position → StmtForm → Reader
  form_read rules at (plain.if_else branches orelse) f =
      if_by (branches_read rules branches) (block_read rules orelse) f
  form_read rules at (plain.while test inside orelse) f =
      while_by rules.parts test (assigned_places inside) (block_read (within_loop rules) inside)
      (block_read rules orelse) f
  form_read rules at (plain.for head inside orelse) f =
      for_by rules.parts head (turn_places head inside) (block_read (within_loop rules) inside)
      (block_read rules orelse) f
  form_read rules at (plain.try inside handlers orelse finally) f =
      try_by (try_places inside handlers orelse finally)
      (block_read (within_try rules (assigned_places finally)) inside)
      (handlers_read (within_try rules (assigned_places finally)) handlers)
      (block_read (within_try rules (assigned_places finally)) orelse) (block_read rules finally) f
  form_read rules at (plain.with is_async items inside) f = with_by rules.parts items (block_read rules inside) f
  form_read rules at plain.break f = Done (broken rules.on_the_way_out f)
  form_read rules at plain.continue f = Done (make_unreachable f)
  form_read rules at form f = simple_by rules.parts at form f

  -- the branches of an `if`, each where the tests before it failed
  pub branches_read : Rules → Branches → Handled → Step Handled
  branches_read rules no_branch so_far = Done so_far
  branches_read rules (another_branch (branch at test inside) rest) so_far = do
    done ← branch_by rules.parts test (block_read rules inside) so_far
    branches_read rules rest done

  -- the handlers of a `try`, each from one state
  pub handlers_read : Rules → Handlers → State → Handled → Step Handled
  handlers_read rules no_handler from so_far = Done so_far
  handlers_read rules (another_handler (handler at found name inside) rest) from so_far = do
    done ← handler_by rules.parts from found name (block_read rules inside) so_far
    handlers_read rules rest from done

-- the statements of a body, from a point: no loop is around them
abbrev pub statements_read : PartReads → Stmts → FlowState → Step FlowState
statements_read parts statements p = do
  f ← block_read (record { parts = parts; on_the_way_out = [] }) statements (flow_at p)
  Done f.flow_state
