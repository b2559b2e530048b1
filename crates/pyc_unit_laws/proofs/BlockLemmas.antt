-- What blocks of statements ask, where their parts ask files alone.
use Rattle.std.proofs.Common.{ℕ, List, [], Option}
use Rattle.pyc_locals.specs.AssignedPlaces.{assigned_places}
use Rattle.pyc_ast.specs.declared.position.Position.{Position}
use Rattle.pyc_ast.specs.Exprs.{Expr}
use Rattle.pyc_ast.specs.Statements as plain
use Rattle.pyc_ast.specs.Statements.{Branches, For, Handlers, Stmt, StmtForm, Stmts, WithItem, another_branch, another_handler, another_stmt, branch, handler, no_branch, no_handler, no_stmt, stmt}
use Rattle.pyc_blocks.specs.Blocks.{Begun, Reader, Rules, TryPlaces, block_read, branch_by, branches_read, clauses_by, finally_by, for_begun, for_by, form_read, handler_by, handlers_read, if_by, loop_by, raised_state, reached, simple_by, statement_read, statements_read, try_by, try_places, turn_places, while_begun, while_by, with_by, within_loop, within_try}
use Rattle.pyc_blocks.specs.Flows.{Flow, Handled, at_flow_state, entered, exhausted, flow_at, with_state}
use Rattle.pyc_blocks.specs.Parts.{PartReads}
use Rattle.pyc_expression_laws.proofs.StepLemmas.{Files, files_done, files_then}
use Rattle.pyc_locals.specs.FlowStates.{FlowState, in_state}
use Rattle.pyc_places.specs.Places.{Place}
use Rattle.pyc_places.specs.States.{State, reachable, unreachable}
use Rattle.pyc_reading.specs.Traces.{Step}

-- the parts of statements ask files alone
pub record StatementPartsAskFiles (parts : PartReads) : Type 0 where
  pub simple : (at : Position) (form : StmtForm) (p : FlowState) → Files (parts.simple at form p)
  pub check_test : (test : Expr) (p : FlowState) → Files (parts.check_test test p)
  pub turn : (head : For) (places : List Place) (p : FlowState) → Files (parts.turn head places p)
  pub caught : (found : Option Expr) (name : Option (List ℕ)) (p : FlowState) → Files (parts.caught found name p)
  pub items : (items : List WithItem) (p : FlowState) → Files (parts.items items p)

-- what reads on asks files alone
abbrev pub ReaderAsksFiles : Reader → Type 0
ReaderAsksFiles read = (f : Flow) → Files (read f)

of-reached : (s : State) (read : Reader) → ReaderAsksFiles read → ReaderAsksFiles (reached s read)
of-reached unreachable read reads f = files_done
of-reached (reachable narrowings) read reads f = reads f

of-loop_by : (inside orelse : Reader) → ReaderAsksFiles inside → ReaderAsksFiles orelse → (begun : Begun) → Files (loop_by inside orelse begun)
unfolding loop_by
of-loop_by inside orelse turns last begun =
    files_then _ _ (turns begun.flow) (λ g. files_then _ _ (last (exhausted g begun.exit begun.around)) (λ h. files_done))

of-if_by : (branches : Handled → Step Handled) (orelse : Reader) → ((so_far : Handled) → Files (branches so_far)) → ReaderAsksFiles orelse
    → ReaderAsksFiles (if_by branches orelse)
unfolding if_by
of-if_by branches orelse all last f = files_then _ _ (all _) (λ tried. files_then _ _ (last tried.flow) (λ g. files_done))

of-clauses_by : (inside : Reader) (handlers : Handled → Step Handled) (orelse : Reader) → ReaderAsksFiles inside
    → ((so_far : Handled) → Files (handlers so_far)) → ReaderAsksFiles orelse → (f : Flow) → Files (clauses_by inside handlers orelse f)
unfolding clauses_by
of-clauses_by inside handlers orelse first all last f =
    files_then _ _ (first f) (λ g. files_then _ _ (all _) (λ caught. files_then _ _ (last (with_state caught.flow g.flow_state.state)) (λ h. files_done)))

of-finally_by : (places : TryPlaces) (raised : State) (finally : Reader) → ReaderAsksFiles finally → (tried : Handled) → Files (finally_by places raised finally tried)
unfolding finally_by
of-finally_by places raised finally last tried = files_then _ _ (last _) (λ last. files_done)

of-try_by : (places : TryPlaces) (inside : Reader) (handlers : State → Handled → Step Handled) (orelse finally : Reader) → ReaderAsksFiles inside
    → ((from : State) (so_far : Handled) → Files (handlers from so_far)) → ReaderAsksFiles orelse → ReaderAsksFiles finally
    → ReaderAsksFiles (try_by places inside handlers orelse finally)
unfolding try_by
of-try_by places inside handlers orelse finally first all other last f =
    let raised = raised_state places f.flow_state.state in
    files_then _ _ (of-clauses_by inside (handlers raised) orelse first (all raised) other f) (of-finally_by places raised finally last)

module _ (parts : PartReads) (all : StatementPartsAskFiles parts) where
  of-branch_by : (test : Expr) (inside : Reader) → ReaderAsksFiles inside → (so_far : Handled) → Files (branch_by parts test inside so_far)
  unfolding branch_by
  of-branch_by test inside reads so_far =
      files_then _ _ (all.check_test test so_far.flow.flow_state) (λ states. files_then _ _ (reads (with_state so_far.flow states.if_true)) (λ g. files_done))

  of-while_by : (test : Expr) (places : List Place) (inside orelse : Reader) → ReaderAsksFiles inside → ReaderAsksFiles orelse
      → ReaderAsksFiles (while_by parts test places inside orelse)
  unfolding while_by while_begun
  of-while_by test places inside orelse turns last f =
      files_then _ _ (files_then _ _ (all.check_test test (entered places f).flow_state) (λ states. files_done)) (of-loop_by inside orelse turns last)

  of-for_by : (head : For) (places : List Place) (inside orelse : Reader) → ReaderAsksFiles inside → ReaderAsksFiles orelse
      → ReaderAsksFiles (for_by parts head places inside orelse)
  unfolding for_by for_begun
  of-for_by head places inside orelse turns last f =
      files_then _ _ (files_then _ _ (all.turn head places f.flow_state) (λ p. files_done)) (of-loop_by inside orelse turns last)

  of-handler_by : (from : State) (found : Option Expr) (name : Option (List ℕ)) (inside : Reader) → ReaderAsksFiles inside → (so_far : Handled)
      → Files (handler_by parts from found name inside so_far)
  unfolding handler_by
  of-handler_by from found name inside reads so_far =
      files_then _ _ (all.caught found name (in_state so_far.flow.flow_state from)) (λ p. files_then _ _ (reads (at_flow_state so_far.flow p)) (λ g. files_done))

  of-with_by : (items : List WithItem) (inside : Reader) → ReaderAsksFiles inside → ReaderAsksFiles (with_by parts items inside)
  unfolding with_by
  of-with_by items inside reads f = files_then _ _ (all.items items f.flow_state) (λ p. reads (at_flow_state f p))

  of-simple_by : (at : Position) (form : StmtForm) → ReaderAsksFiles (simple_by parts at form)
  unfolding simple_by
  of-simple_by at form f = files_then _ _ (all.simple at form f.flow_state) (λ p. files_done)

mutual
  of-block_read : (rules : Rules) → StatementPartsAskFiles rules.parts → (statements : Stmts) → ReaderAsksFiles (block_read rules statements)
  of-block_read rules all no_stmt f = files_done
  of-block_read rules all (another_stmt found rest) f =
      files_then _ _ (of-reached f.flow_state.state (statement_read rules found) (of-statement_read rules all found) f) (of-block_read rules all rest)

  of-statement_read : (rules : Rules) → StatementPartsAskFiles rules.parts → (found : Stmt) → ReaderAsksFiles (statement_read rules found)
  of-statement_read rules all (stmt at form) f = of-form_read rules all at form f

  of-form_read : (rules : Rules) → StatementPartsAskFiles rules.parts → (at : Position) (form : StmtForm) → ReaderAsksFiles (form_read rules at form)
  of-form_read rules all at (plain.if_else branches orelse) f =
      of-if_by (branches_read rules branches) (block_read rules orelse) (of-branches_read rules all branches) (of-block_read rules all orelse) f
  of-form_read rules all at (plain.while test inside orelse) f =
      of-while_by rules.parts all test (assigned_places inside) (block_read (within_loop rules) inside) (block_read rules orelse)
      (of-block_read (within_loop rules) all inside) (of-block_read rules all orelse) f
  of-form_read rules all at (plain.for head inside orelse) f =
      of-for_by rules.parts all head (turn_places head inside) (block_read (within_loop rules) inside) (block_read rules orelse)
      (of-block_read (within_loop rules) all inside) (of-block_read rules all orelse) f
  of-form_read rules all at (plain.try inside handlers orelse finally) f =
      let tried = within_try rules (assigned_places finally) in
      of-try_by (try_places inside handlers orelse finally) (block_read tried inside) (handlers_read tried handlers) (block_read tried orelse) (block_read rules finally)
      (of-block_read tried all inside) (of-handlers_read tried all handlers) (of-block_read tried all orelse) (of-block_read rules all finally) f
  of-form_read rules all at (plain.with is_async items inside) f =
      of-with_by rules.parts all items (block_read rules inside) (of-block_read rules all inside) f
  of-form_read rules all at plain.break f = files_done
  of-form_read rules all at plain.continue f = files_done
  of-form_read rules all at form f = of-simple_by rules.parts all at form f

  of-branches_read : (rules : Rules) → StatementPartsAskFiles rules.parts → (branches : Branches) (so_far : Handled) → Files (branches_read rules branches so_far)
  of-branches_read rules all no_branch so_far = files_done
  of-branches_read rules all (another_branch (branch at test inside) rest) so_far =
      files_then _ _ (of-branch_by rules.parts all test (block_read rules inside) (of-block_read rules all inside) so_far) (of-branches_read rules all rest)

  of-handlers_read : (rules : Rules) → StatementPartsAskFiles rules.parts → (handlers : Handlers) (from : State) (so_far : Handled)
      → Files (handlers_read rules handlers from so_far)
  of-handlers_read rules all no_handler from so_far = files_done
  of-handlers_read rules all (another_handler (handler at found name inside) rest) from so_far =
      files_then _ _ (of-handler_by rules.parts all from found name (block_read rules inside) (of-block_read rules all inside) so_far)
      (of-handlers_read rules all rest from)

pub of-statements_read : (parts : PartReads) → StatementPartsAskFiles parts → (statements : Stmts) (p : FlowState) → Files (statements_read parts statements p)
of-statements_read parts all statements p =
    files_then _ _ (of-block_read (record { parts = parts; on_the_way_out = [] }) all statements (flow_at p)) (λ f. files_done)
