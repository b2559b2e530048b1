-- One turn of each loop that reads statements, branches or handlers.
use Rattle.std.proofs.Common.{◌≡◌, ℕ, ◌+◌, ◌<◌, List, ◌∷◌, length, map, drop, get_or, option_map, refl, sym, rules}
use Rattle.pyc_ast.specs.declared.stmt.Block.TheFolds.{the_lemmas}
use Rattle.pyc_ast.specs.declared.stmt.Branch.{Branch}
use Rattle.pyc_ast.specs.declared.stmt.Handler.{Handler}
use Rattle.pyc_ast.specs.declared.stmt.Stmt.{Stmt}
use Rattle.pyc_ast.specs.ExprView.{expr_of}
use Rattle.pyc_ast.specs.Statements.{stmts, branches, handlers}
use Rattle.pyc_ast.specs.StatementView.{stmt_of, branch_of, handler_of, block_of}
use Rattle.pyc_places.specs.States.{State}
use Rattle.pyc_reading.proofs.RunLemmas.{one_turn}
use Rattle.pyc_reading.specs.Traces.{Trace, run}
use Rattle.pyc_reading.specs.Readings.{and_then}
use Rattle.pyc_blocks.specs.Blocks.{Rules, block_read, reached, statement_read, branch_by, branches_read, handler_by, handlers_read}
use Rattle.pyc_blocks.specs.Flows.{Flow, Handled}

pub statement_turn : (o : Rules) (xs : List Stmt) (i : ℕ) (x : Stmt) (f g : Flow) (trace middle : Trace)
    → i < length xs → x ≡ get_or xs i x → run (reached f.flow_state.state (statement_read o (stmt_of x)) f) trace ≡ (g, middle)
    → run (block_read o (stmts (map stmt_of (drop (i + 1) xs))) g) middle ≡ run (block_read o (stmts (map stmt_of (drop i xs))) f) trace
statement_turn o xs i x f g trace middle within is first =
    sym (one_turn (λ l. block_read o (stmts (map stmt_of l)) f) (λ y. reached f.flow_state.state (statement_read o (stmt_of y)) f)
    (λ h l. block_read o (stmts (map stmt_of l)) h) (λ y ys. refl) xs i x trace middle g within is first)

more_branch : (o : Rules) (h : Handled) (x : Branch) (xs : List Branch)
    → branches_read o (branches (map branch_of (x ∷ xs))) h
    ≡ and_then (branch_by o.parts (expr_of x.test) (block_read o (block_of x.body)) h) (λ done. branches_read o (branches (map branch_of xs)) done)
more_branch o h x xs = search (rules, the_lemmas)

pub branch_turn : (o : Rules) (xs : List Branch) (i : ℕ) (x : Branch) (h k : Handled) (trace middle : Trace)
    → i < length xs → x ≡ get_or xs i x → run (branch_by o.parts (expr_of x.test) (block_read o (block_of x.body)) h) trace ≡ (k, middle)
    → run (branches_read o (branches (map branch_of (drop (i + 1) xs))) k) middle ≡ run (branches_read o (branches (map branch_of (drop i xs))) h) trace
branch_turn o xs i x h k trace middle within is first =
    sym (one_turn (λ l. branches_read o (branches (map branch_of l)) h) (λ y. branch_by o.parts (expr_of y.test) (block_read o (block_of y.body)) h)
    (λ r l. branches_read o (branches (map branch_of l)) r) (more_branch o h) xs i x trace middle k within is first)

more_handler : (o : Rules) (from : State) (h : Handled) (x : Handler) (xs : List Handler)
    → handlers_read o (handlers (map handler_of (x ∷ xs))) from h
    ≡ and_then (handler_by o.parts from (option_map expr_of x.caught) x.name (block_read o (block_of x.body)) h) (λ done. handlers_read o (handlers (map handler_of xs)) from done)
more_handler o from h x xs = search (rules, the_lemmas)

pub handler_turn : (o : Rules) (from : State) (xs : List Handler) (i : ℕ) (x : Handler) (h k : Handled) (trace middle : Trace)
    → i < length xs → x ≡ get_or xs i x
    → run (handler_by o.parts from (option_map expr_of x.caught) x.name (block_read o (block_of x.body)) h) trace ≡ (k, middle)
    → run (handlers_read o (handlers (map handler_of (drop (i + 1) xs))) from k) middle ≡ run (handlers_read o (handlers (map handler_of (drop i xs))) from h) trace
handler_turn o from xs i x h k trace middle within is first =
    sym (one_turn (λ l. handlers_read o (handlers (map handler_of l)) from h)
    (λ y. handler_by o.parts from (option_map expr_of y.caught) y.name (block_read o (block_of y.body)) h)
    (λ r l. handlers_read o (handlers (map handler_of l)) from r) (more_handler o from h) xs i x trace middle k within is first)
