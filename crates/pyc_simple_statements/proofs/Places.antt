-- Where expressions and targets of the code begin.
use Rattle.std.proofs.Common.{◌≡◌, ap, rules, Result, Ok, Err}
use Rattle.std.specs.declared.alloc.AllocError.{AllocError}
use Rattle.pyc_ast.specs.declared.expr.DictItem.TheFolds.{the_lemmas as expr_lemmas}
use Rattle.pyc_ast.specs.declared.expr.Expr.{Expr}
use Rattle.pyc_ast.specs.declared.target.Target.{Target}
use Rattle.pyc_ast.specs.declared.target.TargetForm.TheFolds.{the_lemmas as target_lemmas}
use Rattle.pyc_ast.specs.Exprs.{expr, at_of}
use Rattle.pyc_ast.specs.ExprView.{expr_of, form_of}
use Rattle.pyc_ast.specs.Targets.{target}
use Rattle.pyc_ast.specs.TargetView.{target_of, target_form_of}
use Rattle.pyc_reading.proofs.RunLemmas.{run_then, after, grown_refl, grown_trans}
use Rattle.pyc_reading.specs.Readings.{and_then}
use Rattle.pyc_reading.specs.Traces.{Step, Trace, Performs, Grown, run}
use Rattle.pyc_simple_statements.specs.Augmented.{out_of}

view_expr : (x : Expr) → expr_of x ≡ expr x.at x.inside (form_of x.form)
view_expr x = search (rules, expr_lemmas)

pub begins_at : (x : Expr) → at_of (expr_of x) ≡ x.at
begins_at x = ap at_of (view_expr x)

view_target : (x : Target) → target_of x ≡ target x.at x.inside (target_form_of x.form)
view_target x = search (rules, target_lemmas)

pub stands_at : (x : Target) → out_of (target_of x) ≡ x.at
stands_at x = ap out_of (view_target x)

-- a reading is performed, and what comes of it decides what is performed after it
pub performs_after : {A B X : Type 0} {view : X → B} (r : Step A) (next : A → Step B) (trace middle end : Trace) (a : A) (result : Result X AllocError)
    → run r trace ≡ (a, middle) → Grown trace middle → Performs view (next a) middle result end → Performs view (and_then r next) trace result end
performs_after r next trace middle end a (Ok x) first grown second =
    record { done = after r next trace middle end a _ first second.done; grown = grown_trans grown second.grown }
performs_after r next trace middle end a (Err e) first grown second = record { done = tt; grown = grown_trans grown second.grown }

pub ruleset placing = (run_then, grown_refl, grown_trans, begins_at, stands_at)
