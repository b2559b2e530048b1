use Rattle.pyc_units.proofs.Steps.{performing}
use Rattle.std.proofs.Common.{List, [], map, false, sym, ap, ◌∙◌, arith, rules}
use Rattle.std.proofs.lemmas.Grind.{common_steps}
use Rattle.pyc_ast.specs.declared.stmt.Stmt.{Stmt as StmtOf}
use Rattle.pyc_ast.specs.Statements.{stmts}
use Rattle.pyc_ast.specs.StatementView.{stmt_of}
use Rattle.pyc_bindings.specs.Redefinitions.{Redefinition}
use Rattle.pyc_bindings.specs.Scopes.{Part, parts_of}
use Rattle.pyc_bindings.specs.ScopeView.{part_of}
use Rattle.pyc_functions.specs.Redefined.{redefinition_reading}
use Rattle.pyc_units.specs.Header.{part_reading, cycles_after}
use Rattle.pyc_names.specs.SourceFileView.{source_in}
use Rattle.pyc_reading.proofs.RunLemmas.{after, grown_trans}
use Rattle.pyc_reading.specs.Traces.{run}
use Rattle.pyc_reading.specs.Readings.{and_then, each}
use Rattle.pyc_units.proofs.header.read_top_level.Goals as goal

pub returns : goal.returns
returns g c =
    let file = source_in c.args.file.now in
    let read = part_reading c.args.options file in
    let parts = parts_of (stmts (map stmt_of c.args.top.now.statements.items)) false in
    let cycles = cycles_after file [] file.bindings in
    let again = each redefinition_reading file.again in
    let start = g.N.Ask.trace c.args.recorder.now in
    let first = ap (λ (ps : List Part). run (each read ps) start)
    (sym (ap (map part_of) c.deref-2.ensures.value ∙ c.in_ok-parts.ensures ∙ ap (λ (l : List StmtOf). parts_of (stmts (map stmt_of l)) false) c.deref.ensures.value))
    ∙ c.in_ok-read_parts.ensures.done in
    let third = ap (λ (rs : List Redefinition). run (each redefinition_reading rs) (g.N.Ask.trace c.read_cycles.new.recorder)) (sym c.redefinitions.ensures) ∙ c.in_ok-report_redefinitions.ensures.done in
    record {
      done =
          after (each read parts) (λ u. and_then cycles (λ v. again)) start _ _ _ _ first
          (after cycles (λ v. again) _ _ _ _ _ c.in_ok-read_cycles.ensures.done third);
      grown = grown_trans c.read_parts.ensures.grown (grown_trans c.read_cycles.ensures.grown c.report_redefinitions.ensures.grown);
    }

pub returns-in_err-parts : goal.returns-in_err-parts
returns-in_err-parts g c = first_of (grind (arith, performing), search rules)

pub returns-in_err-read_cycles : goal.returns-in_err-read_cycles
returns-in_err-read_cycles g c = first_of (grind (arith, performing), search rules)

pub returns-in_err-read_parts : goal.returns-in_err-read_parts
returns-in_err-read_parts g c = first_of (grind (arith, performing), search rules)

pub returns-in_err-report_redefinitions : goal.returns-in_err-report_redefinitions
returns-in_err-report_redefinitions g c = first_of (grind (arith, common_steps, performing), search rules)
