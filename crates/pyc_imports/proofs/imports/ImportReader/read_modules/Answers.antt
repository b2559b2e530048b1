use Rattle.std.proofs.lemmas.Grind.{common_steps}
use Rattle.std.proofs.Common.{map, ap, sym, ◌∙◌, refl, arith, rules}
use Rattle.pyc_ast.specs.StatementView.{imported_of, imported_module_of}
use Rattle.pyc_imports.specs.ImportReadings.{module_checked}
use Rattle.pyc_reading.specs.Traces.{run}
use Rattle.pyc_reading.specs.Readings.{each}
use Rattle.pyc_reading.proofs.RunLemmas.{one_turn, grown_trans}
use Rattle.pyc_imports.proofs.imports.ImportReader.read_modules.Goals as goal

pub loop-imported-preserved : goal.loop-imported-preserved
loop-imported-preserved g c =
    let read = module_checked c.args.self.options c.args.self.at in
    let first = ap (λ m. run (read (imported_module_of m)) (g.N.Ask.trace c.loop-imported.recorder)) (sym c.deref.ensures) ∙ c.in_ok-check_module.ensures.done in
    record {
      same =
          sym (one_turn (λ xs. each read (map imported_of xs)) (λ x. read (imported_of x)) (λ u xs. each read (map imported_of xs)) (λ x xs. refl) c.args.modules.now c.loop-imported.imported-index _ _ _ _ c.loop-imported-test.true c.imported-item.is first)
          ∙ c.loop-imported.invariant.same;
      grown = grown_trans c.loop-imported.invariant.grown c.check_module.ensures.grown;
    }

pub loop-imported-init : goal.loop-imported-init
loop-imported-init g c = first_of (grind (arith, common_steps), search rules)

pub returns : goal.returns
returns g c = first_of (grind (arith, common_steps), search rules)

pub returns-in_err-check_module : goal.returns-in_err-check_module
returns-in_err-check_module g c = first_of (grind (arith, common_steps), search rules)
