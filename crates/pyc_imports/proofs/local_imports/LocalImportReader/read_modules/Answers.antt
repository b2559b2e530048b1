use Rattle.std.proofs.Common.{map, ap, sym, ◌∙◌, refl}
use Rattle.pyc_ast.specs.StatementView.{imported_of, imported_module_of}
use Rattle.pyc_imports.specs.LocalImports.{module_read, modules_read}
use Rattle.pyc_locals.specs.Views.{flow_state_in}
use Rattle.pyc_reading.proofs.RunLemmas.{one_turn, grown_trans}
use Rattle.pyc_reading.specs.Traces.{run}
use Rattle.pyc_imports.proofs.local_imports.LocalImportReader.read_modules.Goals as goal

pub loop-imported-preserved : goal.loop-imported-preserved
loop-imported-preserved g c =
    let options = c.args.self.now.imports.options in
    let at = c.args.self.now.imports.at in
    let p = flow_state_in c.loop-imported.flow_state in
    let first = ap (λ m. run (module_read options at (imported_module_of m) p) (g.N.Ask.trace c.loop-imported.recorder)) (sym c.deref.ensures) ∙ c.in_ok-read_module.ensures.done in
    record {
      same =
          sym (one_turn (λ xs. modules_read options at (map imported_of xs) p) (λ x. module_read options at (imported_of x) p) (λ q xs. modules_read options at (map imported_of xs) q) (λ x xs. refl) c.args.modules.now c.loop-imported.imported-index _ _ _ _ c.loop-imported-test.true c.imported-item.is first)
          ∙ c.loop-imported.invariant.same;
      grown = grown_trans c.loop-imported.invariant.grown c.read_module.ensures.grown;
    }
