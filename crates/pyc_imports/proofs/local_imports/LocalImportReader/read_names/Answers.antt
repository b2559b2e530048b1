use Rattle.std.proofs.Common.{sym, ◌∙◌, refl}
use Rattle.pyc_ast.specs.StatementView.{import_from_of}
use Rattle.pyc_imports.specs.LocalImports.{name_read, names_read}
use Rattle.pyc_locals.specs.Views.{flow_state_in}
use Rattle.pyc_names.specs.InterfaceView.{interface_in}
use Rattle.pyc_reading.proofs.RunLemmas.{one_turn, grown_trans}
use Rattle.pyc_imports.proofs.local_imports.LocalImportReader.read_names.Goals as goal

pub loop-alias-preserved : goal.loop-alias-preserved
loop-alias-preserved g c =
    let options = c.args.self.now.imports.options in
    let file = interface_in c.args.self.now.file.now in
    let at = c.args.self.now.imports.at in
    let from = import_from_of c.args.from.now in
    let p = flow_state_in c.loop-alias.flow_state in
    record {
      same =
          sym (one_turn (λ xs. names_read options file at from xs p) (λ x. name_read options file at from x p) (λ q xs. names_read options file at from xs q) (λ x xs. refl) _ c.loop-alias.alias-index _ _ _ _ c.loop-alias-test.true c.alias-item.is c.in_ok-read_name.ensures.done)
          ∙ c.loop-alias.invariant.same;
      grown = grown_trans c.loop-alias.invariant.grown c.read_name.ensures.grown;
    }
