use Rattle.std.proofs.lemmas.Grind.{common_steps}
use Rattle.std.proofs.Common.{sym, ◌∙◌, refl, arith, rules}
use Rattle.pyc_ast.specs.StatementView.{import_from_of}
use Rattle.pyc_imports.specs.ImportReadings.{name_checked}
use Rattle.pyc_names.specs.InterfaceView.{interface_in}
use Rattle.pyc_reading.specs.Readings.{each}
use Rattle.pyc_reading.proofs.RunLemmas.{one_turn, grown_trans}
use Rattle.pyc_imports.proofs.imports.ImportReader.read_aliases.Goals as goal

pub loop-alias-preserved : goal.loop-alias-preserved
loop-alias-preserved g c =
    let read = name_checked c.args.self.options (interface_in c.args.file.now) c.args.self.at (import_from_of c.args.from.now) in
    record {
      same =
          sym (one_turn (each read) read (λ u xs. each read xs) (λ x xs. refl) _ c.loop-alias.alias-index _ _ _ _ c.loop-alias-test.true c.alias-item.is c.in_ok-check_name.ensures.done)
          ∙ c.loop-alias.invariant.same;
      grown = grown_trans c.loop-alias.invariant.grown c.check_name.ensures.grown;
    }

pub loop-alias-init : goal.loop-alias-init
loop-alias-init g c = first_of (grind (arith, common_steps), search rules)

pub returns : goal.returns
returns g c = first_of (grind (arith, common_steps), search rules)

pub returns-in_err-check_name : goal.returns-in_err-check_name
returns-in_err-check_name g c = first_of (grind (arith, common_steps), search rules)
