use Rattle.pyc_units.proofs.Steps.{performing}
use Rattle.std.proofs.Common.{map, sym, ap, ◌∙◌, arith, rules}
use Rattle.std.proofs.lemmas.Grind.{common_steps}
use Rattle.pyc_annotations.specs.Views.{base_of}
use Rattle.pyc_units.specs.DefinitionReadings.{base_reading, order_reading}
use Rattle.pyc_class_ids.specs.Class.{Id, user}
use Rattle.pyc_names.specs.Interfaces.{Interface}
use Rattle.pyc_names.specs.SourceFileView.{source_in}
use Rattle.pyc_reading.proofs.RunLemmas.{after, grown_trans}
use Rattle.pyc_reading.specs.Traces.{run, asking}
use Rattle.pyc_reading.specs.Keys.{class}
use Rattle.pyc_reading.specs.Readings.{and_then, each}
use Rattle.pyc_units.proofs.definitions.read_declared.Goals as goal

pub returns : goal.returns
returns g c =
    let file = source_in c.args.file.now in
    let name = c.args.name.now in
    let key = class (user file.name name) in
    let start = g.N.Ask.trace c.args.recorder.now in
    let middle = g.N.Ask.trace c.read_base_orders.new.recorder in
    let own = c.in_ok-class.ensures ∙ ap (λ (f : Interface). user f.name name) c.interface.ensures in
    let asked = sym (ap (λ (found : Id). run (asking (class found)) middle) own) ∙ c.in_ok-answer.ensures.done in
    record {
      done =
          after (each base_reading (map base_of c.args.bases.now)) (λ u. and_then (asking key) (order_reading c.args.at name)) start _ _ _ _ c.in_ok-read_base_orders.ensures.done
          (after (asking key) (order_reading c.args.at name) middle _ _ _ _ asked c.in_ok-order.ensures.done);
      grown = grown_trans c.read_base_orders.ensures.grown (grown_trans c.ask.ensures.grown c.read_order.ensures.grown);
    }

pub returns-in_err-answer : goal.returns-in_err-answer
returns-in_err-answer g c = first_of (grind (arith, performing), search rules)

pub returns-in_err-class : goal.returns-in_err-class
returns-in_err-class g c = first_of (grind (arith, performing), search rules)

pub returns-in_err-order : goal.returns-in_err-order
returns-in_err-order g c = first_of (grind (arith, common_steps, performing), search rules)

pub returns-in_err-read_base_orders : goal.returns-in_err-read_base_orders
returns-in_err-read_base_orders g c = first_of (grind (arith, performing), search rules)
