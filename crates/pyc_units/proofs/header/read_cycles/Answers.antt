use Rattle.pyc_units.proofs.Steps.{performing}
use Rattle.std.proofs.Common.{take, sym, ap, ◌∙◌, arith, rules}
use Rattle.std.proofs.lemmas.Grind.{common_steps}
use Rattle.std.proofs.lemmas.List.{take-map}
use Rattle.pyc_bindings.specs.BindingView.{binding_of}
use Rattle.pyc_units.proofs.HeaderLemmas.{cycles_turn}
use Rattle.pyc_names.specs.SourceFileView.{source_in}
use Rattle.pyc_reading.proofs.RunLemmas.{grown_trans}
use Rattle.pyc_units.proofs.header.read_cycles.Goals as goal

pub loop-i-preserved : goal.loop-i-preserved
loop-i-preserved g c =
    let bindings = c.bindings-bindings.result.now in
    let before = ap (take c.loop-i.i) (sym c.bindings-bindings.ensures) ∙ take-map binding_of c.loop-i.i bindings in
    record {
      same =
          sym (cycles_turn (source_in c.args.file.now) bindings _ c.loop-i.i c.index-bindings-i.result _ _ _ c.loop-i-test.true c.index-bindings-i.is before c.in_ok-read_binding.ensures.done)
          ∙ c.loop-i.invariant.same;
      grown = grown_trans c.loop-i.invariant.grown c.read_binding.ensures.grown;
    }

pub loop-i-init : goal.loop-i-init
loop-i-init g c = first_of (grind (arith, performing), search rules)

pub returns : goal.returns
returns g c = first_of (grind (arith, common_steps, performing), search rules)

pub returns-in_err-read_binding : goal.returns-in_err-read_binding
returns-in_err-read_binding g c = first_of (grind (arith, performing), search rules)
