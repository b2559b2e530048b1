use Rattle.std.proofs.Common.{arith, ap, sym, ◌∙◌}
use Rattle.pyc_bindings.specs.declared.binding.Binding.{Binding}
use Rattle.pyc_bindings.proofs.PlaceLemmas.{binding_more}
use Rattle.pyc_bindings.proofs.first_bindings.first_places.Goals as goal

pub loop-left-preserved : goal.loop-left-preserved
loop-left-preserved c =
    record {
      within = omega arith;
      placed = λ n. binding_more n c.args.bindings.now c.loop-left.left c.index-bindings-left.result _ _ _ c.loop-left-test.true c.loop-left.invariant.within c.index-bindings-left.is
          (c.in_ok-clone.ensures.cases ∙ sym (ap (λ (b : Binding). b.name) c.index-bindings-left.is)) (c.in_ok-insert.ensures.updates.0 n) (c.loop-left.invariant.placed n);
    }
