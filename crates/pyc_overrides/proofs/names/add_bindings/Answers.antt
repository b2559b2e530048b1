use Rattle.std.proofs.Common.{◌∙◌}
use Rattle.pyc_bindings.specs.Bindings.{Binding}
use Rattle.pyc_bindings.specs.BindingView.{binding_of}
use Rattle.pyc_overrides.proofs.NameLemmas.{name_turn}
use Rattle.pyc_overrides.proofs.names.add_bindings.Goals as goal

pub loop-binding-preserved : goal.loop-binding-preserved
loop-binding-preserved c =
    name_turn binding_of (λ (b : Binding). b.name) c.loop-binding.names.keys c.insert.new.self.keys c.args.bindings.now c.loop-binding.binding-index c.binding-item.result c.in_ok-clone.field-0
    c.loop-binding-test.true c.binding-item.is c.in_ok-clone.ensures.cases c.in_ok-insert.ensures.keys
    ∙ c.loop-binding.invariant
