use Rattle.std.proofs.Common.{ap, ◌∙◌}
use Rattle.pyc_class_table.specs.MroView.{orders_in}
use Rattle.pyc_iface.specs.declared.looked_classes.LookedClasses.{LookedClasses}
use Rattle.pyc_names.specs.NotedLooksView.{noted_in}
use Rattle.pyc_iface.proofs.world.PlainWorld.of_table.Goals as goal

pub invariant_of-result-clause-classes_are : goal.invariant_of-result-clause-classes_are
invariant_of-result-clause-classes_are c =
    λ class. ap (λ (k : LookedClasses). orders_in k.table class) c.in_ok-shared.ensures.ok ∙ c.in_ok-classes.ensures.orders class

pub invariant_of-result-clause-looks_are : goal.invariant_of-result-clause-looks_are
invariant_of-result-clause-looks_are c =
    ap (λ (k : LookedClasses). noted_in k.looks) c.in_ok-shared.ensures.ok ∙ c.in_ok-classes.ensures.looks
