use Rattle.std.proofs.Common.{ap, ◌∙◌}
use Rattle.pyc_class_ids.specs.Mro.{MroTable}
use Rattle.pyc_class_table.specs.MroView.{orders_in}
use Rattle.pyc_declarations.specs.Looks.{entries_looks}
use Rattle.pyc_iface.proofs.FlagLemmas.{same_noted}
use Rattle.pyc_iface.specs.declared.looked_classes.LookedClasses.{LookedClasses}
use Rattle.pyc_iface.specs.PlainWorldView.{world_in}
use Rattle.pyc_names.specs.NotedLooks.{nothing_noted}
use Rattle.pyc_names.specs.NotedLooksView.{noted_in}
use Rattle.pyc_names.specs.TableView.{table_in}
use Rattle.pyc_iface.proofs.world.PlainWorld.with_table.Goals as goal

pub invariant_of-result-clause-classes_are : goal.invariant_of-result-clause-classes_are
invariant_of-result-clause-classes_are c =
    λ class. ap (λ (k : LookedClasses). orders_in k.table class) c.in_ok-classes.ensures.cases
    ∙ c.args.self.now.classes_are class ∙ ap (λ (o : MroTable). o class) c.requires.orders

pub invariant_of-result-clause-looks_are : goal.invariant_of-result-clause-looks_are
invariant_of-result-clause-looks_are c =
    ap (λ (k : LookedClasses). noted_in k.looks) c.in_ok-classes.ensures.cases
    ∙ c.args.self.now.looks_are
    ∙ same_noted nothing_noted (entries_looks (world_in c.args.self.now)) (entries_looks (table_in c.args.table)) c.requires.looks
