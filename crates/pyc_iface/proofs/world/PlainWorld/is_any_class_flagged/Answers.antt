use Rattle.std.proofs.Common.{ap, ◌∙◌}
use Rattle.pyc_declarations.specs.Looks.{entries_looks}
use Rattle.pyc_iface.proofs.FlagLemmas.{any_flagged}
use Rattle.pyc_iface.specs.declared.looked_classes.LookedClasses.{LookedClasses}
use Rattle.pyc_iface.specs.Flags.{flag_at}
use Rattle.pyc_iface.specs.PlainWorldView.{world_in}
use Rattle.pyc_names.specs.NotedLooksView.{noted_in}
use Rattle.pyc_iface.proofs.world.PlainWorld.is_any_class_flagged.Goals as goal

pub returns : goal.returns
returns c =
    c.is_flagged.ensures ∙ ap (λ (k : LookedClasses). noted_in k.looks (flag_at c.args.flags.now)) c.deref.ensures
    ∙ any_flagged c.args.flags.now _ (entries_looks (world_in c.args.self.now)) c.args.self.now.looks_are
