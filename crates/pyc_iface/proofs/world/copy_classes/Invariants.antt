use Rattle.std.proofs.Common.{◌≡◌, take}
use Rattle.pyc_iface.proofs.world.copy_classes.Given as goal

-- those that were passed
abbrev pub invariant-loop-class : goal.invariant-loop-class
invariant-loop-class l = l.copy.items ≡ take l.class-index l.classes
