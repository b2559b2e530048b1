use Rattle.std.proofs.Common.{◌≡◌, map, take}
use Rattle.pyc_class_ids.specs.Class.{builtin}
use Rattle.pyc_builtins.proofs.builtins.classes_of.Given as goal

abbrev pub invariant-loop-class : goal.invariant-loop-class
invariant-loop-class l = l.classes.items ≡ map builtin (take l.class-index l.row)
