use Rattle.std.proofs.Common.{◌≡◌, length}
use Rattle.pyc_builtins.specs.Members.{first_member}
use Rattle.pyc_builtins.proofs.members.first_member.Given as goal

abbrev pub invariant-loop-classes : goal.invariant-loop-classes
invariant-loop-classes l = first_member l.classes l.name ≡ first_member l.initial.classes l.name

abbrev pub decreases-loop-classes : goal.decreases-loop-classes
decreases-loop-classes l = length l.classes
