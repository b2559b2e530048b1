use Rattle.std.proofs.Common.{◌≡◌}
use Rattle.pyc_names.proofs.module_name.path_parts.Given as goal

abbrev pub invariant-loop-part : goal.invariant-loop-part
invariant-loop-part l = l.parts.items ≡ l.yielded
