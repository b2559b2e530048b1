use Rattle.std.proofs.Common.{◌≡◌, ◌+◌, map, drop}
use Rattle.pyc_assignments.specs.Assignments.{first_single}
use Rattle.pyc_ast.specs.TargetView.{target_of}
use Rattle.pyc_assignments.proofs.assignments.first_single.Given as goal

-- no target before is a single one
abbrev pub invariant-loop-index : goal.invariant-loop-index
invariant-loop-index l = l.index + first_single (map target_of (drop l.index l.targets)) ≡ first_single (map target_of l.targets)
