use Rattle.std.proofs.Common.{◌≡◌, drop}
use Rattle.pyc_tree.specs.Well.{are_joined}
use Rattle.pyc_precedence.proofs.operands.are_joined.Given as goal

abbrev pub invariant-loop-token : goal.invariant-loop-token
invariant-loop-token l = are_joined l.of_bytes (drop l.token-index l.more) ≡ are_joined l.of_bytes l.more
