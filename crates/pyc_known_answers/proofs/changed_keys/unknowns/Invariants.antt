use Rattle.std.proofs.Common.{◌≡◌}
use Rattle.pyc_known_answers.specs.Changes.{unknowns}
use Rattle.pyc_known_answers.proofs.changed_keys.unknowns.Given as goal

-- those so far are not known
abbrev pub invariant-loop-number : goal.invariant-loop-number
invariant-loop-number l = l.found.items ≡ unknowns l.number
