use Rattle.std.proofs.Common.{◌≡◌, ◌+◌, ◌*◌, ◌≤◌, drop}
use Rattle.pyc_lower_statement.specs.Statements.{count_dots}
use Rattle.pyc_lower_statement.proofs.imports.count_dots.Given as goal

-- the dots counted so far, and those that are left, are all of them
abbrev pub invariant-loop-dot : goal.invariant-loop-dot
invariant-loop-dot l = record { whole : l.count + count_dots (drop l.dot-index l.dots) ≡ count_dots l.dots; few : l.count ≤ 3 * l.dot-index }
