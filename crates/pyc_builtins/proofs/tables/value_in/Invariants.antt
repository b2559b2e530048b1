use Rattle.std.proofs.Common.{◌≡◌, length, map}
use Rattle.pyc_builtins.specs.Tables.{lookup}
use Rattle.pyc_builtins.proofs.tables.value_in.Given as goal

abbrev pub invariant-loop-table : goal.invariant-loop-table
invariant-loop-table g l =
    lookup (map (λ entry. (entry.0.now, entry.1)) l.table) l.name ≡ lookup (map (λ entry. (entry.0.now, entry.1)) l.initial.table) l.name

abbrev pub decreases-loop-table : goal.decreases-loop-table
decreases-loop-table g l = length l.table
