use Rattle.std.proofs.Common.{◌≡◌, bytes_eq, drop}
use Rattle.std.specs.List.{position_from}
use Rattle.pyc_interfaces.proofs.named.place_of.Given as goal

-- the place among those that are left is the place among all
abbrev pub invariant-loop-i : goal.invariant-loop-i
invariant-loop-i g l =
    position_from (λ item. bytes_eq (g.T.Named.name_in item) l.name) l.i (drop l.i l.items)
    ≡ position_from (λ item. bytes_eq (g.T.Named.name_in item) l.name) 0 l.items
