use Rattle.std.proofs.Common.{◌≡◌, ◌++◌, map, drop}
use Rattle.pyc_locals.specs.AssignedPlaces.{alias_place}
use Rattle.pyc_locals.proofs.imports.push_aliases.Given as goal

-- the places so far, with those of the names that are left, are all
abbrev pub invariant-loop-alias : goal.invariant-loop-alias
invariant-loop-alias l =
    l.places.items ++ map alias_place (drop l.alias-index l.names) ≡ l.fn.places.items ++ map alias_place l.names
