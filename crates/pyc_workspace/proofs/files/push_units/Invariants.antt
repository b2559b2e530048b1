use Rattle.std.proofs.Common.{◌≡◌, ◌++◌, map}
use Rattle.pyc_workspace.specs.Fresh.{number_units, unit_in}
use Rattle.pyc_workspace.proofs.files.push_units.Given as goal

abbrev pub invariant-loop-index : goal.invariant-loop-index
invariant-loop-index l = map unit_in l.units.items ≡ map unit_in l.initial.units.items ++ number_units l.path 0 l.index
