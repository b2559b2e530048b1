use Rattle.std.proofs.Common.{◌≡◌, ◌++◌, map}
use Rattle.indexmap.specs.IndexMap.{keys}
use Rattle.pyc_reading.specs.KeyView.{key_of}
use Rattle.pyc_recorder.proofs.unit_trace.listed.Given as goal

-- the keys so far, with those that are left, are all
abbrev pub invariant-loop-asked : goal.invariant-loop-asked
invariant-loop-asked l = map key_of l.listed.items ++ l.asked-iterator ≡ keys l.fn.kept
