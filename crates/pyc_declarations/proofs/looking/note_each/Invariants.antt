use Rattle.std.proofs.Common.{◌≡◌, drop, flat_map, map}
use Rattle.pyc_names.specs.NotedLooks.{with_looks}
use Rattle.pyc_names.specs.NotedLooksView.{noted_in}
use Rattle.pyc_reading.specs.KeyView.{key_of}
use Rattle.pyc_declarations.proofs.looking.note_each.Given as goal

-- what is noted, with what is looked at for the keys that are left, is the whole
abbrev pub invariant-loop-key : goal.invariant-loop-key
invariant-loop-key g l =
    with_looks (noted_in l.looks) (flat_map (g.A.Looking.looked_at l.answers) (map key_of (drop l.key-index l.keys)))
    ≡ with_looks (noted_in l.fn.looks) (flat_map (g.A.Looking.looked_at l.answers) (map key_of l.keys))
