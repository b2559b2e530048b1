use Rattle.std.proofs.Common.{◌≡◌, map, drop}
use Rattle.std.specs.List.{list_any}
use Rattle.pyc_declarations.specs.SameKeys.{is_same}
use Rattle.pyc_reading.specs.Keys.{Key}
use Rattle.pyc_reading.specs.KeyView.{key_of}
use Rattle.pyc_declarations.proofs.keys.is_among.Given as goal

-- the keys from this one on decide
abbrev pub invariant-loop-other : goal.invariant-loop-other
invariant-loop-other l =
    list_any (λ (other : Key). is_same other (key_of l.key)) (map key_of l.keys)
    ≡ list_any (λ (other : Key). is_same other (key_of l.key)) (map key_of (drop l.other-index l.keys))
