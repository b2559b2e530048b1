use Rattle.std.proofs.Common.{◌≡◌, take}
use Rattle.pyc_keys.specs.Numbering.{without_all}
use Rattle.pyc_keys.specs.KeyNumbers.{key_at}
use Rattle.pyc_keys.proofs.keys.Keys.forget_all.Given as goal

abbrev pub invariant-loop-id : goal.invariant-loop-id
invariant-loop-id l = key_at l.self ≡ without_all (key_at l.fn.self) (take l.id-index l.ids)
