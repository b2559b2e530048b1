use Rattle.std.proofs.Common.{◌≡◌, map, take}
use Rattle.pyc_keys.specs.Numbering.{without_all, Extends, AreOf}
use Rattle.pyc_keys.specs.KeyNumbers.{key_at}
use Rattle.pyc_reading.specs.KeyView.{key_of}
use Rattle.pyc_keys.proofs.keys.Keys.intern_each.Given as goal

-- those so far have their numbers, and without the new ones all is as before
abbrev pub invariant-loop-key : goal.invariant-loop-key
invariant-loop-key l = record {
  held : AreOf (key_at l.self) l.ids.items (map key_of (take l.key-index l.keys));
  extends : Extends (key_at l.fn.self) (key_at l.self);
  undo : without_all (key_at l.self) l.added.items ≡ key_at l.fn.self;
}
