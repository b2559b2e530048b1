use Rattle.std.proofs.Common.{◌≡◌, ◌<◌, ℕ, false, length}
use Rattle.pyc_keys.specs.Marks.{is_marked}
use Rattle.pyc_keys.proofs.marks.Marks.clear.Given as goal

-- none of those so far has a mark
abbrev pub invariant-loop-number : goal.invariant-loop-number
invariant-loop-number l = record {
  bound : length l.self-inside.of.items ≡ length l.initial.self-inside.of.items;
  none : (i : ℕ) → i < l.number → is_marked l.self-inside.of.items i ≡ false;
}
