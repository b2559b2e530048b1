use Rattle.std.proofs.Common.{◌≡◌, ◌<◌, ◌||◌, ℕ, length, take}
use Rattle.pyc_keys.specs.Marks.{is_marked, is_in}
use Rattle.pyc_keys.proofs.marks.Marks.mark_all.Given as goal

-- those so far have a mark, and those that had one before
abbrev pub invariant-loop-id : goal.invariant-loop-id
invariant-loop-id l = record {
  bound : length l.self ≡ length l.fn.self;
  marked : (i : ℕ) → i < length l.fn.self → is_marked l.self i ≡ (is_marked l.fn.self i || is_in (take l.id-index l.ids) i);
}
