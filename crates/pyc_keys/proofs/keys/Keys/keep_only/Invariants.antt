use Rattle.std.proofs.Common.{◌≡◌, ◌<◌, ℕ, length, take, flat_map}
use Rattle.pyc_keys.specs.Marks.{is_marked, is_in}
use Rattle.pyc_keys.proofs.keys.Keys.keep_only.Given as goal

-- those that the read sets so far have read are marked, and no others
abbrev pub invariant-loop-read_set : goal.invariant-loop-read_set
invariant-loop-read_set g l = record {
  table : l.self-inside.table ≡ l.initial.self-inside.table;
  bound : length l.self-inside.marks ≡ length l.initial.self-inside.marks;
  marked : (i : ℕ) → i < length l.initial.self-inside.marks → is_marked l.self-inside.marks i ≡ is_in (flat_map g.R.ReadSet.numbers (take l.read_set-index l.read_sets)) i;
}
