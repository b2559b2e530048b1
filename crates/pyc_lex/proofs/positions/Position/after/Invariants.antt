use Rattle.std.proofs.Common.{◌≡◌, ◌≤◌, ◌+◌, drop}
use Rattle.pyc_lex.specs.Positions.{position_after}
use Rattle.pyc_lex.proofs.positions.Position.after.Given as goal

abbrev pub invariant-loop-index : goal.invariant-loop-index
invariant-loop-index l = record {
  value : position_after l.position (drop l.index l.text) ≡ position_after l.fn.self l.text;
  line : l.position.line ≤ l.fn.self.line + l.index;
  column : l.position.column ≤ l.fn.self.column + l.index;
  from_one : 1 ≤ l.position.column;
}
