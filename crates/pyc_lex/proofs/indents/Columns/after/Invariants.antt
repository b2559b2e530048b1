use Rattle.std.proofs.Common.{◌≡◌, ◌≤◌, ◌+◌, ◌*◌, drop}
use Rattle.pyc_lex.specs.Indents.{columns_after}
use Rattle.pyc_lex.proofs.indents.Columns.after.Given as goal

abbrev pub invariant-loop-byte : goal.invariant-loop-byte
invariant-loop-byte l = record {
  value : columns_after l.columns (drop l.byte-index l.blanks) ≡ columns_after l.fn.self l.blanks;
  wide : l.columns.wide ≤ l.fn.self.wide + 8 * l.byte-index;
  narrow : l.columns.narrow ≤ l.fn.self.narrow + l.byte-index;
}
