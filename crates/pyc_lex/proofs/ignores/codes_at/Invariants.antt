use Rattle.std.proofs.Common.{◌+◌, ◌-◌, length}
use Rattle.pyc_lex.specs.Ignores.{codes_at}
use Rattle.pyc_lex.proofs.IgnoreLemmas.{IsListing}
use Rattle.pyc_lex.proofs.ignores.codes_at.Given as goal

abbrev pub invariant-loop-turn : goal.invariant-loop-turn
invariant-loop-turn l =
    IsListing (codes_at (length l.text + 1) l.from l.text) (l.from + length l.text) (l._turn-end - l._turn) l.spans.items l.at l.rest
