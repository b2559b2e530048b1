use Rattle.std.proofs.Common.{◌+◌, ◌-◌, length}
use Rattle.pyc_token.specs.Cuts.{cuts}
use Rattle.pyc_lex.specs.Lines.{read, start_at}
use Rattle.pyc_lex.specs.Reader.{reading_of}
use Rattle.pyc_lex.proofs.ReadLemmas.{IsOnTheWay}
use Rattle.pyc_lex.proofs.lines.read.Given as goal

abbrev pub invariant-loop-turn : goal.invariant-loop-turn
invariant-loop-turn l =
    IsOnTheWay (read (start_at l.fn.from) (cuts l.fn.text)) (l.fn.from + length l.fn.text) (l._turn-end - l._turn) (reading_of l.reader) l.rest
