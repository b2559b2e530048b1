use Rattle.std.proofs.Common.{◌-◌, length}
use Rattle.pyc_token.specs.Strings.{string_rest_len}
use Rattle.pyc_token.proofs.StringLemmas.{IsClosing}
use Rattle.pyc_token.proofs.strings.string_rest_len.Given as goal

abbrev pub invariant-loop-turn : goal.invariant-loop-turn
invariant-loop-turn l = IsClosing l.quotes (length l.text) (string_rest_len (length l.text) l.quotes l.text) (l._turn-end - l._turn) l.rest
