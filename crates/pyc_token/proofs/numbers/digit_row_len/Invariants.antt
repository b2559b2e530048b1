use Rattle.std.proofs.Common.{◌≡◌, ◌+◌, drop}
use Rattle.pyc_token.specs.Numbers.{digit_row_len}
use Rattle.pyc_token.proofs.numbers.digit_row_len.Given as goal

abbrev pub invariant-loop-index : goal.invariant-loop-index
invariant-loop-index l = l.index + digit_row_len l.base (drop l.index l.text) ≡ digit_row_len l.base l.text
