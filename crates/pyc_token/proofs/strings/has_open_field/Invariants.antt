use Rattle.std.proofs.Common.{◌≡◌, drop}
use Rattle.pyc_token.specs.Strings.{has_open_field}
use Rattle.pyc_token.proofs.StringLemmas.{left_open}
use Rattle.pyc_token.proofs.strings.has_open_field.Given as goal

abbrev pub invariant-loop-byte : goal.invariant-loop-byte
invariant-loop-byte l = left_open l.is_open l.follows_brace (drop l.byte-index l.text) ≡ has_open_field l.text
