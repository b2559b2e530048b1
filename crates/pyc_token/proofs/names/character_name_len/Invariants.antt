use Rattle.std.proofs.Common.{◌≡◌, ◌+◌, length, drop}
use Rattle.std.specs.Str.{chars}
use Rattle.pyc_token.proofs.NameLemmas.{front_len}
use Rattle.pyc_token.proofs.names.character_name_len.Given as goal

abbrev pub invariant-loop-character : goal.invariant-loop-character
invariant-loop-character l = record {
  value : l.len + front_len (drop (length l.yielded) (chars l.text)) ≡ front_len (chars l.text);
}
