use Rattle.std.proofs.Common.{◌≡◌, drop}
use Rattle.pyc_names.specs.LookNumbers.{with_texts}
use Rattle.pyc_names.proofs.looks.with_texts.Given as goal

-- the number so far, with the texts that are left, is the whole
abbrev pub invariant-loop-text : goal.invariant-loop-text
invariant-loop-text l = with_texts l.found (drop l.text-index l.texts) ≡ with_texts l.number l.texts
