use Rattle.std.proofs.Common.{◌≡◌, string_bytes}
use Rattle.pyc_imports.specs.ImportReadings.{dots}
use Rattle.pyc_imports.proofs.texts.dots_text.Given as goal

-- as many dots as turns
abbrev pub invariant-loop-dot : goal.invariant-loop-dot
invariant-loop-dot l = string_bytes l.text ≡ dots l.dot
