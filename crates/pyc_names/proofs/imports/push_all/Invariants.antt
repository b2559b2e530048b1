use Rattle.std.proofs.Common.{◌≡◌, ◌++◌, drop}
use Rattle.pyc_names.proofs.imports.push_all.Given as goal

-- what was added, with the texts that are left, is the whole
abbrev pub invariant-loop-text : goal.invariant-loop-text
invariant-loop-text l = l.out.items ++ drop l.text-index l.texts ≡ l.fn.out.items ++ l.texts
