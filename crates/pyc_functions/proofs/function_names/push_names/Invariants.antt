use Rattle.std.proofs.Common.{◌≡◌, ◌++◌, drop}
use Rattle.pyc_functions.proofs.function_names.push_names.Given as goal

-- the names so far, with those that are left, are all
abbrev pub invariant-loop-name : goal.invariant-loop-name
invariant-loop-name l = l.names.items ++ drop l.name-index l.more ≡ l.fn.names.items ++ l.more
