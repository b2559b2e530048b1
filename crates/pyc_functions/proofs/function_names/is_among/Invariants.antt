use Rattle.std.proofs.Common.{◌≡◌, drop}
use Rattle.pyc_functions.specs.FunctionNames.{is_among}
use Rattle.pyc_functions.proofs.function_names.is_among.Given as goal

-- the answer is that of the names that are left
abbrev pub invariant-loop-found : goal.invariant-loop-found
invariant-loop-found l = is_among (drop l.found-index l.names) l.name ≡ is_among l.names l.name
