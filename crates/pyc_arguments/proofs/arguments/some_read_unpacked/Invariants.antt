use Rattle.std.proofs.Common.{◌≡◌, drop}
use Rattle.std.specs.List.{list_any}
use Rattle.pyc_arguments.specs.Arguments.{is_unpacked}
use Rattle.pyc_arguments.proofs.arguments.some_read_unpacked.Given as goal

-- the arguments that are left decide
abbrev pub invariant-loop-argument : goal.invariant-loop-argument
invariant-loop-argument l = list_any (λ x. is_unpacked x.kind) (drop l.argument-index l.arguments) ≡ list_any (λ x. is_unpacked x.kind) l.arguments
