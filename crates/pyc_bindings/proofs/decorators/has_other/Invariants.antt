use Rattle.std.proofs.Common.{◌≡◌, map, drop}
use Rattle.pyc_ast.specs.ExprView.{expr_of}
use Rattle.pyc_bindings.specs.Decorators.{has_other}
use Rattle.pyc_bindings.proofs.decorators.has_other.Given as goal

-- the answer is that of the decorators that are left
abbrev pub invariant-loop-found : goal.invariant-loop-found
invariant-loop-found l = has_other (map expr_of (drop l.found-index l.decorators)) ≡ has_other (map expr_of l.decorators)
