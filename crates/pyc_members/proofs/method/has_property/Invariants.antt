use Rattle.std.proofs.Common.{◌≡◌, map, drop}
use Rattle.pyc_ast.specs.ExprView.{expr_of}
use Rattle.pyc_members.specs.Methods.{has_property}
use Rattle.pyc_members.proofs.method.has_property.Given as goal

-- the answer is that of the decorators that are left
abbrev pub invariant-loop-found : goal.invariant-loop-found
invariant-loop-found l =
    has_property (map expr_of (drop l.found-index l.decorators)) ≡ has_property (map expr_of l.decorators)
