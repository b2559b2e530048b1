use Rattle.std.proofs.Common.{◌≡◌, map, drop}
use Rattle.pyc_ast.specs.ExprView.{expr_of}
use Rattle.pyc_places.specs.Places.{place_of}
use Rattle.pyc_places.specs.States.{type_of_place}
use Rattle.pyc_places.specs.NarrowingView.{narrowing_of}
use Rattle.pyc_places.proofs.narrowings.type_at.Given as goal

-- the narrowings that are left decide
abbrev pub invariant-loop-narrowing : goal.invariant-loop-narrowing
invariant-loop-narrowing l =
    type_of_place (map (λ n. narrowing_of n.value) (drop l.narrowing-index l.narrowings)) (place_of (expr_of l.e))
    ≡ type_of_place (map (λ n. narrowing_of n.value) l.narrowings) (place_of (expr_of l.e))
