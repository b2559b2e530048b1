-- Copies of narrowings.
use Rattle.std.proofs.Common.{◌≡◌, List, [], ◌∷◌, map, refl, ap, ◌∙◌}
use Rattle.std.specs.declared.alloc.Global.{Global}
use Rattle.std.specs.declared.rc.Rc.{Rc}
use Rattle.std.specs.List.{AllZip}
use Rattle.pyc_places.specs.declared.narrowings.Narrowing.{Narrowing as NarrowingOf}
use Rattle.pyc_places.specs.States.{Narrowing}
use Rattle.pyc_places.specs.NarrowingView.{narrowing_of}

-- narrowings that are shared are the same
pub shared_same : (xs ys : List (Rc NarrowingOf Global)) → AllZip (λ x y. y.value ≡ x.value) xs ys
    → map (λ n. narrowing_of n.value) ys ≡ map (λ n. narrowing_of n.value) xs
shared_same [] [] same = refl
shared_same [] (y ∷ ys) same = absurd same
shared_same (x ∷ xs) [] same = absurd same
shared_same (x ∷ xs) (y ∷ ys) same =
    ap (λ n. narrowing_of n ∷ map (λ n. narrowing_of n.value) ys) same.0 ∙ ap (λ (l : List Narrowing). narrowing_of x.value ∷ l) (shared_same xs ys same.1)
