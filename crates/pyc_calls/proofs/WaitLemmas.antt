-- How many classes wait in a walk.
use Rattle.std.proofs.Common.{◌≤◌, ◌<◌, ◌^◌, List, [], ◌∷◌, length, map, reverse, subst, ◌∙◌, arith}
use Rattle.std.proofs.lemmas.List.{length-reverse, length-map}
use Rattle.std.specs.declared.alloc.Global.{Global}
use Rattle.std.specs.declared.vec.Vec.{Vec}
use Rattle.pyc_calls.specs.declared.walks.Waiting.{Waiting as WaitingOf}
use Rattle.pyc_calls.specs.Views.{waiting_of, waiting_in}
use Rattle.pyc_calls.specs.Walks.{Waiting, class_waits, union_waits, classes_waiting}

classes_within : (waiting : List Waiting) → classes_waiting waiting ≤ length waiting
classes_within [] = omega arith
classes_within (class_waits c ∷ waiting) = omega (arith, classes_within waiting)
classes_within (union_waits before items ∷ waiting) = omega (arith, classes_within waiting)

waits_within : (xs : List WaitingOf) → classes_waiting (reverse (map waiting_of xs)) ≤ length xs
waits_within xs =
    subst (λ n. classes_waiting (reverse (map waiting_of xs)) ≤ n) (length-reverse (map waiting_of xs) ∙ length-map xs waiting_of) (classes_within (reverse (map waiting_of xs)))

-- fewer classes wait than fit into a `Vec`
pub waits_small : (v : Vec WaitingOf Global) → classes_waiting (waiting_in v) < 2 ^ 63
waits_small v = omega (arith, waits_within v.items, v.ok.0, v.ok.1, v.small)
