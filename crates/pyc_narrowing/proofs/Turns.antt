-- One turn of the loop over the items of a tuple of class objects.
use Rattle.std.proofs.Common.{◌≡◌, ℕ, ◌+◌, ◌<◌, List, [], ◌∷◌, ◌++◌, length, map, drop, get_or, Option, None, Some, refl, ap, sym, ◌∙◌}
use Rattle.pyc_ast.specs.declared.expr.Element.{Element}
use Rattle.pyc_ast.specs.Exprs.{elements}
use Rattle.pyc_ast.specs.ExprView.{element_of}
use Rattle.pyc_class_ids.specs.Class.{Id}
use Rattle.pyc_narrowing.specs.Splitting.{InferOperand, item_class, if_class, more_classes}
use Rattle.pyc_places.specs.States.{State}
use Rattle.pyc_reading.proofs.RunLemmas.{one_turn}
use Rattle.pyc_reading.specs.Traces.{Trace, run}
use Rattle.pyc_reading.specs.Readings.{and_then}

more_class : (look : InferOperand) (s : State) (found : List Id) (x : Element) (xs : List Element)
    → more_classes look s found (elements (map element_of (x ∷ xs)))
    ≡ and_then (item_class look s (element_of x)) (λ class. if_class class (λ c. more_classes look s (found ++ (c ∷ [])) (elements (map element_of xs))))
unfolding more_classes
more_class look s found x xs = refl

turned : (look : InferOperand) (s : State) (found : List Id) (xs : List Element) (i : ℕ) (x : Element) (class : Option Id) (trace middle : Trace)
    → i < length xs → x ≡ get_or xs i x → run (item_class look s (element_of x)) trace ≡ (class, middle)
    → run (more_classes look s found (elements (map element_of (drop i xs)))) trace
    ≡ run (if_class class (λ c. more_classes look s (found ++ (c ∷ [])) (elements (map element_of (drop (i + 1) xs))))) middle
turned look s found xs i x class trace middle within is first =
    one_turn (λ l. more_classes look s found (elements (map element_of l))) (λ y. item_class look s (element_of y))
    (λ a l. if_class a (λ c. more_classes look s (found ++ (c ∷ [])) (elements (map element_of l)))) (more_class look s found) xs i x trace middle class within is first

-- the loop goes on after a class
pub class_turn : (look : InferOperand) (s : State) (found more : List Id) (xs : List Element) (i : ℕ) (x : Element) (c : Id) (trace middle : Trace)
    → i < length xs → x ≡ get_or xs i x → run (item_class look s (element_of x)) trace ≡ (Some c, middle) → more ≡ found ++ (c ∷ [])
    → run (more_classes look s more (elements (map element_of (drop (i + 1) xs)))) middle ≡ run (more_classes look s found (elements (map element_of (drop i xs)))) trace
class_turn look s found more xs i x c trace middle within is first pushed =
    ap (λ l. run (more_classes look s l (elements (map element_of (drop (i + 1) xs)))) middle) pushed
    ∙ sym (turned look s found xs i x (Some c) trace middle within is first)

-- and ends where an item is no class object
pub last_turn : (look : InferOperand) (s : State) (found : List Id) (xs : List Element) (i : ℕ) (x : Element) (trace middle : Trace)
    → i < length xs → x ≡ get_or xs i x → run (item_class look s (element_of x)) trace ≡ (None, middle)
    → run (more_classes look s found (elements (map element_of (drop i xs)))) trace ≡ (None, middle)
last_turn look s found xs i x trace middle within is first = turned look s found xs i x None trace middle within is first
