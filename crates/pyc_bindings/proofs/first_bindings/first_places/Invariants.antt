use Rattle.std.proofs.Common.{◌≡◌, ◌≤◌, ℕ, List, length, map, drop, bytes_eq}
use Rattle.std.specs.List.{position_from}
use Rattle.indexmap.specs.IndexMap.{get_by}
use Rattle.pyc_bindings.specs.Bindings.{Binding}
use Rattle.pyc_bindings.specs.BindingView.{binding_of}
use Rattle.pyc_bindings.proofs.first_bindings.first_places.Given as goal

-- the names of the bindings from this one on are placed
abbrev pub invariant-loop-left : goal.invariant-loop-left
invariant-loop-left l =
    record {
      within : l.left ≤ length l.bindings;
      placed : (n : List ℕ)
          → get_by (bytes_eq n) l.places
          ≡ position_from (λ (b : Binding). bytes_eq b.name n) l.left (map binding_of (drop l.left l.bindings));
    }

abbrev pub decreases-loop-left : goal.decreases-loop-left
decreases-loop-left l = l.left
