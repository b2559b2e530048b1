use Rattle.std.proofs.Common.{◌≡◌, ◌≤◌, length, map, drop}
use Rattle.pyc_bindings.specs.BindingView.{binding_of}
use Rattle.pyc_members.specs.DeclaredClasses.{first_place}
use Rattle.pyc_members.specs.DeclaredClassView.{places_in}
use Rattle.pyc_members.proofs.declared_class.first_places.Given as goal

-- the bindings from this one on are placed
abbrev pub invariant-loop-left : goal.invariant-loop-left
invariant-loop-left l =
    record {
      within : l.left ≤ length l.bindings;
      placed : places_in l.places ≡ first_place (map binding_of (drop l.left l.bindings));
    }

abbrev pub decreases-loop-left : goal.decreases-loop-left
decreases-loop-left l = l.left
