use Rattle.std.proofs.Common.{◌≡◌, ◌≤◌, ◌&&◌, ℕ, List, length, map, drop, bytes_eq}
use Rattle.std.specs.List.{position_from}
use Rattle.indexmap.specs.IndexMap.{get_by}
use Rattle.pyc_members.specs.Attributes.{SelfAttribute}
use Rattle.pyc_members.specs.AttributePlaces.{is_of_kind}
use Rattle.pyc_members.specs.AttributeView.{attribute_of}
use Rattle.pyc_members.proofs.attribute_places.attribute_places.Given as goal

-- the names of the attributes from this one on are placed
abbrev pub invariant-loop-left : goal.invariant-loop-left
invariant-loop-left l =
    record {
      within : l.left ≤ length l.attributes;
      placed : (n : List ℕ)
          → get_by (bytes_eq n) l.places
          ≡ position_from (λ (a : SelfAttribute). bytes_eq a.name n && is_of_kind l.are_annotated a.form) l.left
          (map attribute_of (drop l.left l.attributes));
    }

abbrev pub decreases-loop-left : goal.decreases-loop-left
decreases-loop-left l = l.left
