-- Where the first attribute of each name stands that is annotated, and the first that is not.
use Rattle.std.specs.Prelude.{ℕ, Bool, true, false, not, ◌&&◌, bytes_eq, List, Option}
use Rattle.std.specs.List.{find, position_from}
use Rattle.pyc_members.specs.Attributes.{SelfAttribute, AttributeForm}
use Rattle.pyc_members.specs.ClassBodies.{is_annotated}

-- whether an attribute is annotated, or whether it is not
abbrev pub is_of_kind : Bool → AttributeForm → Bool
is_of_kind true form = is_annotated form
is_of_kind false form = not (is_annotated form)

-- the place of the first of a name among those that are annotated, or among those that are not
abbrev pub attribute_place : Bool → List SelfAttribute → List ℕ → Option ℕ
attribute_place are attributes name = position_from (λ a. bytes_eq a.name name && is_of_kind are a.form) 0 attributes

-- that attribute
abbrev pub first_attribute : Bool → List SelfAttribute → List ℕ → Option SelfAttribute
first_attribute are attributes name = find (λ a. bytes_eq a.name name && is_of_kind are a.form) attributes
