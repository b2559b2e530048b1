-- What is noted, one step after another.
use Rattle.std.proofs.Common.{◌≡◌, ℕ, ◌+◌, ◌<◌, ◌≤◌, List, ◌++◌, map, take, drop, length, get_or, flat_map, sym, ap, ap₂, ◌∙◌, add-one}
use Rattle.pyc_interfaces.proofs.ChangedRows.{drop_next, drop_past}
use Rattle.pyc_bindings.specs.BindingView.{binding_of}
use Rattle.pyc_bindings.specs.declared.binding.Binding.{Binding as BindingOf}
use Rattle.pyc_interfaces.specs.ChangedLooks.{presence_change, presence_changes, looks_alone, binding_name, attribute_name, binding_changes, attribute_changes, class_name, class_looks, body_changes}
use Rattle.pyc_interfaces.specs.SameInterfaces.{same_binding, same_attribute}
use Rattle.pyc_members.specs.AttributeView.{attribute_of}
use Rattle.pyc_members.specs.DeclaredClassView.{declared_class_of}
use Rattle.pyc_members.specs.declared.attribute.SelfAttribute.{SelfAttribute as SelfAttributeOf}
use Rattle.pyc_members.specs.declared.declared_class.DeclaredClass.{DeclaredClass as ClassOf}
use Rattle.pyc_names.specs.Following.{QualifiedName}
use Rattle.pyc_names.specs.Interfaces.{Interface}
use Rattle.pyc_names.specs.Looks.{Look, of_member}
use Rattle.pyc_names.specs.NotedLooks.{Noted, with_looks}
use Rattle.pyc_names.proofs.NotedLemmas.{with_none, with_both}

-- looks after others
pub both_noted : (old one two : Noted) (looks more : List Look) → one ≡ with_looks old looks → two ≡ with_looks one more
    → two ≡ with_looks old (looks ++ more)
both_noted old one two looks more one_is two_is =
    two_is ∙ (ap (λ z. with_looks z more) one_is ∙ with_both old looks more)

module _ {X Y : Type 0} (f : X → Y) (looks_of : Y → List Look) where
  -- the looks of one more
  pub each_noted : (old new whole : Noted) (xs : List X) (i : ℕ) (x : X) → i < length xs → x ≡ get_or xs i x
      → new ≡ with_looks old (looks_of (f x)) → with_looks old (flat_map looks_of (map f (drop i xs))) ≡ whole
      → with_looks new (flat_map looks_of (map f (drop (i + 1) xs))) ≡ whole
  each_noted old new whole xs i x within is new_is so_far =
      ap (λ z. with_looks z (flat_map looks_of (map f (drop (i + 1) xs)))) new_is
      ∙ (with_both old (looks_of (f x)) (flat_map looks_of (map f (drop (i + 1) xs)))
      ∙ (ap (λ l. with_looks old (flat_map looks_of (map f l))) (drop_next i xs x within is) ∙ so_far))

  -- those of all
  pub all_noted : (noted whole : Noted) (xs : List X) (i : ℕ) → length xs ≤ i
      → with_looks noted (flat_map looks_of (map f (drop i xs))) ≡ whole → noted ≡ whole
  all_noted noted whole xs i past so_far =
      sym (with_none noted)
      ∙ (ap (λ l. with_looks noted (flat_map looks_of (map f l))) (sym (drop_past i xs past)) ∙ so_far)

-- the module of one part more
pub presence_noted : (files others : List Interface) (first old new : Noted) (m : List (List ℕ)) (n : ℕ)
    → old ≡ with_looks first (presence_changes files others m n)
    → new ≡ with_looks old (presence_change files others (take n m))
    → new ≡ with_looks first (presence_changes files others m (n + 1))
presence_noted files others first old new m n old_is new_is =
    rw add-one (both_noted first old new (presence_changes files others m n) (presence_change files others (take n m)) old_is new_is)

-- ---- classes

-- all that a class has of its own
pub class_noted : (old one two : Noted) (m : List (List ℕ)) (class : ClassOf) (bs : List BindingOf) (ats : List SelfAttributeOf)
    → bs ≡ class.body.bindings.items → ats ≡ class.body.attributes.items
    → one ≡ with_looks old (looks_alone binding_name same_binding (of_member (class_name m (declared_class_of class))) (map binding_of bs))
    → two ≡ with_looks one (looks_alone attribute_name same_attribute (of_member (class_name m (declared_class_of class))) (map attribute_of ats))
    → two ≡ with_looks old (class_looks m (declared_class_of class))
class_noted old one two m class bs ats bs_are ats_are one_is two_is =
    both_noted old one two _ _
    (one_is ∙ ap (λ (l : List BindingOf). with_looks old (looks_alone binding_name same_binding (of_member (class_name m (declared_class_of class))) (map binding_of l))) bs_are)
    (two_is ∙ ap (λ (l : List SelfAttributeOf). with_looks one (looks_alone attribute_name same_attribute (of_member (class_name m (declared_class_of class))) (map attribute_of l))) ats_are)

-- what differs between two classes of one name
pub body_noted : (old one two : Noted) (c : QualifiedName) (class other : ClassOf) (bs ds : List BindingOf) (ats es : List SelfAttributeOf)
    → bs ≡ class.body.bindings.items → ds ≡ other.body.bindings.items → ats ≡ class.body.attributes.items
    → es ≡ other.body.attributes.items
    → one ≡ with_looks old (binding_changes (of_member c) (map binding_of bs) (map binding_of ds))
    → two ≡ with_looks one (attribute_changes (of_member c) (map attribute_of ats) (map attribute_of es))
    → two ≡ with_looks old (body_changes c (declared_class_of class).body (declared_class_of other).body)
body_noted old one two c class other bs ds ats es bs_are ds_are ats_are es_are one_is two_is =
    both_noted old one two _ _
    (one_is ∙ ap₂ (λ (l k : List BindingOf). with_looks old (binding_changes (of_member c) (map binding_of l) (map binding_of k))) bs_are ds_are)
    (two_is ∙ ap₂ (λ (l k : List SelfAttributeOf). with_looks one (attribute_changes (of_member c) (map attribute_of l) (map attribute_of k))) ats_are es_are)
