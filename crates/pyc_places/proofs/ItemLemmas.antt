-- Unions of a type with itself.
use Rattle.std.proofs.Common.{◌≡◌, Bool, true, false, ◌||◌, if◌then◌else◌, List, [], ◌∷◌, refl, ap}
use Rattle.pyc_type_forms.specs.Types.{Ty, any, none, module_type, instance, class_object, list, dict, tuple, tuple_of, union, callable}
use Rattle.pyc_type_forms.specs.Unions.{union_of, joined, any_if_too_large}
use Rattle.pyc_places.specs.Joining.{are_one_item}

-- the union of an item with itself is the item
pub one_item : (a b : Ty) → are_one_item a b ≡ true → union_of (a ∷ b ∷ []) ≡ a
one_item any any h = refl
one_item any none h = cc
one_item any (module_type m) h = cc
one_item any (instance d) h = cc
one_item any (class_object d) h = cc
one_item any (list y) h = cc
one_item any (dict k v) h = cc
one_item any (tuple ys) h = cc
one_item any (tuple_of y) h = cc
one_item any (union ys) h = cc
one_item any (callable ps r) h = cc
one_item none any h = cc
one_item none none h = refl
one_item none (module_type m) h = cc
one_item none (instance d) h = cc
one_item none (class_object d) h = cc
one_item none (list y) h = cc
one_item none (dict k v) h = cc
one_item none (tuple ys) h = cc
one_item none (tuple_of y) h = cc
one_item none (union ys) h = cc
one_item none (callable ps r) h = cc
one_item (module_type m) b h = cc
one_item (instance c) any h = cc
one_item (instance c) none h = cc
one_item (instance c) (module_type m) h = cc
one_item (instance c) (instance d) h = ap (λ b. any_if_too_large (joined (if b || false then (instance c ∷ []) else (instance c ∷ instance d ∷ [])))) h
one_item (instance c) (class_object d) h = cc
one_item (instance c) (list y) h = cc
one_item (instance c) (dict k v) h = cc
one_item (instance c) (tuple ys) h = cc
one_item (instance c) (tuple_of y) h = cc
one_item (instance c) (union ys) h = cc
one_item (instance c) (callable ps r) h = cc
one_item (class_object c) b h = cc
one_item (list x) b h = cc
one_item (dict k v) b h = cc
one_item (tuple xs) b h = cc
one_item (tuple_of x) b h = cc
one_item (union xs) b h = cc
one_item (callable ps r) b h = cc
