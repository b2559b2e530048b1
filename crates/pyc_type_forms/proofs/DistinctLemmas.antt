-- The classes whose instances stand among some types, one type more.
use Rattle.std.proofs.Common.{◌≡◌, Bool, true, false, cond, ◌||◌, List, [], ◌∷◌, ◌++◌, refl, sym, ap, ◌∙◌}
use Rattle.std.proofs.Math.Bool.{or-false, or_assoc}
use Rattle.pyc_class_ids.specs.Class.{Id, same_class}
use Rattle.pyc_type_forms.specs.Equality.{same_type}
use Rattle.pyc_type_forms.specs.Types.{Ty, any, none, module_type, instance, class_object, list, dict, tuple, tuple_of, union, callable}
use Rattle.pyc_type_forms.specs.Unions.{is_among, with_item}
use Rattle.std.proofs.lemmas.Bool.{false≢true}

-- whether a type is the instances of a class
abbrev pub is_instance : Ty → Bool
is_instance (instance c) = true
is_instance any = false
is_instance none = false
is_instance (module_type m) = false
is_instance (class_object c) = false
is_instance (list x) = false
is_instance (dict k v) = false
is_instance (tuple xs) = false
is_instance (tuple_of x) = false
is_instance (union xs) = false
is_instance (callable ps r) = false

-- other types are no instances
other_form : (t : Ty) (c : Id) → is_instance t ≡ false → same_type t (instance c) ≡ false
other_form (instance d) c other = absurd (false≢true (sym other))
other_form any c other = refl
other_form none c other = refl
other_form (module_type m) c other = refl
other_form (class_object d) c other = refl
other_form (list x) c other = refl
other_form (dict k v) c other = refl
other_form (tuple xs) c other = refl
other_form (tuple_of x) c other = refl
other_form (union xs) c other = refl
other_form (callable ps r) c other = refl

-- whether a type is among some and one more
among_more : (kept : List Ty) (t u : Ty) → is_among (kept ++ t ∷ []) u ≡ (is_among kept u || same_type t u)
among_more [] t u = or-false (same_type t u)
among_more (x ∷ kept) t u =
    ap (λ rest. same_type x u || rest) (among_more kept t u) ∙ sym (or_assoc (same_type x u) (is_among kept u) (same_type t u))

-- a type that is no instance adds none
other_with : (kept : List Ty) (t : Ty) (c : Id) (there : Bool) → is_instance t ≡ false
    → is_among (cond there kept (kept ++ t ∷ [])) (instance c) ≡ is_among kept (instance c)
other_with kept t c true other = refl
other_with kept t c false other =
    among_more kept t (instance c) ∙ ap (λ b. is_among kept (instance c) || b) (other_form t c other) ∙ or-false _

pub other_kept : (kept : List Ty) (t : Ty) (c : Id) → is_instance t ≡ false → is_among (with_item kept t) (instance c) ≡ is_among kept (instance c)
other_kept kept t c other = other_with kept t c (is_among kept t) other

-- a class that is there adds no type
pub known_kept : (kept : List Ty) (t : Ty) → is_among kept t ≡ true → kept ≡ with_item kept t
known_kept kept t there = sym (ap (λ b. cond b kept (kept ++ t ∷ [])) there)

-- one that is not there adds its instances
pub new_kept : (kept kept' : List Ty) (t : Ty) → kept' ≡ kept ++ t ∷ [] → is_among kept t ≡ false → kept' ≡ with_item kept t
new_kept kept kept' t added missing = added ∙ sym (ap (λ b. cond b kept (kept ++ t ∷ [])) missing)

or_cond : (b there : Bool) → cond b true there ≡ (there || b)
or_cond true true = refl
or_cond true false = refl
or_cond false there = sym (or-false there)

-- and then the class is there
pub new_class : (kept kept' : List Ty) (c noted d : Id) (before after : Bool) → noted ≡ c → before ≡ is_among kept (instance d)
    → after ≡ cond (same_class noted d) true before → kept' ≡ kept ++ instance c ∷ [] → after ≡ is_among kept' (instance d)
new_class kept kept' c noted d before after copy was is added =
    is ∙ ap (λ e. cond (same_class e d) true before) copy ∙ or_cond (same_class c d) before ∙ ap (λ b. b || same_class c d) was
    ∙ sym (among_more kept (instance c) (instance d)) ∙ ap (λ l. is_among l (instance d)) (sym added)
