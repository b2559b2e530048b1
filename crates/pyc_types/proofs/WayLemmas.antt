-- The ways of types, unions and simple rules apart.
use Rattle.std.proofs.Common.{◌≡◌, Bool, true, false, ◌&&◌, ◌||◌, inl, inr, refl, sym, ◌∙◌, ap}
use Rattle.std.proofs.lemmas.Bool.{false≢true, or_cases, or_left, or_right}
use Rattle.pyc_class_ids.specs.declared.class_id.InstanceForm.{InstanceForm}
use Rattle.pyc_class_ids.specs.declared.class_id.InstanceForm.TheVariants as form
use Rattle.pyc_class_ids.specs.Class.{Id}
use Rattle.pyc_class_ids.specs.Mro.{MroTable, is_unknown}
use Rattle.pyc_type_forms.specs.Types.{Ty, Tys, any, none, module_type, instance, class_object, list, dict, tuple, tuple_of, union, callable, nil, cons}
use Rattle.pyc_type_forms.specs.Instances.{instance_in}
use Rattle.pyc_types.specs.declared.ways.Ways.{Ways}
use Rattle.pyc_types.specs.Assignable.{is_union}
use Rattle.pyc_types.specs.Cross.{goes_to_some}
use Rattle.pyc_types.specs.Pairs.{both}
use Rattle.pyc_types.specs.Ways.{is_simple, with_simple, none_rule, instance_rule, list_rule, dict_rule, gathered, all_back, tuple_rule, tuple_of_rule, callable_rule, into, into_items, form_ways, class_rule, back_to, all_back_to, ways, ways_of, params_ways_of, own_rule}

-- ---- into a union

module _ (o : MroTable) (a : Ty) (rule : Ty → Ways) where
  -- the simple rules lead there, whatever the form
  pub into_there : (b : Ty) → is_simple o a b ≡ true → (into o a rule b).there ≡ true
  into_there any h = or_right _ _ h
  into_there none h = or_right _ _ h
  into_there (module_type m) h = or_right _ _ h
  into_there (instance d) h = or_right _ _ h
  into_there (class_object d) h = or_right _ _ h
  into_there (list y) h = or_right _ _ h
  into_there (dict l w) h = or_right _ _ h
  into_there (tuple ys) h = or_right _ _ h
  into_there (tuple_of y) h = or_right _ _ h
  into_there (union ys) h = or_right _ _ h
  into_there (callable qs s) h = or_right _ _ h

  -- and back
  pub into_back : (b : Ty) → is_simple o b a ≡ true → (into o a rule b).back ≡ true
  into_back any h = or_right _ _ h
  into_back none h = or_right _ _ h
  into_back (module_type m) h = or_right _ _ h
  into_back (instance d) h = or_right _ _ h
  into_back (class_object d) h = or_right _ _ h
  into_back (list y) h = or_right _ _ h
  into_back (dict l w) h = or_right _ _ h
  into_back (tuple ys) h = or_right _ _ h
  into_back (tuple_of y) h = or_right _ _ h
  into_back (union ys) h = or_right _ _ h
  into_back (callable qs s) h = or_right _ _ h

  -- a type goes into the items of a union where it goes into one
  pub items_there : (bs : Tys) → (into_items o a rule bs).there ≡ goes_to_some (into o a rule) bs
  items_there nil = refl
  items_there (cons b bs) = ap (λ rest. (into o a rule b).there || rest) (items_there bs)

  -- and they go back where each does
  pub items_back : (bs : Tys) → (into_items o a rule bs).back ≡ all_back (into o a rule) bs
  items_back nil = refl
  items_back (cons b bs) = ap (λ rest. (into o a rule b).back && rest) (items_back bs)

  -- into a type that is no union by the rule
  pub into_other : (b : Ty) → is_union b ≡ false → into o a rule b ≡ with_simple o a b (rule b)
  into_other any other = refl
  into_other none other = refl
  into_other (module_type m) other = refl
  into_other (instance d) other = refl
  into_other (class_object d) other = refl
  into_other (list y) other = refl
  into_other (dict l w) other = refl
  into_other (tuple ys) other = refl
  into_other (tuple_of y) other = refl
  into_other (union ys) other = absurd (false≢true (sym other))
  into_other (callable qs s) other = refl

-- into a union by its items
pub into_union : (o : MroTable) (a : Ty) (rule : Ty → Ways) (b : Ty) (bs : Tys) → b ≡ union bs → into o a rule b ≡ with_simple o a b (into_items o a rule bs)
into_union o a rule b bs is = rw is refl

-- whether a type is neither Any nor a union
abbrev pub is_whole : Ty → Bool
is_whole any = false
is_whole none = true
is_whole (module_type m) = true
is_whole (instance c) = true
is_whole (class_object c) = true
is_whole (list x) = true
is_whole (dict k v) = true
is_whole (tuple xs) = true
is_whole (tuple_of x) = true
is_whole (union xs) = false
is_whole (callable ps r) = true

-- the ways of such a type are those of its own rule, into unions
pub ways_whole : (o : MroTable) (a : Ty) → is_whole a ≡ true → ways o a ≡ into o a (own_rule o a)
ways_whole o any whole = absurd (false≢true whole)
ways_whole o none whole = refl
ways_whole o (module_type m) whole = refl
ways_whole o (instance c) whole = refl
ways_whole o (class_object c) whole = refl
ways_whole o (list x) whole = refl
ways_whole o (dict k v) whole = refl
ways_whole o (tuple xs) whole = refl
ways_whole o (tuple_of x) whole = refl
ways_whole o (union xs) whole = absurd (false≢true whole)
ways_whole o (callable ps r) whole = refl

-- the simple rules lead there
pub simple_there : (o : MroTable) (a b : Ty) → is_simple o a b ≡ true → (ways o a b).there ≡ true
simple_there o any b h = refl
simple_there o (union xs) b h = or_right _ _ h
simple_there o none b h = into_there o none none_rule b h
simple_there o (module_type m) b h = into_there o (module_type m) (λ b. both false false) b h
simple_there o (instance c) b h = into_there o (instance c) (instance_rule o c) b h
simple_there o (class_object c) b h = into_there o (class_object c) (class_rule o c) b h
simple_there o (list x) b h = into_there o (list x) (list_rule (ways o x)) b h
simple_there o (dict k v) b h = into_there o (dict k v) (dict_rule (ways o k) (ways o v)) b h
simple_there o (tuple xs) b h = into_there o (tuple xs) (tuple_rule (ways_of o xs)) b h
simple_there o (tuple_of x) b h = into_there o (tuple_of x) (tuple_of_rule (ways o x)) b h
simple_there o (callable ps r) b h = into_there o (callable ps r) (callable_rule o ps (params_ways_of o ps) (ways o r)) b h

-- the simple rules lead back to a union
back_to_simple : (o : MroTable) (ys : Tys) (a : Ty) → is_simple o a (union ys) ≡ true → back_to o (ways_of o ys) a ≡ true
back_to_simple o ys any h = refl
back_to_simple o ys (instance c) h = elim (or_cases (is_unknown (o c)) false h) [ inl u ↦ or_right _ _ u | inr n ↦ absurd (false≢true n) ]
back_to_simple o ys none h = absurd (false≢true h)
back_to_simple o ys (module_type m) h = absurd (false≢true h)
back_to_simple o ys (class_object c) h = absurd (false≢true h)
back_to_simple o ys (list x) h = absurd (false≢true h)
back_to_simple o ys (dict k v) h = absurd (false≢true h)
back_to_simple o ys (tuple xs) h = absurd (false≢true h)
back_to_simple o ys (tuple_of x) h = absurd (false≢true h)
back_to_simple o ys (union xs) h = absurd (false≢true h)
back_to_simple o ys (callable ps r) h = absurd (false≢true h)

-- the simple rules lead back
pub simple_back : (o : MroTable) (a b : Ty) → is_simple o a b ≡ true → (ways o b a).back ≡ true
simple_back o a any h = refl
simple_back o a (union ys) h = back_to_simple o ys a h
simple_back o a none h = into_back o none none_rule a h
simple_back o a (module_type m) h = into_back o (module_type m) (λ b. both false false) a h
simple_back o a (instance c) h = into_back o (instance c) (instance_rule o c) a h
simple_back o a (class_object c) h = into_back o (class_object c) (class_rule o c) a h
simple_back o a (list x) h = into_back o (list x) (list_rule (ways o x)) a h
simple_back o a (dict k v) h = into_back o (dict k v) (dict_rule (ways o k) (ways o v)) a h
simple_back o a (tuple xs) h = into_back o (tuple xs) (tuple_rule (ways_of o xs)) a h
simple_back o a (tuple_of x) h = into_back o (tuple_of x) (tuple_of_rule (ways o x)) a h
simple_back o a (callable ps r) h = into_back o (callable ps r) (callable_rule o ps (params_ways_of o ps) (ways o r)) a h

-- each type of a row goes back to the items of a union where each does by itself
pub backs_to : (o : MroTable) (ys xs : Tys) → all_back_to o (ways_of o ys) xs ≡ all_back (ways o (union ys)) xs
backs_to o ys nil = refl
backs_to o ys (cons x xs) = ap (λ rest. back_to o (ways_of o ys) x && rest) (backs_to o ys xs)

-- a union goes back to a type where each of its items does
pub union_back : (o : MroTable) (b : Ty) (xs : Tys) → all_back (ways o b) xs ≡ true → (ways o b (union xs)).back ≡ true
union_back o any bs h = refl
union_back o (union ys) bs h = backs_to o ys bs ∙ h
union_back o none bs h = or_left _ _ (items_back o none none_rule bs ∙ h)
union_back o (module_type m) bs h = or_left _ _ (items_back o (module_type m) (λ b. both false false) bs ∙ h)
union_back o (instance c) bs h = or_left _ _ (items_back o (instance c) (instance_rule o c) bs ∙ h)
union_back o (class_object c) bs h = or_left _ _ (items_back o (class_object c) (class_rule o c) bs ∙ h)
union_back o (list x) bs h = or_left _ _ (items_back o (list x) (list_rule (ways o x)) bs ∙ h)
union_back o (dict k v) bs h = or_left _ _ (items_back o (dict k v) (dict_rule (ways o k) (ways o v)) bs ∙ h)
union_back o (tuple xs) bs h = or_left _ _ (items_back o (tuple xs) (tuple_rule (ways_of o xs)) bs ∙ h)
union_back o (tuple_of x) bs h = or_left _ _ (items_back o (tuple_of x) (tuple_of_rule (ways o x)) bs ∙ h)
union_back o (callable ps r) bs h = or_left _ _ (items_back o (callable ps r) (callable_rule o ps (params_ways_of o ps) (ways o r)) bs ∙ h)

-- a type that is no union goes to a union where it goes to some item
pub union_there : (o : MroTable) (a : Ty) (ys : Tys) → is_union a ≡ false → goes_to_some (ways o a) ys ≡ true → (ways o a (union ys)).there ≡ true
union_there o any ys plain h = refl
union_there o (union xs) ys plain h = absurd (false≢true (sym plain))
union_there o none ys plain h = or_left _ _ (items_there o none none_rule ys ∙ h)
union_there o (module_type m) ys plain h = or_left _ _ (items_there o (module_type m) (λ b. both false false) ys ∙ h)
union_there o (instance c) ys plain h = or_left _ _ (items_there o (instance c) (instance_rule o c) ys ∙ h)
union_there o (class_object c) ys plain h = or_left _ _ (items_there o (class_object c) (class_rule o c) ys ∙ h)
union_there o (list x) ys plain h = or_left _ _ (items_there o (list x) (list_rule (ways o x)) ys ∙ h)
union_there o (dict k v) ys plain h = or_left _ _ (items_there o (dict k v) (dict_rule (ways o k) (ways o v)) ys ∙ h)
union_there o (tuple xs) ys plain h = or_left _ _ (items_there o (tuple xs) (tuple_rule (ways_of o xs)) ys ∙ h)
union_there o (tuple_of x) ys plain h = or_left _ _ (items_there o (tuple_of x) (tuple_of_rule (ways o x)) ys ∙ h)
union_there o (callable ps r) ys plain h = or_left _ _ (items_there o (callable ps r) (callable_rule o ps (params_ways_of o ps) (ways o r)) ys ∙ h)

-- a type that is no union goes back to a union where some item takes it
pub some_back : (o : MroTable) (a : Ty) (ys : Tys) → is_union a ≡ false → (gathered (ways_of o ys) a).back ≡ true → (ways o (union ys) a).back ≡ true
some_back o any ys plain h = refl
some_back o (instance c) ys plain h = or_left _ _ h
some_back o (union xs) ys plain h = absurd (false≢true (sym plain))
some_back o none ys plain h = h
some_back o (module_type m) ys plain h = h
some_back o (class_object c) ys plain h = h
some_back o (list x) ys plain h = h
some_back o (dict k v) ys plain h = h
some_back o (tuple xs) ys plain h = h
some_back o (tuple_of x) ys plain h = h
some_back o (callable ps r) ys plain h = h

-- the instances of a class, by its form
pub made_by_form : (o : MroTable) (f : InstanceForm) (c : Id) (b : Ty) → form_ways o f c b ≡ ways o (instance_in f c) b
made_by_form o form.List c b = refl
made_by_form o form.Dict c b = refl
made_by_form o form.Tuple c b = refl
made_by_form o form.Plain c b = refl
