-- Types and answers that are reported as one are equal, and each is reported as one with itself.
use Rattle.std.proofs.Common.{◌≡◌, ℕ, Bool, true, false, ◌&&◌, ◌==◌, List, [], ◌∷◌, Option, None, Some, bytes_eq, if◌then◌else◌, refl, sym, ap, ap₂, subst, ◌∙◌}
use Rattle.std.proofs.lemmas.Bool.{and_parts, eqb-true, false≢true}
use Rattle.std.proofs.lemmas.Slice.Eq.{bytes_eq-Decides, slice_eq-Decides}
use Rattle.std.specs.Bool.{beq}
use Rattle.std.specs.Cmp.{nat_eq_equiv}
use Rattle.std.specs.Cmp.Lexicographic.{pointwise, pointwise_decides}
use Rattle.std.specs.Prelude.{Decides}
use Rattle.pyc_class_ids.specs.BuiltinClasses.{number_of}
use Rattle.pyc_class_ids.specs.Class.{Id, builtin, user, same_class}
use Rattle.pyc_class_ids.specs.ClassEquality.{same_class_equiv}
use Rattle.pyc_class_ids.specs.declared.builtin_class.BuiltinClass.{BuiltinClass}
use Rattle.pyc_class_ids.specs.declared.builtin_class.BuiltinClass.TheVariants as class
use Rattle.pyc_class_ids.specs.declared.order.UnknownMro.{UnknownMro}
use Rattle.pyc_class_ids.specs.declared.order.UnknownMro.TheVariants as reason
use Rattle.pyc_class_ids.specs.Mro.{Mro}
use Rattle.pyc_names.specs.declared.fixed.FixedName.{FixedName}
use Rattle.pyc_names.specs.declared.fixed.FixedName.TheVariants as name
use Rattle.pyc_reading.specs.Answers.{Answer, MemberAnswer, NameAnswer, NameKind, presence_of, name_is, order_is}
use Rattle.pyc_reading.specs.Answers.{member_is, export_is, annotated_variable, variable, alias, function_name, class_name}
use Rattle.pyc_reading.specs.Answers.{module_name, fixed, unknown, opaque, no_module, no_name, no_target, cycle}
use Rattle.pyc_reading.specs.declared.answer.MemberKind.{MemberKind}
use Rattle.pyc_reading.specs.declared.answer.MemberKind.TheVariants as member
use Rattle.pyc_reading.specs.declared.answer.Export.{Export}
use Rattle.pyc_reading.specs.declared.answer.Export.TheVariants as passed
use Rattle.pyc_reading.specs.declared.answer.Presence.{Presence}
use Rattle.pyc_reading.specs.declared.answer.Presence.TheVariants as there
use Rattle.pyc_known_answers.specs.SameAnswers.{same_presence, fixed_number, same_kind, same_name, same_classes, same_reason, same_order, same_member_kind, same_found, same_member, same_export, same_answer}
use Rattle.pyc_type_forms.specs.Equality.{same_name as same_parameter_name, same_kind as same_parameter_kind, same_slot, same_type, same_types, same_params, same_listed}
use Rattle.pyc_type_forms.specs.Types.{Kind, plain, star, keyword_only, double_star, Slot}
use Rattle.pyc_type_forms.specs.Types.{Ty, Tys, Params, Listed, any, none, module_type, instance, class_object}
use Rattle.pyc_type_forms.specs.Types.{list, dict, tuple, tuple_of, union, callable, nil, cons, dots, listed, no_param}
use Rattle.pyc_type_forms.specs.Types.{param}

-- ---- texts, paths, flags, classes

texts_are : (x y : List ℕ) → bytes_eq x y ≡ true → x ≡ y
texts_are x y same = (bytes_eq-Decides x y).0 same

text_itself : (x : List ℕ) → bytes_eq x x ≡ true
text_itself x = (bytes_eq-Decides x x).1 refl

paths_are : (x y : List (List ℕ)) → pointwise bytes_eq x y ≡ true → x ≡ y
paths_are x y same = (slice_eq-Decides bytes_eq-Decides x y (pointwise bytes_eq x y) refl).0 same

path_itself : (x : List (List ℕ)) → pointwise bytes_eq x x ≡ true
path_itself x = (slice_eq-Decides bytes_eq-Decides x x (pointwise bytes_eq x x) refl).1 refl

flags_are : (a b : Bool) → beq a b ≡ true → a ≡ b
flags_are true true same = refl
flags_are true false same = absurd (false≢true same)
flags_are false true same = absurd (false≢true same)
flags_are false false same = refl

flag_itself : (a : Bool) → beq a a ≡ true
flag_itself true = refl
flag_itself false = refl

both : (a b : Bool) → a ≡ true → b ≡ true → (a && b) ≡ true
both a b left right = ap₂ (λ x y. x && y) left right

class_at : ℕ → BuiltinClass
class_at n =
    if n == 0 then class.Object else if n == 1 then class.Int else if n == 2 then class.Float else
    if n == 3 then class.Str else if n == 4 then class.Bytes else if n == 5 then class.List else
    if n == 6 then class.Dict else if n == 7 then class.Tuple else if n == 8 then class.BaseException else
    if n == 9 then class.Bool else if n == 10 then class.Exception else if n == 11 then class.LookupError else
    if n == 12 then class.ArithmeticError else if n == 13 then class.ValueError else if n == 14 then class.TypeError else
    if n == 15 then class.RuntimeError else if n == 16 then class.AssertionError else if n == 17 then class.KeyError else
    if n == 18 then class.IndexError else if n == 19 then class.ZeroDivisionError else if n == 20 then class.OverflowError else
    if n == 21 then class.NotImplementedError else class.RecursionError

class_at-number : (b : BuiltinClass) → b ≡ class_at (number_of b)
unfolding class_at
class_at-number class.Object = refl
class_at-number class.Int = refl
class_at-number class.Float = refl
class_at-number class.Str = refl
class_at-number class.Bytes = refl
class_at-number class.List = refl
class_at-number class.Dict = refl
class_at-number class.Tuple = refl
class_at-number class.BaseException = refl
class_at-number class.Bool = refl
class_at-number class.Exception = refl
class_at-number class.LookupError = refl
class_at-number class.ArithmeticError = refl
class_at-number class.ValueError = refl
class_at-number class.TypeError = refl
class_at-number class.RuntimeError = refl
class_at-number class.AssertionError = refl
class_at-number class.KeyError = refl
class_at-number class.IndexError = refl
class_at-number class.ZeroDivisionError = refl
class_at-number class.OverflowError = refl
class_at-number class.NotImplementedError = refl
class_at-number class.RecursionError = refl

classes_are : (a b : Id) → same_class a b ≡ true → a ≡ b
classes_are (builtin a) (builtin b) same =
    let number : number_of a ≡ number_of b = eqb-true (number_of a) (number_of b) same in
    ap builtin (class_at-number a ∙ ap class_at number ∙ sym (class_at-number b))
classes_are (builtin a) (user m n) same = absurd (false≢true same)
classes_are (user m n) (builtin b) same = absurd (false≢true same)
classes_are (user m n) (user k l) same =
    let parts = and_parts (pointwise bytes_eq m k) (bytes_eq n l) same in
    ap₂ user (paths_are m k parts.0) (texts_are n l parts.1)

classes_decide : (a b : Id) → Decides (same_class a b) (a ≡ b)
classes_decide a b = (classes_are a b, (λ e. subst (λ c. same_class a c ≡ true) e (same_class_equiv.refl a)))

-- ---- parameters

names_are : (a b : Option (List ℕ)) → same_parameter_name a b ≡ true → a ≡ b
names_are (Some x) (Some y) same = ap Some (texts_are x y same)
names_are (Some x) None same = absurd (false≢true same)
names_are None (Some y) same = absurd (false≢true same)
names_are None None same = refl

name_itself : (a : Option (List ℕ)) → same_parameter_name a a ≡ true
name_itself (Some x) = text_itself x
name_itself None = refl

parameter_kinds_are : (a b : Kind) → same_parameter_kind a b ≡ true → a ≡ b
parameter_kinds_are (plain m) (plain n) same = ap plain (names_are m n same)
parameter_kinds_are (plain m) star same = absurd (false≢true same)
parameter_kinds_are (plain m) (keyword_only n) same = absurd (false≢true same)
parameter_kinds_are (plain m) double_star same = absurd (false≢true same)
parameter_kinds_are star (plain n) same = absurd (false≢true same)
parameter_kinds_are star star same = refl
parameter_kinds_are star (keyword_only n) same = absurd (false≢true same)
parameter_kinds_are star double_star same = absurd (false≢true same)
parameter_kinds_are (keyword_only m) (plain n) same = absurd (false≢true same)
parameter_kinds_are (keyword_only m) star same = absurd (false≢true same)
parameter_kinds_are (keyword_only m) (keyword_only n) same = ap keyword_only (texts_are m n same)
parameter_kinds_are (keyword_only m) double_star same = absurd (false≢true same)
parameter_kinds_are double_star (plain n) same = absurd (false≢true same)
parameter_kinds_are double_star star same = absurd (false≢true same)
parameter_kinds_are double_star (keyword_only n) same = absurd (false≢true same)
parameter_kinds_are double_star double_star same = refl

parameter_kind_itself : (a : Kind) → same_parameter_kind a a ≡ true
parameter_kind_itself (plain m) = name_itself m
parameter_kind_itself star = refl
parameter_kind_itself (keyword_only m) = text_itself m
parameter_kind_itself double_star = refl

abbrev slot_of : Kind → Bool → Slot
slot_of kind is_optional = record { kind = kind; is_optional = is_optional }

slots_are : (a b : Slot) → same_slot a b ≡ true → a ≡ b
slots_are a b same =
    let parts = and_parts (same_parameter_kind a.kind b.kind) (beq a.is_optional b.is_optional) same in
    ap₂ slot_of (parameter_kinds_are a.kind b.kind parts.0) (flags_are a.is_optional b.is_optional parts.1)

slot_itself : (a : Slot) → same_slot a a ≡ true
slot_itself a =
    both (same_parameter_kind a.kind a.kind) (beq a.is_optional a.is_optional) (parameter_kind_itself a.kind)
    (flag_itself a.is_optional)

-- ---- types

mutual
  pub types_are : (x y : Ty) → same_type x y ≡ true → x ≡ y
  types_are any any same = refl
  types_are any none same = absurd (false≢true same)
  types_are any (module_type n) same = absurd (false≢true same)
  types_are any (instance d) same = absurd (false≢true same)
  types_are any (class_object d) same = absurd (false≢true same)
  types_are any (list y) same = absurd (false≢true same)
  types_are any (dict l w) same = absurd (false≢true same)
  types_are any (tuple ys) same = absurd (false≢true same)
  types_are any (tuple_of y) same = absurd (false≢true same)
  types_are any (union ys) same = absurd (false≢true same)
  types_are any (callable qs s) same = absurd (false≢true same)
  types_are none any same = absurd (false≢true same)
  types_are none none same = refl
  types_are none (module_type n) same = absurd (false≢true same)
  types_are none (instance d) same = absurd (false≢true same)
  types_are none (class_object d) same = absurd (false≢true same)
  types_are none (list y) same = absurd (false≢true same)
  types_are none (dict l w) same = absurd (false≢true same)
  types_are none (tuple ys) same = absurd (false≢true same)
  types_are none (tuple_of y) same = absurd (false≢true same)
  types_are none (union ys) same = absurd (false≢true same)
  types_are none (callable qs s) same = absurd (false≢true same)
  types_are (module_type m) any same = absurd (false≢true same)
  types_are (module_type m) none same = absurd (false≢true same)
  types_are (module_type m) (module_type n) same = ap module_type (paths_are m n same)
  types_are (module_type m) (instance d) same = absurd (false≢true same)
  types_are (module_type m) (class_object d) same = absurd (false≢true same)
  types_are (module_type m) (list y) same = absurd (false≢true same)
  types_are (module_type m) (dict l w) same = absurd (false≢true same)
  types_are (module_type m) (tuple ys) same = absurd (false≢true same)
  types_are (module_type m) (tuple_of y) same = absurd (false≢true same)
  types_are (module_type m) (union ys) same = absurd (false≢true same)
  types_are (module_type m) (callable qs s) same = absurd (false≢true same)
  types_are (instance c) any same = absurd (false≢true same)
  types_are (instance c) none same = absurd (false≢true same)
  types_are (instance c) (module_type n) same = absurd (false≢true same)
  types_are (instance c) (instance d) same = ap instance (classes_are c d same)
  types_are (instance c) (class_object d) same = absurd (false≢true same)
  types_are (instance c) (list y) same = absurd (false≢true same)
  types_are (instance c) (dict l w) same = absurd (false≢true same)
  types_are (instance c) (tuple ys) same = absurd (false≢true same)
  types_are (instance c) (tuple_of y) same = absurd (false≢true same)
  types_are (instance c) (union ys) same = absurd (false≢true same)
  types_are (instance c) (callable qs s) same = absurd (false≢true same)
  types_are (class_object c) any same = absurd (false≢true same)
  types_are (class_object c) none same = absurd (false≢true same)
  types_are (class_object c) (module_type n) same = absurd (false≢true same)
  types_are (class_object c) (instance d) same = absurd (false≢true same)
  types_are (class_object c) (class_object d) same = ap class_object (classes_are c d same)
  types_are (class_object c) (list y) same = absurd (false≢true same)
  types_are (class_object c) (dict l w) same = absurd (false≢true same)
  types_are (class_object c) (tuple ys) same = absurd (false≢true same)
  types_are (class_object c) (tuple_of y) same = absurd (false≢true same)
  types_are (class_object c) (union ys) same = absurd (false≢true same)
  types_are (class_object c) (callable qs s) same = absurd (false≢true same)
  types_are (list x) any same = absurd (false≢true same)
  types_are (list x) none same = absurd (false≢true same)
  types_are (list x) (module_type n) same = absurd (false≢true same)
  types_are (list x) (instance d) same = absurd (false≢true same)
  types_are (list x) (class_object d) same = absurd (false≢true same)
  types_are (list x) (list y) same = ap list (types_are x y same)
  types_are (list x) (dict l w) same = absurd (false≢true same)
  types_are (list x) (tuple ys) same = absurd (false≢true same)
  types_are (list x) (tuple_of y) same = absurd (false≢true same)
  types_are (list x) (union ys) same = absurd (false≢true same)
  types_are (list x) (callable qs s) same = absurd (false≢true same)
  types_are (dict k v) any same = absurd (false≢true same)
  types_are (dict k v) none same = absurd (false≢true same)
  types_are (dict k v) (module_type n) same = absurd (false≢true same)
  types_are (dict k v) (instance d) same = absurd (false≢true same)
  types_are (dict k v) (class_object d) same = absurd (false≢true same)
  types_are (dict k v) (list y) same = absurd (false≢true same)
  types_are (dict k v) (dict l w) same = let parts = and_parts (same_type k l) (same_type v w) same in ap₂ dict (types_are k l parts.0) (types_are v w parts.1)
  types_are (dict k v) (tuple ys) same = absurd (false≢true same)
  types_are (dict k v) (tuple_of y) same = absurd (false≢true same)
  types_are (dict k v) (union ys) same = absurd (false≢true same)
  types_are (dict k v) (callable qs s) same = absurd (false≢true same)
  types_are (tuple xs) any same = absurd (false≢true same)
  types_are (tuple xs) none same = absurd (false≢true same)
  types_are (tuple xs) (module_type n) same = absurd (false≢true same)
  types_are (tuple xs) (instance d) same = absurd (false≢true same)
  types_are (tuple xs) (class_object d) same = absurd (false≢true same)
  types_are (tuple xs) (list y) same = absurd (false≢true same)
  types_are (tuple xs) (dict l w) same = absurd (false≢true same)
  types_are (tuple xs) (tuple ys) same = ap tuple (rows_are xs ys same)
  types_are (tuple xs) (tuple_of y) same = absurd (false≢true same)
  types_are (tuple xs) (union ys) same = absurd (false≢true same)
  types_are (tuple xs) (callable qs s) same = absurd (false≢true same)
  types_are (tuple_of x) any same = absurd (false≢true same)
  types_are (tuple_of x) none same = absurd (false≢true same)
  types_are (tuple_of x) (module_type n) same = absurd (false≢true same)
  types_are (tuple_of x) (instance d) same = absurd (false≢true same)
  types_are (tuple_of x) (class_object d) same = absurd (false≢true same)
  types_are (tuple_of x) (list y) same = absurd (false≢true same)
  types_are (tuple_of x) (dict l w) same = absurd (false≢true same)
  types_are (tuple_of x) (tuple ys) same = absurd (false≢true same)
  types_are (tuple_of x) (tuple_of y) same = ap tuple_of (types_are x y same)
  types_are (tuple_of x) (union ys) same = absurd (false≢true same)
  types_are (tuple_of x) (callable qs s) same = absurd (false≢true same)
  types_are (union xs) any same = absurd (false≢true same)
  types_are (union xs) none same = absurd (false≢true same)
  types_are (union xs) (module_type n) same = absurd (false≢true same)
  types_are (union xs) (instance d) same = absurd (false≢true same)
  types_are (union xs) (class_object d) same = absurd (false≢true same)
  types_are (union xs) (list y) same = absurd (false≢true same)
  types_are (union xs) (dict l w) same = absurd (false≢true same)
  types_are (union xs) (tuple ys) same = absurd (false≢true same)
  types_are (union xs) (tuple_of y) same = absurd (false≢true same)
  types_are (union xs) (union ys) same = ap union (rows_are xs ys same)
  types_are (union xs) (callable qs s) same = absurd (false≢true same)
  types_are (callable ps r) any same = absurd (false≢true same)
  types_are (callable ps r) none same = absurd (false≢true same)
  types_are (callable ps r) (module_type n) same = absurd (false≢true same)
  types_are (callable ps r) (instance d) same = absurd (false≢true same)
  types_are (callable ps r) (class_object d) same = absurd (false≢true same)
  types_are (callable ps r) (list y) same = absurd (false≢true same)
  types_are (callable ps r) (dict l w) same = absurd (false≢true same)
  types_are (callable ps r) (tuple ys) same = absurd (false≢true same)
  types_are (callable ps r) (tuple_of y) same = absurd (false≢true same)
  types_are (callable ps r) (union ys) same = absurd (false≢true same)
  types_are (callable ps r) (callable qs s) same = let parts = and_parts (same_params ps qs) (same_type r s) same in ap₂ callable (params_are ps qs parts.0) (types_are r s parts.1)

  rows_are : (xs ys : Tys) → same_types xs ys ≡ true → xs ≡ ys
  rows_are nil nil same = refl
  rows_are nil (cons y ys) same = absurd (false≢true same)
  rows_are (cons x xs) nil same = absurd (false≢true same)
  rows_are (cons x xs) (cons y ys) same =
      let parts = and_parts (same_type x y) (same_types xs ys) same in
      ap₂ cons (types_are x y parts.0) (rows_are xs ys parts.1)

  params_are : (ps qs : Params) → same_params ps qs ≡ true → ps ≡ qs
  params_are dots dots same = refl
  params_are dots (listed qs) same = absurd (false≢true same)
  params_are (listed ps) dots same = absurd (false≢true same)
  params_are (listed ps) (listed qs) same = ap listed (listed_are ps qs same)

  listed_are : (ps qs : Listed) → same_listed ps qs ≡ true → ps ≡ qs
  listed_are no_param no_param same = refl
  listed_are no_param (param other y qs) same = absurd (false≢true same)
  listed_are (param slot x ps) no_param same = absurd (false≢true same)
  listed_are (param slot x ps) (param other y qs) same =
      let parts = and_parts (same_slot slot other && same_type x y) (same_listed ps qs) same in
      let first = and_parts (same_slot slot other) (same_type x y) parts.0 in
      ap₂ (λ s t. param s t ps) (slots_are slot other first.0) (types_are x y first.1)
      ∙ ap (param other y) (listed_are ps qs parts.1)

mutual
  pub type_itself : (x : Ty) → same_type x x ≡ true
  type_itself any = refl
  type_itself none = refl
  type_itself (module_type m) = path_itself m
  type_itself (instance c) = same_class_equiv.refl c
  type_itself (class_object c) = same_class_equiv.refl c
  type_itself (list x) = type_itself x
  type_itself (dict k v) = both (same_type k k) (same_type v v) (type_itself k) (type_itself v)
  type_itself (tuple xs) = row_itself xs
  type_itself (tuple_of x) = type_itself x
  type_itself (union xs) = row_itself xs
  type_itself (callable ps r) = both (same_params ps ps) (same_type r r) (params_itself ps) (type_itself r)

  row_itself : (xs : Tys) → same_types xs xs ≡ true
  row_itself nil = refl
  row_itself (cons x xs) = both (same_type x x) (same_types xs xs) (type_itself x) (row_itself xs)

  params_itself : (ps : Params) → same_params ps ps ≡ true
  params_itself dots = refl
  params_itself (listed ps) = listed_itself ps

  listed_itself : (ps : Listed) → same_listed ps ps ≡ true
  listed_itself no_param = refl
  listed_itself (param slot x ps) =
      both (same_slot slot slot && same_type x x) (same_listed ps ps)
      (both (same_slot slot slot) (same_type x x) (slot_itself slot) (type_itself x)) (listed_itself ps)

pub types_decide : (x y : Ty) → Decides (same_type x y) (x ≡ y)
types_decide x y = (types_are x y, (λ e. subst (λ z. same_type x z ≡ true) e (type_itself x)))

-- ---- whether a thing is there

presences_are : (a b : Presence) → same_presence a b ≡ true → a ≡ b
presences_are there.NoModule there.NoModule same = refl
presences_are there.NoModule there.Opaque same = absurd (false≢true same)
presences_are there.NoModule there.NoName same = absurd (false≢true same)
presences_are there.NoModule there.Cycle same = absurd (false≢true same)
presences_are there.NoModule there.There same = absurd (false≢true same)
presences_are there.Opaque there.NoModule same = absurd (false≢true same)
presences_are there.Opaque there.Opaque same = refl
presences_are there.Opaque there.NoName same = absurd (false≢true same)
presences_are there.Opaque there.Cycle same = absurd (false≢true same)
presences_are there.Opaque there.There same = absurd (false≢true same)
presences_are there.NoName there.NoModule same = absurd (false≢true same)
presences_are there.NoName there.Opaque same = absurd (false≢true same)
presences_are there.NoName there.NoName same = refl
presences_are there.NoName there.Cycle same = absurd (false≢true same)
presences_are there.NoName there.There same = absurd (false≢true same)
presences_are there.Cycle there.NoModule same = absurd (false≢true same)
presences_are there.Cycle there.Opaque same = absurd (false≢true same)
presences_are there.Cycle there.NoName same = absurd (false≢true same)
presences_are there.Cycle there.Cycle same = refl
presences_are there.Cycle there.There same = absurd (false≢true same)
presences_are there.There there.NoModule same = absurd (false≢true same)
presences_are there.There there.Opaque same = absurd (false≢true same)
presences_are there.There there.NoName same = absurd (false≢true same)
presences_are there.There there.Cycle same = absurd (false≢true same)
presences_are there.There there.There same = refl

presence_itself : (a : Presence) → same_presence a a ≡ true
presence_itself there.NoModule = refl
presence_itself there.Opaque = refl
presence_itself there.NoName = refl
presence_itself there.Cycle = refl
presence_itself there.There = refl

-- ---- names

name_at : ℕ → FixedName
name_at n =
    if n == 0 then name.Any else if n == 1 then name.Optional else if n == 2 then name.Union else if n == 3 then name.List else
    if n == 4 then name.Dict else if n == 5 then name.Tuple else if n == 6 then name.Callable else if n == 7 then name.Cast else
    if n == 8 then name.RevealType else name.TypeChecking

name_at-number : (a : FixedName) → a ≡ name_at (fixed_number a)
unfolding name_at
name_at-number name.Any = refl
name_at-number name.Optional = refl
name_at-number name.Union = refl
name_at-number name.List = refl
name_at-number name.Dict = refl
name_at-number name.Tuple = refl
name_at-number name.Callable = refl
name_at-number name.Cast = refl
name_at-number name.RevealType = refl
name_at-number name.TypeChecking = refl

fixed_are : (a b : FixedName) → (fixed_number a == fixed_number b) ≡ true → a ≡ b
fixed_are a b same =
    name_at-number a ∙ ap name_at (eqb-true (fixed_number a) (fixed_number b) same) ∙ sym (name_at-number b)

pub kinds_are : (a b : NameKind) → same_kind a b ≡ true → a ≡ b
kinds_are annotated_variable annotated_variable same = refl
kinds_are annotated_variable variable same = absurd (false≢true same)
kinds_are annotated_variable alias same = absurd (false≢true same)
kinds_are annotated_variable function_name same = absurd (false≢true same)
kinds_are annotated_variable class_name same = absurd (false≢true same)
kinds_are annotated_variable (module_name n) same = absurd (false≢true same)
kinds_are annotated_variable (fixed y) same = absurd (false≢true same)
kinds_are annotated_variable unknown same = absurd (false≢true same)
kinds_are annotated_variable opaque same = absurd (false≢true same)
kinds_are annotated_variable no_module same = absurd (false≢true same)
kinds_are annotated_variable no_name same = absurd (false≢true same)
kinds_are annotated_variable no_target same = absurd (false≢true same)
kinds_are annotated_variable cycle same = absurd (false≢true same)
kinds_are variable annotated_variable same = absurd (false≢true same)
kinds_are variable variable same = refl
kinds_are variable alias same = absurd (false≢true same)
kinds_are variable function_name same = absurd (false≢true same)
kinds_are variable class_name same = absurd (false≢true same)
kinds_are variable (module_name n) same = absurd (false≢true same)
kinds_are variable (fixed y) same = absurd (false≢true same)
kinds_are variable unknown same = absurd (false≢true same)
kinds_are variable opaque same = absurd (false≢true same)
kinds_are variable no_module same = absurd (false≢true same)
kinds_are variable no_name same = absurd (false≢true same)
kinds_are variable no_target same = absurd (false≢true same)
kinds_are variable cycle same = absurd (false≢true same)
kinds_are alias annotated_variable same = absurd (false≢true same)
kinds_are alias variable same = absurd (false≢true same)
kinds_are alias alias same = refl
kinds_are alias function_name same = absurd (false≢true same)
kinds_are alias class_name same = absurd (false≢true same)
kinds_are alias (module_name n) same = absurd (false≢true same)
kinds_are alias (fixed y) same = absurd (false≢true same)
kinds_are alias unknown same = absurd (false≢true same)
kinds_are alias opaque same = absurd (false≢true same)
kinds_are alias no_module same = absurd (false≢true same)
kinds_are alias no_name same = absurd (false≢true same)
kinds_are alias no_target same = absurd (false≢true same)
kinds_are alias cycle same = absurd (false≢true same)
kinds_are function_name annotated_variable same = absurd (false≢true same)
kinds_are function_name variable same = absurd (false≢true same)
kinds_are function_name alias same = absurd (false≢true same)
kinds_are function_name function_name same = refl
kinds_are function_name class_name same = absurd (false≢true same)
kinds_are function_name (module_name n) same = absurd (false≢true same)
kinds_are function_name (fixed y) same = absurd (false≢true same)
kinds_are function_name unknown same = absurd (false≢true same)
kinds_are function_name opaque same = absurd (false≢true same)
kinds_are function_name no_module same = absurd (false≢true same)
kinds_are function_name no_name same = absurd (false≢true same)
kinds_are function_name no_target same = absurd (false≢true same)
kinds_are function_name cycle same = absurd (false≢true same)
kinds_are class_name annotated_variable same = absurd (false≢true same)
kinds_are class_name variable same = absurd (false≢true same)
kinds_are class_name alias same = absurd (false≢true same)
kinds_are class_name function_name same = absurd (false≢true same)
kinds_are class_name class_name same = refl
kinds_are class_name (module_name n) same = absurd (false≢true same)
kinds_are class_name (fixed y) same = absurd (false≢true same)
kinds_are class_name unknown same = absurd (false≢true same)
kinds_are class_name opaque same = absurd (false≢true same)
kinds_are class_name no_module same = absurd (false≢true same)
kinds_are class_name no_name same = absurd (false≢true same)
kinds_are class_name no_target same = absurd (false≢true same)
kinds_are class_name cycle same = absurd (false≢true same)
kinds_are (module_name m) annotated_variable same = absurd (false≢true same)
kinds_are (module_name m) variable same = absurd (false≢true same)
kinds_are (module_name m) alias same = absurd (false≢true same)
kinds_are (module_name m) function_name same = absurd (false≢true same)
kinds_are (module_name m) class_name same = absurd (false≢true same)
kinds_are (module_name m) (module_name n) same = ap module_name (paths_are m n same)
kinds_are (module_name m) (fixed y) same = absurd (false≢true same)
kinds_are (module_name m) unknown same = absurd (false≢true same)
kinds_are (module_name m) opaque same = absurd (false≢true same)
kinds_are (module_name m) no_module same = absurd (false≢true same)
kinds_are (module_name m) no_name same = absurd (false≢true same)
kinds_are (module_name m) no_target same = absurd (false≢true same)
kinds_are (module_name m) cycle same = absurd (false≢true same)
kinds_are (fixed x) annotated_variable same = absurd (false≢true same)
kinds_are (fixed x) variable same = absurd (false≢true same)
kinds_are (fixed x) alias same = absurd (false≢true same)
kinds_are (fixed x) function_name same = absurd (false≢true same)
kinds_are (fixed x) class_name same = absurd (false≢true same)
kinds_are (fixed x) (module_name n) same = absurd (false≢true same)
kinds_are (fixed x) (fixed y) same = ap fixed (fixed_are x y same)
kinds_are (fixed x) unknown same = absurd (false≢true same)
kinds_are (fixed x) opaque same = absurd (false≢true same)
kinds_are (fixed x) no_module same = absurd (false≢true same)
kinds_are (fixed x) no_name same = absurd (false≢true same)
kinds_are (fixed x) no_target same = absurd (false≢true same)
kinds_are (fixed x) cycle same = absurd (false≢true same)
kinds_are unknown annotated_variable same = absurd (false≢true same)
kinds_are unknown variable same = absurd (false≢true same)
kinds_are unknown alias same = absurd (false≢true same)
kinds_are unknown function_name same = absurd (false≢true same)
kinds_are unknown class_name same = absurd (false≢true same)
kinds_are unknown (module_name n) same = absurd (false≢true same)
kinds_are unknown (fixed y) same = absurd (false≢true same)
kinds_are unknown unknown same = refl
kinds_are unknown opaque same = absurd (false≢true same)
kinds_are unknown no_module same = absurd (false≢true same)
kinds_are unknown no_name same = absurd (false≢true same)
kinds_are unknown no_target same = absurd (false≢true same)
kinds_are unknown cycle same = absurd (false≢true same)
kinds_are opaque annotated_variable same = absurd (false≢true same)
kinds_are opaque variable same = absurd (false≢true same)
kinds_are opaque alias same = absurd (false≢true same)
kinds_are opaque function_name same = absurd (false≢true same)
kinds_are opaque class_name same = absurd (false≢true same)
kinds_are opaque (module_name n) same = absurd (false≢true same)
kinds_are opaque (fixed y) same = absurd (false≢true same)
kinds_are opaque unknown same = absurd (false≢true same)
kinds_are opaque opaque same = refl
kinds_are opaque no_module same = absurd (false≢true same)
kinds_are opaque no_name same = absurd (false≢true same)
kinds_are opaque no_target same = absurd (false≢true same)
kinds_are opaque cycle same = absurd (false≢true same)
kinds_are no_module annotated_variable same = absurd (false≢true same)
kinds_are no_module variable same = absurd (false≢true same)
kinds_are no_module alias same = absurd (false≢true same)
kinds_are no_module function_name same = absurd (false≢true same)
kinds_are no_module class_name same = absurd (false≢true same)
kinds_are no_module (module_name n) same = absurd (false≢true same)
kinds_are no_module (fixed y) same = absurd (false≢true same)
kinds_are no_module unknown same = absurd (false≢true same)
kinds_are no_module opaque same = absurd (false≢true same)
kinds_are no_module no_module same = refl
kinds_are no_module no_name same = absurd (false≢true same)
kinds_are no_module no_target same = absurd (false≢true same)
kinds_are no_module cycle same = absurd (false≢true same)
kinds_are no_name annotated_variable same = absurd (false≢true same)
kinds_are no_name variable same = absurd (false≢true same)
kinds_are no_name alias same = absurd (false≢true same)
kinds_are no_name function_name same = absurd (false≢true same)
kinds_are no_name class_name same = absurd (false≢true same)
kinds_are no_name (module_name n) same = absurd (false≢true same)
kinds_are no_name (fixed y) same = absurd (false≢true same)
kinds_are no_name unknown same = absurd (false≢true same)
kinds_are no_name opaque same = absurd (false≢true same)
kinds_are no_name no_module same = absurd (false≢true same)
kinds_are no_name no_name same = refl
kinds_are no_name no_target same = absurd (false≢true same)
kinds_are no_name cycle same = absurd (false≢true same)
kinds_are no_target annotated_variable same = absurd (false≢true same)
kinds_are no_target variable same = absurd (false≢true same)
kinds_are no_target alias same = absurd (false≢true same)
kinds_are no_target function_name same = absurd (false≢true same)
kinds_are no_target class_name same = absurd (false≢true same)
kinds_are no_target (module_name n) same = absurd (false≢true same)
kinds_are no_target (fixed y) same = absurd (false≢true same)
kinds_are no_target unknown same = absurd (false≢true same)
kinds_are no_target opaque same = absurd (false≢true same)
kinds_are no_target no_module same = absurd (false≢true same)
kinds_are no_target no_name same = absurd (false≢true same)
kinds_are no_target no_target same = refl
kinds_are no_target cycle same = absurd (false≢true same)
kinds_are cycle annotated_variable same = absurd (false≢true same)
kinds_are cycle variable same = absurd (false≢true same)
kinds_are cycle alias same = absurd (false≢true same)
kinds_are cycle function_name same = absurd (false≢true same)
kinds_are cycle class_name same = absurd (false≢true same)
kinds_are cycle (module_name n) same = absurd (false≢true same)
kinds_are cycle (fixed y) same = absurd (false≢true same)
kinds_are cycle unknown same = absurd (false≢true same)
kinds_are cycle opaque same = absurd (false≢true same)
kinds_are cycle no_module same = absurd (false≢true same)
kinds_are cycle no_name same = absurd (false≢true same)
kinds_are cycle no_target same = absurd (false≢true same)
kinds_are cycle cycle same = refl

kind_itself : (a : NameKind) → same_kind a a ≡ true
kind_itself annotated_variable = refl
kind_itself variable = refl
kind_itself alias = refl
kind_itself function_name = refl
kind_itself class_name = refl
kind_itself (module_name m) = path_itself m
kind_itself (fixed x) = nat_eq_equiv.refl (fixed_number x)
kind_itself unknown = refl
kind_itself opaque = refl
kind_itself no_module = refl
kind_itself no_name = refl
kind_itself no_target = refl
kind_itself cycle = refl

abbrev name_of : NameKind → Ty → NameAnswer
name_of kind ty = record { kind = kind; ty = ty }

name_answers_are : (a b : NameAnswer) → same_name a b ≡ true → a ≡ b
name_answers_are a b same =
    let parts = and_parts (same_kind a.kind b.kind) (same_type a.ty b.ty) same in
    ap₂ name_of (kinds_are a.kind b.kind parts.0) (types_are a.ty b.ty parts.1)

name_answer_itself : (a : NameAnswer) → same_name a a ≡ true
name_answer_itself a = both (same_kind a.kind a.kind) (same_type a.ty a.ty) (kind_itself a.kind) (type_itself a.ty)

-- ---- orders

class_rows_decide : (cs ds : List Id) → Decides (same_classes cs ds) (cs ≡ ds)
class_rows_decide = pointwise_decides classes_decide

reasons_are : (a b : Option UnknownMro) → same_reason a b ≡ true → a ≡ b
reasons_are None None same = refl
reasons_are None (Some reason.Base) same = absurd (false≢true same)
reasons_are None (Some reason.Cycle) same = absurd (false≢true same)
reasons_are None (Some reason.Merge) same = absurd (false≢true same)
reasons_are (Some reason.Base) None same = absurd (false≢true same)
reasons_are (Some reason.Base) (Some reason.Base) same = refl
reasons_are (Some reason.Base) (Some reason.Cycle) same = absurd (false≢true same)
reasons_are (Some reason.Base) (Some reason.Merge) same = absurd (false≢true same)
reasons_are (Some reason.Cycle) None same = absurd (false≢true same)
reasons_are (Some reason.Cycle) (Some reason.Base) same = absurd (false≢true same)
reasons_are (Some reason.Cycle) (Some reason.Cycle) same = refl
reasons_are (Some reason.Cycle) (Some reason.Merge) same = absurd (false≢true same)
reasons_are (Some reason.Merge) None same = absurd (false≢true same)
reasons_are (Some reason.Merge) (Some reason.Base) same = absurd (false≢true same)
reasons_are (Some reason.Merge) (Some reason.Cycle) same = absurd (false≢true same)
reasons_are (Some reason.Merge) (Some reason.Merge) same = refl

reason_itself : (a : Option UnknownMro) → same_reason a a ≡ true
reason_itself None = refl
reason_itself (Some reason.Base) = refl
reason_itself (Some reason.Cycle) = refl
reason_itself (Some reason.Merge) = refl

abbrev order_with : List Id → Option UnknownMro → Bool → Mro
order_with classes why has_call = record { classes = classes; unknown = why; has_call = has_call }

orders_are : (a b : Mro) → same_order a b ≡ true → a ≡ b
orders_are a b same =
    let parts = and_parts (same_classes a.classes b.classes)
    (same_reason a.unknown b.unknown && beq a.has_call b.has_call) same in
    let rest = and_parts (same_reason a.unknown b.unknown) (beq a.has_call b.has_call) parts.1 in
    ap₂ (λ (made : Bool → Mro) flag. made flag)
    (ap₂ order_with ((class_rows_decide a.classes b.classes).0 parts.0) (reasons_are a.unknown b.unknown rest.0))
    (flags_are a.has_call b.has_call rest.1)

order_itself : (a : Mro) → same_order a a ≡ true
order_itself a =
    both (same_classes a.classes a.classes) (same_reason a.unknown a.unknown && beq a.has_call a.has_call)
    ((class_rows_decide a.classes a.classes).1 refl)
    (both (same_reason a.unknown a.unknown) (beq a.has_call a.has_call) (reason_itself a.unknown)
    (flag_itself a.has_call))

-- ---- members

member_kinds_are : (a b : MemberKind) → same_member_kind a b ≡ true → a ≡ b
member_kinds_are member.Variable member.Variable same = refl
member_kinds_are member.Variable member.Method same = absurd (false≢true same)
member_kinds_are member.Variable member.StaticMethod same = absurd (false≢true same)
member_kinds_are member.Variable member.ClassMethod same = absurd (false≢true same)
member_kinds_are member.Variable member.Property same = absurd (false≢true same)
member_kinds_are member.Variable member.SettableProperty same = absurd (false≢true same)
member_kinds_are member.Method member.Variable same = absurd (false≢true same)
member_kinds_are member.Method member.Method same = refl
member_kinds_are member.Method member.StaticMethod same = absurd (false≢true same)
member_kinds_are member.Method member.ClassMethod same = absurd (false≢true same)
member_kinds_are member.Method member.Property same = absurd (false≢true same)
member_kinds_are member.Method member.SettableProperty same = absurd (false≢true same)
member_kinds_are member.StaticMethod member.Variable same = absurd (false≢true same)
member_kinds_are member.StaticMethod member.Method same = absurd (false≢true same)
member_kinds_are member.StaticMethod member.StaticMethod same = refl
member_kinds_are member.StaticMethod member.ClassMethod same = absurd (false≢true same)
member_kinds_are member.StaticMethod member.Property same = absurd (false≢true same)
member_kinds_are member.StaticMethod member.SettableProperty same = absurd (false≢true same)
member_kinds_are member.ClassMethod member.Variable same = absurd (false≢true same)
member_kinds_are member.ClassMethod member.Method same = absurd (false≢true same)
member_kinds_are member.ClassMethod member.StaticMethod same = absurd (false≢true same)
member_kinds_are member.ClassMethod member.ClassMethod same = refl
member_kinds_are member.ClassMethod member.Property same = absurd (false≢true same)
member_kinds_are member.ClassMethod member.SettableProperty same = absurd (false≢true same)
member_kinds_are member.Property member.Variable same = absurd (false≢true same)
member_kinds_are member.Property member.Method same = absurd (false≢true same)
member_kinds_are member.Property member.StaticMethod same = absurd (false≢true same)
member_kinds_are member.Property member.ClassMethod same = absurd (false≢true same)
member_kinds_are member.Property member.Property same = refl
member_kinds_are member.Property member.SettableProperty same = absurd (false≢true same)
member_kinds_are member.SettableProperty member.Variable same = absurd (false≢true same)
member_kinds_are member.SettableProperty member.Method same = absurd (false≢true same)
member_kinds_are member.SettableProperty member.StaticMethod same = absurd (false≢true same)
member_kinds_are member.SettableProperty member.ClassMethod same = absurd (false≢true same)
member_kinds_are member.SettableProperty member.Property same = absurd (false≢true same)
member_kinds_are member.SettableProperty member.SettableProperty same = refl

member_kind_itself : (a : MemberKind) → same_member_kind a a ≡ true
member_kind_itself member.Variable = refl
member_kind_itself member.Method = refl
member_kind_itself member.StaticMethod = refl
member_kind_itself member.ClassMethod = refl
member_kind_itself member.Property = refl
member_kind_itself member.SettableProperty = refl

abbrev member_with : Id → MemberKind → Ty → MemberAnswer
member_with class kind ty = record { class = class; kind = kind; ty = ty }

found_are : (a b : MemberAnswer) → same_found a b ≡ true → a ≡ b
found_are a b same =
    let parts = and_parts (same_class a.class b.class) (same_member_kind a.kind b.kind && same_type a.ty b.ty) same in
    let rest = and_parts (same_member_kind a.kind b.kind) (same_type a.ty b.ty) parts.1 in
    ap₂ (λ (made : Ty → MemberAnswer) ty. made ty)
    (ap₂ member_with (classes_are a.class b.class parts.0) (member_kinds_are a.kind b.kind rest.0))
    (types_are a.ty b.ty rest.1)

found_itself : (a : MemberAnswer) → same_found a a ≡ true
found_itself a =
    both (same_class a.class a.class) (same_member_kind a.kind a.kind && same_type a.ty a.ty)
    (same_class_equiv.refl a.class)
    (both (same_member_kind a.kind a.kind) (same_type a.ty a.ty) (member_kind_itself a.kind) (type_itself a.ty))

members_are : (a b : Option MemberAnswer) → same_member a b ≡ true → a ≡ b
members_are (Some a) (Some b) same = ap Some (found_are a b same)
members_are (Some a) None same = absurd (false≢true same)
members_are None (Some b) same = absurd (false≢true same)
members_are None None same = refl

member_itself : (a : Option MemberAnswer) → same_member a a ≡ true
member_itself (Some a) = found_itself a
member_itself None = refl

-- ---- whether a name is passed on

exports_are : (a b : Export) → same_export a b ≡ true → a ≡ b
exports_are passed.Open passed.Open same = refl
exports_are passed.Open passed.Submodule same = absurd (false≢true same)
exports_are passed.Open passed.Hidden same = absurd (false≢true same)
exports_are passed.Submodule passed.Open same = absurd (false≢true same)
exports_are passed.Submodule passed.Submodule same = refl
exports_are passed.Submodule passed.Hidden same = absurd (false≢true same)
exports_are passed.Hidden passed.Open same = absurd (false≢true same)
exports_are passed.Hidden passed.Submodule same = absurd (false≢true same)
exports_are passed.Hidden passed.Hidden same = refl

export_itself : (a : Export) → same_export a a ≡ true
export_itself passed.Open = refl
export_itself passed.Submodule = refl
export_itself passed.Hidden = refl

-- ---- answers

answers_are : (a b : Answer) → same_answer a b ≡ true → a ≡ b
answers_are (presence_of a) (presence_of b) same = ap presence_of (presences_are a b same)
answers_are (presence_of a) (name_is b) same = absurd (false≢true same)
answers_are (presence_of a) (order_is b) same = absurd (false≢true same)
answers_are (presence_of a) (member_is b) same = absurd (false≢true same)
answers_are (presence_of a) (export_is b) same = absurd (false≢true same)
answers_are (name_is a) (presence_of b) same = absurd (false≢true same)
answers_are (name_is a) (name_is b) same = ap name_is (name_answers_are a b same)
answers_are (name_is a) (order_is b) same = absurd (false≢true same)
answers_are (name_is a) (member_is b) same = absurd (false≢true same)
answers_are (name_is a) (export_is b) same = absurd (false≢true same)
answers_are (order_is a) (presence_of b) same = absurd (false≢true same)
answers_are (order_is a) (name_is b) same = absurd (false≢true same)
answers_are (order_is a) (order_is b) same = ap order_is (orders_are a b same)
answers_are (order_is a) (member_is b) same = absurd (false≢true same)
answers_are (order_is a) (export_is b) same = absurd (false≢true same)
answers_are (member_is a) (presence_of b) same = absurd (false≢true same)
answers_are (member_is a) (name_is b) same = absurd (false≢true same)
answers_are (member_is a) (order_is b) same = absurd (false≢true same)
answers_are (member_is a) (member_is b) same = ap member_is (members_are a b same)
answers_are (member_is a) (export_is b) same = absurd (false≢true same)
answers_are (export_is a) (presence_of b) same = absurd (false≢true same)
answers_are (export_is a) (name_is b) same = absurd (false≢true same)
answers_are (export_is a) (order_is b) same = absurd (false≢true same)
answers_are (export_is a) (member_is b) same = absurd (false≢true same)
answers_are (export_is a) (export_is b) same = ap export_is (exports_are a b same)

answer_itself : (a : Answer) → same_answer a a ≡ true
answer_itself (presence_of a) = presence_itself a
answer_itself (name_is a) = name_answer_itself a
answer_itself (order_is a) = order_itself a
answer_itself (member_is a) = member_itself a
answer_itself (export_is a) = export_itself a

pub answers_decide : (a b : Answer) → Decides (same_answer a b) (a ≡ b)
answers_decide a b = (answers_are a b, (λ e. subst (λ z. same_answer a z ≡ true) e (answer_itself a)))
