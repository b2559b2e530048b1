-- What annotations come to, and which keys they ask, does not depend on their positions.
use Rattle.std.proofs.Common.{◌≡◌, ℕ, suc, Bool, true, false, List, [], ◌∷◌, ◌++◌, map, length, Option, None, Some, if◌then◌else◌, bytes_eq, codes, refl, sym, ap, ap₂, ◌∙◌}
use Rattle.pyc_annotations.specs.declared.meaning.Role.{Role}
use Rattle.pyc_annotations.specs.declared.meaning.Role.TheVariants as role
use Rattle.pyc_annotations.specs.declared.type_form.TypeForm.{TypeForm}
use Rattle.pyc_annotations.specs.declared.type_form.TypeForm.TheVariants as type_form
use Rattle.pyc_annotations.specs.Annotations.{Annotation, annotation_of_type, not_a_type, invalid, wrong_count, attribute_meaning, attributes, dotted_meaning, bare_form, resolve_name, name_rule, Subscripted, form_subscripted, class_subscripted, any_subscripted, value_subscripted, wrong_subscripted, with_arguments, ShapeReading, ellipsis_read, list_read, other_read, ArgumentReading, more_types, argument_types, takes, build_form_type, built_rule, object_of, object_rule, class_object_rule, any_length_rule, pair_rule, tuple_rule, plain_callable, any_callable, listed_callable, callable_of, callable_rule, form_rule, subscripted_rule, subscript_rule, union_rule, read_type, argument_readings, argument_reading, shape_reading, type_readings}
use Rattle.pyc_annotations.specs.Meanings.{Meaning, class_meant, any_meant, type_meant, fixed_meant, module_meant, variable_meant, function_meant, nothing_meant, report_undefined, no_attribute, found_builtin, unbound, own_meaning, binds, own_name, module_name_meaning, attribute_of_kind, attribute_in_module, module_attribute}
use Rattle.pyc_ast.specs.declared.position.Position.{Position}
use Rattle.pyc_builtins.specs.declared.names.BuiltinName.{BuiltinName}
use Rattle.pyc_builtins.specs.Members.{is_dunder}
use Rattle.pyc_builtins.specs.Names.{builtin_name}
use Rattle.pyc_interfaces.specs.BareExpressions.{nowhere}
use Rattle.pyc_interfaces.proofs.TypeLemmas.{drop_name, drop_type, drop_arguments, drop_argument, drop_shape, drop_types}
use Rattle.pyc_names.specs.declared.fixed.FixedModule.{FixedModule}
use Rattle.pyc_names.specs.declared.fixed.FixedName.{FixedName}
use Rattle.pyc_names.specs.declared.fixed.FixedName.TheVariants as special
use Rattle.pyc_names.specs.FixedModules.{fixed_module}
use Rattle.pyc_names.specs.Interfaces.{Interface}
use Rattle.pyc_reading.specs.Answers.{Answer, NameAnswer, NameKind, presence_of, name_is, order_is, member_is}
use Rattle.pyc_reading.specs.Answers as kind
use Rattle.pyc_reading.specs.Outside.{ask_outside}
use Rattle.pyc_reading.specs.Traces.{Step}
use Rattle.pyc_reading.specs.Keys.{Key}
use Rattle.pyc_reading.specs.Owing.{row_keys}
use Rattle.pyc_reading.specs.Readings.{Done, Ask, Report, Require, and_then, result_of, asked}
use Rattle.pyc_type_exprs.specs.TypeExprs.{DottedName, TypeExpr, none_written, name_written, union_written, subscript_written, wrong_written, TypeArgument, type_argument, ArgumentShape, ellipsis_shape, list_shape, other_shape, TypeExprs, no_type, another_type, TypeArguments, no_argument, another_argument}
use Rattle.pyc_type_forms.specs.Types.{Ty, tuple_of, callable, dots}
use Rattle.pyc_type_forms.specs.Unions.{union_of}

pub result-and_then : {A B : Type 0} (f : Key → Answer) (r : Step A) (next : A → Step B) → result_of f (and_then r next) ≡ result_of f (next (result_of f r))
unfolding and_then
result-and_then f (Done a) next = refl
result-and_then f (Ask key go) next = result-and_then f (go (f key)) next
result-and_then f (Report diagnostic rest) next = result-and_then f rest next
result-and_then f (Require row rest) next = result-and_then f rest next

keys_append : (xs ys zs : List Key) → (xs ++ ys) ++ zs ≡ xs ++ (ys ++ zs)
keys_append [] ys zs = refl
keys_append (x ∷ xs) ys zs = ap (λ l. x ∷ l) (keys_append xs ys zs)

asked-and_then : {A B : Type 0} (f : Key → Answer) (r : Step A) (next : A → Step B) → asked f (and_then r next) ≡ asked f r ++ asked f (next (result_of f r))
unfolding and_then
asked-and_then f (Done a) next = refl
asked-and_then f (Ask key go) next = ap (λ l. key ∷ l) (asked-and_then f (go (f key)) next)
asked-and_then f (Report diagnostic rest) next = asked-and_then f rest next
asked-and_then f (Require row rest) next =
    ap (λ l. row_keys row ++ l) (asked-and_then f rest next) ∙ sym (keys_append (row_keys row) (asked f rest) (asked f (next (result_of f rest))))

-- what a reading comes to, and the keys that it asks
pub record Came (A : Type 0) : Type 0 where
  pub result : A
  pub keys : List Key

abbrev pub came : {A : Type 0} → (Key → Answer) → Step A → Came A
came f r = record { result = result_of f r; keys = asked f r }

-- and another reading that its result chooses
abbrev came_on : {A B : Type 0} → (Key → Answer) → Came A → (A → Step B) → Came B
came_on f c next = record { result = result_of f (next c.result); keys = c.keys ++ asked f (next c.result) }

came-and_then : {A B : Type 0} (f : Key → Answer) (r : Step A) (next : A → Step B) → came f (and_then r next) ≡ came_on f (came f r) next
came-and_then {A} {B} f r next =
    let made : B → List Key → Came B = λ b keys. record { result = b; keys = keys } in
    ap₂ made (result-and_then f r next) (asked-and_then f r next)

-- both are of one module and bind the same names
pub record SameNames (file other : Interface) : Type 0 where
  pub name : file.name ≡ other.name
  pub binds : (x : List ℕ) → binds file x ≡ binds other x

module _ (f : Key → Answer) where
  -- both come to the same, and ask the same keys
  abbrev pub Same : {A : Type 0} → Step A → Step A → Type 0
  Same r s = came f r ≡ came f s

  pub same_done : {A : Type 0} (a b : A) → a ≡ b → Same (Done a) (Done b)
  same_done {A} a b same = let made : A → Came A = λ a. record { result = a; keys = [] } in ap made same

  pub same_then : {A B : Type 0} (r s : Step A) (next more : A → Step B) → Same r s → ((a : A) → Same (next a) (more a)) → Same (and_then r next) (and_then s more)
  same_then {A} {B} r s next more same later =
      let joined : Came B → Came B = λ c. record { result = c.result; keys = asked f r ++ c.keys } in
      came-and_then f r next ∙ ap joined (later (result_of f r)) ∙ ap (λ (c : Came A). came_on f c more) same ∙ sym (came-and_then f s more)

  -- ---- names

  report_undefined-same : (at there : Position) (x : List ℕ) → Same (report_undefined at x) (report_undefined there x)
  unfolding report_undefined
  report_undefined-same at there x = refl

  no_builtin-same : (at there : Position) (x : List ℕ) (b : Bool) → Same (if b then Done any_meant else report_undefined at x) (if b then Done any_meant else report_undefined there x)
  no_builtin-same at there x true = refl
  no_builtin-same at there x false = report_undefined-same at there x

  found_builtin-same : (at there : Position) (x : List ℕ) (o : Option BuiltinName) → Same (found_builtin at x o) (found_builtin there x o)
  found_builtin-same at there x (Some b) = refl
  found_builtin-same at there x None = no_builtin-same at there x (is_dunder x)

  unbound-by : (at there : Position) (x : List ℕ) (b : Bool)
      → Same (if b then Done type_meant else found_builtin at x (builtin_name x)) (if b then Done type_meant else found_builtin there x (builtin_name x))
  unbound-by at there x true = refl
  unbound-by at there x false = found_builtin-same at there x (builtin_name x)

  unbound-same : (at there : Position) (x : List ℕ) → Same (unbound at x) (unbound there x)
  unfolding unbound
  unbound-same at there x = unbound-by at there x (bytes_eq x (codes "type"))

  own_meaning-same : (at there : Position) (x : List ℕ) (b : Bool) (found : Meaning) → Same (own_meaning at x b found) (own_meaning there x b found)
  own_meaning-same at there x true found = refl
  own_meaning-same at there x false found = unbound-same at there x

  own_name-same : (file other : Interface) → SameNames file other → (at there : Position) (x : List ℕ) → Same (own_name file at x) (own_name other there x)
  unfolding own_name
  own_name-same file other one at there x =
      same_then (module_name_meaning file.name x) (module_name_meaning other.name x) (own_meaning at x (binds file x)) (own_meaning there x (binds other x))
      (ap (λ m. came f (module_name_meaning m x)) one.name)
      (λ found. own_meaning-same at there x (binds file x) found ∙ ap (λ b. came f (own_meaning there x b found)) (one.binds x))

  no_attribute-same : (at there : Position) (n : List ℕ) → Same (no_attribute at n) (no_attribute there n)
  unfolding no_attribute
  no_attribute-same at there n = refl

  attribute_of_kind-same : (at there : Position) (n : List ℕ) (found : NameAnswer) (k : NameKind) → Same (attribute_of_kind at n found k) (attribute_of_kind there n found k)
  attribute_of_kind-same at there n found kind.annotated_variable = refl
  attribute_of_kind-same at there n found kind.variable = refl
  attribute_of_kind-same at there n found kind.alias = refl
  attribute_of_kind-same at there n found kind.function_name = refl
  attribute_of_kind-same at there n found kind.class_name = refl
  attribute_of_kind-same at there n found (kind.module_name m) = refl
  attribute_of_kind-same at there n found (kind.fixed x) = refl
  attribute_of_kind-same at there n found kind.unknown = refl
  attribute_of_kind-same at there n found kind.opaque = refl
  attribute_of_kind-same at there n found kind.no_module = refl
  attribute_of_kind-same at there n found kind.no_name = no_attribute-same at there n
  attribute_of_kind-same at there n found kind.no_target = refl
  attribute_of_kind-same at there n found kind.cycle = refl

  attribute_in_module-same : (at there : Position) (m : List (List ℕ)) (n : List ℕ) (fixed : Option FixedModule) → Same (attribute_in_module at m n fixed) (attribute_in_module there m n fixed)
  attribute_in_module-same at there m n (Some found) = refl
  attribute_in_module-same at there m n None =
      let seen = ask_outside (record { module_path = m; name = n }) in
      same_then seen seen (λ found. attribute_of_kind at n found found.kind) (λ found. attribute_of_kind there n found found.kind) refl
      (λ found. attribute_of_kind-same at there n found found.kind)

  module_attribute-by : (at there : Position) (m : List (List ℕ)) (n : List ℕ) (b : Bool)
      → Same (if b then Done any_meant else attribute_in_module at m n (fixed_module m)) (if b then Done any_meant else attribute_in_module there m n (fixed_module m))
  module_attribute-by at there m n true = refl
  module_attribute-by at there m n false = attribute_in_module-same at there m n (fixed_module m)

  module_attribute-same : (at there : Position) (m : List (List ℕ)) (n : List ℕ) → Same (module_attribute at m n) (module_attribute there m n)
  unfolding module_attribute
  module_attribute-same at there m n = module_attribute-by at there m n (is_dunder n)

  attribute_meaning-same : (r : Role) (at there : Position) (n : List ℕ) (m : Meaning) → Same (attribute_meaning r at n m) (attribute_meaning r there n m)
  attribute_meaning-same r at there n (class_meant c) = refl
  attribute_meaning-same r at there n any_meant = refl
  attribute_meaning-same r at there n type_meant = refl
  attribute_meaning-same r at there n (fixed_meant x) = refl
  attribute_meaning-same r at there n (module_meant m) = module_attribute-same at there m n
  attribute_meaning-same r at there n (variable_meant b) = refl
  attribute_meaning-same r at there n (function_meant b) = refl
  attribute_meaning-same r at there n nothing_meant = refl

  attributes-same : (r : Role) (at there : Position) (names : List (List ℕ)) (m : Meaning) → Same (attributes r at names m) (attributes r there names m)
  unfolding attributes
  attributes-same r at there [] m = refl
  attributes-same r at there (n ∷ names) m =
      same_then (attribute_meaning r at n m) (attribute_meaning r there n m) (attributes r at names) (attributes r there names) (attribute_meaning-same r at there n m) (attributes-same r at there names)

  pub dotted_meaning-same : (r : Role) (file other : Interface) → SameNames file other → (at there : Position) (names : List (List ℕ))
      → Same (dotted_meaning r file at names) (dotted_meaning r other there names)
  unfolding dotted_meaning
  dotted_meaning-same r file other one at there [] = refl
  dotted_meaning-same r file other one at there (x ∷ names) =
      same_then (own_name file at x) (own_name other there x) (attributes r at names) (attributes r there names) (own_name-same file other one at there x) (attributes-same r at there names)

  -- ---- what is reported

  invalid-same : (at there : Position) → Same (invalid at) (invalid there)
  unfolding invalid
  invalid-same at there = refl

  not_a_type-same : (name : DottedName) → Same (not_a_type name) (not_a_type (drop_name name))
  unfolding not_a_type
  not_a_type-same name = refl

  wrong_count-same : (at there : Position) (form : TypeForm) → Same (wrong_count at form) (wrong_count there form)
  unfolding wrong_count
  wrong_count-same at there form = refl

  bare_form-same : (at there : Position) (x : FixedName) → Same (bare_form at x) (bare_form there x)
  bare_form-same at there special.Any = refl
  bare_form-same at there special.Optional = invalid-same at there
  bare_form-same at there special.Union = invalid-same at there
  bare_form-same at there special.List = refl
  bare_form-same at there special.Dict = refl
  bare_form-same at there special.Tuple = refl
  bare_form-same at there special.Callable = refl
  bare_form-same at there special.Cast = invalid-same at there
  bare_form-same at there special.RevealType = invalid-same at there
  bare_form-same at there special.TypeChecking = invalid-same at there

  resolve_name-same : (at there : Position) (name : DottedName) (m : Meaning) → Same (resolve_name at name m) (resolve_name there (drop_name name) m)
  unfolding resolve_name
  resolve_name-same at there name (class_meant c) = refl
  resolve_name-same at there name any_meant = refl
  resolve_name-same at there name type_meant = refl
  resolve_name-same at there name (fixed_meant x) = bare_form-same at there x
  resolve_name-same at there name (module_meant m) = not_a_type-same name
  resolve_name-same at there name (variable_meant b) = not_a_type-same name
  resolve_name-same at there name (function_meant b) = not_a_type-same name
  resolve_name-same at there name nothing_meant = invalid-same at there

  name_rule-same : (file other : Interface) → SameNames file other → (at there : Position) (name : DottedName) → Same (name_rule file at name) (name_rule other there (drop_name name))
  unfolding name_rule
  name_rule-same file other one at there name =
      same_then (dotted_meaning role.Annotation file name.at name.names) (dotted_meaning role.Annotation other nowhere name.names) (resolve_name at name) (resolve_name there (drop_name name))
      (dotted_meaning-same role.Annotation file other one name.at nowhere name.names) (resolve_name-same at there name)

  -- ---- arguments

  -- readings that come to the same, one by one
  abbrev pub AllSame : {A : Type 0} → List (Step A) → List (Step A) → Type 0
  AllSame [] [] = Unit {0}
  AllSame (r ∷ rs) (s ∷ ss) = Same r s × AllSame rs ss
  AllSame _ _ = ⊥

  abbrev pub SameShape : ShapeReading → ShapeReading → Type 0
  SameShape ellipsis_read ellipsis_read = Unit {0}
  SameShape (list_read rs) (list_read ss) = AllSame rs ss
  SameShape other_read other_read = Unit {0}
  SameShape _ _ = ⊥

  abbrev pub AllAlike : List ArgumentReading → List ArgumentReading → Type 0
  AllAlike [] [] = Unit {0}
  AllAlike (x ∷ xs) (y ∷ ys) = (Same x.read y.read × SameShape x.shape y.shape) × AllAlike xs ys
  AllAlike _ _ = ⊥

  more_types-same : (tys : List Ty) (rs ss : List (Step Annotation)) → AllSame rs ss → Same (more_types tys rs) (more_types tys ss)
  unfolding more_types
  more_types-same tys [] [] all = refl
  more_types-same tys [] (s ∷ ss) all = absurd all
  more_types-same tys (r ∷ rs) [] all = absurd all
  more_types-same tys (r ∷ rs) (s ∷ ss) all =
      same_then r s (λ found. more_types (tys ++ (found.ty ∷ [])) rs) (λ found. more_types (tys ++ (found.ty ∷ [])) ss) all.0 (λ found. more_types-same (tys ++ (found.ty ∷ [])) rs ss all.1)

  reads-same : (xs ys : List ArgumentReading) → AllAlike xs ys → AllSame (map (λ a. a.read) xs) (map (λ a. a.read) ys)
  reads-same [] [] all = tt
  reads-same [] (y ∷ ys) all = absurd all
  reads-same (x ∷ xs) [] all = absurd all
  reads-same (x ∷ xs) (y ∷ ys) all = (all.0.0, reads-same xs ys all.1)

  built_rule-same : (form : TypeForm) (xs ys : List ArgumentReading) → AllAlike xs ys → Same (built_rule form xs) (built_rule form ys)
  unfolding built_rule
  built_rule-same form xs ys all =
      same_then (argument_types xs) (argument_types ys) (λ tys. Done (annotation_of_type (build_form_type form tys))) (λ tys. Done (annotation_of_type (build_form_type form tys)))
      (more_types-same [] (map (λ a. a.read) xs) (map (λ a. a.read) ys) (reads-same xs ys all)) (λ tys. refl)

  object_rule-same : (r s : Step Annotation) → Same r s → Same (object_rule r) (object_rule s)
  object_rule-same r s same = same_then r s (λ found. Done (annotation_of_type (object_of found.class))) (λ found. Done (annotation_of_type (object_of found.class))) same (λ found. refl)

  class_object-same : (xs ys : List ArgumentReading) → AllAlike xs ys → Same (class_object_rule xs) (class_object_rule ys)
  class_object-same [] [] all = refl
  class_object-same [] (y ∷ ys) all = absurd all
  class_object-same (x ∷ xs) [] all = absurd all
  class_object-same (x ∷ xs) (y ∷ ys) all = object_rule-same x.read y.read all.0.0

  any_length-same : (r s : Step Annotation) → Same r s → Same (any_length_rule r) (any_length_rule s)
  any_length-same r s same = same_then r s (λ found. Done (annotation_of_type (tuple_of found.ty))) (λ found. Done (annotation_of_type (tuple_of found.ty))) same (λ found. refl)

  pair-same : (x y x' y' : ArgumentReading) (shape shape' : ShapeReading) → Same x.read x'.read → SameShape shape shape' → AllAlike (x ∷ y ∷ []) (x' ∷ y' ∷ [])
      → Same (pair_rule x y shape) (pair_rule x' y' shape')
  pair-same x y x' y' ellipsis_read ellipsis_read same shape all = any_length-same x.read x'.read same
  pair-same x y x' y' ellipsis_read (list_read ss) same shape all = absurd shape
  pair-same x y x' y' ellipsis_read other_read same shape all = absurd shape
  pair-same x y x' y' (list_read rs) ellipsis_read same shape all = absurd shape
  pair-same x y x' y' (list_read rs) (list_read ss) same shape all = built_rule-same type_form.Tuple (x ∷ y ∷ []) (x' ∷ y' ∷ []) all
  pair-same x y x' y' (list_read rs) other_read same shape all = absurd shape
  pair-same x y x' y' other_read ellipsis_read same shape all = absurd shape
  pair-same x y x' y' other_read (list_read ss) same shape all = absurd shape
  pair-same x y x' y' other_read other_read same shape all = built_rule-same type_form.Tuple (x ∷ y ∷ []) (x' ∷ y' ∷ []) all

  tuple_rule-same : (xs ys : List ArgumentReading) → AllAlike xs ys → Same (tuple_rule xs) (tuple_rule ys)
  tuple_rule-same [] [] all = refl
  tuple_rule-same [] (y ∷ ys) all = absurd all
  tuple_rule-same (x ∷ xs) [] all = absurd all
  tuple_rule-same (x ∷ []) (y ∷ []) all = built_rule-same type_form.Tuple (x ∷ []) (y ∷ []) all
  tuple_rule-same (x ∷ []) (y ∷ z ∷ ys) all = absurd all.1
  tuple_rule-same (x ∷ z ∷ xs) (y ∷ []) all = absurd all.1
  tuple_rule-same (x ∷ z ∷ []) (y ∷ w ∷ []) all = pair-same x z y w z.shape w.shape all.0.0 all.1.0.1 all
  tuple_rule-same (x ∷ z ∷ []) (y ∷ w ∷ v ∷ ys) all = absurd all.1.1
  tuple_rule-same (x ∷ z ∷ u ∷ xs) (y ∷ w ∷ []) all = absurd all.1.1
  tuple_rule-same (x ∷ z ∷ u ∷ xs) (y ∷ w ∷ v ∷ ys) all = built_rule-same type_form.Tuple (x ∷ z ∷ u ∷ xs) (y ∷ w ∷ v ∷ ys) all

  any_callable-same : (r s : Step Annotation) → Same r s → Same (any_callable r) (any_callable s)
  any_callable-same r s same = same_then r s (λ found. Done (annotation_of_type (callable dots found.ty))) (λ found. Done (annotation_of_type (callable dots found.ty))) same (λ found. refl)

  listed_callable-same : (rs ss : List (Step Annotation)) (r s : Step Annotation) → AllSame rs ss → Same r s → Same (listed_callable rs r) (listed_callable ss s)
  listed_callable-same rs ss r s all same =
      same_then (more_types [] rs) (more_types [] ss) (λ tys. and_then r (λ found. Done (annotation_of_type (plain_callable tys found.ty)))) (λ tys. and_then s (λ found. Done (annotation_of_type (plain_callable tys found.ty))))
      (more_types-same [] rs ss all) (λ tys. same_then r s (λ found. Done (annotation_of_type (plain_callable tys found.ty))) (λ found. Done (annotation_of_type (plain_callable tys found.ty))) same (λ found. refl))

  callable_of-same : (at there : Position) (a b : ShapeReading) (r s : Step Annotation) → SameShape a b → Same r s → Same (callable_of at a r) (callable_of there b s)
  callable_of-same at there ellipsis_read ellipsis_read r s shape same = any_callable-same r s same
  callable_of-same at there ellipsis_read (list_read ss) r s shape same = absurd shape
  callable_of-same at there ellipsis_read other_read r s shape same = absurd shape
  callable_of-same at there (list_read rs) ellipsis_read r s shape same = absurd shape
  callable_of-same at there (list_read rs) (list_read ss) r s shape same = listed_callable-same rs ss r s shape same
  callable_of-same at there (list_read rs) other_read r s shape same = absurd shape
  callable_of-same at there other_read ellipsis_read r s shape same = absurd shape
  callable_of-same at there other_read (list_read ss) r s shape same = absurd shape
  callable_of-same at there other_read other_read r s shape same = invalid-same at there

  callable_rule-same : (at there : Position) (xs ys : List ArgumentReading) → AllAlike xs ys → Same (callable_rule at xs) (callable_rule there ys)
  callable_rule-same at there [] [] all = invalid-same at there
  callable_rule-same at there [] (y ∷ ys) all = absurd all
  callable_rule-same at there (x ∷ xs) [] all = absurd all
  callable_rule-same at there (x ∷ []) (y ∷ []) all = invalid-same at there
  callable_rule-same at there (x ∷ []) (y ∷ z ∷ ys) all = absurd all.1
  callable_rule-same at there (x ∷ z ∷ xs) (y ∷ []) all = absurd all.1
  callable_rule-same at there (x ∷ z ∷ []) (y ∷ w ∷ []) all = callable_of-same at there x.shape y.shape z.read w.read all.0.1 all.1.0.0
  callable_rule-same at there (x ∷ z ∷ []) (y ∷ w ∷ v ∷ ys) all = absurd all.1.1
  callable_rule-same at there (x ∷ z ∷ u ∷ xs) (y ∷ w ∷ []) all = absurd all.1.1
  callable_rule-same at there (x ∷ z ∷ u ∷ xs) (y ∷ w ∷ v ∷ ys) all = invalid-same at there

  form_rule-same : (at there : Position) (form : TypeForm) (xs ys : List ArgumentReading) → AllAlike xs ys → Same (form_rule at form xs) (form_rule there form ys)
  unfolding form_rule
  form_rule-same at there type_form.List xs ys all = built_rule-same type_form.List xs ys all
  form_rule-same at there type_form.Dict xs ys all = built_rule-same type_form.Dict xs ys all
  form_rule-same at there type_form.Tuple xs ys all = tuple_rule-same xs ys all
  form_rule-same at there type_form.Optional xs ys all = built_rule-same type_form.Optional xs ys all
  form_rule-same at there type_form.Union xs ys all = built_rule-same type_form.Union xs ys all
  form_rule-same at there type_form.Callable xs ys all = callable_rule-same at there xs ys all
  form_rule-same at there type_form.Type xs ys all = class_object-same xs ys all

  length-alike : (xs ys : List ArgumentReading) → AllAlike xs ys → length xs ≡ length ys
  length-alike [] [] all = refl
  length-alike [] (y ∷ ys) all = absurd all
  length-alike (x ∷ xs) [] all = absurd all
  length-alike (x ∷ xs) (y ∷ ys) all = ap suc (length-alike xs ys all.1)

  form_or_count : (at there : Position) (form : TypeForm) (xs ys : List ArgumentReading) (b : Bool) → AllAlike xs ys
      → Same (if b then form_rule at form xs else wrong_count at form) (if b then form_rule there form ys else wrong_count there form)
  form_or_count at there form xs ys true all = form_rule-same at there form xs ys all
  form_or_count at there form xs ys false all = wrong_count-same at there form

  subscripted_rule-same : (at there : Position) (name : DottedName) (xs ys : List ArgumentReading) (s : Subscripted) → AllAlike xs ys
      → Same (subscripted_rule at name xs s) (subscripted_rule there (drop_name name) ys s)
  unfolding subscripted_rule
  subscripted_rule-same at there name xs ys (form_subscripted form) all =
      form_or_count at there form xs ys (takes form (length xs)) all
      ∙ ap (λ n. came f (if takes form n then form_rule there form ys else wrong_count there form)) (length-alike xs ys all)
  subscripted_rule-same at there name xs ys (class_subscripted c) all = refl
  subscripted_rule-same at there name xs ys any_subscripted all = refl
  subscripted_rule-same at there name xs ys value_subscripted all = not_a_type-same name
  subscripted_rule-same at there name xs ys wrong_subscripted all = invalid-same at there

  subscript_rule-same : (file other : Interface) → SameNames file other → (at there : Position) (name : DottedName) (is_nested : Bool) (xs ys : List ArgumentReading) → AllAlike xs ys
      → Same (subscript_rule file at name is_nested xs) (subscript_rule other there (drop_name name) is_nested ys)
  unfolding subscript_rule
  subscript_rule-same file other one at there name is_nested xs ys all =
      same_then (dotted_meaning role.Annotation file name.at name.names) (dotted_meaning role.Annotation other nowhere name.names)
      (λ found. subscripted_rule at name xs (with_arguments is_nested found)) (λ found. subscripted_rule there (drop_name name) ys (with_arguments is_nested found))
      (dotted_meaning-same role.Annotation file other one name.at nowhere name.names) (λ found. subscripted_rule-same at there name xs ys (with_arguments is_nested found) all)

  union_rule-same : (r s t u : Step Annotation) → Same r t → Same s u → Same (union_rule r s) (union_rule t u)
  unfolding union_rule
  union_rule-same r s t u left right =
      same_then r t (λ l. and_then s (λ r. Done (annotation_of_type (union_of (l.ty ∷ r.ty ∷ []))))) (λ l. and_then u (λ r. Done (annotation_of_type (union_of (l.ty ∷ r.ty ∷ [])))))
      left (λ l. same_then s u (λ r. Done (annotation_of_type (union_of (l.ty ∷ r.ty ∷ [])))) (λ r. Done (annotation_of_type (union_of (l.ty ∷ r.ty ∷ [])))) right (λ r. refl))

  -- ---- annotations

  module _ (file other : Interface) (one : SameNames file other) where
    mutual
      pub read_type-same : (t : TypeExpr) → Same (read_type file t) (read_type other (drop_type t))
      read_type-same none_written = refl
      read_type-same (name_written at name) = name_rule-same file other one at nowhere name
      read_type-same (union_written left right) =
          union_rule-same (read_type file left) (read_type file right) (read_type other (drop_type left)) (read_type other (drop_type right)) (read_type-same left) (read_type-same right)
      read_type-same (subscript_written at name is_nested xs) =
          subscript_rule-same file other one at nowhere name is_nested (argument_readings file xs) (argument_readings other (drop_arguments xs)) (arguments-alike xs)
      read_type-same (wrong_written at) = invalid-same at nowhere

      arguments-alike : (xs : TypeArguments) → AllAlike (argument_readings file xs) (argument_readings other (drop_arguments xs))
      arguments-alike no_argument = tt
      arguments-alike (another_argument x rest) = (argument-alike x, arguments-alike rest)

      argument-alike : (x : TypeArgument)
          → Same (argument_reading file x).read (argument_reading other (drop_argument x)).read × SameShape (argument_reading file x).shape (argument_reading other (drop_argument x)).shape
      argument-alike (type_argument written shape) = (read_type-same written, shape-alike shape)

      shape-alike : (shape : ArgumentShape) → SameShape (shape_reading file shape) (shape_reading other (drop_shape shape))
      shape-alike ellipsis_shape = tt
      shape-alike (list_shape types) = types-alike types
      shape-alike other_shape = tt

      types-alike : (types : TypeExprs) → AllSame (type_readings file types) (type_readings other (drop_types types))
      types-alike no_type = tt
      types-alike (another_type x rest) = (read_type-same x, types-alike rest)
