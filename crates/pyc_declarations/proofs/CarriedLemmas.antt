-- Readings over other answers, where those to the keys that they ask are the same: annotations, signatures and bases of
-- files that bind alike the names that are asked.
use Rattle.std.proofs.Common.{◌≡◌, ℕ, suc, Bool, true, false, List, [], ◌∷◌, ◌++◌, map, length, Option, None, Some, is_some, if◌then◌else◌, refl, sym, ap, ap₂, subst, ◌∙◌}
use Rattle.pyc_annotations.specs.declared.meaning.Role.{Role}
use Rattle.pyc_annotations.specs.declared.meaning.Role.TheVariants as role
use Rattle.pyc_annotations.specs.declared.type_form.TypeForm.{TypeForm}
use Rattle.pyc_annotations.specs.declared.type_form.TypeForm.TheVariants as type_form
use Rattle.pyc_annotations.specs.Annotations.{Annotation, annotation_of_type, invalid, wrong_count, not_a_type, of_class, attributes, dotted_meaning, resolve_name, name_rule, Subscripted, form_subscripted, class_subscripted, any_subscripted, value_subscripted, wrong_subscripted, with_arguments, ShapeReading, ellipsis_read, list_read, other_read, ArgumentReading, more_types, argument_types, takes, build_form_type, built_rule, object_of, object_rule, class_object_rule, any_length_rule, pair_rule, tuple_rule, plain_callable, any_callable, listed_callable, callable_of, callable_rule, form_rule, subscripted_rule, subscript_rule, union_rule, read_type, argument_readings, argument_reading, shape_reading, type_readings}
use Rattle.pyc_annotations.specs.Bases.{Base, base_of_meaning, written_base, invalid_base, unnamed, base, names_at, argument_base, base_of_argument, with_base, more_bases, bases}
use Rattle.pyc_annotations.specs.Meanings.{Meaning, fixed_meaning, own_meaning, binds, name_in_module, own_name}
use Rattle.pyc_annotations.specs.Meanings.{module_name_meaning}
use Rattle.pyc_ast.specs.declared.expr.ArgumentKind.{ArgumentKind}
use Rattle.pyc_ast.specs.declared.expr.ArgumentKind.TheVariants as argument_kind
use Rattle.pyc_ast.specs.declared.position.Position.{Position}
use Rattle.pyc_ast.specs.Exprs.{Expr, Argument, argument, at_of}
use Rattle.pyc_ast.specs.Statements.{FunctionDefinition, Parameter}
use Rattle.pyc_names.specs.declared.fixed.FixedModule.{FixedModule}
use Rattle.pyc_names.specs.FixedModules.{fixed_module, fixed_name}
use Rattle.pyc_names.specs.Interfaces.{Interface}
use Rattle.pyc_reading.specs.Answers.{Answer}
use Rattle.pyc_reading.specs.Keys.{Key}
use Rattle.pyc_reading.specs.Keys as key
use Rattle.pyc_reading.specs.Owing.{row_keys}
use Rattle.pyc_reading.specs.Readings.{Done, Ask, Report, Require, and_then, result_of, asked}
use Rattle.pyc_reading.specs.Traces.{Step}
use Rattle.pyc_report.specs.NameTexts.{joined_names}
use Rattle.pyc_signatures.specs.Signatures.{annotated_or, first_type, param_of_type, parameter_reading, more_params, parameters_reading, function_type_of, function_type}
use Rattle.pyc_type_exprs.specs.TypeExprs.{DottedName, TypeExpr, none_written, name_written, union_written, subscript_written, wrong_written, TypeArgument, type_argument, ArgumentShape, ellipsis_shape, list_shape, other_shape, TypeExprs, no_type, another_type, TypeArguments, no_argument, another_argument, type_expr, dotted_names, innermost}
use Rattle.pyc_type_forms.specs.Types.{Ty, any, tuple_of, callable, dots}
use Rattle.pyc_type_forms.specs.TypeView.{ParamView}
use Rattle.pyc_type_forms.specs.Unions.{union_of}

list_append : {A : Type 0} (xs ys zs : List A) → (xs ++ ys) ++ zs ≡ xs ++ (ys ++ zs)
list_append [] ys zs = refl
list_append (x ∷ xs) ys zs = ap (λ l. x ∷ l) (list_append xs ys zs)

-- what one reading and then another come to
result-then : {A B : Type 0} (f : Key → Answer) (r : Step A) (next : A → Step B) → result_of f (and_then r next) ≡ result_of f (next (result_of f r))
unfolding and_then
result-then f (Done a) next = refl
result-then f (Ask k go) next = result-then f (go (f k)) next
result-then f (Report diagnostic rest) next = result-then f rest next
result-then f (Require row rest) next = result-then f rest next

-- and what they ask
asked-then : {A B : Type 0} (f : Key → Answer) (r : Step A) (next : A → Step B) → asked f (and_then r next) ≡ asked f r ++ asked f (next (result_of f r))
unfolding and_then
asked-then f (Done a) next = refl
asked-then f (Ask k go) next = ap (λ l. k ∷ l) (asked-then f (go (f k)) next)
asked-then f (Report diagnostic rest) next = asked-then f rest next
asked-then f (Require row rest) next =
    ap (λ l. row_keys row ++ l) (asked-then f rest next) ∙ sym (list_append (row_keys row) (asked f rest) (asked f (next (result_of f rest))))

-- something holds of each of these keys
abbrev pub AllOf : (Key → Type 0) → List Key → Type 0
AllOf good [] = Unit {0}
AllOf good (k ∷ ks) = good k × AllOf good ks

all_first : (good : Key → Type 0) (xs ys : List Key) → AllOf good (xs ++ ys) → AllOf good xs
all_first good [] ys all = tt
all_first good (x ∷ xs) ys all = (all.0, all_first good xs ys all.1)

all_later : (good : Key → Type 0) (xs ys : List Key) → AllOf good (xs ++ ys) → AllOf good ys
all_later good [] ys all = all
all_later good (x ∷ xs) ys all = all_later good xs ys all.1

module _ (f g : Key → Answer) (good : Key → Type 0) (holds : (k : Key) → good k → f k ≡ g k) where
  -- both come to the same and ask the same, where the keys that the first asks are good
  abbrev pub Carried : {A : Type 0} → Step A → Step A → Type 0
  Carried r s = AllOf good (asked f r) → (result_of f r ≡ result_of g s) × (asked f r ≡ asked g s)

  pub carried_then : {A B : Type 0} (r s : Step A) (next more : A → Step B) → Carried r s → ((a : A) → Carried (next a) (more a)) → Carried (and_then r next) (and_then s more)
  carried_then {A} {B} r s next more one later all =
      let whole : AllOf good (asked f r ++ asked f (next (result_of f r))) = subst (AllOf good) (asked-then f r next) all in
      let first = one (all_first good (asked f r) (asked f (next (result_of f r))) whole) in
      let second = later (result_of f r) (all_later good (asked f r) (asked f (next (result_of f r))) whole) in (
        result-then f r next ∙ second.0 ∙ ap (λ (a : A). result_of g (more a)) first.0 ∙ sym (result-then g s more),
        asked-then f r next ∙ ap₂ (λ (xs ys : List Key). xs ++ ys) first.1 (second.1 ∙ ap (λ (a : A). asked g (more a)) first.0) ∙ sym (asked-then g s more),
      )

  -- a reading that depends on no file
  pub carried : {A : Type 0} (r : Step A) → Carried r r
  carried (Done a) all = (refl, refl)
  carried (Ask k go) all =
      let rest = carried (go (f k)) all.1 in
      let same = holds k all.0 in (
        rest.0 ∙ ap (λ answer. result_of g (go answer)) same,
        ap (λ l. k ∷ l) (rest.1 ∙ ap (λ answer. asked g (go answer)) same),
      )
  carried (Report diagnostic rest) all = carried rest all
  carried (Require row rest) all =
      let later = carried rest (all_later good (row_keys row) (asked f rest) all) in (later.0, ap (λ l. row_keys row ++ l) later.1)

  -- ---- arguments

  -- readings that are carried, one by one
  abbrev pub AllCarried : {A : Type 0} → List (Step A) → List (Step A) → Type 0
  AllCarried [] [] = Unit {0}
  AllCarried (r ∷ rs) (s ∷ ss) = Carried r s × AllCarried rs ss
  AllCarried _ _ = ⊥

  abbrev pub SameShape : ShapeReading → ShapeReading → Type 0
  SameShape ellipsis_read ellipsis_read = Unit {0}
  SameShape (list_read rs) (list_read ss) = AllCarried rs ss
  SameShape other_read other_read = Unit {0}
  SameShape _ _ = ⊥

  abbrev pub AllAlike : List ArgumentReading → List ArgumentReading → Type 0
  AllAlike [] [] = Unit {0}
  AllAlike (x ∷ xs) (y ∷ ys) = (Carried x.read y.read × SameShape x.shape y.shape) × AllAlike xs ys
  AllAlike _ _ = ⊥

  more_types-carried : (tys : List Ty) (rs ss : List (Step Annotation)) → AllCarried rs ss → Carried (more_types tys rs) (more_types tys ss)
  unfolding more_types
  more_types-carried tys [] [] all = carried (Done tys)
  more_types-carried tys [] (s ∷ ss) all = absurd all
  more_types-carried tys (r ∷ rs) [] all = absurd all
  more_types-carried tys (r ∷ rs) (s ∷ ss) all =
      carried_then r s (λ found. more_types (tys ++ (found.ty ∷ [])) rs) (λ found. more_types (tys ++ (found.ty ∷ [])) ss) all.0 (λ found. more_types-carried (tys ++ (found.ty ∷ [])) rs ss all.1)

  reads-carried : (xs ys : List ArgumentReading) → AllAlike xs ys → AllCarried (map (λ a. a.read) xs) (map (λ a. a.read) ys)
  reads-carried [] [] all = tt
  reads-carried [] (y ∷ ys) all = absurd all
  reads-carried (x ∷ xs) [] all = absurd all
  reads-carried (x ∷ xs) (y ∷ ys) all = (all.0.0, reads-carried xs ys all.1)

  built_rule-carried : (form : TypeForm) (xs ys : List ArgumentReading) → AllAlike xs ys → Carried (built_rule form xs) (built_rule form ys)
  unfolding built_rule
  built_rule-carried form xs ys all =
      carried_then (argument_types xs) (argument_types ys) (λ tys. Done (annotation_of_type (build_form_type form tys))) (λ tys. Done (annotation_of_type (build_form_type form tys)))
      (more_types-carried [] (map (λ a. a.read) xs) (map (λ a. a.read) ys) (reads-carried xs ys all)) (λ tys. carried (Done (annotation_of_type (build_form_type form tys))))

  -- an annotation that is read, and what is made of it
  made-carried : {B : Type 0} (r s : Step Annotation) (made : Annotation → B) → Carried r s → Carried (and_then r (λ found. Done (made found))) (and_then s (λ found. Done (made found)))
  made-carried r s made one = carried_then r s (λ found. Done (made found)) (λ found. Done (made found)) one (λ found. carried (Done (made found)))

  object_rule-carried : (r s : Step Annotation) → Carried r s → Carried (object_rule r) (object_rule s)
  object_rule-carried r s one = made-carried r s (λ found. annotation_of_type (object_of found.class)) one

  class_object-carried : (xs ys : List ArgumentReading) → AllAlike xs ys → Carried (class_object_rule xs) (class_object_rule ys)
  class_object-carried [] [] all = carried (Done (annotation_of_type any))
  class_object-carried [] (y ∷ ys) all = absurd all
  class_object-carried (x ∷ xs) [] all = absurd all
  class_object-carried (x ∷ xs) (y ∷ ys) all = object_rule-carried x.read y.read all.0.0

  any_length-carried : (r s : Step Annotation) → Carried r s → Carried (any_length_rule r) (any_length_rule s)
  any_length-carried r s one = made-carried r s (λ found. annotation_of_type (tuple_of found.ty)) one

  pair-carried : (x y x' y' : ArgumentReading) (shape shape' : ShapeReading) → Carried x.read x'.read → SameShape shape shape' → AllAlike (x ∷ y ∷ []) (x' ∷ y' ∷ [])
      → Carried (pair_rule x y shape) (pair_rule x' y' shape')
  pair-carried x y x' y' ellipsis_read ellipsis_read one shape all = any_length-carried x.read x'.read one
  pair-carried x y x' y' ellipsis_read (list_read ss) one shape all = absurd shape
  pair-carried x y x' y' ellipsis_read other_read one shape all = absurd shape
  pair-carried x y x' y' (list_read rs) ellipsis_read one shape all = absurd shape
  pair-carried x y x' y' (list_read rs) (list_read ss) one shape all = built_rule-carried type_form.Tuple (x ∷ y ∷ []) (x' ∷ y' ∷ []) all
  pair-carried x y x' y' (list_read rs) other_read one shape all = absurd shape
  pair-carried x y x' y' other_read ellipsis_read one shape all = absurd shape
  pair-carried x y x' y' other_read (list_read ss) one shape all = absurd shape
  pair-carried x y x' y' other_read other_read one shape all = built_rule-carried type_form.Tuple (x ∷ y ∷ []) (x' ∷ y' ∷ []) all

  tuple_rule-carried : (xs ys : List ArgumentReading) → AllAlike xs ys → Carried (tuple_rule xs) (tuple_rule ys)
  tuple_rule-carried [] [] all = built_rule-carried type_form.Tuple [] [] all
  tuple_rule-carried [] (y ∷ ys) all = absurd all
  tuple_rule-carried (x ∷ xs) [] all = absurd all
  tuple_rule-carried (x ∷ []) (y ∷ []) all = built_rule-carried type_form.Tuple (x ∷ []) (y ∷ []) all
  tuple_rule-carried (x ∷ []) (y ∷ z ∷ ys) all = absurd all.1
  tuple_rule-carried (x ∷ z ∷ xs) (y ∷ []) all = absurd all.1
  tuple_rule-carried (x ∷ z ∷ []) (y ∷ w ∷ []) all = pair-carried x z y w z.shape w.shape all.0.0 all.1.0.1 all
  tuple_rule-carried (x ∷ z ∷ []) (y ∷ w ∷ v ∷ ys) all = absurd all.1.1
  tuple_rule-carried (x ∷ z ∷ u ∷ xs) (y ∷ w ∷ []) all = absurd all.1.1
  tuple_rule-carried (x ∷ z ∷ u ∷ xs) (y ∷ w ∷ v ∷ ys) all = built_rule-carried type_form.Tuple (x ∷ z ∷ u ∷ xs) (y ∷ w ∷ v ∷ ys) all

  any_callable-carried : (r s : Step Annotation) → Carried r s → Carried (any_callable r) (any_callable s)
  any_callable-carried r s one = made-carried r s (λ found. annotation_of_type (callable dots found.ty)) one

  listed_callable-carried : (rs ss : List (Step Annotation)) (r s : Step Annotation) → AllCarried rs ss → Carried r s → Carried (listed_callable rs r) (listed_callable ss s)
  listed_callable-carried rs ss r s all one =
      carried_then (more_types [] rs) (more_types [] ss) (λ tys. and_then r (λ found. Done (annotation_of_type (plain_callable tys found.ty)))) (λ tys. and_then s (λ found. Done (annotation_of_type (plain_callable tys found.ty))))
      (more_types-carried [] rs ss all) (λ tys. made-carried r s (λ found. annotation_of_type (plain_callable tys found.ty)) one)

  callable_of-carried : (at : Position) (a b : ShapeReading) (r s : Step Annotation) → SameShape a b → Carried r s → Carried (callable_of at a r) (callable_of at b s)
  callable_of-carried at ellipsis_read ellipsis_read r s shape one = any_callable-carried r s one
  callable_of-carried at ellipsis_read (list_read ss) r s shape one = absurd shape
  callable_of-carried at ellipsis_read other_read r s shape one = absurd shape
  callable_of-carried at (list_read rs) ellipsis_read r s shape one = absurd shape
  callable_of-carried at (list_read rs) (list_read ss) r s shape one = listed_callable-carried rs ss r s shape one
  callable_of-carried at (list_read rs) other_read r s shape one = absurd shape
  callable_of-carried at other_read ellipsis_read r s shape one = absurd shape
  callable_of-carried at other_read (list_read ss) r s shape one = absurd shape
  callable_of-carried at other_read other_read r s shape one = carried (invalid at)

  callable_rule-carried : (at : Position) (xs ys : List ArgumentReading) → AllAlike xs ys → Carried (callable_rule at xs) (callable_rule at ys)
  callable_rule-carried at [] [] all = carried (invalid at)
  callable_rule-carried at [] (y ∷ ys) all = absurd all
  callable_rule-carried at (x ∷ xs) [] all = absurd all
  callable_rule-carried at (x ∷ []) (y ∷ []) all = carried (invalid at)
  callable_rule-carried at (x ∷ []) (y ∷ z ∷ ys) all = absurd all.1
  callable_rule-carried at (x ∷ z ∷ xs) (y ∷ []) all = absurd all.1
  callable_rule-carried at (x ∷ z ∷ []) (y ∷ w ∷ []) all = callable_of-carried at x.shape y.shape z.read w.read all.0.1 all.1.0.0
  callable_rule-carried at (x ∷ z ∷ []) (y ∷ w ∷ v ∷ ys) all = absurd all.1.1
  callable_rule-carried at (x ∷ z ∷ u ∷ xs) (y ∷ w ∷ []) all = absurd all.1.1
  callable_rule-carried at (x ∷ z ∷ u ∷ xs) (y ∷ w ∷ v ∷ ys) all = carried (invalid at)

  form_rule-carried : (at : Position) (form : TypeForm) (xs ys : List ArgumentReading) → AllAlike xs ys → Carried (form_rule at form xs) (form_rule at form ys)
  unfolding form_rule
  form_rule-carried at type_form.List xs ys all = built_rule-carried type_form.List xs ys all
  form_rule-carried at type_form.Dict xs ys all = built_rule-carried type_form.Dict xs ys all
  form_rule-carried at type_form.Tuple xs ys all = tuple_rule-carried xs ys all
  form_rule-carried at type_form.Optional xs ys all = built_rule-carried type_form.Optional xs ys all
  form_rule-carried at type_form.Union xs ys all = built_rule-carried type_form.Union xs ys all
  form_rule-carried at type_form.Callable xs ys all = callable_rule-carried at xs ys all
  form_rule-carried at type_form.Type xs ys all = class_object-carried xs ys all

  length-alike : (xs ys : List ArgumentReading) → AllAlike xs ys → length xs ≡ length ys
  length-alike [] [] all = refl
  length-alike [] (y ∷ ys) all = absurd all
  length-alike (x ∷ xs) [] all = absurd all
  length-alike (x ∷ xs) (y ∷ ys) all = ap suc (length-alike xs ys all.1)

  form_or_count : (at : Position) (form : TypeForm) (xs ys : List ArgumentReading) (b : Bool) → AllAlike xs ys
      → Carried (if b then form_rule at form xs else wrong_count at form) (if b then form_rule at form ys else wrong_count at form)
  form_or_count at form xs ys true all = form_rule-carried at form xs ys all
  form_or_count at form xs ys false all = carried (wrong_count at form)

  subscripted_rule-carried : (at : Position) (name : DottedName) (xs ys : List ArgumentReading) (s : Subscripted) → AllAlike xs ys
      → Carried (subscripted_rule at name xs s) (subscripted_rule at name ys s)
  unfolding subscripted_rule
  subscripted_rule-carried at name xs ys (form_subscripted form) all =
      subst (λ n. Carried (if takes form (length xs) then form_rule at form xs else wrong_count at form) (if takes form n then form_rule at form ys else wrong_count at form))
      (length-alike xs ys all) (form_or_count at form xs ys (takes form (length xs)) all)
  subscripted_rule-carried at name xs ys (class_subscripted c) all = carried (Done (of_class c))
  subscripted_rule-carried at name xs ys any_subscripted all = carried (Done (annotation_of_type any))
  subscripted_rule-carried at name xs ys value_subscripted all = carried (not_a_type name)
  subscripted_rule-carried at name xs ys wrong_subscripted all = carried (invalid at)

  union_rule-carried : (r s t u : Step Annotation) → Carried r t → Carried s u → Carried (union_rule r s) (union_rule t u)
  unfolding union_rule
  union_rule-carried r s t u left right =
      carried_then r t (λ l. and_then s (λ r. Done (annotation_of_type (union_of (l.ty ∷ r.ty ∷ []))))) (λ l. and_then u (λ r. Done (annotation_of_type (union_of (l.ty ∷ r.ty ∷ [])))))
      left (λ l. made-carried s u (λ r. annotation_of_type (union_of (l.ty ∷ r.ty ∷ []))) right)

  -- ---- names

  -- a name of its own module, where two files bind it alike: by its key, or where the module is a fixed one
  own_meaning-carried : (at : Position) (x : List ℕ) (r : Step Meaning) (b c : Bool) → b ≡ c → Carried (and_then r (own_meaning at x b)) (and_then r (own_meaning at x c))
  own_meaning-carried at x r b c same = subst (λ c. Carried (and_then r (own_meaning at x b)) (and_then r (own_meaning at x c))) same (carried (and_then r (own_meaning at x b)))

  own_by : (at : Position) (m : List (List ℕ)) (x : List ℕ) (o : Option FixedModule) (b c : Bool) → (is_some o ≡ true → b ≡ c) → (good (key.name (record { module_path = m; name = x })) → b ≡ c)
      → Carried (and_then (name_in_module m x o) (own_meaning at x b)) (and_then (name_in_module m x o) (own_meaning at x c))
  unfolding and_then
  own_by at m x (Some fixed) b c in_fixed by_key = own_meaning-carried at x (Done (fixed_meaning (fixed_name fixed x))) b c (in_fixed refl)
  own_by at m x None b c in_fixed by_key = λ all. own_meaning-carried at x (name_in_module m x None) b c (by_key all.0) all

  -- two files of one module that bind names alike: those whose keys are good, and all where the module is a fixed one
  pub record AreTwins (file twin : Interface) : Type 0 where
    pub named : file.name ≡ twin.name
    pub by_key : (x : List ℕ) → good (key.name (record { module_path = file.name; name = x })) → binds file x ≡ binds twin x
    pub in_fixed : (x : List ℕ) → is_some (fixed_module file.name) ≡ true → binds file x ≡ binds twin x

  module _ (file twin : Interface) (twins : AreTwins file twin) where
    own_name-carried : (at : Position) (x : List ℕ) → Carried (own_name file at x) (own_name twin at x)
    unfolding own_name module_name_meaning
    own_name-carried at x =
        subst (λ (m : List (List ℕ)). Carried (and_then (name_in_module file.name x (fixed_module file.name)) (own_meaning at x (binds file x))) (and_then (name_in_module m x (fixed_module m)) (own_meaning at x (binds twin x))))
        twins.named (own_by at file.name x (fixed_module file.name) (binds file x) (binds twin x) (twins.in_fixed x) (twins.by_key x))

    dotted-carried : (r : Role) (at : Position) (names : List (List ℕ)) → Carried (dotted_meaning r file at names) (dotted_meaning r twin at names)
    unfolding dotted_meaning
    dotted-carried r at [] = carried (dotted_meaning r file at [])
    dotted-carried r at (x ∷ names) =
        carried_then (own_name file at x) (own_name twin at x) (attributes r at names) (attributes r at names) (own_name-carried at x) (λ found. carried (attributes r at names found))

    name_rule-carried : (at : Position) (name : DottedName) → Carried (name_rule file at name) (name_rule twin at name)
    unfolding name_rule
    name_rule-carried at name =
        carried_then (dotted_meaning role.Annotation file name.at name.names) (dotted_meaning role.Annotation twin name.at name.names) (resolve_name at name) (resolve_name at name)
        (dotted-carried role.Annotation name.at name.names) (λ found. carried (resolve_name at name found))

    subscript_rule-carried : (at : Position) (name : DottedName) (is_nested : Bool) (xs ys : List ArgumentReading) → AllAlike xs ys
        → Carried (subscript_rule file at name is_nested xs) (subscript_rule twin at name is_nested ys)
    unfolding subscript_rule
    subscript_rule-carried at name is_nested xs ys all =
        carried_then (dotted_meaning role.Annotation file name.at name.names) (dotted_meaning role.Annotation twin name.at name.names)
        (λ found. subscripted_rule at name xs (with_arguments is_nested found)) (λ found. subscripted_rule at name ys (with_arguments is_nested found))
        (dotted-carried role.Annotation name.at name.names) (λ found. subscripted_rule-carried at name xs ys (with_arguments is_nested found) all)

    -- ---- annotations

    mutual
      pub read_type-carried : (t : TypeExpr) → Carried (read_type file t) (read_type twin t)
      read_type-carried none_written = carried (read_type file none_written)
      read_type-carried (name_written at name) = name_rule-carried at name
      read_type-carried (union_written left right) =
          union_rule-carried (read_type file left) (read_type file right) (read_type twin left) (read_type twin right) (read_type-carried left) (read_type-carried right)
      read_type-carried (subscript_written at name is_nested xs) =
          subscript_rule-carried at name is_nested (argument_readings file xs) (argument_readings twin xs) (arguments-alike xs)
      read_type-carried (wrong_written at) = carried (invalid at)

      arguments-alike : (xs : TypeArguments) → AllAlike (argument_readings file xs) (argument_readings twin xs)
      arguments-alike no_argument = tt
      arguments-alike (another_argument x rest) = (argument-alike x, arguments-alike rest)

      argument-alike : (x : TypeArgument) → Carried (argument_reading file x).read (argument_reading twin x).read × SameShape (argument_reading file x).shape (argument_reading twin x).shape
      argument-alike (type_argument written shape) = (read_type-carried written, shape-alike shape)

      shape-alike : (shape : ArgumentShape) → SameShape (shape_reading file shape) (shape_reading twin shape)
      shape-alike ellipsis_shape = tt
      shape-alike (list_shape types) = types-alike types
      shape-alike other_shape = tt

      types-alike : (types : TypeExprs) → AllCarried (type_readings file types) (type_readings twin types)
      types-alike no_type = tt
      types-alike (another_type x rest) = (read_type-carried x, types-alike rest)

    -- ---- functions

    annotated_or-carried : (ty : Ty) (o : Option Expr) → Carried (annotated_or file ty o) (annotated_or twin ty o)
    annotated_or-carried ty None = carried (Done ty)
    annotated_or-carried ty (Some e) = made-carried (read_type file (type_expr e)) (read_type twin (type_expr e)) (λ found. found.ty) (read_type-carried (type_expr e))

    parameter-carried : (receiver : Ty) (p : Parameter) → Carried (parameter_reading file receiver p) (parameter_reading twin receiver p)
    unfolding parameter_reading
    parameter-carried receiver p =
        carried_then (annotated_or file (first_type receiver p.kind) p.annotation) (annotated_or twin (first_type receiver p.kind) p.annotation)
        (λ ty. Done (param_of_type p ty)) (λ ty. Done (param_of_type p ty)) (annotated_or-carried (first_type receiver p.kind) p.annotation) (λ ty. carried (Done (param_of_type p ty)))

    more_params-carried : (found : List ParamView) (ps : List Parameter) → Carried (more_params file found ps) (more_params twin found ps)
    unfolding more_params
    more_params-carried found [] = carried (Done found)
    more_params-carried found (p ∷ ps) =
        carried_then (parameter_reading file any p) (parameter_reading twin any p) (λ param. more_params file (found ++ (param ∷ [])) ps) (λ param. more_params twin (found ++ (param ∷ [])) ps)
        (parameter-carried any p) (λ param. more_params-carried (found ++ (param ∷ [])) ps)

    parameters-carried : (receiver : Ty) (ps : List Parameter) → Carried (parameters_reading file receiver ps) (parameters_reading twin receiver ps)
    parameters-carried receiver [] = carried (parameters_reading file receiver [])
    parameters-carried receiver (p ∷ ps) =
        carried_then (parameter_reading file receiver p) (parameter_reading twin receiver p) (λ param. more_params file (param ∷ []) ps) (λ param. more_params twin (param ∷ []) ps)
        (parameter-carried receiver p) (λ param. more_params-carried (param ∷ []) ps)

    pub function_type-carried : (receiver : Ty) (head : FunctionDefinition) → Carried (function_type file receiver head) (function_type twin receiver head)
    unfolding function_type
    function_type-carried receiver head =
        carried_then (parameters_reading file receiver head.parameters) (parameters_reading twin receiver head.parameters)
        (λ params. and_then (annotated_or file any head.returns) (λ result. Done (function_type_of head.is_async params result)))
        (λ params. and_then (annotated_or twin any head.returns) (λ result. Done (function_type_of head.is_async params result)))
        (parameters-carried receiver head.parameters)
        (λ params. carried_then (annotated_or file any head.returns) (annotated_or twin any head.returns)
        (λ result. Done (function_type_of head.is_async params result)) (λ result. Done (function_type_of head.is_async params result)) (annotated_or-carried any head.returns)
        (λ result. carried (Done (function_type_of head.is_async params result))))

    -- ---- bases

    written_base-carried : (at inside : Position) (names : Option (List (List ℕ))) → Carried (written_base file at inside names) (written_base twin at inside names)
    written_base-carried at inside (Some names) =
        carried_then (dotted_meaning role.Base file inside names) (dotted_meaning role.Base twin inside names) (base_of_meaning at (joined_names names)) (base_of_meaning at (joined_names names))
        (dotted-carried role.Base inside names) (λ found. carried (base_of_meaning at (joined_names names) found))
    written_base-carried at inside None = carried (invalid_base at unnamed)

    base-carried : (e : Expr) → Carried (base file e) (base twin e)
    unfolding base
    base-carried e = written_base-carried (at_of e) (names_at e) (dotted_names (innermost e))

    argument_base-carried : (at : Position) (kind : ArgumentKind) (e : Expr) → Carried (argument_base file at kind e) (argument_base twin at kind e)
    argument_base-carried at argument_kind.Positional e =
        carried_then (base file e) (base twin e) (λ found. Done (Some found)) (λ found. Done (Some found)) (base-carried e) (λ found. carried (Done (Some found)))
    argument_base-carried at argument_kind.Starred e = carried (argument_base file at argument_kind.Starred e)
    argument_base-carried at (argument_kind.Keyword n) e = carried (Done None)
    argument_base-carried at argument_kind.DoubleStarred e = carried (Done None)

    base_of_argument-carried : (x : Argument) → Carried (base_of_argument file x) (base_of_argument twin x)
    unfolding base_of_argument
    base_of_argument-carried (argument at kind e) = argument_base-carried at kind e

    more_bases-carried : (found : List Base) (xs : List Argument) → Carried (more_bases file found xs) (more_bases twin found xs)
    unfolding more_bases
    more_bases-carried found [] = carried (Done found)
    more_bases-carried found (x ∷ xs) =
        carried_then (base_of_argument file x) (base_of_argument twin x) (λ more. more_bases file (with_base found more) xs) (λ more. more_bases twin (with_base found more) xs)
        (base_of_argument-carried x) (λ more. more_bases-carried (with_base found more) xs)

    pub bases-carried : (xs : List Argument) → Carried (bases file xs) (bases twin xs)
    bases-carried xs = more_bases-carried [] xs
