-- What bases and annotations ask.
use Rattle.std.proofs.Common.{◌≡◌, ℕ, Bool, true, false, if◌then◌else◌, length, map, List, [], ◌∷◌, ◌++◌, flat_map, Option, None, Some, refl, ap, ◌∙◌, sym}
use Rattle.std.proofs.lemmas.List.{length-map}
use Rattle.pyc_annotations.specs.declared.meaning.Role.TheVariants as role
use Rattle.pyc_annotations.specs.declared.type_form.TypeForm.{TypeForm}
use Rattle.pyc_annotations.specs.declared.type_form.TypeForm.TheVariants as type_form
use Rattle.pyc_annotations.specs.Annotations.{Annotation, ArgumentReading, ShapeReading, Subscripted, ellipsis_read, list_read, other_read, form_subscripted, class_subscripted, any_subscripted, value_subscripted, wrong_subscripted}
use Rattle.pyc_annotations.specs.Annotations.{argument_reading, argument_readings, argument_types, bare_form, build_form_type, built_rule, callable_of, callable_rule, class_object_rule, dotted_meaning, form_rule, invalid, more_types, name_rule, resolve_name, not_a_type, annotation_of_type, pair_rule, plain_callable, read_type, shape_reading, subscript_rule, subscripted_rule, takes, tuple_rule, type_readings, union_rule, with_arguments, wrong_count}
use Rattle.pyc_annotations.specs.Bases.{Base, argument_base, base, base_of_meaning, base_of_argument, invalid_base, more_bases, names_at, with_base, written_base}
use Rattle.pyc_annotations.specs.Meanings.{Meaning, class_meant, any_meant, type_meant, fixed_meant, module_meant, variable_meant, function_meant, nothing_meant}
use Rattle.pyc_ast.specs.declared.expr.ArgumentKind.{ArgumentKind}
use Rattle.pyc_ast.specs.declared.expr.ArgumentKind.TheVariants as argument_kind
use Rattle.pyc_ast.specs.declared.position.Position.{Position}
use Rattle.pyc_ast.specs.Exprs.{Argument, Expr, argument, at_of}
use Rattle.pyc_unit_laws.proofs.AskedLemmas.{asked-after}
use Rattle.pyc_unit_laws.proofs.NameLemmas.{dotted-asks}
use Rattle.pyc_unit_laws.specs.AnnotationRows.{AnnotationReads, ArgumentKeys, BaseReads, ShapeKeys, ellipsis_keys, list_keys, other_keys, argument_keys, argument_list_keys, arguments_keys, base_keys, bases_keys, callable_form_keys, callable_keys, class_object_keys, dotted_keys, form_keys, pair_keys, shape_keys, subscripted_at, tuple_keys, type_list_keys, types_keys, written_keys}
use Rattle.pyc_names.specs.declared.fixed.FixedName.{FixedName}
use Rattle.pyc_names.specs.declared.fixed.FixedName.TheVariants as special
use Rattle.pyc_names.specs.Interfaces.{Interface}
use Rattle.pyc_expression_laws.specs.Rows.{Answers}
use Rattle.pyc_reading.specs.Traces.{Step}
use Rattle.pyc_reading.specs.Readings.{Done, and_then, asked, result_of}
use Rattle.pyc_report.specs.NameTexts.{joined_names}
use Rattle.pyc_unit_laws.proofs.ImportAskedLemmas.{asked-alone}
use Rattle.pyc_type_exprs.specs.TypeExprs.{DottedName, none_written, name_written, union_written, subscript_written, wrong_written, TypeArgument, type_argument, ArgumentShape, ellipsis_shape, list_shape, other_shape, TypeExprs, no_type, another_type, TypeArguments, no_argument, another_argument, dotted_names, innermost}
use Rattle.pyc_type_forms.specs.Types.{Ty}
use Rattle.pyc_type_forms.specs.Unions.{union_of}

-- ---- bases

base_of_meaning-asks : (answers : Answers) (at : Position) (names : List ℕ) (found : Meaning) → asked answers (base_of_meaning at names found) ≡ []
unfolding base_of_meaning invalid_base
base_of_meaning-asks answers at names (class_meant c) = refl
base_of_meaning-asks answers at names any_meant = refl
base_of_meaning-asks answers at names type_meant = refl
base_of_meaning-asks answers at names (fixed_meant found) = refl
base_of_meaning-asks answers at names (module_meant m) = refl
base_of_meaning-asks answers at names (variable_meant true) = refl
base_of_meaning-asks answers at names (variable_meant false) = refl
base_of_meaning-asks answers at names (function_meant true) = refl
base_of_meaning-asks answers at names (function_meant false) = refl
base_of_meaning-asks answers at names nothing_meant = refl

written_base-asks : (answers : Answers) (file : Interface) (at inside : Position) (names : Option (List (List ℕ)))
    → asked answers (written_base file at inside names) ≡ written_keys answers file names
unfolding invalid_base
written_base-asks answers file at inside (Some names) =
    asked-alone answers (dotted_meaning role.Base file inside names) (base_of_meaning at (joined_names names)) (dotted_keys answers file names)
    (dotted-asks answers role.Base file inside names) (base_of_meaning-asks answers at (joined_names names))
written_base-asks answers file at inside None = refl

base-asks : (answers : Answers) (file : Interface) (e : Expr) → asked answers (base file e) ≡ written_keys answers file (dotted_names (innermost e))
unfolding base
base-asks answers file e = written_base-asks answers file (at_of e) (names_at e) (dotted_names (innermost e))

argument_base-asks : (answers : Answers) (file : Interface) (at : Position) (kind : ArgumentKind) (e : Expr)
    → asked answers (argument_base file at kind e) ≡ base_keys answers file (argument at kind e)
unfolding and_then invalid_base
argument_base-asks answers file at argument_kind.Positional e =
    asked-alone answers (base file e) (λ found. Done (Some found)) (written_keys answers file (dotted_names (innermost e))) (base-asks answers file e) (λ found. refl)
argument_base-asks answers file at argument_kind.Starred e = refl
argument_base-asks answers file at _ e = refl

base_of_argument-asks : (answers : Answers) (file : Interface) (x : Argument) → asked answers (base_of_argument file x) ≡ base_keys answers file x
unfolding base_of_argument
base_of_argument-asks answers file (argument at kind e) = argument_base-asks answers file at kind e

more_bases-asks : (answers : Answers) (file : Interface) (found : List Base) (arguments : List Argument)
    → asked answers (more_bases file found arguments) ≡ bases_keys answers file arguments
unfolding more_bases
more_bases-asks answers file found [] = refl
more_bases-asks answers file found (x ∷ rest) =
    let first = base_of_argument file x in
    asked-after answers first (λ more. more_bases file (with_base found more) rest) (base_keys answers file x) (bases_keys answers file rest)
    (base_of_argument-asks answers file x) (more_bases-asks answers file (with_base found (result_of answers first)) rest)

pub base_asks : BaseReads
base_asks answers file arguments = more_bases-asks answers file [] arguments

-- ---- names

bare_form-asks : (answers : Answers) (at : Position) (found : FixedName) → asked answers (bare_form at found) ≡ []
unfolding invalid
bare_form-asks answers at special.Any = refl
bare_form-asks answers at special.List = refl
bare_form-asks answers at special.Dict = refl
bare_form-asks answers at special.Tuple = refl
bare_form-asks answers at special.Callable = refl
bare_form-asks answers at _ = refl

resolve_name-asks : (answers : Answers) (at : Position) (name : DottedName) (found : Meaning) → asked answers (resolve_name at name found) ≡ []
unfolding resolve_name invalid not_a_type
resolve_name-asks answers at name (class_meant c) = refl
resolve_name-asks answers at name any_meant = refl
resolve_name-asks answers at name type_meant = refl
resolve_name-asks answers at name (fixed_meant found) = bare_form-asks answers at found
resolve_name-asks answers at name (module_meant m) = refl
resolve_name-asks answers at name (variable_meant is_any) = refl
resolve_name-asks answers at name (function_meant is_any) = refl
resolve_name-asks answers at name nothing_meant = refl

name_rule-asks : (answers : Answers) (file : Interface) (at : Position) (name : DottedName) → asked answers (name_rule file at name) ≡ dotted_keys answers file name.names
unfolding name_rule
name_rule-asks answers file at name =
    asked-alone answers (dotted_meaning role.Annotation file name.at name.names) (resolve_name at name) (dotted_keys answers file name.names)
    (dotted-asks answers role.Annotation file name.at name.names) (resolve_name-asks answers at name)

-- ---- arguments

-- what a shape asks
abbrev shape_asked : Answers → ShapeReading → ShapeKeys
shape_asked answers ellipsis_read = ellipsis_keys
shape_asked answers (list_read reads) = list_keys (flat_map (λ (read : Step Annotation). asked answers read) reads)
shape_asked answers other_read = other_keys

-- what an argument asks
abbrev argument_asked : Answers → ArgumentReading → ArgumentKeys
argument_asked answers a = record { type = asked answers a.read; shape = shape_asked answers a.shape }

more_types-asks : (answers : Answers) (tys : List Ty) (reads : List (Step Annotation))
    → asked answers (more_types tys reads) ≡ flat_map (λ (read : Step Annotation). asked answers read) reads
unfolding more_types
more_types-asks answers tys [] = refl
more_types-asks answers tys (read ∷ rest) =
    asked-after answers read (λ (found : Annotation). more_types (tys ++ (found.ty ∷ [])) rest) (asked answers read) (flat_map (λ (read : Step Annotation). asked answers read) rest)
    refl (more_types-asks answers (tys ++ ((result_of answers read).ty ∷ [])) rest)

more_arguments-asks : (answers : Answers) (tys : List Ty) (arguments : List ArgumentReading)
    → asked answers (more_types tys (map (λ (a : ArgumentReading). a.read) arguments)) ≡ types_keys (map (argument_asked answers) arguments)
unfolding more_types
more_arguments-asks answers tys [] = refl
more_arguments-asks answers tys (a ∷ rest) =
    asked-after answers a.read (λ (found : Annotation). more_types (tys ++ (found.ty ∷ [])) (map (λ (b : ArgumentReading). b.read) rest)) (asked answers a.read) (types_keys (map (argument_asked answers) rest))
    refl (more_arguments-asks answers (tys ++ ((result_of answers a.read).ty ∷ [])) rest)

-- ---- forms

built_rule-asks : (answers : Answers) (form : TypeForm) (arguments : List ArgumentReading)
    → asked answers (built_rule form arguments) ≡ types_keys (map (argument_asked answers) arguments)
unfolding built_rule
built_rule-asks answers form arguments =
    asked-alone answers (argument_types arguments) (λ tys. Done (annotation_of_type (build_form_type form tys))) (types_keys (map (argument_asked answers) arguments))
    (more_arguments-asks answers [] arguments) (λ tys. refl)

-- a type of another one
of_read-asks : (answers : Answers) (read : Step Annotation) (next : Annotation → Annotation) → asked answers (and_then read (λ found. Done (next found))) ≡ asked answers read
of_read-asks answers read next = asked-alone answers read (λ found. Done (next found)) (asked answers read) refl (λ found. refl)

class_object_rule-asks : (answers : Answers) (arguments : List ArgumentReading)
    → asked answers (class_object_rule arguments) ≡ class_object_keys (map (argument_asked answers) arguments)
class_object_rule-asks answers (a ∷ rest) = of_read-asks answers a.read _
class_object_rule-asks answers [] = refl

pair_rule-asks : (answers : Answers) (item length : ArgumentReading) (shape : ShapeReading)
    → asked answers (pair_rule item length shape) ≡ pair_keys (argument_asked answers item) (argument_asked answers length) (shape_asked answers shape)
pair_rule-asks answers item length ellipsis_read = of_read-asks answers item.read _
pair_rule-asks answers item length (list_read reads) = built_rule-asks answers type_form.Tuple (item ∷ length ∷ [])
pair_rule-asks answers item length other_read = built_rule-asks answers type_form.Tuple (item ∷ length ∷ [])

tuple_rule-asks : (answers : Answers) (arguments : List ArgumentReading) → asked answers (tuple_rule arguments) ≡ tuple_keys (map (argument_asked answers) arguments)
tuple_rule-asks answers [] = built_rule-asks answers type_form.Tuple []
tuple_rule-asks answers (a ∷ []) = built_rule-asks answers type_form.Tuple (a ∷ [])
tuple_rule-asks answers (a ∷ b ∷ []) = pair_rule-asks answers a b b.shape
tuple_rule-asks answers (a ∷ b ∷ c ∷ rest) = built_rule-asks answers type_form.Tuple (a ∷ b ∷ c ∷ rest)

callable_of-asks : (answers : Answers) (at : Position) (shape : ShapeReading) (result : Step Annotation)
    → asked answers (callable_of at shape result) ≡ callable_keys (shape_asked answers shape) (asked answers result)
unfolding invalid
callable_of-asks answers at ellipsis_read result = of_read-asks answers result _
callable_of-asks answers at (list_read reads) result =
    asked-after answers (more_types [] reads) (λ tys. and_then result (λ (found : Annotation). Done (annotation_of_type (plain_callable tys found.ty))))
    (flat_map (λ (read : Step Annotation). asked answers read) reads) (asked answers result) (more_types-asks answers [] reads) (of_read-asks answers result _)
callable_of-asks answers at other_read result = refl

callable_rule-asks : (answers : Answers) (at : Position) (arguments : List ArgumentReading)
    → asked answers (callable_rule at arguments) ≡ callable_form_keys (map (argument_asked answers) arguments)
unfolding invalid
callable_rule-asks answers at [] = refl
callable_rule-asks answers at (a ∷ []) = refl
callable_rule-asks answers at (params ∷ result ∷ []) = callable_of-asks answers at params.shape result.read
callable_rule-asks answers at (a ∷ b ∷ c ∷ rest) = refl

form_rule-asks : (answers : Answers) (at : Position) (form : TypeForm) (arguments : List ArgumentReading)
    → asked answers (form_rule at form arguments) ≡ form_keys form (map (argument_asked answers) arguments)
unfolding form_rule
form_rule-asks answers at type_form.Callable arguments = callable_rule-asks answers at arguments
form_rule-asks answers at type_form.Type arguments = class_object_rule-asks answers arguments
form_rule-asks answers at type_form.Tuple arguments = tuple_rule-asks answers arguments
form_rule-asks answers at type_form.List arguments = built_rule-asks answers type_form.List arguments
form_rule-asks answers at type_form.Dict arguments = built_rule-asks answers type_form.Dict arguments
form_rule-asks answers at type_form.Optional arguments = built_rule-asks answers type_form.Optional arguments
form_rule-asks answers at type_form.Union arguments = built_rule-asks answers type_form.Union arguments

form_if-asks : (answers : Answers) (at : Position) (form : TypeForm) (arguments : List ArgumentReading) (b : Bool)
    → asked answers (if b then form_rule at form arguments else wrong_count at form)
    ≡ (if b then form_keys form (map (argument_asked answers) arguments) else [])
unfolding wrong_count
form_if-asks answers at form arguments true = form_rule-asks answers at form arguments
form_if-asks answers at form arguments false = refl

subscripted_rule-asks : (answers : Answers) (at : Position) (name : DottedName) (arguments : List ArgumentReading) (found : Subscripted)
    → asked answers (subscripted_rule at name arguments found) ≡ arguments_keys found (map (argument_asked answers) arguments)
unfolding subscripted_rule invalid not_a_type
subscripted_rule-asks answers at name arguments (form_subscripted form) =
    form_if-asks answers at form arguments (takes form (length arguments))
    ∙ ap (λ n. if takes form n then form_keys form (map (argument_asked answers) arguments) else []) (sym (length-map arguments (argument_asked answers)))
subscripted_rule-asks answers at name arguments (class_subscripted c) = refl
subscripted_rule-asks answers at name arguments any_subscripted = refl
subscripted_rule-asks answers at name arguments value_subscripted = refl
subscripted_rule-asks answers at name arguments wrong_subscripted = refl

subscript_rule-asks : (answers : Answers) (file : Interface) (at : Position) (name : DottedName) (is_nested : Bool) (arguments : List ArgumentReading)
    → asked answers (subscript_rule file at name is_nested arguments)
    ≡ dotted_keys answers file name.names ++ arguments_keys (subscripted_at answers file name is_nested) (map (argument_asked answers) arguments)
unfolding subscript_rule
subscript_rule-asks answers file at name is_nested arguments =
    asked-after answers (dotted_meaning role.Annotation file name.at name.names) (λ found. subscripted_rule at name arguments (with_arguments is_nested found))
    (dotted_keys answers file name.names) (arguments_keys (subscripted_at answers file name is_nested) (map (argument_asked answers) arguments))
    (dotted-asks answers role.Annotation file name.at name.names)
    (subscripted_rule-asks answers at name arguments (subscripted_at answers file name is_nested))

union_rule-asks : (answers : Answers) (left right : Step Annotation) → asked answers (union_rule left right) ≡ asked answers left ++ asked answers right
unfolding union_rule
union_rule-asks answers left right =
    asked-after answers left (λ (l : Annotation). and_then right (λ (r : Annotation). Done (annotation_of_type (union_of (l.ty ∷ r.ty ∷ []))))) (asked answers left) (asked answers right)
    refl (of_read-asks answers right _)

-- ---- the whole

mutual
  unfolding invalid

  pub annotation_asks : AnnotationReads
  annotation_asks answers file none_written = refl
  annotation_asks answers file (name_written at name) = name_rule-asks answers file at name
  annotation_asks answers file (union_written left right) =
      union_rule-asks answers (read_type file left) (read_type file right)
      ∙ (λ i. annotation_asks answers file left i ++ annotation_asks answers file right i)
  annotation_asks answers file (subscript_written at name is_nested arguments) =
      subscript_rule-asks answers file at name is_nested (argument_readings file arguments)
      ∙ (λ i. dotted_keys answers file name.names ++ arguments_keys (subscripted_at answers file name is_nested) (arguments-same answers file arguments i))
  annotation_asks answers file (wrong_written at) = refl

  arguments-same : (answers : Answers) (file : Interface) (arguments : TypeArguments)
      → map (argument_asked answers) (argument_readings file arguments) ≡ argument_list_keys answers file arguments
  arguments-same answers file no_argument = refl
  arguments-same answers file (another_argument x rest) = λ i. argument-same answers file x i ∷ arguments-same answers file rest i

  argument-same : (answers : Answers) (file : Interface) (x : TypeArgument) → argument_asked answers (argument_reading file x) ≡ argument_keys answers file x
  argument-same answers file (type_argument written shape) =
      λ i. record { type = annotation_asks answers file written i; shape = shape-same answers file shape i }

  shape-same : (answers : Answers) (file : Interface) (shape : ArgumentShape) → shape_asked answers (shape_reading file shape) ≡ shape_keys answers file shape
  shape-same answers file ellipsis_shape = refl
  shape-same answers file (list_shape types) = λ i. list_keys (types-same answers file types i)
  shape-same answers file other_shape = refl

  types-same : (answers : Answers) (file : Interface) (types : TypeExprs)
      → flat_map (λ (read : Step Annotation). asked answers read) (type_readings file types) ≡ type_list_keys answers file types
  types-same answers file no_type = refl
  types-same answers file (another_type x rest) = λ i. annotation_asks answers file x i ++ types-same answers file rest i
