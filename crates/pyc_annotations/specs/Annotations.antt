-- The types that annotations mean, and what is reported of them (typing specification, "Type annotations", "Valid type
-- expression forms", "Union types", "Callables", "Tuples", "`type[]`").
use Rattle.std.specs.Prelude.{ℕ, Bool, true, false, not, ◌&&◌, ◌==◌, if◌then◌else◌, List, [], ◌∷◌, ◌++◌, codes, map}
use Rattle.std.specs.Prelude.{length, Option, None, Some}
use Rattle.pyc_annotations.specs.declared.meaning.Role.{Role}
use Rattle.pyc_annotations.specs.declared.meaning.Role.TheVariants as role
use Rattle.pyc_annotations.specs.declared.type_form.TypeForm.{TypeForm}
use Rattle.pyc_annotations.specs.declared.type_form.TypeForm.TheVariants as type_form
use Rattle.pyc_annotations.specs.Meanings.{Meaning, class_meant, any_meant, type_meant, fixed_meant, module_meant}
use Rattle.pyc_annotations.specs.Meanings.{variable_meant, function_meant, nothing_meant, own_name, module_attribute}
use Rattle.pyc_type_exprs.specs.TypeExprs.{DottedName, TypeExpr, none_written, name_written, union_written}
use Rattle.pyc_type_exprs.specs.TypeExprs.{subscript_written, wrong_written, TypeArgument, type_argument}
use Rattle.pyc_type_exprs.specs.TypeExprs.{ArgumentShape, ellipsis_shape, list_shape, other_shape, TypeExprs, no_type}
use Rattle.pyc_type_exprs.specs.TypeExprs.{another_type}
use Rattle.pyc_type_exprs.specs.TypeExprs.{TypeArguments, no_argument, another_argument}
use Rattle.pyc_ast.specs.declared.position.Position.{Position}
use Rattle.pyc_class_ids.specs.declared.builtin_class.BuiltinClass.TheVariants as class
use Rattle.pyc_class_ids.specs.Class.{Id, builtin, user}
use Rattle.pyc_messages.specs.Annotations as message
use Rattle.pyc_names.specs.declared.fixed.FixedName.{FixedName}
use Rattle.pyc_names.specs.declared.fixed.FixedName.TheVariants as special
use Rattle.pyc_names.specs.Interfaces.{Interface}
use Rattle.pyc_reading.specs.Traces.{Step}
use Rattle.pyc_reading.specs.Readings.{Done, Report, and_then}
use Rattle.pyc_report.specs.Message.{Diagnostic}
use Rattle.pyc_report.specs.NameTexts.{joined_names}
use Rattle.pyc_type_forms.specs.Instances.{instance_of}
use Rattle.pyc_type_forms.specs.Types.{Ty, any, none, class_object, list, dict, tuple, tuple_of, callable, dots, listed}
use Rattle.pyc_type_forms.specs.Types.{plain}
use Rattle.pyc_type_forms.specs.TypeView.{ParamView, listed_of, tys_of}
use Rattle.pyc_type_forms.specs.Unions.{union_of}

-- an annotation as it is read: its type, and the class whose name it is, if it is one
pub record Annotation : Type 0 where
  pub ty : Ty
  pub class : Option Id

abbrev pub annotation_of_type : Ty → Annotation
annotation_of_type ty = record { ty = ty; class = None }

-- the instances of a class, by its name
abbrev pub of_class : Id → Annotation
of_class c = record { ty = instance_of c; class = Some c }

-- ---- what is reported

-- an annotation of which this is reported is Any
abbrev pub report_invalid : Diagnostic → Step Annotation
report_invalid reported = Report reported (Done (annotation_of_type any))

-- a variable, a function or a module
unfoldable pub not_a_type : DottedName → Step Annotation
not_a_type name = report_invalid (message.not_a_type name.at (joined_names name.names))

unfoldable pub invalid : Position → Step Annotation
invalid at = report_invalid (message.invalid_annotation at)

-- a type form as it is reported of
abbrev pub form_name : TypeForm → List ℕ
form_name type_form.List = codes "list"
form_name type_form.Dict = codes "dict"
form_name type_form.Tuple = codes "tuple"
form_name type_form.Optional = codes "Optional"
form_name type_form.Union = codes "Union"
form_name type_form.Callable = codes "Callable"
form_name type_form.Type = codes "type"

unfoldable pub wrong_count : Position → TypeForm → Step Annotation
wrong_count at form = report_invalid (message.wrong_count at (form_name form))

-- ---- names

-- whether a name is a base, where a variable or a function of type Any is Any
abbrev pub is_base : Role → Bool
is_base role.Base = true
is_base role.Annotation = false

-- an attribute of a variable or a function, by whether that is Any
abbrev pub attribute_of_value : Bool → Meaning
attribute_of_value true = any_meant
attribute_of_value false = nothing_meant

-- an attribute of what a name means: a name of a module; of Any and of what is special it is Any
abbrev pub attribute_meaning : Role → Position → List ℕ → Meaning → Step Meaning
attribute_meaning r at n (module_meant m) = module_attribute at m n
attribute_meaning r at n any_meant = Done any_meant
attribute_meaning r at n type_meant = Done any_meant
attribute_meaning r at n (fixed_meant found) = Done any_meant
attribute_meaning r at n (variable_meant is_any) = Done (attribute_of_value (is_base r && is_any))
attribute_meaning r at n (function_meant is_any) = Done (attribute_of_value (is_base r && is_any))
attribute_meaning r at n _ = Done nothing_meant

-- attributes one behind another
unfoldable pub attributes : Role → Position → List (List ℕ) → Meaning → Step Meaning
attributes r at [] found = Done found
attributes r at (n ∷ names) found = and_then (attribute_meaning r at n found) (attributes r at names)

-- what names joined by dots mean that begin at a position in a file
unfoldable pub dotted_meaning : Role → Interface → Position → List (List ℕ) → Step Meaning
dotted_meaning r file at [] = Done nothing_meant
dotted_meaning r file at (x ∷ names) = and_then (own_name file at x) (attributes r at names)

-- the bare name of a special form
abbrev pub bare_form : Position → FixedName → Step Annotation
bare_form at special.Any = Done (annotation_of_type any)
bare_form at special.List = Done (annotation_of_type (list any))
bare_form at special.Dict = Done (annotation_of_type (dict any any))
bare_form at special.Tuple = Done (annotation_of_type (tuple_of any))
bare_form at special.Callable = Done (annotation_of_type (callable dots any))
bare_form at _ = invalid at

-- what a name by itself is, by what it means; the annotation begins at a position
unfoldable pub resolve_name : Position → DottedName → Meaning → Step Annotation
resolve_name at name (class_meant c) = Done (of_class c)
resolve_name at name any_meant = Done (annotation_of_type any)
resolve_name at name type_meant = Done (annotation_of_type any)
resolve_name at name (fixed_meant found) = bare_form at found
resolve_name at name nothing_meant = invalid at
resolve_name at name _ = not_a_type name

unfoldable pub name_rule : Interface → Position → DottedName → Step Annotation
name_rule file at name = and_then (dotted_meaning role.Annotation file name.at name.names) (resolve_name at name)

-- ---- forms with arguments

-- what a name with arguments in brackets is
pub data Subscripted : Type 0 where
  form_subscripted : TypeForm → Subscripted
  -- a class whose arguments are ignored
  class_subscripted : Id → Subscripted
  any_subscripted : Subscripted
  -- a variable, a function or a module
  value_subscripted : Subscripted
  wrong_subscripted : Subscripted

-- a form, which is not subscripted more than once
abbrev pub form_once : Bool → TypeForm → Subscripted
form_once false form = form_subscripted form
form_once true form = wrong_subscripted

-- a class: arguments on a user's one are ignored
abbrev pub class_with_arguments : Bool → Id → Subscripted
class_with_arguments is_nested (user m x) = class_subscripted (user m x)
class_with_arguments is_nested (builtin class.List) = form_once is_nested type_form.List
class_with_arguments is_nested (builtin class.Dict) = form_once is_nested type_form.Dict
class_with_arguments is_nested (builtin class.Tuple) = form_once is_nested type_form.Tuple
class_with_arguments is_nested _ = wrong_subscripted

-- a special name: arguments on Any are ignored
abbrev pub special_with_arguments : Bool → FixedName → Subscripted
special_with_arguments is_nested special.Any = any_subscripted
special_with_arguments is_nested special.Optional = form_once is_nested type_form.Optional
special_with_arguments is_nested special.Union = form_once is_nested type_form.Union
special_with_arguments is_nested special.List = form_once is_nested type_form.List
special_with_arguments is_nested special.Dict = form_once is_nested type_form.Dict
special_with_arguments is_nested special.Tuple = form_once is_nested type_form.Tuple
special_with_arguments is_nested special.Callable = form_once is_nested type_form.Callable
special_with_arguments is_nested _ = wrong_subscripted

-- what a name with arguments is, by what it means
unfoldable pub with_arguments : Bool → Meaning → Subscripted
with_arguments is_nested (class_meant c) = class_with_arguments is_nested c
with_arguments is_nested any_meant = any_subscripted
with_arguments is_nested type_meant = form_once is_nested type_form.Type
with_arguments is_nested (fixed_meant found) = special_with_arguments is_nested found
with_arguments is_nested nothing_meant = wrong_subscripted
with_arguments is_nested _ = value_subscripted

-- ---- arguments

-- how the shape of an argument may be read: `...`, the types in a list, or any other
pub data ShapeReading : Type 0 where
  ellipsis_read : ShapeReading
  list_read : List (Step Annotation) → ShapeReading
  other_read : ShapeReading

-- how an argument may be read: as a type, and by its shape
pub record ArgumentReading : Type 0 where
  pub read : Step Annotation
  pub shape : ShapeReading

-- these types, and then those of some readings, in turn
unfoldable pub more_types : List Ty → List (Step Annotation) → Step (List Ty)
more_types tys [] = Done tys
more_types tys (read ∷ rest) = and_then read (λ found. more_types (tys ++ (found.ty ∷ [])) rest)

-- the types of arguments, in turn
abbrev pub argument_types : List ArgumentReading → Step (List Ty)
argument_types arguments = more_types [] (map (λ a. a.read) arguments)

-- ---- forms

-- whether a form takes so many arguments
abbrev pub takes : TypeForm → ℕ → Bool
takes type_form.List n = n == 1
takes type_form.Dict n = n == 2
takes type_form.Tuple n = true
takes type_form.Optional n = n == 1
takes type_form.Union n = not (n == 0)
takes type_form.Callable n = n == 2
takes type_form.Type n = n == 1

-- the type of a form whose arguments are these types
abbrev pub build_form_type : TypeForm → List Ty → Ty
build_form_type type_form.List (item ∷ []) = list item
build_form_type type_form.Dict (key ∷ value ∷ []) = dict key value
build_form_type type_form.Tuple tys = tuple (tys_of tys)
build_form_type type_form.Optional (item ∷ []) = union_of (item ∷ none ∷ [])
build_form_type type_form.Union tys = union_of tys
build_form_type _ _ = any

unfoldable pub built_rule : TypeForm → List ArgumentReading → Step Annotation
built_rule form arguments = and_then (argument_types arguments)
    (λ tys. Done (annotation_of_type (build_form_type form tys)))

-- the class object of the class that an annotation names; Any for another type
abbrev pub object_of : Option Id → Ty
object_of (Some c) = class_object c
object_of None = any

-- `type[C]`
abbrev pub object_rule : Step Annotation → Step Annotation
object_rule read = and_then read (λ found. Done (annotation_of_type (object_of found.class)))

abbrev pub class_object_rule : List ArgumentReading → Step Annotation
class_object_rule (argument ∷ rest) = object_rule argument.read
class_object_rule [] = Done (annotation_of_type any)

-- `tuple[T, ...]`
abbrev pub any_length_rule : Step Annotation → Step Annotation
any_length_rule read = and_then read (λ found. Done (annotation_of_type (tuple_of found.ty)))

-- a tuple of two arguments, the second of which has this shape
abbrev pub pair_rule : ArgumentReading → ArgumentReading → ShapeReading → Step Annotation
pair_rule item length ellipsis_read = any_length_rule item.read
pair_rule item length _ = built_rule type_form.Tuple (item ∷ length ∷ [])

abbrev pub tuple_rule : List ArgumentReading → Step Annotation
tuple_rule (item ∷ length ∷ []) = pair_rule item length length.shape
tuple_rule arguments = built_rule type_form.Tuple arguments

-- parameters filled by place, of these types
abbrev pub plain_param : Ty → ParamView
plain_param ty = record { slot = record { kind = plain None; is_optional = false }; ty = ty }

abbrev pub plain_callable : List Ty → Ty → Ty
plain_callable tys result = callable (listed (listed_of (map plain_param tys))) result

-- `Callable[..., T]`
abbrev pub any_callable : Step Annotation → Step Annotation
any_callable answer = and_then answer (λ found. Done (annotation_of_type (callable dots found.ty)))

-- `Callable[[..], T]`
abbrev pub listed_callable : List (Step Annotation) → Step Annotation → Step Annotation
listed_callable params answer =
    and_then (more_types [] params) (λ tys. and_then answer (λ found. Done
    (annotation_of_type (plain_callable tys found.ty))))

-- a callable whose first argument has this shape
abbrev pub callable_of : Position → ShapeReading → Step Annotation → Step Annotation
callable_of at ellipsis_read answer = any_callable answer
callable_of at (list_read params) answer = listed_callable params answer
callable_of at other_read answer = invalid at

abbrev pub callable_rule : Position → List ArgumentReading → Step Annotation
callable_rule at (params ∷ answer ∷ []) = callable_of at params.shape answer.read
callable_rule at _ = invalid at

-- a form with as many arguments as it takes
unfoldable pub form_rule : Position → TypeForm → List ArgumentReading → Step Annotation
form_rule at type_form.Callable arguments = callable_rule at arguments
form_rule at type_form.Type arguments = class_object_rule arguments
form_rule at type_form.Tuple arguments = tuple_rule arguments
form_rule at form arguments = built_rule form arguments

-- a name with arguments
unfoldable pub subscripted_rule : Position → DottedName → List ArgumentReading → Subscripted → Step Annotation
subscripted_rule at name arguments (form_subscripted form) =
    if takes form (length arguments) then form_rule at form arguments else wrong_count at form
subscripted_rule at name arguments (class_subscripted c) = Done (of_class c)
subscripted_rule at name arguments any_subscripted = Done (annotation_of_type any)
subscripted_rule at name arguments value_subscripted = not_a_type name
subscripted_rule at name arguments wrong_subscripted = invalid at

unfoldable pub subscript_rule : Interface → Position → DottedName → Bool → List ArgumentReading → Step Annotation
subscript_rule file at name is_nested arguments =
    and_then (dotted_meaning role.Annotation file name.at name.names)
    (λ found. subscripted_rule at name arguments (with_arguments is_nested found))

-- `X | Y`
unfoldable pub union_rule : Step Annotation → Step Annotation → Step Annotation
union_rule left right = and_then left (λ l. and_then right (λ r. Done
    (annotation_of_type (union_of (l.ty ∷ r.ty ∷ [])))))

-- what stands right of `|`, one after another, where what stands left of the first is read as this
unfoldable pub more_unions : Annotation → List (Step Annotation) → Step Annotation
more_unions left [] = Done left
more_unions left (read ∷ rest) = and_then
    (and_then read (λ right. Done (annotation_of_type (union_of (left.ty ∷ right.ty ∷ [])))))
    (λ joined. more_unions joined rest)

-- ---- the whole

abbrev mutual
  -- what an annotation means that stands in a file
  pub read_type : Interface → TypeExpr → Step Annotation
  read_type file none_written = Done (annotation_of_type none)
  read_type file (name_written at name) = name_rule file at name
  read_type file (union_written left right) = union_rule (read_type file left) (read_type file right)
  read_type file (subscript_written at name is_nested arguments) =
      subscript_rule file at name is_nested (argument_readings file arguments)
  read_type file (wrong_written at) = invalid at

  pub argument_readings : Interface → TypeArguments → List ArgumentReading
  argument_readings file no_argument = []
  argument_readings file (another_argument x rest) = argument_reading file x ∷ argument_readings file rest

  pub argument_reading : Interface → TypeArgument → ArgumentReading
  argument_reading file (type_argument written shape) =
      record { read = read_type file written; shape = shape_reading file shape }

  pub shape_reading : Interface → ArgumentShape → ShapeReading
  shape_reading file ellipsis_shape = ellipsis_read
  shape_reading file (list_shape types) = list_read (type_readings file types)
  shape_reading file other_shape = other_read

  pub type_readings : Interface → TypeExprs → List (Step Annotation)
  type_readings file no_type = []
  type_readings file (another_type x rest) = read_type file x ∷ type_readings file rest
