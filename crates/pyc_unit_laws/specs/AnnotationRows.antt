-- What the names in the bases of classes and in annotations ask (Python reference 3.13, "Resolution of names",
-- "Attribute references", "Class definitions"; typing specification, "Type annotations", "Valid type expression
-- forms").
use Rattle.std.specs.Prelude.{◌≡◌, ℕ, Bool, not, ◌||◌, if◌then◌else◌, length, List, [], ◌∷◌, ◌++◌, flat_map}
use Rattle.std.specs.Prelude.{Option, None, Some}
use Rattle.pyc_annotations.specs.declared.meaning.Role.TheVariants as role
use Rattle.pyc_annotations.specs.declared.type_form.TypeForm.{TypeForm}
use Rattle.pyc_annotations.specs.declared.type_form.TypeForm.TheVariants as form
use Rattle.pyc_annotations.specs.Annotations.{Subscripted, form_subscripted, dotted_meaning, read_type, takes}
use Rattle.pyc_annotations.specs.Annotations.{with_arguments}
use Rattle.pyc_annotations.specs.Bases.{bases}
use Rattle.pyc_annotations.specs.Meanings.{binds}
use Rattle.pyc_ast.specs.declared.expr.ArgumentKind.TheVariants as argument_kind
use Rattle.pyc_ast.specs.Exprs.{Argument, argument}
use Rattle.pyc_builtins.specs.Members.{is_dunder}
use Rattle.pyc_names.specs.Interfaces.{Interface}
use Rattle.pyc_expression_laws.specs.AttributeRows.{module_attribute_keys, outside_at}
use Rattle.pyc_expression_laws.specs.NameRows.{is_fixed}
use Rattle.pyc_expression_laws.specs.Rows.{Answers, name_key}
use Rattle.pyc_reading.specs.Answers.{Answer, NameKind, module_name, name_is}
use Rattle.pyc_reading.specs.Keys.{Key}
use Rattle.pyc_reading.specs.Readings.{asked, result_of}
use Rattle.pyc_type_exprs.specs.TypeExprs.{DottedName, TypeExpr, none_written, name_written, union_written}
use Rattle.pyc_type_exprs.specs.TypeExprs.{subscript_written, wrong_written, TypeArgument, type_argument}
use Rattle.pyc_type_exprs.specs.TypeExprs.{ArgumentShape, ellipsis_shape, list_shape, other_shape, TypeExprs, no_type}
use Rattle.pyc_type_exprs.specs.TypeExprs.{another_type, TypeArguments, no_argument, another_argument, dotted_names}
use Rattle.pyc_type_exprs.specs.TypeExprs.{innermost}

-- ---- names

-- the module that a thing of a kind is, if it is one
abbrev pub module_of : NameKind → Option (List (List ℕ))
module_of (module_name m) = Some m
module_of _ = None

-- the module that an answer says a name stands for
abbrev pub module_in : Answer → Option (List (List ℕ))
module_in (name_is found) = module_of found.kind
module_in _ = None

-- a name asks what it stands for in its module; nothing in a file that is named as a fixed module
abbrev pub own_name_keys : Interface → List ℕ → List Key
own_name_keys file x = if is_fixed file.name then [] else name_key file.name x ∷ []

-- the module that a name of a file stands for; a name that the file does not bind stands for none
abbrev pub own_module : Answers → Interface → List ℕ → Option (List (List ℕ))
own_module answers file x =
    if is_fixed file.name || not (binds file x) then None else module_in (answers (name_key file.name x))

-- the module that an attribute of a module stands for, as other files see it
abbrev pub attribute_module : Answers → List (List ℕ) → List ℕ → Option (List (List ℕ))
attribute_module answers m n = if is_dunder n || is_fixed m then None else module_of (outside_at answers m n).kind

-- attributes one behind another: each asks what it stands for in its module; one of what is no module asks nothing
abbrev pub attributes_keys : Answers → List (List ℕ) → Option (List (List ℕ)) → List Key
attributes_keys answers [] found = []
attributes_keys answers (n ∷ names) (Some m) =
    module_attribute_keys answers m n ++ attributes_keys answers names (attribute_module answers m n)
attributes_keys answers (n ∷ names) None = []

-- names joined by dots
abbrev pub dotted_keys : Answers → Interface → List (List ℕ) → List Key
dotted_keys answers file [] = []
dotted_keys answers file (x ∷ names) = own_name_keys file x ++ attributes_keys answers names (own_module answers file x)

-- ---- bases

-- names joined by dots; another expression asks nothing
abbrev pub written_keys : Answers → Interface → Option (List (List ℕ)) → List Key
written_keys answers file (Some names) = dotted_keys answers file names
written_keys answers file None = []

-- an argument of a class: one by place is a base, of which the names under its subscripts are asked
abbrev pub base_keys : Answers → Interface → Argument → List Key
base_keys answers file (argument at argument_kind.Positional e) =
    written_keys answers file (dotted_names (innermost e))
base_keys answers file _ = []

-- the arguments of a class, in turn
abbrev pub bases_keys : Answers → Interface → List Argument → List Key
bases_keys answers file arguments = flat_map (base_keys answers file) arguments

-- the law of bases
abbrev pub BaseReads : Type 0
BaseReads =
    (answers : Answers) (file : Interface) (arguments : List Argument)
    → asked answers (bases file arguments) ≡ bases_keys answers file arguments

-- ---- annotations

-- what the shape of an argument asks: `...`, the types in a list, or any other
pub data ShapeKeys : Type 0 where
  ellipsis_keys : ShapeKeys
  list_keys : List Key → ShapeKeys
  other_keys : ShapeKeys

-- what an argument asks as a type, and by its shape
pub record ArgumentKeys : Type 0 where
  pub type : List Key
  pub shape : ShapeKeys

-- arguments as types, in turn
abbrev pub types_keys : List ArgumentKeys → List Key
types_keys arguments = flat_map (λ (a : ArgumentKeys). a.type) arguments

-- a tuple of two arguments: the second asks nothing where it is `...`
abbrev pub pair_keys : ArgumentKeys → ArgumentKeys → ShapeKeys → List Key
pair_keys item length ellipsis_keys = item.type
pair_keys item length _ = item.type ++ (length.type ++ [])

abbrev pub tuple_keys : List ArgumentKeys → List Key
tuple_keys (item ∷ length ∷ []) = pair_keys item length length.shape
tuple_keys arguments = types_keys arguments

-- a callable: the types of its parameters, where they are a list, and then that of its result
abbrev pub callable_keys : ShapeKeys → List Key → List Key
callable_keys ellipsis_keys result = result
callable_keys (list_keys params) result = params ++ result
callable_keys other_keys result = []

abbrev pub callable_form_keys : List ArgumentKeys → List Key
callable_form_keys (params ∷ result ∷ []) = callable_keys params.shape result.type
callable_form_keys _ = []

-- the class in `type[C]`
abbrev pub class_object_keys : List ArgumentKeys → List Key
class_object_keys (c ∷ rest) = c.type
class_object_keys [] = []

-- the arguments of a form
abbrev pub form_keys : TypeForm → List ArgumentKeys → List Key
form_keys form.Callable arguments = callable_form_keys arguments
form_keys form.Type arguments = class_object_keys arguments
form_keys form.Tuple arguments = tuple_keys arguments
form_keys _ arguments = types_keys arguments

-- the arguments of what a name is: those of a form that takes as many of them; all others are ignored
abbrev pub arguments_keys : Subscripted → List ArgumentKeys → List Key
arguments_keys (form_subscripted found) arguments =
    if takes found (length arguments) then form_keys found arguments else []
arguments_keys _ arguments = []

-- what a name with arguments is, by the answers
abbrev pub subscripted_at : Answers → Interface → DottedName → Bool → Subscripted
subscripted_at answers file name is_nested =
    with_arguments is_nested (result_of answers (dotted_meaning role.Annotation file name.at name.names))

abbrev mutual
  -- an annotation: its names from left to right
  pub annotation_keys : Answers → Interface → TypeExpr → List Key
  annotation_keys answers file none_written = []
  annotation_keys answers file (name_written at name) = dotted_keys answers file name.names
  annotation_keys answers file (union_written left right) =
      annotation_keys answers file left ++ annotation_keys answers file right
  annotation_keys answers file (subscript_written at name is_nested arguments) =
      dotted_keys answers file name.names
      ++ arguments_keys (subscripted_at answers file name is_nested) (argument_list_keys answers file arguments)
  annotation_keys answers file (wrong_written at) = []

  pub argument_list_keys : Answers → Interface → TypeArguments → List ArgumentKeys
  argument_list_keys answers file no_argument = []
  argument_list_keys answers file (another_argument x rest) =
      argument_keys answers file x ∷ argument_list_keys answers file rest

  pub argument_keys : Answers → Interface → TypeArgument → ArgumentKeys
  argument_keys answers file (type_argument written shape) =
      record { type = annotation_keys answers file written; shape = shape_keys answers file shape }

  pub shape_keys : Answers → Interface → ArgumentShape → ShapeKeys
  shape_keys answers file ellipsis_shape = ellipsis_keys
  shape_keys answers file (list_shape types) = list_keys (type_list_keys answers file types)
  shape_keys answers file other_shape = other_keys

  pub type_list_keys : Answers → Interface → TypeExprs → List Key
  type_list_keys answers file no_type = []
  type_list_keys answers file (another_type x rest) =
      annotation_keys answers file x ++ type_list_keys answers file rest

-- the law of annotations
abbrev pub AnnotationReads : Type 0
AnnotationReads =
    (answers : Answers) (file : Interface) (written : TypeExpr)
    → asked answers (read_type file written) ≡ annotation_keys answers file written
