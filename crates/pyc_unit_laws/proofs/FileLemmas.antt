-- Which keys heads, annotations and targets ask.
use Rattle.std.proofs.Common.{◌≡◌, ℕ, Bool, true, false, not, ◌&&◌, ◌||◌, is_none, if◌then◌else◌, length, List, [], ◌∷◌, ◌++◌, flat_map, Option, None, Some, refl, sym, ap, subst}
use Rattle.pyc_annotations.specs.Annotations.{Subscripted, form_subscripted, class_subscripted, any_subscripted, value_subscripted, wrong_subscripted, takes}
use Rattle.pyc_annotations.specs.declared.type_form.TypeForm.{TypeForm}
use Rattle.pyc_annotations.specs.declared.type_form.TypeForm.TheVariants as type_form
use Rattle.pyc_ast.specs.declared.expr.ArgumentKind.TheVariants as argument_kind
use Rattle.pyc_ast.specs.declared.stmt.Alias.{Alias}
use Rattle.pyc_ast.specs.Exprs.{Argument, Expr, Index, argument}
use Rattle.pyc_ast.specs.Modules.{Outcome, tree, fault}
use Rattle.pyc_ast.specs.Statements.{FunctionDefinition, ImportFrom, Parameter, StmtForm}
use Rattle.pyc_ast.specs.Statements as plain
use Rattle.pyc_bindings.specs.Bindings.{Binding, form_of}
use Rattle.pyc_bindings.specs.Redefinitions.{declaration}
use Rattle.pyc_bindings.specs.Scopes.{Part, PartForm, statement, target, caught, parts_of}
use Rattle.pyc_body_context.specs.Bodies.{Body, class_around}
use Rattle.pyc_body_context.specs.BodyNames.{body_context}
use Rattle.pyc_body_context.specs.ClassBodies.{declares_class}
use Rattle.pyc_unit_laws.proofs.AnnotationLemmas.{annotation_asks}
use Rattle.pyc_unit_laws.proofs.ClassLemmas.{class_asks, subclass_asks}
use Rattle.pyc_unit_laws.proofs.TargetLemmas.{attribute_target_asks, name_target_asks, subscript_target_asks}
use Rattle.pyc_unit_laws.specs.AnnotationRows as annotation
use Rattle.pyc_unit_laws.specs.AnnotationRows.{ArgumentKeys, ShapeKeys, callable_form_keys, callable_keys, class_object_keys, ellipsis_keys, form_keys, list_keys, other_keys, shape_keys, tuple_keys, type_list_keys, types_keys, annotation_keys, argument_keys, argument_list_keys, arguments_keys, attribute_module, attributes_keys, base_keys, bases_keys, dotted_keys, own_module, own_name_keys, subscripted_at, written_keys}
use Rattle.pyc_unit_laws.specs.ClassRows.{ancestor_keys, bound_keys, class_keys, classes_of_bases, declared_at, declared_keys, subclass_keys, subclass_of, name_keys, own_class, required_keys, override_keys, pair_keys}
use Rattle.pyc_unit_laws.specs.FileKeys.{AnnotationAsksFiles, AttributeTargetAsksFiles, ClassAsksFiles, HeaderAsksFiles, SubclassAsksFiles, NameTargetAsksFiles, SubscriptTargetAsksFiles}
use Rattle.pyc_unit_laws.specs.FunctionRows.{default_keys, head_keys, optional_annotation_keys, parameter_keys, parameters_keys, type_at}
use Rattle.pyc_unit_laws.specs.TargetRows.{is_defined, item_target_keys}
use Rattle.pyc_builtins.specs.Members.{is_dunder}
use Rattle.pyc_class_ids.specs.declared.builtin_class.BuiltinClass.TheVariants as class
use Rattle.pyc_class_ids.specs.Class.{Id, builtin, user}
use Rattle.pyc_expr.specs.Values.{infer_type}
use Rattle.pyc_expression_laws.proofs.StepLemmas.{of-append}
use Rattle.pyc_expression_laws.specs.FileKeys.{AsksFiles, OfFiles, is_of_files, is_source}
use Rattle.pyc_functions.specs.Parameters.{receiver_of}
use Rattle.pyc_subscripts.specs.Chosen.{is_slice}
use Rattle.pyc_subscripts.specs.Owners.{int_type}
use Rattle.pyc_locals.specs.Locals.{no_locals}
use Rattle.pyc_members.specs.ClassBodies.{OwnMember, class_body, own_member}
use Rattle.pyc_imports.specs.ImportReadings.{presence_in}
use Rattle.pyc_names.specs.Following.{QualifiedName, is_import_from}
use Rattle.pyc_names.specs.Interfaces.{Interface, interface_of}
use Rattle.pyc_names.specs.SourceFiles.{SourceFile}
use Rattle.pyc_overrides.specs.Ancestors.{own_declaration, bind_to_instance}
use Rattle.pyc_overrides.specs.Names.{bound_names, is_exempt}
use Rattle.pyc_overrides.specs.Obligations.{override_by, override_details}
use Rattle.pyc_overrides.specs.Overrides.{Subclass}
use Rattle.pyc_places.specs.States.{nothing_narrowed}
use Rattle.pyc_expression_laws.specs.AttributeRows.{item_attribute_keys, module_attribute_keys, outside_keys}
use Rattle.pyc_expression_laws.specs.ItemRows.{builtin_index_keys, sequence_index_keys}
use Rattle.pyc_expression_laws.specs.NameRows.{is_fixed}
use Rattle.pyc_expression_laws.specs.ObligationRows.{obligation_keys}
use Rattle.pyc_expression_laws.specs.Rows.{Answers, class_key, export_key, has_member, has_no_order, member_at, member_key, name_at, name_key, source_keys}
use Rattle.pyc_reading.specs.Answers.{MemberAnswer}
use Rattle.pyc_reading.specs.Keys.{Key}
use Rattle.pyc_reading.specs.Keys as key
use Rattle.pyc_reading.specs.Outside.{may_be_hidden}
use Rattle.pyc_reading.specs.Owing.{Detail, written}
use Rattle.pyc_reading.specs.Readings.{asked, result_of}
use Rattle.pyc_unit_laws.proofs.HeaderLemmas.{header_asks}
use Rattle.pyc_unit_laws.specs.ImportRows.{all_ring_keys, binding_keys, found_keys, header_keys, is_found, module_path_of, import_keys, part_keys, presence_keys}
use Rattle.pyc_type_exprs.specs.TypeExprs.{TypeExpr, none_written, name_written, union_written, subscript_written, wrong_written, type_argument, ArgumentShape, ellipsis_shape, list_shape, other_shape, TypeExprs, no_type, another_type, TypeArguments, no_argument, another_argument, type_expr}
use Rattle.pyc_type_forms.specs.Types.{Ty, any, module_type, instance, class_object, list, dict}
use Rattle.pyc_type_forms.specs.Unions.{items_of}

-- ---- lists of keys

pub of-each : {X : Type 0} (keys : X → List Key) (xs : List X) → ((x : X) → OfFiles (keys x)) → OfFiles (flat_map keys xs)
of-each keys [] each = tt
of-each keys (x ∷ xs) each = of-append (keys x) (flat_map keys xs) (each x) (of-each keys xs each)

-- nothing of a fixed module
pub of-unless : (b : Bool) (k : Key) → is_of_files k ≡ not b → OfFiles (if b then [] else k ∷ [])
of-unless true k same = tt
of-unless false k same = (same, tt)

pub of-unless_either : (a b : Bool) (k : Key) → is_of_files k ≡ not b → OfFiles (if a || b then [] else k ∷ [])
of-unless_either true b k same = tt
of-unless_either false b k same = of-unless b k same

-- keys that ask files where a module is no fixed one
pub of-where : (b : Bool) (ks : List Key) → (b ≡ false → OfFiles ks) → OfFiles (if b then [] else ks)
of-where true ks all = tt
of-where false ks all = all refl

of-where_either : (a b : Bool) (ks : List Key) → (b ≡ false → OfFiles ks) → OfFiles (if a || b then [] else ks)
of-where_either true b ks all = tt
of-where_either false b ks all = of-where b ks all

-- some keys or none
pub of-else : (b : Bool) (ks : List Key) → OfFiles ks → OfFiles (if b then [] else ks)
of-else true ks all = tt
of-else false ks all = all

pub of-if : (b : Bool) (ks : List Key) → OfFiles ks → OfFiles (if b then ks else [])
of-if true ks all = all
of-if false ks all = tt

pub of-sources : (classes : List Id) → OfFiles (source_keys classes)
of-sources [] = tt
of-sources (builtin c ∷ classes) = of-sources classes
of-sources (user m x ∷ classes) = (refl, of-sources classes)

of-details : (details : List Detail) → OfFiles (flat_map (λ (d : Detail). obligation_keys d.got d.want) details)
of-details details = of-each (λ (d : Detail). obligation_keys d.got d.want) details (λ (d : Detail). of-sources (written d.got ++ written d.want))

-- ---- headers

pub of-found : (answers : Answers) (q : QualifiedName) → is_fixed q.module_path ≡ false → OfFiles (found_keys answers q)
of-found answers q free = (ap not free, of-if (is_found (presence_in (answers (key.has_name q)))) (key.export q ∷ []) (ap not free, tt))

of-presence : (answers : Answers) (module_path : Option (List (List ℕ))) (x : List ℕ) → OfFiles (presence_keys answers module_path x)
of-presence answers (Some m) x = of-where (is_fixed m) _ (of-found answers (record { module_path = m; name = x }))
of-presence answers None x = tt

pub of-import : (answers : Answers) (file : Interface) (form : StmtForm) → OfFiles (import_keys answers file form)
of-import answers file (plain.import modules) = of-each _ modules (λ m. of-unless (is_fixed m.path) (key.has_module m.path) refl)
of-import answers file (plain.import_from from) = of-each (λ (a : Alias). presence_keys answers (module_path_of file from) a.name) from.names (λ (a : Alias). of-presence answers (module_path_of file from) a.name)
of-import answers file _ = tt

of-part : (answers : Answers) (file : Interface) (form : PartForm) → OfFiles (part_keys answers file form)
of-part answers file (statement found) = of-import answers file (form_of found)
of-part answers file (target to) = tt
of-part answers file (caught n) = tt

of-rings : (file : SourceFile) (earlier later : List Binding) → OfFiles (all_ring_keys file earlier later)
of-rings file earlier [] = tt
of-rings file earlier (b ∷ later) =
    of-append (binding_keys file earlier b) (all_ring_keys file (earlier ++ (b ∷ [])) later)
    (of-if (is_import_from b.form && is_none (declaration earlier b.name)) _ (of-unless (is_fixed file.name) (key.has_name (record { module_path = file.name; name = b.name })) refl))
    (of-rings file (earlier ++ (b ∷ [])) later)

of-header : (answers : Answers) (file : SourceFile) (outcome : Outcome) → OfFiles (header_keys answers file outcome)
of-header answers file (tree m) =
    of-append (flat_map (λ (part : Part). part_keys answers (interface_of file) part.form) (parts_of m.statements false)) (all_ring_keys file [] file.bindings)
    (of-each (λ (part : Part). part_keys answers (interface_of file) part.form) (parts_of m.statements false) (λ (part : Part). of-part answers (interface_of file) part.form))
    (of-rings file [] file.bindings)
of-header answers file (fault line text) = tt

pub header_of_files : HeaderAsksFiles
header_of_files options file answers = subst OfFiles (sym (header_asks answers options file)) (of-header answers file file.outcome)

-- ---- names, and annotations

of-outside : (answers : Answers) (m : List (List ℕ)) (n : List ℕ) → is_fixed m ≡ false → OfFiles (outside_keys answers m n)
of-outside answers m n free = (ap not free, of-if (may_be_hidden (name_at answers m n).kind) (export_key m n ∷ []) (ap not free, tt))

of-module_attribute : (answers : Answers) (m : List (List ℕ)) (n : List ℕ) → OfFiles (module_attribute_keys answers m n)
of-module_attribute answers m n = of-where_either (is_dunder n) (is_fixed m) _ (of-outside answers m n)

of-attributes : (answers : Answers) (names : List (List ℕ)) (found : Option (List (List ℕ))) → OfFiles (attributes_keys answers names found)
of-attributes answers [] found = tt
of-attributes answers (n ∷ names) (Some m) =
    of-append (module_attribute_keys answers m n) (attributes_keys answers names (attribute_module answers m n))
    (of-module_attribute answers m n) (of-attributes answers names (attribute_module answers m n))
of-attributes answers (n ∷ names) None = tt

of-dotted : (answers : Answers) (file : Interface) (names : List (List ℕ)) → OfFiles (dotted_keys answers file names)
of-dotted answers file [] = tt
of-dotted answers file (x ∷ names) =
    of-append (own_name_keys file x) (attributes_keys answers names (own_module answers file x))
    (of-unless (is_fixed file.name) (name_key file.name x) refl) (of-attributes answers names (own_module answers file x))

of-written : (answers : Answers) (file : Interface) (names : Option (List (List ℕ))) → OfFiles (written_keys answers file names)
of-written answers file (Some names) = of-dotted answers file names
of-written answers file None = tt

of-base : (answers : Answers) (file : Interface) (x : Argument) → OfFiles (base_keys answers file x)
of-base answers file (argument at argument_kind.Positional e) = of-written answers file _
of-base answers file _ = tt

-- ---- classes

of-class : (answers : Answers) (file : SourceFile) (at : _) (head : _) → OfFiles (class_keys answers file at head)
of-class answers file at head =
    of-append (bases_keys answers (interface_of file) head.arguments) _ (of-each (base_keys answers (interface_of file)) head.arguments (of-base answers (interface_of file)))
    (of-if (declares_class file at head.name) _ (of-append (source_keys (classes_of_bases answers file head)) (class_key (own_class file head) ∷ []) (of-sources (classes_of_bases answers file head)) (refl, tt)))

pub class_of_files : ClassAsksFiles
class_of_files file at head answers = subst OfFiles (sym (class_asks answers file at head)) (of-class answers file at head)

of-pair : (n : List ℕ) (got want : MemberAnswer) → OfFiles (pair_keys n got want)
of-pair n got want =
    of-append (obligation_keys got.ty want.ty) _ (of-sources (written got.ty ++ written want.ty)) (of-details (override_details (override_by n got want) got.ty want.ty))

of-required : (n : List ℕ) (got : MemberAnswer) (found : Option MemberAnswer) → OfFiles (required_keys n got found)
of-required n got (Some want) = of-pair n got (bind_to_instance want)
of-required n got None = tt

of-ancestor : (n : List ℕ) (c : Id) → OfFiles (ancestor_keys n c)
of-ancestor n (builtin c) = tt
of-ancestor n (user m x) = (refl, tt)

of-override : (answers : Answers) (n : List ℕ) (got : MemberAnswer) (ancestors : List Id) → OfFiles (override_keys answers n got ancestors)
of-override answers n got ancestors =
    of-append (flat_map (ancestor_keys n) ancestors) (flat_map (λ (d : Id). required_keys n got (declared_at answers n d)) ancestors)
    (of-each (ancestor_keys n) ancestors (of-ancestor n))
    (of-each (λ (d : Id). required_keys n got (declared_at answers n d)) ancestors (λ d. of-required n got (declared_at answers n d)))

of-bound : (answers : Answers) (subclass : Subclass) (n : List ℕ) (got : MemberAnswer) (own : Option OwnMember) → OfFiles (bound_keys answers subclass n got own)
of-bound answers subclass n got (Some own) = of-override answers n (bind_to_instance got) subclass.ancestors
of-bound answers subclass n got None = tt

of-declared : (answers : Answers) (subclass : Subclass) (n : List ℕ) (found : Option MemberAnswer) → OfFiles (declared_keys answers subclass n found)
of-declared answers subclass n (Some got) = of-bound answers subclass n got (own_member subclass.body n)
of-declared answers subclass n None = tt

of-name : (answers : Answers) (subclass : Subclass) (source : is_source subclass.class ≡ true) (n : List ℕ) → OfFiles (name_keys answers subclass n)
of-name answers subclass source n =
    of-else (is_exempt n) (member_key subclass.class n ∷ declared_keys answers subclass n (own_declaration subclass.class (member_at answers subclass.class n)))
    (source, of-declared answers subclass n (own_declaration subclass.class (member_at answers subclass.class n)))

of-subclass : (answers : Answers) (file : SourceFile) (name : List ℕ) (body : _) (order : Option (List Id)) → OfFiles (subclass_keys answers file name body order)
of-subclass answers file name body (Some order) =
    of-each (name_keys answers (subclass_of file name body order)) (bound_names (class_body body)) (of-name answers (subclass_of file name body order) refl)
of-subclass answers file name body None = tt

pub subclass_of_files : SubclassAsksFiles
subclass_of_files file name body order answers = subst OfFiles (sym (subclass_asks answers file name body order)) (of-subclass answers file name body order)

-- ---- attributes, and what is required of an index

of-item_attribute : (answers : Answers) (n : List ℕ) (ty : Ty) → OfFiles (item_attribute_keys answers ty n)
of-item_attribute answers n (instance (user m x)) =
    (refl, of-else (has_member answers (user m x) n || is_dunder n) _ (refl, of-else (has_no_order answers (user m x)) _ (refl, tt)))
of-item_attribute answers n (class_object (user m x)) = (refl, of-else (has_member answers (user m x) n || is_dunder n) _ (refl, tt))
of-item_attribute answers n (module_type m) = of-module_attribute answers m n
of-item_attribute answers n _ = tt

of-sequence : (brackets : Index) (got : Ty) → OfFiles (sequence_index_keys brackets got)
of-sequence brackets got = of-else (is_slice brackets) (obligation_keys got int_type) (of-sources (written got ++ written int_type))

of-builtin_index : (brackets : Index) (got ty : Ty) → OfFiles (builtin_index_keys brackets got ty)
of-builtin_index brackets got (instance (builtin class.Str)) = of-sequence brackets got
of-builtin_index brackets got (instance (builtin class.Bytes)) = of-sequence brackets got
of-builtin_index brackets got (list item) = of-sequence brackets got
of-builtin_index brackets got (dict key value) = of-sources (written got ++ written key)
of-builtin_index brackets got _ = tt

-- ---- targets

of-item_target : (answers : Answers) (brackets : Index) (got ty : Ty) → OfFiles (item_target_keys answers brackets got ty)
of-item_target answers brackets got (instance (user m x)) = (refl, of-else (has_no_order answers (user m x)) _ (refl, tt))
of-item_target answers brackets got (list item) = of-builtin_index brackets got (list item)
of-item_target answers brackets got (dict key value) = of-builtin_index brackets got (dict key value)
of-item_target answers brackets got _ = tt

pub subscript_target_of_files : SubscriptTargetAsksFiles
subscript_target_of_files at inside brackets got ty answers =
    subst OfFiles (sym (subscript_target_asks answers at inside brackets got ty)) (of-each (λ item. item_target_keys answers brackets got item) (items_of ty) (of-item_target answers brackets got))

pub attribute_target_of_files : AttributeTargetAsksFiles
attribute_target_of_files at inside owner n answers =
    subst OfFiles (sym (attribute_target_asks answers at inside owner n)) (of-each (λ item. item_attribute_keys answers item n) (items_of owner.ty) (of-item_attribute answers n))

pub name_target_of_files : NameTargetAsksFiles
name_target_of_files file x answers =
    subst OfFiles (sym (name_target_asks answers file x)) (of-unless_either (is_defined (declaration file.bindings x)) (is_fixed file.name) (name_key file.name x) refl)

-- ---- annotations

-- what arguments ask asks files
abbrev OfShape : ShapeKeys → Type 0
OfShape (list_keys keys) = OfFiles keys
OfShape _ = Unit {0}

abbrev OfArguments : List ArgumentKeys → Type 0
OfArguments [] = Unit {0}
OfArguments (a ∷ rest) = (OfFiles a.type × OfShape a.shape) × OfArguments rest

of-types : (arguments : List ArgumentKeys) → OfArguments arguments → OfFiles (types_keys arguments)
of-types [] all = tt
of-types (a ∷ rest) ((one, shape), others) = of-append a.type (types_keys rest) one (of-types rest others)

of-pair_keys : (item length : ArgumentKeys) (shape : ShapeKeys) → OfFiles item.type → OfFiles length.type → OfFiles (annotation.pair_keys item length shape)
of-pair_keys item length ellipsis_keys first second = first
of-pair_keys item length (list_keys keys) first second = of-append item.type (length.type ++ []) first (of-append length.type [] second tt)
of-pair_keys item length other_keys first second = of-append item.type (length.type ++ []) first (of-append length.type [] second tt)

of-tuple : (arguments : List ArgumentKeys) → OfArguments arguments → OfFiles (tuple_keys arguments)
of-tuple [] all = tt
of-tuple (a ∷ []) all = of-types (a ∷ []) all
of-tuple (a ∷ b ∷ []) ((one, s), ((two, t), u)) = of-pair_keys a b b.shape one two
of-tuple (a ∷ b ∷ c ∷ rest) all = of-types (a ∷ b ∷ c ∷ rest) all

of-callable : (shape : ShapeKeys) (result : List Key) → OfShape shape → OfFiles result → OfFiles (callable_keys shape result)
of-callable ellipsis_keys result first second = second
of-callable (list_keys params) result first second = of-append params result first second
of-callable other_keys result first second = tt

of-callable_form : (arguments : List ArgumentKeys) → OfArguments arguments → OfFiles (callable_form_keys arguments)
of-callable_form [] all = tt
of-callable_form (a ∷ []) all = tt
of-callable_form (a ∷ b ∷ []) ((one, s), ((two, t), u)) = of-callable a.shape b.type s two
of-callable_form (a ∷ b ∷ c ∷ rest) all = tt

of-class_object : (arguments : List ArgumentKeys) → OfArguments arguments → OfFiles (class_object_keys arguments)
of-class_object [] all = tt
of-class_object (a ∷ rest) ((one, s), others) = one

of-form : (form : TypeForm) (arguments : List ArgumentKeys) → OfArguments arguments → OfFiles (form_keys form arguments)
of-form type_form.Callable arguments all = of-callable_form arguments all
of-form type_form.Type arguments all = of-class_object arguments all
of-form type_form.Tuple arguments all = of-tuple arguments all
of-form type_form.List arguments all = of-types arguments all
of-form type_form.Dict arguments all = of-types arguments all
of-form type_form.Optional arguments all = of-types arguments all
of-form type_form.Union arguments all = of-types arguments all

of-arguments : (found : Subscripted) (arguments : List ArgumentKeys) → OfArguments arguments → OfFiles (arguments_keys found arguments)
of-arguments (form_subscripted form) arguments all = of-if (takes form (length arguments)) (form_keys form arguments) (of-form form arguments all)
of-arguments (class_subscripted c) arguments all = tt
of-arguments any_subscripted arguments all = tt
of-arguments value_subscripted arguments all = tt
of-arguments wrong_subscripted arguments all = tt

mutual
  of-annotation : (answers : Answers) (file : Interface) (x : TypeExpr) → OfFiles (annotation_keys answers file x)
  of-annotation answers file none_written = tt
  of-annotation answers file (name_written at name) = of-dotted answers file name.names
  of-annotation answers file (union_written left right) =
      of-append (annotation_keys answers file left) (annotation_keys answers file right) (of-annotation answers file left) (of-annotation answers file right)
  of-annotation answers file (subscript_written at name is_nested arguments) =
      of-append (dotted_keys answers file name.names) (arguments_keys (subscripted_at answers file name is_nested) (argument_list_keys answers file arguments))
      (of-dotted answers file name.names)
      (of-arguments (subscripted_at answers file name is_nested) (argument_list_keys answers file arguments) (of-argument_list answers file arguments))
  of-annotation answers file (wrong_written at) = tt

  of-argument_list : (answers : Answers) (file : Interface) (arguments : TypeArguments) → OfArguments (argument_list_keys answers file arguments)
  of-argument_list answers file no_argument = tt
  of-argument_list answers file (another_argument (type_argument x shape) rest) =
      ((of-annotation answers file x, of-shape answers file shape), of-argument_list answers file rest)

  of-shape : (answers : Answers) (file : Interface) (shape : ArgumentShape) → OfShape (shape_keys answers file shape)
  of-shape answers file ellipsis_shape = tt
  of-shape answers file (list_shape types) = of-type_list answers file types
  of-shape answers file other_shape = tt

  of-type_list : (answers : Answers) (file : Interface) (types : TypeExprs) → OfFiles (type_list_keys answers file types)
  of-type_list answers file no_type = tt
  of-type_list answers file (another_type x rest) =
      of-append (annotation_keys answers file x) (type_list_keys answers file rest) (of-annotation answers file x) (of-type_list answers file rest)

pub annotation_of_files : AnnotationAsksFiles
annotation_of_files file x answers = subst OfFiles (sym (annotation_asks answers file x)) (of-annotation answers file x)

-- ---- heads

of-optional_annotation : (answers : Answers) (file : Interface) (e : Option Expr) → OfFiles (optional_annotation_keys answers file e)
of-optional_annotation answers file (Some e) = of-annotation answers file (type_expr e)
of-optional_annotation answers file None = tt

module _ (outside : Body) (defaults : (x : Expr) (want : Option Ty) → AsksFiles (infer_type (body_context outside no_locals) nothing_narrowed x want)) where
  of-default : (answers : Answers) (want : Ty) (x : Option Expr) → OfFiles (default_keys answers outside want x)
  of-default answers want (Some x) =
      let got = result_of answers (infer_type (body_context outside no_locals) nothing_narrowed x (Some want)) in
      of-append (asked answers (infer_type (body_context outside no_locals) nothing_narrowed x (Some want))) (obligation_keys got want)
      (defaults x (Some want) answers) (of-sources (written got ++ written want))
  of-default answers want None = tt

  of-parameters : (answers : Answers) (receiver : Ty) (ps : List Parameter) → OfFiles (parameters_keys answers outside receiver ps)
  of-parameters answers receiver [] = tt
  of-parameters answers receiver (p ∷ rest) =
      of-append (parameter_keys answers outside receiver p) (parameters_keys answers outside any rest)
      (of-append (optional_annotation_keys answers (interface_of outside.file) p.annotation) (default_keys answers outside (type_at answers outside receiver p) p.default)
      (of-optional_annotation answers (interface_of outside.file) p.annotation) (of-default answers (type_at answers outside receiver p) p.default))
      (of-parameters answers any rest)

pub of-head : (outside : Body) (head : FunctionDefinition) → ((x : Expr) (want : Option Ty) → AsksFiles (infer_type (body_context outside no_locals) nothing_narrowed x want))
    → (answers : Answers) → OfFiles (head_keys answers outside head)
of-head outside head defaults answers =
    let receiver = receiver_of (class_around outside.kind) head.decorators in
    of-append (parameters_keys answers outside receiver head.parameters) (optional_annotation_keys answers (interface_of outside.file) head.returns)
    (of-parameters outside defaults answers receiver head.parameters) (of-optional_annotation answers (interface_of outside.file) head.returns)
