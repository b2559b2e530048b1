-- What names joined by dots ask.
use Rattle.std.proofs.Common.{◌≡◌, ℕ, Bool, true, false, not, ◌||◌, ◌&&◌, bytes_eq, codes, if◌then◌else◌, is_some, List, [], ◌∷◌, Option, None, Some, refl, ap, ◌∙◌}
use Rattle.pyc_annotations.specs.declared.meaning.Role.{Role}
use Rattle.pyc_annotations.specs.Annotations.{attribute_of_value, attributes, dotted_meaning, is_base}
use Rattle.pyc_annotations.specs.Meanings.{Meaning, class_meant, any_meant, type_meant, fixed_meant, module_meant, variable_meant, function_meant, nothing_meant}
use Rattle.pyc_annotations.specs.Meanings.{answer_meaning, attribute_in_module, attribute_of_kind, binds, builtin_meaning, class_in, fixed_meaning, found_builtin, is_any, kind_meaning, module_attribute, module_name_meaning, name_in_module, no_attribute, report_undefined, own_meaning, own_name, unannotated, unbound}
use Rattle.pyc_ast.specs.declared.position.Position.{Position}
use Rattle.pyc_unit_laws.proofs.AskedLemmas.{asked-after, result-and_then}
use Rattle.pyc_unit_laws.specs.AnnotationRows.{attribute_module, attributes_keys, dotted_keys, module_in, module_of, own_module, own_name_keys}
use Rattle.pyc_builtins.specs.declared.names.BuiltinName.{BuiltinName}
use Rattle.pyc_builtins.specs.declared.names.BuiltinName.TheVariants as builtins
use Rattle.pyc_builtins.specs.Members.{is_dunder}
use Rattle.pyc_builtins.specs.Names.{builtin_name}
use Rattle.pyc_names.specs.declared.fixed.FixedModule.{FixedModule}
use Rattle.pyc_names.specs.declared.fixed.FixedName.{FixedName}
use Rattle.pyc_names.specs.FixedModules.{fixed_module, fixed_name}
use Rattle.pyc_names.specs.Interfaces.{Interface}
use Rattle.pyc_expression_laws.proofs.AskedLemmas.{asked-then_nothing}
use Rattle.pyc_expression_laws.proofs.OutsideLemmas.{outside-asks, outside-comes}
use Rattle.pyc_expression_laws.specs.AttributeRows.{module_attribute_keys, outside_at, outside_keys}
use Rattle.pyc_expression_laws.specs.NameRows.{is_fixed}
use Rattle.pyc_expression_laws.specs.Rows.{Answers, name_key}
use Rattle.pyc_reading.specs.Answers.{Answer, NameAnswer, NameKind, name_is, order_is, member_is, presence_of, export_is}
use Rattle.pyc_reading.specs.Answers as kind
use Rattle.pyc_reading.specs.Outside.{ask_outside}
use Rattle.pyc_reading.specs.Readings.{Done, and_then, asked, result_of}
use Rattle.pyc_type_forms.specs.Types.{Ty, class_object}

-- the module that a name means
abbrev meant_module : Meaning → Option (List (List ℕ))
meant_module (module_meant m) = Some m
meant_module _ = None

-- ---- what a name means

class_is_no_module : (ty : Ty) → meant_module (class_in ty) ≡ None
class_is_no_module (class_object c) = refl
class_is_no_module _ = refl

variable_is_no_module : (b : Bool) → meant_module (unannotated b) ≡ None
variable_is_no_module true = refl
variable_is_no_module false = refl

kind_is_module : (k : NameKind) (ty : Ty) → meant_module (kind_meaning k ty) ≡ module_of k
kind_is_module kind.annotated_variable ty = refl
kind_is_module kind.variable ty = variable_is_no_module (is_any ty)
kind_is_module kind.alias ty = refl
kind_is_module kind.function_name ty = refl
kind_is_module kind.class_name ty = class_is_no_module ty
kind_is_module (kind.module_name m) ty = refl
kind_is_module (kind.fixed found) ty = refl
kind_is_module kind.unknown ty = refl
kind_is_module kind.opaque ty = refl
kind_is_module kind.no_module ty = refl
kind_is_module kind.no_name ty = refl
kind_is_module kind.no_target ty = refl
kind_is_module kind.cycle ty = refl

answer_is_module : (a : Answer) → meant_module (answer_meaning a) ≡ module_in a
answer_is_module (name_is found) = kind_is_module found.kind found.ty
answer_is_module (presence_of found) = refl
answer_is_module (order_is found) = refl
answer_is_module (member_is found) = refl
answer_is_module (export_is found) = refl

fixed_is_no_module : (found : Option FixedName) → meant_module (fixed_meaning found) ≡ None
fixed_is_no_module (Some found) = refl
fixed_is_no_module None = refl

builtin_is_no_module : (found : BuiltinName) → meant_module (builtin_meaning found) ≡ None
builtin_is_no_module (builtins.Class c) = refl
builtin_is_no_module (builtins.Function result) = refl
builtin_is_no_module builtins.RevealType = refl
builtin_is_no_module builtins.Any = refl

-- ---- names that the module does not bind

no_builtin-asks : (answers : Answers) (at : Position) (x : List ℕ) (b : Bool) → asked answers (if b then Done any_meant else report_undefined at x) ≡ []
unfolding report_undefined
no_builtin-asks answers at x true = refl
no_builtin-asks answers at x false = refl

no_builtin-module : (answers : Answers) (at : Position) (x : List ℕ) (b : Bool) → meant_module (result_of answers (if b then Done any_meant else report_undefined at x)) ≡ None
unfolding report_undefined
no_builtin-module answers at x true = refl
no_builtin-module answers at x false = refl

found_builtin-asks : (answers : Answers) (at : Position) (x : List ℕ) (found : Option BuiltinName) → asked answers (found_builtin at x found) ≡ []
found_builtin-asks answers at x (Some found) = refl
found_builtin-asks answers at x None = no_builtin-asks answers at x (is_dunder x)

found_builtin-module : (answers : Answers) (at : Position) (x : List ℕ) (found : Option BuiltinName) → meant_module (result_of answers (found_builtin at x found)) ≡ None
found_builtin-module answers at x (Some found) = builtin_is_no_module found
found_builtin-module answers at x None = no_builtin-module answers at x (is_dunder x)

type-asks : (answers : Answers) (at : Position) (x : List ℕ) (b : Bool) → asked answers (if b then Done type_meant else found_builtin at x (builtin_name x)) ≡ []
type-asks answers at x true = refl
type-asks answers at x false = found_builtin-asks answers at x (builtin_name x)

type-module : (answers : Answers) (at : Position) (x : List ℕ) (b : Bool) → meant_module (result_of answers (if b then Done type_meant else found_builtin at x (builtin_name x))) ≡ None
type-module answers at x true = refl
type-module answers at x false = found_builtin-module answers at x (builtin_name x)

own_meaning-asks : (answers : Answers) (at : Position) (x : List ℕ) (b : Bool) (found : Meaning) → asked answers (own_meaning at x b found) ≡ []
unfolding unbound
own_meaning-asks answers at x true found = refl
own_meaning-asks answers at x false found = type-asks answers at x (bytes_eq x (codes "type"))

own_meaning-module : (answers : Answers) (at : Position) (x : List ℕ) (b : Bool) (found : Meaning)
    → meant_module (result_of answers (own_meaning at x b found)) ≡ (if not b then None else meant_module found)
unfolding unbound
own_meaning-module answers at x true found = refl
own_meaning-module answers at x false found = type-module answers at x (bytes_eq x (codes "type"))

-- ---- names of the own module

own_name_by-asks : (answers : Answers) (m : List (List ℕ)) (at : Position) (x : List ℕ) (b : Bool) (found : Option FixedModule)
    → asked answers (and_then (name_in_module m x found) (own_meaning at x b)) ≡ (if is_some found then [] else name_key m x ∷ [])
unfolding and_then
own_name_by-asks answers m at x b (Some found) = own_meaning-asks answers at x b (fixed_meaning (fixed_name found x))
own_name_by-asks answers m at x b None = ap (λ l. name_key m x ∷ l) (own_meaning-asks answers at x b (answer_meaning (answers (name_key m x))))

own_name-asks : (answers : Answers) (file : Interface) (at : Position) (x : List ℕ) → asked answers (own_name file at x) ≡ own_name_keys file x
unfolding own_name module_name_meaning
own_name-asks answers file at x = own_name_by-asks answers file.name at x (binds file x) (fixed_module file.name)

no_module_if : (b : Bool) (found : Option (List (List ℕ))) → found ≡ None → (if not b then None else found) ≡ None
no_module_if true found none = none
no_module_if false found none = refl

own_name_by-module : (answers : Answers) (m : List (List ℕ)) (at : Position) (x : List ℕ) (b : Bool) (found : Option FixedModule)
    → meant_module (result_of answers (and_then (name_in_module m x found) (own_meaning at x b)))
    ≡ (if is_some found || not b then None else module_in (answers (name_key m x)))
unfolding and_then
own_name_by-module answers m at x b (Some found) =
    own_meaning-module answers at x b (fixed_meaning (fixed_name found x)) ∙ no_module_if b (meant_module (fixed_meaning (fixed_name found x))) (fixed_is_no_module (fixed_name found x))
own_name_by-module answers m at x b None =
    own_meaning-module answers at x b (answer_meaning (answers (name_key m x))) ∙ ap (λ found. if not b then None else found) (answer_is_module (answers (name_key m x)))

own_name-module : (answers : Answers) (file : Interface) (at : Position) (x : List ℕ) → meant_module (result_of answers (own_name file at x)) ≡ own_module answers file x
unfolding own_name module_name_meaning
own_name-module answers file at x = own_name_by-module answers file.name at x (binds file x) (fixed_module file.name)

-- ---- attributes

attribute_of_kind-asks : (answers : Answers) (at : Position) (n : List ℕ) (found : NameAnswer) (k : NameKind) → asked answers (attribute_of_kind at n found k) ≡ []
unfolding no_attribute
attribute_of_kind-asks answers at n found kind.no_name = refl
attribute_of_kind-asks answers at n found _ = refl

attribute_of_kind-module : (answers : Answers) (at : Position) (n : List ℕ) (ty : Ty) (k : NameKind)
    → meant_module (result_of answers (attribute_of_kind at n (record { kind = k; ty = ty }) k)) ≡ module_of k
unfolding no_attribute
attribute_of_kind-module answers at n ty kind.annotated_variable = refl
attribute_of_kind-module answers at n ty kind.variable = variable_is_no_module (is_any ty)
attribute_of_kind-module answers at n ty kind.alias = refl
attribute_of_kind-module answers at n ty kind.function_name = refl
attribute_of_kind-module answers at n ty kind.class_name = class_is_no_module ty
attribute_of_kind-module answers at n ty (kind.module_name m) = refl
attribute_of_kind-module answers at n ty (kind.fixed found) = refl
attribute_of_kind-module answers at n ty kind.unknown = refl
attribute_of_kind-module answers at n ty kind.opaque = refl
attribute_of_kind-module answers at n ty kind.no_module = refl
attribute_of_kind-module answers at n ty kind.no_name = refl
attribute_of_kind-module answers at n ty kind.no_target = refl
attribute_of_kind-module answers at n ty kind.cycle = refl

in_module-asks : (answers : Answers) (at : Position) (m : List (List ℕ)) (n : List ℕ) (found : Option FixedModule)
    → asked answers (attribute_in_module at m n found) ≡ (if is_some found then [] else outside_keys answers m n)
in_module-asks answers at m n (Some found) = refl
in_module-asks answers at m n None =
    asked-then_nothing answers (ask_outside (record { module_path = m; name = n })) (λ found. attribute_of_kind at n found found.kind) (λ found. attribute_of_kind-asks answers at n found found.kind)
    ∙ outside-asks answers m n

in_module-module : (answers : Answers) (at : Position) (m : List (List ℕ)) (n : List ℕ) (found : Option FixedModule)
    → meant_module (result_of answers (attribute_in_module at m n found)) ≡ (if is_some found then None else module_of (outside_at answers m n).kind)
in_module-module answers at m n (Some found) = fixed_is_no_module (fixed_name found n)
in_module-module answers at m n None =
    let seen = outside_at answers m n in
    ap meant_module (result-and_then answers (ask_outside (record { module_path = m; name = n })) (λ found. attribute_of_kind at n found found.kind))
    ∙ ap (λ found. meant_module (result_of answers (attribute_of_kind at n found found.kind))) (outside-comes answers m n)
    ∙ attribute_of_kind-module answers at n seen.ty seen.kind

unless_dunder-asks : (answers : Answers) (at : Position) (m : List (List ℕ)) (n : List ℕ) (b : Bool)
    → asked answers (if b then Done any_meant else attribute_in_module at m n (fixed_module m)) ≡ (if b || is_fixed m then [] else outside_keys answers m n)
unless_dunder-asks answers at m n true = refl
unless_dunder-asks answers at m n false = in_module-asks answers at m n (fixed_module m)

unless_dunder-module : (answers : Answers) (at : Position) (m : List (List ℕ)) (n : List ℕ) (b : Bool)
    → meant_module (result_of answers (if b then Done any_meant else attribute_in_module at m n (fixed_module m)))
    ≡ (if b || is_fixed m then None else module_of (outside_at answers m n).kind)
unless_dunder-module answers at m n true = refl
unless_dunder-module answers at m n false = in_module-module answers at m n (fixed_module m)

module_attribute-asks : (answers : Answers) (at : Position) (m : List (List ℕ)) (n : List ℕ) → asked answers (module_attribute at m n) ≡ module_attribute_keys answers m n
unfolding module_attribute
module_attribute-asks answers at m n = unless_dunder-asks answers at m n (is_dunder n)

module_attribute-module : (answers : Answers) (at : Position) (m : List (List ℕ)) (n : List ℕ)
    → meant_module (result_of answers (module_attribute at m n)) ≡ attribute_module answers m n
unfolding module_attribute
module_attribute-module answers at m n = unless_dunder-module answers at m n (is_dunder n)

value_is_no_module : (b : Bool) → meant_module (attribute_of_value b) ≡ None
value_is_no_module true = refl
value_is_no_module false = refl

no_module-asks : (answers : Answers) (names : List (List ℕ)) → attributes_keys answers names None ≡ []
no_module-asks answers [] = refl
no_module-asks answers (n ∷ names) = refl

attributes-asks : (answers : Answers) (r : Role) (at : Position) (names : List (List ℕ)) (found : Meaning)
    → asked answers (attributes r at names found) ≡ attributes_keys answers names (meant_module found)
unfolding attributes and_then
attributes-asks answers r at [] found = refl
attributes-asks answers r at (n ∷ names) (module_meant m) =
    let attribute = module_attribute at m n in
    asked-after answers attribute (attributes r at names) (module_attribute_keys answers m n) (attributes_keys answers names (attribute_module answers m n))
    (module_attribute-asks answers at m n)
    (attributes-asks answers r at names (result_of answers attribute) ∙ ap (attributes_keys answers names) (module_attribute-module answers at m n))
attributes-asks answers r at (n ∷ names) (class_meant c) = attributes-asks answers r at names nothing_meant ∙ no_module-asks answers names
attributes-asks answers r at (n ∷ names) any_meant = attributes-asks answers r at names any_meant ∙ no_module-asks answers names
attributes-asks answers r at (n ∷ names) type_meant = attributes-asks answers r at names any_meant ∙ no_module-asks answers names
attributes-asks answers r at (n ∷ names) (fixed_meant found) = attributes-asks answers r at names any_meant ∙ no_module-asks answers names
attributes-asks answers r at (n ∷ names) nothing_meant = attributes-asks answers r at names nothing_meant ∙ no_module-asks answers names
attributes-asks answers r at (n ∷ names) (variable_meant is_any) =
    attributes-asks answers r at names (attribute_of_value (is_base r && is_any))
    ∙ ap (attributes_keys answers names) (value_is_no_module (is_base r && is_any)) ∙ no_module-asks answers names
attributes-asks answers r at (n ∷ names) (function_meant is_any) =
    attributes-asks answers r at names (attribute_of_value (is_base r && is_any))
    ∙ ap (attributes_keys answers names) (value_is_no_module (is_base r && is_any)) ∙ no_module-asks answers names

-- ---- the whole

pub dotted-asks : (answers : Answers) (r : Role) (file : Interface) (at : Position) (names : List (List ℕ))
    → asked answers (dotted_meaning r file at names) ≡ dotted_keys answers file names
unfolding dotted_meaning
dotted-asks answers r file at [] = refl
dotted-asks answers r file at (x ∷ names) =
    asked-after answers (own_name file at x) (attributes r at names) (own_name_keys file x) (attributes_keys answers names (own_module answers file x))
    (own_name-asks answers file at x)
    (attributes-asks answers r at names (result_of answers (own_name file at x)) ∙ ap (attributes_keys answers names) (own_name-module answers file at x))
