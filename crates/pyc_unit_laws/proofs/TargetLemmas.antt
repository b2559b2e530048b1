-- What targets ask, and names in bodies.
use Rattle.std.proofs.Common.{◌≡◌, ℕ, Bool, true, false, ◌||◌, codes, if◌then◌else◌, is_some, List, [], ◌∷◌, flat_map, Option, None, Some, refl, ap, ◌∙◌}
use Rattle.pyc_ast.specs.declared.position.Position.{Position}
use Rattle.pyc_ast.specs.Exprs.{Index}
use Rattle.pyc_attributes.specs.AttributeValues.{no_attribute, no_item_attribute}
use Rattle.pyc_attributes.specs.FoundAttributes.{Found, absent, known, member_of, name_with, item_attribute}
use Rattle.pyc_bindings.specs.Bindings.{Binding}
use Rattle.pyc_bindings.specs.Redefinitions.{declaration}
use Rattle.pyc_body_context.specs.Bodies.{Body, class_around, own_binding, top_scope}
use Rattle.pyc_body_context.specs.BodyNames.{class_value, own_value, own_or_outer_value}
use Rattle.pyc_body_context.specs.BodyNames as body_names
use Rattle.pyc_body_context.specs.BodyTargets.{class_outcome, outcome_if_local, outcome_if_owned, name_outcome, own_outcome, top_outcome}
use Rattle.pyc_assignments.specs.Reads.{free_outcome, target_type_outcome}
use Rattle.pyc_unit_laws.specs.TargetRows.{AttributeTargetReads, BodyNameReads, BodyTargetReads, NameTargetReads, SubscriptTargetReads, is_defined, item_target_keys, name_target_keys, own_member_keys, owned_name_keys, owned_target_keys, unless_local}
use Rattle.pyc_class_ids.specs.Class.{Id, user}
use Rattle.pyc_subscripts.specs.Subscripts.{item_of}
use Rattle.pyc_locals.specs.Locals.{LocalType, local_of}
use Rattle.pyc_names.specs.declared.fixed.FixedModule.{FixedModule}
use Rattle.pyc_names.specs.FixedModules.{fixed_module}
use Rattle.pyc_names.specs.SourceFiles.{SourceFile}
use Rattle.pyc_expression_laws.proofs.AttributeLemmas.{item_attribute-asks}
use Rattle.pyc_expression_laws.proofs.ItemLemmas.{item_of-asks}
use Rattle.pyc_expression_laws.proofs.NameLemmas.{name_asks}
use Rattle.pyc_expression_laws.specs.AttributeRows.{item_attribute_keys}
use Rattle.pyc_expression_laws.specs.NameRows.{is_fixed}
use Rattle.pyc_expression_laws.specs.Rows.{Answers, class_key, has_no_order, member_key, name_key}
use Rattle.pyc_reading.specs.declared.answer.MemberKind.{MemberKind}
use Rattle.pyc_reading.specs.declared.answer.MemberKind.TheVariants as kind
use Rattle.pyc_reading.specs.Readings.{Done, and_then, asked}
use Rattle.pyc_unit_laws.proofs.ImportAskedLemmas.{asked-alone, asked-both}
use Rattle.pyc_targets.specs.AttributeTargets.{Wants, absent_reported, absent_want, found_want, item_want, member_want, more_wants, no_wants, property_want, read_only, type_want, want_of, with_want}
use Rattle.pyc_targets.specs.ItemTargets.{ItemTargets, ask_target, conclude, indexed_target, item_target, more_targets, no_targets, source_target, supported_target_type, target_of_item, target_of_type, unsupported_reported, user_target, with_target}
use Rattle.pyc_targets.specs.NameTargets.{by_declaration, declared_type, is_definition, own_type, variable_type}
use Rattle.pyc_targets.specs.TargetTypes.{plain_target_type}
use Rattle.pyc_type_forms.specs.Types.{Ty, instance, class_object, list, dict, union}
use Rattle.pyc_type_forms.specs.Unions.{items_of}

-- ---- subscripts

user_target-asks : (answers : Answers) (c : Id) (b : Bool) → asked answers (user_target c b) ≡ (if b then [] else member_key c (codes "__setitem__") ∷ [])
unfolding ask_target and_then
user_target-asks answers c true = refl
user_target-asks answers c false = refl

indexed-asks : (answers : Answers) (at : Position) (brackets : Index) (got ty : Ty) → asked answers (indexed_target at brackets got ty) ≡ asked answers (item_of at brackets got ty)
unfolding indexed_target
indexed-asks answers at brackets got ty =
    asked-alone answers (item_of at brackets got ty) (λ found. Done (target_of_item found)) (asked answers (item_of at brackets got ty)) refl (λ found. refl)

type-asks : (answers : Answers) (at : Position) (brackets : Index) (got ty : Ty) → asked answers (target_of_type at brackets got ty) ≡ item_target_keys answers brackets got ty
unfolding source_target and_then
type-asks answers at brackets got (instance (user m x)) = ap (λ l. class_key (user m x) ∷ l) (user_target-asks answers (user m x) (has_no_order answers (user m x)))
type-asks answers at brackets got (list item) = indexed-asks answers at brackets got (list item) ∙ item_of-asks answers at brackets got (list item)
type-asks answers at brackets got (dict key value) = indexed-asks answers at brackets got (dict key value) ∙ item_of-asks answers at brackets got (dict key value)
type-asks answers at brackets got _ = refl

more_targets-asks : (answers : Answers) (at : Position) (brackets : Index) (got : Ty) (found : ItemTargets) (types : List Ty)
    → asked answers (more_targets at brackets got found types) ≡ flat_map (λ item. item_target_keys answers brackets got item) types
unfolding more_targets
more_targets-asks answers at brackets got found [] = refl
more_targets-asks answers at brackets got found (ty ∷ types) =
    asked-both answers (target_of_type at brackets got ty) (λ item. more_targets at brackets got (with_target found item) types)
    (item_target_keys answers brackets got ty) (flat_map (λ item. item_target_keys answers brackets got item) types)
    (type-asks answers at brackets got ty) (λ item. more_targets-asks answers at brackets got (with_target found item) types)

ended_by-asks : (answers : Answers) (at : Position) (ty : Ty) (found : ItemTargets) (b : Bool)
    → asked answers (if b then unsupported_reported at ty else Done (supported_target_type found)) ≡ []
unfolding unsupported_reported
ended_by-asks answers at ty found true = refl
ended_by-asks answers at ty found false = refl

pub subscript_target_asks : SubscriptTargetReads
unfolding item_target
subscript_target_asks answers at inside brackets got ty =
    asked-alone answers (more_targets inside brackets got no_targets (items_of ty)) (conclude at ty) (flat_map (λ item. item_target_keys answers brackets got item) (items_of ty))
    (more_targets-asks answers inside brackets got no_targets (items_of ty)) (λ (found : ItemTargets). ended_by-asks answers at ty found found.is_unsupported)

-- ---- attributes

property-asks : (answers : Answers) (at : Position) (owner : Ty) (n : List ℕ) (c : Id) (ty : Ty) → asked answers (property_want at owner n c ty) ≡ []
unfolding read_only
property-asks answers at (class_object d) n c ty = refl
property-asks answers at _ n c ty = refl

member-asks : (answers : Answers) (at : Position) (owner : Ty) (n : List ℕ) (c : Id) (k : MemberKind) (ty : Ty) → asked answers (member_want at owner n c k ty) ≡ []
member-asks answers at owner n c kind.Variable ty = refl
member-asks answers at owner n c kind.SettableProperty ty = refl
member-asks answers at owner n c kind.Property ty = property-asks answers at owner n c ty
member-asks answers at owner n c _ ty = refl

absent_reported-asks : (answers : Answers) (at : Position) (whole item : Ty) (n : List ℕ) → asked answers (absent_reported at whole item n) ≡ []
unfolding no_attribute no_item_attribute
absent_reported-asks answers at (union items) item n = refl
absent_reported-asks answers at _ item n = refl

absent-asks : (answers : Answers) (at : Position) (whole item : Ty) (n : List ℕ) → asked answers (absent_want at whole item n) ≡ []
unfolding absent_want
absent-asks answers at whole item n = asked-alone answers (absent_reported at whole item n) (λ ty. Done (Some ty)) [] (absent_reported-asks answers at whole item n) (λ ty. refl)

found-asks : (answers : Answers) (at inside : Position) (whole item : Ty) (n : List ℕ) (found : Found) → asked answers (found_want at inside whole item n found) ≡ []
found-asks answers at inside whole item n absent = absent-asks answers inside whole item n
found-asks answers at inside whole item n (known ty) = refl
found-asks answers at inside whole item n (member_of c k ty) = member-asks answers at item n c k ty
found-asks answers at inside whole item n (name_with found) = refl

item-asks : (answers : Answers) (at inside : Position) (whole : Ty) (n : List ℕ) (item : Ty) → asked answers (item_want at inside whole n item) ≡ item_attribute_keys answers item n
unfolding item_want
item-asks answers at inside whole n item =
    asked-alone answers (item_attribute item n) (found_want at inside whole item n) (item_attribute_keys answers item n)
    (item_attribute-asks answers item n) (found-asks answers at inside whole item n)

more_wants-asks : (answers : Answers) (at inside : Position) (whole : Ty) (n : List ℕ) (found : Wants) (items : List Ty)
    → asked answers (more_wants at inside whole n found items) ≡ flat_map (λ item. item_attribute_keys answers item n) items
unfolding more_wants
more_wants-asks answers at inside whole n found [] = refl
more_wants-asks answers at inside whole n found (item ∷ rest) =
    asked-both answers (item_want at inside whole n item) (λ want. more_wants at inside whole n (with_want found want) rest)
    (item_attribute_keys answers item n) (flat_map (λ item. item_attribute_keys answers item n) rest)
    (item-asks answers at inside whole n item) (λ want. more_wants-asks answers at inside whole n (with_want found want) rest)

pub attribute_target_asks : AttributeTargetReads
unfolding type_want
attribute_target_asks answers at inside owner n =
    asked-alone answers (more_wants at inside owner.ty n no_wants (items_of owner.ty)) (λ found. Done (want_of found)) (flat_map (λ item. item_attribute_keys answers item n) (items_of owner.ty))
    (more_wants-asks answers at inside owner.ty n no_wants (items_of owner.ty)) (λ found. refl)

-- ---- names of modules

own_type-asks : (answers : Answers) (file : SourceFile) (x : List ℕ) (b : Bool) (found : Option FixedModule)
    → asked answers (own_type file x b found) ≡ (if is_some found then [] else name_key file.name x ∷ [])
unfolding and_then
own_type-asks answers file x b (Some found) = refl
own_type-asks answers file x b None = refl

variable-asks : (answers : Answers) (file : SourceFile) (x : List ℕ) (b : Bool) → asked answers (variable_type file x b) ≡ (if b || is_fixed file.name then [] else name_key file.name x ∷ [])
variable-asks answers file x true = refl
variable-asks answers file x false = own_type-asks answers file x true (fixed_module file.name)

declaration-asks : (answers : Answers) (file : SourceFile) (x : List ℕ) (found : Option Binding)
    → asked answers (by_declaration file x found) ≡ (if is_defined found || is_fixed file.name then [] else name_key file.name x ∷ [])
declaration-asks answers file x (Some found) = variable-asks answers file x (is_definition found.form)
declaration-asks answers file x None = own_type-asks answers file x false (fixed_module file.name)

pub name_target_asks : NameTargetReads
unfolding declared_type
name_target_asks answers file x = declaration-asks answers file x (declaration file.bindings x)

-- ---- names in bodies

own_value-asks : (answers : Answers) (c : Option Id) (x : List ℕ) → asked answers (own_value c x) ≡ own_member_keys c x
unfolding class_value and_then
own_value-asks answers (Some c) x = refl
own_value-asks answers None x = refl

owned_value-asks : (answers : Answers) (body : Body) (at : Position) (x : List ℕ) (found : Option Binding) → asked answers (own_or_outer_value body at x found) ≡ owned_name_keys body x found
owned_value-asks answers body at x (Some found) = own_value-asks answers (class_around body.kind) x
owned_value-asks answers body at x None = name_asks answers (top_scope body.file) at x

local_value-asks : (answers : Answers) (body : Body) (at : Position) (x : List ℕ) (found : Option LocalType)
    → asked answers (body_names.value_if_local body at x found) ≡ unless_local found (owned_name_keys body x (own_binding body.kind x))
local_value-asks answers body at x (Some local) = refl
local_value-asks answers body at x None = owned_value-asks answers body at x (own_binding body.kind x)

pub body_name_asks : BodyNameReads
unfolding body_names.body_name
body_name_asks answers body locals at x = local_value-asks answers body at x (local_of locals x)

own_outcome-asks : (answers : Answers) (c : Option Id) (x : List ℕ) → asked answers (own_outcome c x) ≡ own_member_keys c x
unfolding class_outcome and_then
own_outcome-asks answers (Some c) x = refl
own_outcome-asks answers None x = refl

defined_outcome-asks : (answers : Answers) (c : Option Id) (x : List ℕ) (b : Bool) → asked answers (if b then Done free_outcome else own_outcome c x) ≡ (if b then [] else own_member_keys c x)
defined_outcome-asks answers c x true = refl
defined_outcome-asks answers c x false = own_outcome-asks answers c x

owned_outcome-asks : (answers : Answers) (body : Body) (x : List ℕ) (found : Option Binding) → asked answers (outcome_if_owned body x found) ≡ owned_target_keys body x found
unfolding top_outcome
owned_outcome-asks answers body x (Some found) = defined_outcome-asks answers (class_around body.kind) x (is_definition found.form)
owned_outcome-asks answers body x None =
    asked-alone answers (declared_type body.file x) (λ want. Done (target_type_outcome (plain_target_type want))) (name_target_keys body.file x) (name_target_asks answers body.file x) (λ want. refl)

local_outcome-asks : (answers : Answers) (body : Body) (x : List ℕ) (found : Option LocalType)
    → asked answers (outcome_if_local body x found) ≡ unless_local found (owned_target_keys body x (own_binding body.kind x))
local_outcome-asks answers body x (Some local) = refl
local_outcome-asks answers body x None = owned_outcome-asks answers body x (own_binding body.kind x)

pub body_target_asks : BodyTargetReads
unfolding name_outcome
body_target_asks answers body p x = local_outcome-asks answers body x (local_of p.locals x)
