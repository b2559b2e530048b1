-- What an attribute asks.
use Rattle.std.proofs.Common.{◌≡◌, ℕ, Bool, true, false, ◌||◌, codes, if◌then◌else◌, is_some, List, [], ◌∷◌, ◌++◌, flat_map, Option, None, Some, refl, sym, ap, ◌∙◌}
use Rattle.std.proofs.lemmas.Bool.{false≢true}
use Rattle.pyc_ast.specs.declared.position.Position.{Position}
use Rattle.pyc_attributes.specs.AttributeValues.{no_attribute, no_item_attribute, absent_value, found_value, item_type, union_item, item_types, union_attribute, single_attribute}
use Rattle.pyc_attributes.specs.FoundAttributes.{Found, absent, known, member_of, name_with, answered_found, module_name, module_attribute, absent_unless, without_member, instance_found, instance_attribute, class_object_found, class_object_attribute, item_attribute}
use Rattle.pyc_builtins.specs.Members.{is_dunder}
use Rattle.pyc_class_ids.specs.Class.{Id, user}
use Rattle.pyc_names.specs.declared.fixed.FixedModule.{FixedModule}
use Rattle.pyc_names.specs.FixedModules.{fixed_module}
use Rattle.pyc_obligations.specs.Asking.{is_unknown_class}
use Rattle.pyc_obligations.specs.Values.{plain_value}
use Rattle.pyc_expression_laws.proofs.AskedLemmas.{asked-and_then, asked-then_nothing}
use Rattle.pyc_expression_laws.proofs.OutsideLemmas.{outside-asks}
use Rattle.pyc_expression_laws.specs.AttributeRows.{outside_keys, module_attribute_keys, item_attribute_keys, ModuleAttributeReads, InstanceAttributeReads, ClassObjectAttributeReads, SingleAttributeReads, UnionAttributeReads, ValueAttributeReads}
use Rattle.pyc_expression_laws.specs.NameRows.{is_fixed}
use Rattle.pyc_expression_laws.specs.Rows.{Answers, class_key, member_key, member_at, has_no_order}
use Rattle.pyc_reading.specs.Answers.{MemberAnswer}
use Rattle.pyc_reading.specs.Outside.{ask_outside}
use Rattle.pyc_reading.specs.Readings.{Done, and_then, result_of, asked}
use Rattle.pyc_type_forms.specs.Types.{Ty, any, none, module_type, instance, class_object, list, dict, tuple, tuple_of, union, callable}
use Rattle.pyc_type_forms.specs.Unions.{row_items, union_of}

-- ---- modules

module_name-asks : (answers : Answers) (m : List (List ℕ)) (n : List ℕ) (found : Option FixedModule)
    → asked answers (module_name m n found) ≡ (if is_some found then [] else outside_keys answers m n)
module_name-asks answers m n (Some found) = refl
module_name-asks answers m n None =
    asked-then_nothing answers (ask_outside (record { module_path = m; name = n })) (λ found. Done (answered_found found found.kind)) (λ found. refl)
    ∙ outside-asks answers m n

unless_dunder-asks : (answers : Answers) (m : List (List ℕ)) (n : List ℕ) (b : Bool)
    → asked answers (if b then Done (known any) else module_name m n (fixed_module m)) ≡ (if b || is_fixed m then [] else outside_keys answers m n)
unless_dunder-asks answers m n true = refl
unless_dunder-asks answers m n false = module_name-asks answers m n (fixed_module m)

module_attribute-asks : (answers : Answers) (m : List (List ℕ)) (n : List ℕ) → asked answers (module_attribute m n) ≡ module_attribute_keys answers m n
unfolding module_attribute
module_attribute-asks answers m n = unless_dunder-asks answers m n (is_dunder n)

-- ---- classes of sources

without_member-asks : (answers : Answers) (c : Id) (b : Bool)
    → asked answers (without_member c b) ≡ (if b then [] else member_key c (codes "__getattr__") ∷ [])
unfolding and_then
without_member-asks answers c true = refl
without_member-asks answers c false = refl

no_member-asks : (answers : Answers) (m : List (List ℕ)) (x : List ℕ) (b : Bool)
    → asked answers (if b then Done (known any) else and_then (is_unknown_class (user m x)) (without_member (user m x)))
    ≡ (if b then [] else class_key (user m x) ∷ (if has_no_order answers (user m x) then [] else member_key (user m x) (codes "__getattr__") ∷ []))
unfolding and_then
no_member-asks answers m x true = refl
no_member-asks answers m x false = ap (λ l. class_key (user m x) ∷ l) (without_member-asks answers (user m x) (has_no_order answers (user m x)))

instance_found-asks : (answers : Answers) (m : List (List ℕ)) (x n : List ℕ) (found : Option MemberAnswer)
    → asked answers (instance_found (user m x) n found)
    ≡ (if is_some found || is_dunder n then [] else class_key (user m x) ∷ (if has_no_order answers (user m x) then [] else member_key (user m x) (codes "__getattr__") ∷ []))
instance_found-asks answers m x n (Some found) = refl
instance_found-asks answers m x n None = no_member-asks answers m x (is_dunder n)

no_class_member-asks : (answers : Answers) (m : List (List ℕ)) (x : List ℕ) (b : Bool)
    → asked answers (if b then Done (known any) else and_then (is_unknown_class (user m x)) (λ unknown. Done (absent_unless unknown)))
    ≡ (if b then [] else class_key (user m x) ∷ [])
unfolding and_then
no_class_member-asks answers m x true = refl
no_class_member-asks answers m x false = refl

class_object_found-asks : (answers : Answers) (m : List (List ℕ)) (x n : List ℕ) (found : Option MemberAnswer)
    → asked answers (class_object_found (user m x) n found) ≡ (if is_some found || is_dunder n then [] else class_key (user m x) ∷ [])
class_object_found-asks answers m x n (Some found) = refl
class_object_found-asks answers m x n None = no_class_member-asks answers m x (is_dunder n)

-- ---- items

pub item_attribute-asks : (answers : Answers) (ty : Ty) (n : List ℕ) → asked answers (item_attribute ty n) ≡ item_attribute_keys answers ty n
unfolding and_then instance_attribute class_object_attribute
item_attribute-asks answers (instance (user m x)) n = ap (λ l. member_key (user m x) n ∷ l) (instance_found-asks answers m x n (member_at answers (user m x) n))
item_attribute-asks answers (class_object (user m x)) n = ap (λ l. member_key (user m x) n ∷ l) (class_object_found-asks answers m x n (member_at answers (user m x) n))
item_attribute-asks answers (module_type m) n = module_attribute-asks answers m n
item_attribute-asks answers _ n = refl

found_value-asks : (answers : Answers) (at : Position) (ty : Ty) (n : List ℕ) (found : Found) → asked answers (found_value at ty n found) ≡ []
unfolding and_then no_attribute absent_value
found_value-asks answers at ty n absent = refl
found_value-asks answers at ty n (known found) = refl
found_value-asks answers at ty n (member_of c kind found) = refl
found_value-asks answers at ty n (name_with found) = refl

single-asks : (answers : Answers) (at : Position) (ty : Ty) (n : List ℕ) → asked answers (single_attribute at ty n) ≡ item_attribute_keys answers ty n
unfolding single_attribute
single-asks answers at ty n =
    asked-then_nothing answers (item_attribute ty n) (found_value at ty n) (λ found. found_value-asks answers at ty n found) ∙ item_attribute-asks answers ty n

pub module_attribute_asks : ModuleAttributeReads
module_attribute_asks answers at m n = single-asks answers at (module_type m) n

pub instance_attribute_asks : InstanceAttributeReads
instance_attribute_asks answers at m x n = single-asks answers at (instance (user m x)) n

pub class_object_attribute_asks : ClassObjectAttributeReads
class_object_attribute_asks answers at m x n = single-asks answers at (class_object (user m x)) n

pub single_attribute_asks : SingleAttributeReads
single_attribute_asks answers at (union items) n single = absurd (false≢true (sym single))
single_attribute_asks answers at any n single = single-asks answers at any n
single_attribute_asks answers at none n single = single-asks answers at none n
single_attribute_asks answers at (module_type m) n single = single-asks answers at (module_type m) n
single_attribute_asks answers at (instance c) n single = single-asks answers at (instance c) n
single_attribute_asks answers at (class_object c) n single = single-asks answers at (class_object c) n
single_attribute_asks answers at (list item) n single = single-asks answers at (list item) n
single_attribute_asks answers at (dict key value) n single = single-asks answers at (dict key value) n
single_attribute_asks answers at (tuple items) n single = single-asks answers at (tuple items) n
single_attribute_asks answers at (tuple_of item) n single = single-asks answers at (tuple_of item) n
single_attribute_asks answers at (callable params result) n single = single-asks answers at (callable params result) n

-- ---- unions

item_type-asks : (answers : Answers) (at : Position) (whole item : Ty) (n : List ℕ) (found : Found) → asked answers (item_type at whole item n found) ≡ []
unfolding no_item_attribute
item_type-asks answers at whole item n absent = refl
item_type-asks answers at whole item n (known found) = refl
item_type-asks answers at whole item n (member_of c kind found) = refl
item_type-asks answers at whole item n (name_with found) = refl

union_item-asks : (answers : Answers) (at : Position) (whole : Ty) (n : List ℕ) (item : Ty) → asked answers (union_item at whole n item) ≡ item_attribute_keys answers item n
unfolding union_item
union_item-asks answers at whole n item =
    asked-then_nothing answers (item_attribute item n) (item_type at whole item n) (λ found. item_type-asks answers at whole item n found) ∙ item_attribute-asks answers item n

item_types-asks : (answers : Answers) (at : Position) (whole : Ty) (n : List ℕ) (found items : List Ty)
    → asked answers (item_types at whole n found items) ≡ flat_map (λ item. item_attribute_keys answers item n) items
unfolding item_types
item_types-asks answers at whole n found [] = refl
item_types-asks answers at whole n found (item ∷ items) =
    let first = union_item at whole n item in
    let next : Ty = result_of answers first in
    asked-and_then answers first (λ ty. item_types at whole n (found ++ (ty ∷ [])) items)
    ∙ ap (λ l. l ++ asked answers (item_types at whole n (found ++ (next ∷ [])) items)) (union_item-asks answers at whole n item)
    ∙ ap (λ l. item_attribute_keys answers item n ++ l) (item_types-asks answers at whole n (found ++ (next ∷ [])) items)

pub union_attribute_asks : UnionAttributeReads
unfolding union_attribute
union_attribute_asks answers at items n =
    asked-then_nothing answers (item_types at (union items) n [] (row_items items)) (λ found. Done (plain_value (union_of found))) (λ found. refl)
    ∙ item_types-asks answers at (union items) n [] (row_items items)

-- ---- values

pub value_attribute_asks : ValueAttributeReads
value_attribute_asks answers at ty special_form n = refl
