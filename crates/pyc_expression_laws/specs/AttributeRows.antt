-- What an attribute asks (Python reference 3.13, "Attribute references" and "Customizing attribute access"; typing
-- specification, "Union types").
use Rattle.std.specs.Prelude.{◌≡◌, ℕ, Bool, true, false, ◌||◌, codes, if◌then◌else◌, List, [], ◌∷◌, flat_map}
use Rattle.pyc_ast.specs.declared.position.Position.{Position}
use Rattle.pyc_attributes.specs.AttributeValues.{attribute, type_attribute}
use Rattle.pyc_builtins.specs.Members.{is_dunder}
use Rattle.pyc_class_ids.specs.Class.{Id, user}
use Rattle.pyc_obligations.specs.Values.{SpecialForm}
use Rattle.pyc_expression_laws.specs.NameRows.{is_fixed}
use Rattle.pyc_expression_laws.specs.Rows.{Answers, name_key, export_key, class_key, member_key, name_at}
use Rattle.pyc_expression_laws.specs.Rows.{has_no_order, has_member}
use Rattle.pyc_reading.specs.Answers.{NameAnswer}
use Rattle.pyc_reading.specs.Keys.{Key}
use Rattle.pyc_reading.specs.Outside.{export_in, exported, may_be_hidden}
use Rattle.pyc_reading.specs.Readings.{asked}
use Rattle.pyc_scopes.specs.NamedValues.{value_with}
use Rattle.pyc_type_forms.specs.Types.{Ty, Tys, module_type, instance, class_object, union}
use Rattle.pyc_type_forms.specs.Unions.{row_items}

-- ---- the rows

-- of a name of a module as other files see it: what the name stands for in the module; and where that may be hidden,
-- whether the module passes the name on
abbrev pub outside_keys : Answers → List (List ℕ) → List ℕ → List Key
outside_keys answers m n =
    name_key m n ∷ (if may_be_hidden (name_at answers m n).kind then export_key m n ∷ [] else [])

-- what a name of a module is as other files see it
abbrev pub outside_at : Answers → List (List ℕ) → List ℕ → NameAnswer
outside_at answers m n =
    if may_be_hidden (name_at answers m n).kind
    then exported (record { module_path = m; name = n }) (name_at answers m n)
    (export_in (answers (export_key m n)))
    else name_at answers m n

-- of a module: nothing of a fixed one, and of a name with two underscores at both ends; else just the name as other
-- files see it
abbrev pub module_attribute_keys : Answers → List (List ℕ) → List ℕ → List Key
module_attribute_keys answers m n = if is_dunder n || is_fixed m then [] else outside_keys answers m n

-- of an instance of a class of a source: what the class has under the name; where it has nothing, and the name has not
-- two underscores at both ends, the order of the class; where that is known, its `__getattr__`
abbrev pub instance_attribute_keys : Answers → Id → List ℕ → List Key
instance_attribute_keys answers c n =
    member_key c n ∷
    (if has_member answers c n || is_dunder n then []
    else class_key c ∷ (if has_no_order answers c then [] else member_key c (codes "__getattr__") ∷ []))

-- of a class object: what the class has under the name; where it has nothing, and the name has not two underscores at
-- both ends, the order of the class
abbrev pub class_attribute_keys : Answers → Id → List ℕ → List Key
class_attribute_keys answers c n =
    member_key c n ∷ (if has_member answers c n || is_dunder n then [] else class_key c ∷ [])

-- of an item of a type: of what is no instance and no class object of a class of a source, and no module, nothing
abbrev pub item_attribute_keys : Answers → Ty → List ℕ → List Key
item_attribute_keys answers (instance (user m x)) n = instance_attribute_keys answers (user m x) n
item_attribute_keys answers (class_object (user m x)) n = class_attribute_keys answers (user m x) n
item_attribute_keys answers (module_type m) n = module_attribute_keys answers m n
item_attribute_keys answers _ n = []

-- ---- the laws

-- whether a type is a union
abbrev pub is_union : Ty → Bool
is_union (union items) = true
is_union _ = false

-- the law of attributes of modules
abbrev pub ModuleAttributeReads : Type 0
ModuleAttributeReads =
    (answers : Answers) (at : Position) (m : List (List ℕ)) (n : List ℕ)
    → asked answers (type_attribute at (module_type m) n) ≡ module_attribute_keys answers m n

-- the law of attributes of instances of classes of sources
abbrev pub InstanceAttributeReads : Type 0
InstanceAttributeReads =
    (answers : Answers) (at : Position) (m : List (List ℕ)) (x n : List ℕ)
    → asked answers (type_attribute at (instance (user m x)) n) ≡ instance_attribute_keys answers (user m x) n

-- the law of attributes of class objects of classes of sources
abbrev pub ClassObjectAttributeReads : Type 0
ClassObjectAttributeReads =
    (answers : Answers) (at : Position) (m : List (List ℕ)) (x n : List ℕ)
    → asked answers (type_attribute at (class_object (user m x)) n) ≡ class_attribute_keys answers (user m x) n

-- the law of attributes of every type that is no union, by the table
abbrev pub SingleAttributeReads : Type 0
SingleAttributeReads =
    (answers : Answers) (at : Position) (ty : Ty) (n : List ℕ)
    → is_union ty ≡ false → asked answers (type_attribute at ty n) ≡ item_attribute_keys answers ty n

-- the law of attributes of unions: the keys of their items, in turn
abbrev pub UnionAttributeReads : Type 0
UnionAttributeReads =
    (answers : Answers) (at : Position) (items : Tys) (n : List ℕ)
    → asked answers (type_attribute at (union items) n)
    ≡ flat_map (λ item. item_attribute_keys answers item n) (row_items items)

-- the law of attributes of values: the keys of the type
abbrev pub ValueAttributeReads : Type 0
ValueAttributeReads =
    (answers : Answers) (at : Position) (ty : Ty) (special_form : SpecialForm) (n : List ℕ)
    → asked answers (attribute at (value_with ty special_form) n) ≡ asked answers (type_attribute at ty n)
