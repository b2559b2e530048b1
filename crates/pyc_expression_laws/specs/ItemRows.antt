-- What a subscript and an iteration ask (Python reference 3.13, "Subscriptions", "The for statement" and "Emulating
-- container types"; typing specification, "Union types").
use Rattle.std.specs.Prelude.{◌≡◌, codes, if◌then◌else◌, List, [], ◌∷◌, ◌++◌, flat_map}
use Rattle.pyc_ast.specs.declared.position.Position.{Position}
use Rattle.pyc_ast.specs.Exprs.{Index}
use Rattle.pyc_class_ids.specs.declared.builtin_class.BuiltinClass.TheVariants as class
use Rattle.pyc_class_ids.specs.Class.{Id, builtin, user}
use Rattle.pyc_subscripts.specs.Chosen.{is_slice}
use Rattle.pyc_subscripts.specs.Iteration.{infer_iteration}
use Rattle.pyc_subscripts.specs.Owners.{Owner, builtin_owner, subscript_owner, int_type}
use Rattle.pyc_subscripts.specs.Subscripts.{subscript}
use Rattle.pyc_expression_laws.specs.ObligationRows.{obligation_keys}
use Rattle.pyc_expression_laws.specs.Rows.{Answers, class_key, member_key, has_no_order, has_member}
use Rattle.pyc_reading.specs.Keys.{Key}
use Rattle.pyc_reading.specs.Readings.{asked, result_of}
use Rattle.pyc_type_forms.specs.Types.{Ty, instance, list, dict}
use Rattle.pyc_type_forms.specs.Unions.{items_of}

-- ---- subscripts

-- what a subscript of an instance of a class of a source goes by: the order of the class, and where that is known its
-- `__getitem__`
abbrev pub source_subscript_keys : Answers → Id → List Key
source_subscript_keys answers c =
    class_key c ∷ (if has_no_order answers c then [] else member_key c (codes "__getitem__") ∷ [])

-- what a subscript of a type goes by: nothing, unless the type is an instance of a class of a source
abbrev pub subscript_keys : Answers → Ty → List Key
subscript_keys answers (instance (user m x)) = source_subscript_keys answers (user m x)
subscript_keys answers _ = []

-- the index of a str, bytes or list: an int is required, but of a slice nothing
abbrev pub sequence_index_keys : Index → Ty → List Key
sequence_index_keys brackets got = if is_slice brackets then [] else obligation_keys got int_type

-- the index of a builtin type
abbrev pub builtin_index_keys : Index → Ty → Ty → List Key
builtin_index_keys brackets got (instance (builtin class.Str)) = sequence_index_keys brackets got
builtin_index_keys brackets got (instance (builtin class.Bytes)) = sequence_index_keys brackets got
builtin_index_keys brackets got (list item) = sequence_index_keys brackets got
builtin_index_keys brackets got (dict key value) = obligation_keys got key
builtin_index_keys brackets got _ = []

-- the index, by what the subscript goes by: where that is no builtin type nothing is required
abbrev pub index_keys : Index → Ty → Owner → List Key
index_keys brackets got (builtin_owner ty) = builtin_index_keys brackets got ty
index_keys brackets got _ = []

-- a subscript of an item of a type by an index of a type: what it goes by, and then what is required of the index
abbrev pub item_subscript_keys : Answers → Index → Ty → Ty → List Key
item_subscript_keys answers brackets got ty =
    subscript_keys answers ty ++ index_keys brackets got (result_of answers (subscript_owner ty))

-- the law of what a subscript goes by
abbrev pub SubscriptOwnerReads : Type 0
SubscriptOwnerReads = (answers : Answers) (ty : Ty) → asked answers (subscript_owner ty) ≡ subscript_keys answers ty

-- the law of subscripts: the keys of the items of the type, in turn
abbrev pub SubscriptReads : Type 0
SubscriptReads =
    (answers : Answers) (at : Position) (brackets : Index) (got ty : Ty)
    → asked answers (subscript at brackets got ty)
    ≡ flat_map (λ item. item_subscript_keys answers brackets got item) (items_of ty)

-- ---- iteration

-- an instance of a class of a source: the order of the class; where that is known its `__iter__`; where that is absent
-- its `__getitem__`
abbrev pub source_iteration_keys : Answers → Id → List Key
source_iteration_keys answers c =
    class_key c ∷
    (if has_no_order answers c then []
    else
    member_key c (codes "__iter__") ∷
    (if has_member answers c (codes "__iter__") then [] else member_key c (codes "__getitem__") ∷ []))

-- an item of a type: of what is no instance of a class of a source nothing
abbrev pub iteration_keys : Answers → Ty → List Key
iteration_keys answers (instance (user m x)) = source_iteration_keys answers (user m x)
iteration_keys answers _ = []

-- the law of iterations: the keys of the items of the type, in turn
abbrev pub IterationReads : Type 0
IterationReads =
    (answers : Answers) (at : Position) (ty : Ty)
    → asked answers (infer_iteration at ty) ≡ flat_map (λ item. iteration_keys answers item) (items_of ty)
