-- What targets ask, and names where they stand in a body (Python reference 3.13, "Assignment statements", "Emulating
-- container types", "Attribute references", "Resolution of names", "Class definitions").
use Rattle.std.specs.Prelude.{◌≡◌, ℕ, Bool, false, ◌||◌, codes, if◌then◌else◌, List, [], ◌∷◌, flat_map}
use Rattle.std.specs.Prelude.{Option, None, Some}
use Rattle.pyc_ast.specs.declared.position.Position.{Position}
use Rattle.pyc_ast.specs.Exprs.{Index}
use Rattle.pyc_bindings.specs.Bindings.{Binding}
use Rattle.pyc_bindings.specs.Redefinitions.{declaration}
use Rattle.pyc_body_context.specs.Bodies.{Body, class_around, own_binding, top_scope}
use Rattle.pyc_body_context.specs.BodyNames.{body_name}
use Rattle.pyc_body_context.specs.BodyTargets.{name_outcome}
use Rattle.pyc_class_ids.specs.Class.{Id, user}
use Rattle.pyc_locals.specs.Locals.{LocalType, Locals, local_of}
use Rattle.pyc_locals.specs.FlowStates.{FlowState}
use Rattle.pyc_names.specs.SourceFiles.{SourceFile}
use Rattle.pyc_obligations.specs.Values.{Value}
use Rattle.pyc_expression_laws.specs.AttributeRows.{item_attribute_keys}
use Rattle.pyc_expression_laws.specs.ItemRows.{builtin_index_keys}
use Rattle.pyc_expression_laws.specs.NameRows as top
use Rattle.pyc_expression_laws.specs.NameRows.{is_fixed}
use Rattle.pyc_expression_laws.specs.Rows.{Answers, class_key, has_no_order, member_key, name_key}
use Rattle.pyc_reading.specs.Keys.{Key}
use Rattle.pyc_reading.specs.Readings.{asked}
use Rattle.pyc_targets.specs.AttributeTargets.{attribute_want}
use Rattle.pyc_targets.specs.ItemTargets.{item_target}
use Rattle.pyc_targets.specs.NameTargets.{declared_type, is_definition}
use Rattle.pyc_type_forms.specs.Types.{Ty, instance, list, dict}
use Rattle.pyc_type_forms.specs.Unions.{items_of}

-- ---- subscripts

-- an instance of a class of a source: the order of the class, and where that is known its `__setitem__`
abbrev pub source_target_keys : Answers → Id → List Key
source_target_keys answers c =
    class_key c ∷ (if has_no_order answers c then [] else member_key c (codes "__setitem__") ∷ [])

-- an item of a type: of a list or a dictionary what is required of the index; of what is no instance of a class of a
-- source nothing
abbrev pub item_target_keys : Answers → Index → Ty → Ty → List Key
item_target_keys answers brackets got (instance (user m x)) = source_target_keys answers (user m x)
item_target_keys answers brackets got (list item) = builtin_index_keys brackets got (list item)
item_target_keys answers brackets got (dict key value) = builtin_index_keys brackets got (dict key value)
item_target_keys answers brackets got _ = []

-- the law of subscripts as targets: the keys of the items of the type, in turn
abbrev pub SubscriptTargetReads : Type 0
SubscriptTargetReads =
    (answers : Answers) (at inside : Position) (brackets : Index) (got ty : Ty)
    → asked answers (item_target at inside brackets got ty)
    ≡ flat_map (λ item. item_target_keys answers brackets got item) (items_of ty)

-- ---- attributes

-- the law of attributes as targets: what the attribute of each item of the type asks, in turn
abbrev pub AttributeTargetReads : Type 0
AttributeTargetReads =
    (answers : Answers) (at inside : Position) (owner : Value) (n : List ℕ)
    → asked answers (attribute_want at inside owner n)
    ≡ flat_map (λ item. item_attribute_keys answers item n) (items_of owner.ty)

-- ---- names of modules

-- whether an import, a function or a class declares a name, by its declaration
abbrev pub is_defined : Option Binding → Bool
is_defined (Some found) = is_definition found.form
is_defined None = false

-- a name of a file's top level: what it stands for; nothing of one that an import, a function or a class declares, nor
-- in a file that is named as a fixed module
abbrev pub name_target_keys : SourceFile → List ℕ → List Key
name_target_keys file x =
    if is_defined (declaration file.bindings x) || is_fixed file.name then [] else name_key file.name x ∷ []

-- the law of names of modules as targets
abbrev pub NameTargetReads : Type 0
NameTargetReads =
    (answers : Answers) (file : SourceFile) (x : List ℕ)
    → asked answers (declared_type file x) ≡ name_target_keys file x

-- ---- names in bodies

-- a name of the class around it, where the statement declares that class
abbrev pub own_member_keys : Option Id → List ℕ → List Key
own_member_keys (Some c) x = member_key c x ∷ []
own_member_keys None x = []

-- a name in a body: a local asks nothing; a name that the body of a class binds asks what its class has under it; any
-- other asks as a name of the file
abbrev pub unless_local : Option LocalType → List Key → List Key
unless_local (Some known) keys = []
unless_local None keys = keys

abbrev pub owned_name_keys : Body → List ℕ → Option Binding → List Key
owned_name_keys body x (Some found) = own_member_keys (class_around body.kind) x
owned_name_keys body x None = top.name_keys (top_scope body.file) x

abbrev pub body_name_keys : Body → Locals → List ℕ → List Key
body_name_keys body locals x = unless_local (local_of locals x) (owned_name_keys body x (own_binding body.kind x))

-- the law of names in bodies
abbrev pub BodyNameReads : Type 0
BodyNameReads =
    (answers : Answers) (body : Body) (locals : Locals) (at : Position) (x : List ℕ)
    → asked answers (body_name body locals at x) ≡ body_name_keys body locals x

-- a name as a target in a body asks in this way, too; nothing is asked of one that an import, a function or a class
-- declares
abbrev pub owned_target_keys : Body → List ℕ → Option Binding → List Key
owned_target_keys body x (Some found) =
    if is_definition found.form then [] else own_member_keys (class_around body.kind) x
owned_target_keys body x None = name_target_keys body.file x

abbrev pub body_target_keys : Body → Locals → List ℕ → List Key
body_target_keys body locals x = unless_local (local_of locals x) (owned_target_keys body x (own_binding body.kind x))

-- the law of names as targets in bodies
abbrev pub BodyTargetReads : Type 0
BodyTargetReads =
    (answers : Answers) (body : Body) (p : FlowState) (x : List ℕ)
    → asked answers (name_outcome body p x) ≡ body_target_keys body p.locals x
