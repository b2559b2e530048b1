-- What a class statement asks (Python reference 3.13, "Class definitions"; "The Python 2.3 method resolution order";
-- typing specification, "Class type assignability").
use Rattle.std.specs.Prelude.{◌≡◌, ℕ, if◌then◌else◌, List, [], ◌∷◌, ◌++◌, flat_map, Option, None, Some, option_map}
use Rattle.pyc_annotations.specs.Bases.{Base, bases, class_base}
use Rattle.pyc_ast.specs.declared.position.Position.{Position}
use Rattle.pyc_ast.specs.Statements.{ClassDefinition, Stmts}
use Rattle.pyc_body_context.specs.ClassBodies.{declares_class}
use Rattle.pyc_unit_laws.specs.AnnotationRows.{bases_keys}
use Rattle.pyc_class_ids.specs.Class.{Id, builtin, user}
use Rattle.pyc_functions.specs.Bodies.{class_body_reading}
use Rattle.pyc_iface.specs.declared.options.Options.{Options}
use Rattle.pyc_members.specs.ClassBodies.{OwnMember, own_member, class_body}
use Rattle.pyc_names.specs.Interfaces.{interface_of}
use Rattle.pyc_names.specs.SourceFiles.{SourceFile}
use Rattle.pyc_overrides.specs.Ancestors.{builtin_answer, own_declaration, bind_to_instance}
use Rattle.pyc_overrides.specs.Names.{bound_names, is_exempt}
use Rattle.pyc_overrides.specs.Obligations.{override_by, override_details}
use Rattle.pyc_overrides.specs.Overrides.{Subclass, ancestors_in, overrides_required}
use Rattle.pyc_overrides.specs.Places.{body_parts}
use Rattle.pyc_expression_laws.specs.ObligationRows.{obligation_keys}
use Rattle.pyc_expression_laws.specs.Rows.{Answers, class_key, member_at, member_key, source_keys}
use Rattle.pyc_reading.specs.Answers.{Answer, MemberAnswer, order_is}
use Rattle.pyc_reading.specs.Keys.{Key}
use Rattle.pyc_reading.specs.Owing.{Detail}
use Rattle.pyc_reading.specs.Readings.{asked, result_of}
use Rattle.pyc_builtins.specs.Members as builtin_members
use Rattle.pyc_units.specs.DefinitionReadings.{class_reading, class_statement_reading, subclass_reading, statement_body}

-- ---- bases and orders

-- the classes among some bases, in turn
abbrev pub base_classes : List Base → List Id
base_classes [] = []
base_classes (class_base c ∷ rest) = c ∷ base_classes rest
base_classes (_ ∷ rest) = base_classes rest

-- the classes that the bases of a class are, by the answers
abbrev pub classes_of_bases : Answers → SourceFile → ClassDefinition → List Id
classes_of_bases answers file head = base_classes (result_of answers (bases (interface_of file) head.arguments))

-- the class that a class statement of a file declares
abbrev pub own_class : SourceFile → ClassDefinition → Id
own_class file head = user file.name head.name

-- a class statement that declares its class: the names of its bases, the order of each base that is a class of a
-- source, and its own order; any other asks the names of its bases alone
abbrev pub class_keys : Answers → SourceFile → Position → ClassDefinition → List Key
class_keys answers file at head =
    bases_keys answers (interface_of file) head.arguments
    ++ (if declares_class file at head.name
    then source_keys (classes_of_bases answers file head) ++ (class_key (own_class file head) ∷ [])
    else [])

-- the law of the heads of class statements
abbrev pub ClassReads : Type 0
ClassReads =
    (answers : Answers) (file : SourceFile) (at : Position) (head : ClassDefinition)
    → asked answers (class_reading file at head) ≡ class_keys answers file at head

-- ---- overrides

-- an ancestor is asked what it has under a name; of a builtin class nothing is asked
abbrev pub ancestor_keys : List ℕ → Id → List Key
ancestor_keys n (builtin c) = []
ancestor_keys n (user m x) = member_key (user m x) n ∷ []

-- what an ancestor itself declares under a name, by the answers
abbrev pub declared_at : Answers → List ℕ → Id → Option MemberAnswer
declared_at answers n (builtin c) = option_map (builtin_answer c) (builtin_members.own_member c n)
declared_at answers n (user m x) = own_declaration (user m x) (member_at answers (user m x) n)

-- a member that has to be assignable to that of an ancestor: the classes that are written in both types, and in each of
-- its details
abbrev pub pair_keys : List ℕ → MemberAnswer → MemberAnswer → List Key
pair_keys n got want =
    obligation_keys got.ty want.ty
    ++ flat_map (λ (d : Detail). obligation_keys d.got d.want)
    (override_details (override_by n got want) got.ty want.ty)

-- what is required of an ancestor under a name, where it declares something
abbrev pub required_keys : List ℕ → MemberAnswer → Option MemberAnswer → List Key
required_keys n got (Some want) = pair_keys n got (bind_to_instance want)
required_keys n got None = []

-- a member of a class with these ancestors: each of them is asked, in turn, and then what is required of those that
-- declare the name
abbrev pub override_keys : Answers → List ℕ → MemberAnswer → List Id → List Key
override_keys answers n got ancestors =
    flat_map (ancestor_keys n) ancestors
    ++ flat_map (λ (d : Id). required_keys n got (declared_at answers n d)) ancestors

-- the law of members that override
abbrev pub OverrideReads : Type 0
OverrideReads =
    (answers : Answers) (at : Position) (n : List ℕ) (got : MemberAnswer) (ancestors : List Id)
    → asked answers (overrides_required at n got ancestors) ≡ override_keys answers n got ancestors

-- a member that the class itself declares, where its statements bind the name
abbrev pub bound_keys : Answers → Subclass → List ℕ → MemberAnswer → Option OwnMember → List Key
bound_keys answers subclass n got (Some own) = override_keys answers n (bind_to_instance got) subclass.ancestors
bound_keys answers subclass n got None = []

-- what the class itself declares under a name, if anything
abbrev pub declared_keys : Answers → Subclass → List ℕ → Option MemberAnswer → List Key
declared_keys answers subclass n (Some got) = bound_keys answers subclass n got (own_member subclass.body n)
declared_keys answers subclass n None = []

-- a name that a class binds: nothing of one that may be declared as it likes; else what the class has under it, and
-- where the class itself declares that, what its ancestors have
abbrev pub name_keys : Answers → Subclass → List ℕ → List Key
name_keys answers subclass n =
    if is_exempt n then []
    else member_key subclass.class n ∷
    declared_keys answers subclass n (own_declaration subclass.class (member_at answers subclass.class n))

-- a class of a file with these statements, and with this order
abbrev pub subclass_of : SourceFile → List ℕ → Stmts → List Id → Subclass
subclass_of file name body order =
    record {
      class = user file.name name;
      body = class_body body;
      parts = body_parts body;
      ancestors = ancestors_in order;
    }

-- a class statement after its body: each name that the class binds, in turn; nothing where the class is not declared
abbrev pub subclass_keys : Answers → SourceFile → List ℕ → Stmts → Option (List Id) → List Key
subclass_keys answers file name body (Some order) =
    flat_map (name_keys answers (subclass_of file name body order)) (bound_names (class_body body))
subclass_keys answers file name body None = []

-- the law of the members of class statements
abbrev pub SubclassReads : Type 0
SubclassReads =
    (answers : Answers) (file : SourceFile) (name : List ℕ) (body : Stmts) (order : Option (List Id))
    → asked answers (subclass_reading file name body order) ≡ subclass_keys answers file name body order

-- ---- the whole

-- the classes of an order that is answered
abbrev pub classes_in : Answer → Option (List Id)
classes_in (order_is order) = Some order.classes
classes_in _ = None

-- the order of the class that a class statement declares, by the answers
abbrev pub own_order : Answers → SourceFile → Position → ClassDefinition → Option (List Id)
own_order answers file at head =
    if declares_class file at head.name then classes_in (answers (class_key (own_class file head))) else None

-- the law of class statements: the head, the body, and then the members
abbrev pub ClassStatementReads : Type 0
ClassStatementReads =
    (answers : Answers) (options : Options) (file : SourceFile) (at : Position) (head : ClassDefinition) (body : Stmts)
    → asked answers (class_statement_reading options file at head body)
    ≡ class_keys answers file at head
    ++ (asked answers (class_body_reading (statement_body options file at head body) head.suspends body)
    ++ subclass_keys answers file head.name body (own_order answers file at head))
