-- What class statements ask.
use Rattle.std.proofs.Common.{◌≡◌, ℕ, Bool, true, false, if◌then◌else◌, List, [], ◌∷◌, ◌++◌, flat_map, Option, None, Some, refl, ap, sym, ◌∙◌, append-nil, append_assoc}
use Rattle.pyc_annotations.specs.Bases.{Base, bases, class_base, any_base, no_base}
use Rattle.pyc_ast.specs.declared.position.Position.{Position}
use Rattle.pyc_ast.specs.Statements.{ClassDefinition}
use Rattle.pyc_body_context.specs.ClassBodies.{declares_class}
use Rattle.pyc_unit_laws.proofs.AnnotationLemmas.{base_asks}
use Rattle.pyc_unit_laws.proofs.AskedLemmas.{asked-after, result-and_then}
use Rattle.pyc_unit_laws.specs.AnnotationRows.{bases_keys}
use Rattle.pyc_unit_laws.specs.ClassRows.{ClassReads, ClassStatementReads, SubclassReads, OverrideReads, ancestor_keys, base_classes, bound_keys, class_keys, classes_in, declared_at, declared_keys, subclass_keys, subclass_of, name_keys, required_keys, own_class, own_order, pair_keys}
use Rattle.pyc_class_ids.specs.declared.order.UnknownMro.{UnknownMro}
use Rattle.pyc_class_ids.specs.declared.order.UnknownMro.TheVariants as unknown
use Rattle.pyc_class_ids.specs.Class.{Id, builtin, user}
use Rattle.pyc_functions.specs.Bodies.{class_body_reading}
use Rattle.pyc_members.specs.ClassBodies.{OwnMember, own_member}
use Rattle.pyc_names.specs.Interfaces.{interface_of}
use Rattle.pyc_names.specs.SourceFiles.{SourceFile}
use Rattle.pyc_overrides.specs.Ancestors.{ancestor_member, own_declaration, bind_to_instance}
use Rattle.pyc_overrides.specs.Names.{bound_names, is_exempt}
use Rattle.pyc_overrides.specs.Obligations.{required_override}
use Rattle.pyc_overrides.specs.Overrides.{Subclass, declared_read, member_read, more_required, name_read, overrides_required, overrides_read, own_read, with_required}
use Rattle.pyc_overrides.specs.Places.{own_place}
use Rattle.pyc_expression_laws.proofs.ObligationLemmas.{obligation_asks}
use Rattle.pyc_expression_laws.specs.ObligationRows.{obligation_keys}
use Rattle.pyc_expression_laws.specs.Rows.{Answers, class_key, member_at, member_key, source_keys}
use Rattle.pyc_reading.specs.Answers.{Answer, MemberAnswer, order_is, member_is, export_is, name_is, presence_of}
use Rattle.pyc_reading.specs.Traces.{Step, asking, owing}
use Rattle.pyc_reading.specs.Keys.{Key}
use Rattle.pyc_reading.specs.Owing.{Detail, Obligation, keys_of, row_keys}
use Rattle.pyc_reading.specs.Readings.{Done, and_then, asked, each, result_of}
use Rattle.pyc_unit_laws.proofs.ImportAskedLemmas.{asked-alone, asked-both, asked-each, asked-unless}
use Rattle.pyc_units.specs.DefinitionReadings.{base_reading, class_reading, class_statement_reading, declared_reading, subclass_reading, order_reading, statement_body, unknown_reported}

-- ---- bases and orders

unknown_reported-asks : (answers : Answers) (at : Position) (name : List ℕ) (found : Option UnknownMro) → asked answers (unknown_reported at name found) ≡ []
unknown_reported-asks answers at name (Some unknown.Cycle) = refl
unknown_reported-asks answers at name (Some unknown.Merge) = refl
unknown_reported-asks answers at name _ = refl

order-asks : (answers : Answers) (at : Position) (name : List ℕ) (answer : Answer) → asked answers (order_reading at name answer) ≡ []
order-asks answers at name (order_is order) =
    asked-alone answers (unknown_reported at name order.unknown) (λ u. Done (Some order.classes)) [] (unknown_reported-asks answers at name order.unknown) (λ u. refl)
order-asks answers at name _ = refl

order-comes : (answers : Answers) (at : Position) (name : List ℕ) (answer : Answer) → result_of answers (order_reading at name answer) ≡ classes_in answer
order-comes answers at name (order_is order) = result-and_then answers (unknown_reported at name order.unknown) (λ u. Done (Some order.classes))
order-comes answers at name (presence_of found) = refl
order-comes answers at name (name_is found) = refl
order-comes answers at name (member_is found) = refl
order-comes answers at name (export_is found) = refl

bases-asks : (answers : Answers) (found : List Base) → asked answers (each base_reading found) ≡ source_keys (base_classes found)
unfolding and_then
bases-asks answers [] = refl
bases-asks answers (class_base (builtin c) ∷ rest) = bases-asks answers rest
bases-asks answers (class_base (user m x) ∷ rest) = ap (λ l. class_key (user m x) ∷ l) (bases-asks answers rest)
bases-asks answers (any_base ∷ rest) = bases-asks answers rest
bases-asks answers (no_base ∷ rest) = bases-asks answers rest

-- the order of a class, and what is reported of it
own_order-asks : (answers : Answers) (at : Position) (name : List ℕ) (c : Id)
    → asked answers (and_then (asking (class_key c)) (order_reading at name)) ≡ class_key c ∷ []
unfolding and_then
own_order-asks answers at name c = ap (λ l. class_key c ∷ l) (order-asks answers at name (answers (class_key c)))

declared-asks : (answers : Answers) (file : SourceFile) (at : Position) (name : List ℕ) (found : List Base)
    → asked answers (declared_reading file at name found) ≡ source_keys (base_classes found) ++ (class_key (user file.name name) ∷ [])
declared-asks answers file at name found =
    asked-both answers (each base_reading found) (λ u. and_then (asking (class_key (user file.name name))) (order_reading at name))
    (source_keys (base_classes found)) (class_key (user file.name name) ∷ []) (bases-asks answers found) (λ u. own_order-asks answers at name (user file.name name))

declared-comes : (answers : Answers) (file : SourceFile) (at : Position) (name : List ℕ) (found : List Base)
    → result_of answers (declared_reading file at name found) ≡ classes_in (answers (class_key (user file.name name)))
declared-comes answers file at name found =
    let own = asking (class_key (user file.name name)) in
    result-and_then answers (each base_reading found) (λ u. and_then own (order_reading at name))
    ∙ result-and_then answers own (order_reading at name)
    ∙ order-comes answers at name (answers (class_key (user file.name name)))

if_declared-asks : {A : Type 0} (answers : Answers) (b : Bool) (a : A) (r : Step A) (keys : List Key)
    → asked answers r ≡ keys → asked answers (if b then r else Done a) ≡ (if b then keys else [])
if_declared-asks answers true a r keys same = same
if_declared-asks answers false a r keys same = refl

if_declared-comes : {A : Type 0} (answers : Answers) (b : Bool) (a found : A) (r : Step A)
    → result_of answers r ≡ found → result_of answers (if b then r else Done a) ≡ (if b then found else a)
if_declared-comes answers true a found r same = same
if_declared-comes answers false a found r same = refl

pub class_asks : ClassReads
class_asks answers file at head =
    let first = bases (interface_of file) head.arguments in
    let found = result_of answers first in
    let declares = declares_class file at head.name in
    asked-after answers first (λ found. if declares then declared_reading file at head.name found else Done None)
    (bases_keys answers (interface_of file) head.arguments)
    (if declares then source_keys (base_classes found) ++ (class_key (own_class file head) ∷ []) else [])
    (base_asks answers (interface_of file) head.arguments)
    (if_declared-asks answers declares None (declared_reading file at head.name found) _ (declared-asks answers file at head.name found))

class-comes : (answers : Answers) (file : SourceFile) (at : Position) (head : ClassDefinition)
    → result_of answers (class_reading file at head) ≡ own_order answers file at head
class-comes answers file at head =
    let first = bases (interface_of file) head.arguments in
    let declares = declares_class file at head.name in
    result-and_then answers first (λ found. if declares then declared_reading file at head.name found else Done None)
    ∙ if_declared-comes answers declares None _ (declared_reading file at head.name (result_of answers first)) (declared-comes answers file at head.name (result_of answers first))

-- ---- overrides

ancestor-asks : (answers : Answers) (n : List ℕ) (c : Id) → asked answers (ancestor_member c n) ≡ ancestor_keys n c
unfolding and_then
ancestor-asks answers n (builtin c) = refl
ancestor-asks answers n (user m x) = refl

ancestor-comes : (answers : Answers) (n : List ℕ) (c : Id) → result_of answers (ancestor_member c n) ≡ declared_at answers n c
unfolding and_then
ancestor-comes answers n (builtin c) = refl
ancestor-comes answers n (user m x) = refl

more_required-asks : (answers : Answers) (at : Position) (n : List ℕ) (got : MemberAnswer) (row : List Obligation) (ancestors : List Id)
    → asked answers (more_required at n got row ancestors) ≡ flat_map (ancestor_keys n) ancestors
unfolding more_required
more_required-asks answers at n got row [] = refl
more_required-asks answers at n got row (c ∷ rest) =
    asked-both answers (ancestor_member c n) (λ found. more_required at n got (with_required at n got row found) rest) (ancestor_keys n c) (flat_map (ancestor_keys n) rest)
    (ancestor-asks answers n c) (λ found. more_required-asks answers at n got (with_required at n got row found) rest)

-- what a row asks that is longer by one
row_keys-append : (row more : List Obligation) → row_keys (row ++ more) ≡ row_keys row ++ row_keys more
row_keys-append [] more = refl
row_keys-append (o ∷ row) more = ap (λ l. keys_of o ++ l) (row_keys-append row more) ∙ sym (append_assoc (keys_of o) (row_keys row) (row_keys more))

-- what an obligation asks, as a row of one
obligation-keys : (answers : Answers) (o : Obligation)
    → row_keys (o ∷ []) ++ [] ≡ obligation_keys o.got o.want ++ flat_map (λ (d : Detail). obligation_keys d.got d.want) o.details
unfolding owing
obligation-keys answers o = obligation_asks answers o

override-keys : (answers : Answers) (at : Position) (n : List ℕ) (got want : MemberAnswer) → row_keys (required_override at n got want ∷ []) ≡ pair_keys n got want
override-keys answers at n got want = sym (append-nil (row_keys (required_override at n got want ∷ []))) ∙ obligation-keys answers (required_override at n got want)

with_required-keys : (answers : Answers) (at : Position) (n : List ℕ) (got : MemberAnswer) (row : List Obligation) (found : Option MemberAnswer)
    → row_keys (with_required at n got row found) ≡ row_keys row ++ required_keys n got found
with_required-keys answers at n got row (Some found) =
    row_keys-append row (required_override at n got (bind_to_instance found) ∷ []) ∙ ap (λ l. row_keys row ++ l) (override-keys answers at n got (bind_to_instance found))
with_required-keys answers at n got row None = sym (append-nil (row_keys row))

more_required-keys : (answers : Answers) (at : Position) (n : List ℕ) (got : MemberAnswer) (row : List Obligation) (ancestors : List Id)
    → row_keys (result_of answers (more_required at n got row ancestors)) ≡ row_keys row ++ flat_map (λ (d : Id). required_keys n got (declared_at answers n d)) ancestors
unfolding more_required
more_required-keys answers at n got row [] = sym (append-nil (row_keys row))
more_required-keys answers at n got row (c ∷ rest) =
    let next = with_required at n got row (result_of answers (ancestor_member c n)) in
    let others = flat_map (λ (d : Id). required_keys n got (declared_at answers n d)) rest in
    ap row_keys (result-and_then answers (ancestor_member c n) (λ found. more_required at n got (with_required at n got row found) rest))
    ∙ more_required-keys answers at n got next rest
    ∙ ap (λ l. l ++ others) (with_required-keys answers at n got row (result_of answers (ancestor_member c n)))
    ∙ ap (λ found. (row_keys row ++ required_keys n got found) ++ others) (ancestor-comes answers n c)
    ∙ append_assoc (row_keys row) (required_keys n got (declared_at answers n c)) others

pub override_asks : OverrideReads
unfolding overrides_required owing
override_asks answers at n got ancestors =
    let first = more_required at n got [] ancestors in
    asked-after answers first owing (flat_map (ancestor_keys n) ancestors) (flat_map (λ (d : Id). required_keys n got (declared_at answers n d)) ancestors)
    (more_required-asks answers at n got [] ancestors)
    (append-nil (row_keys (result_of answers first)) ∙ more_required-keys answers at n got [] ancestors)

own_read-asks : (answers : Answers) (subclass : Subclass) (n : List ℕ) (got : MemberAnswer) (own : Option OwnMember)
    → asked answers (own_read subclass n (bind_to_instance got) own) ≡ bound_keys answers subclass n got own
own_read-asks answers subclass n got (Some own) = override_asks answers (own_place subclass.parts own) n (bind_to_instance got) subclass.ancestors
own_read-asks answers subclass n got None = refl

declared_read-asks : (answers : Answers) (subclass : Subclass) (n : List ℕ) (found : Option MemberAnswer)
    → asked answers (declared_read subclass n found) ≡ declared_keys answers subclass n found
declared_read-asks answers subclass n (Some got) = own_read-asks answers subclass n got (own_member subclass.body n)
declared_read-asks answers subclass n None = refl

member_read-asks : (answers : Answers) (subclass : Subclass) (n : List ℕ)
    → asked answers (member_read subclass n) ≡ member_key subclass.class n ∷ declared_keys answers subclass n (own_declaration subclass.class (member_at answers subclass.class n))
unfolding member_read and_then
member_read-asks answers subclass n = ap (λ l. member_key subclass.class n ∷ l) (declared_read-asks answers subclass n (own_declaration subclass.class (member_at answers subclass.class n)))

name_read-asks : (answers : Answers) (subclass : Subclass) (n : List ℕ) → asked answers (name_read subclass n) ≡ name_keys answers subclass n
name_read-asks answers subclass n = asked-unless answers (is_exempt n) tt (member_read subclass n) _ (member_read-asks answers subclass n)

pub subclass_asks : SubclassReads
unfolding overrides_read
subclass_asks answers file name body (Some order) =
    let subclass = subclass_of file name body order in
    asked-each answers (name_read subclass) (name_keys answers subclass) (bound_names subclass.body) (name_read-asks answers subclass)
subclass_asks answers file name body None = refl

-- ---- the whole

pub class_statement_asks : ClassStatementReads
unfolding class_statement_reading
class_statement_asks answers options file at head body =
    let first = class_reading file at head in
    let inside = class_body_reading (statement_body options file at head body) head.suspends body in
    let order = result_of answers first in
    asked-after answers first (λ order. and_then inside (λ u. subclass_reading file head.name body order))
    (class_keys answers file at head) (asked answers inside ++ subclass_keys answers file head.name body (own_order answers file at head))
    (class_asks answers file at head)
    (asked-both answers inside (λ u. subclass_reading file head.name body order) (asked answers inside) (subclass_keys answers file head.name body order)
    refl (λ u. subclass_asks answers file head.name body order)
    ∙ ap (λ found. asked answers inside ++ subclass_keys answers file head.name body found) (class-comes answers file at head))
