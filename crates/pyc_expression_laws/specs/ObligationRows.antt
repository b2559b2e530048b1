-- What an obligation asks (typing specification, "Type system concepts"): the classes of sources that are written in
-- both types, in the order in which they are written, then those of its details, and nothing else. And what each kind
-- of obligation requires, whether it holds or not.
use Rattle.std.specs.Prelude.{◌≡◌, ℕ, List, [], ◌∷◌, ◌++◌, flat_map, Some}
use Rattle.pyc_arguments.specs.Arguments.{Arg}
use Rattle.pyc_arguments.specs.Matched.{argument_read, report_refused, wanted}
use Rattle.pyc_arguments.specs.Reporting.{Call, required_argument}
use Rattle.pyc_assignments.specs.Reads.{target_type_outcome}
use Rattle.pyc_assignments.specs.Storing.{required_assignment, renarrow, store_in_target}
use Rattle.pyc_ast.specs.declared.position.Position.{Position}
use Rattle.pyc_ast.specs.Exprs.{Expr, at_of}
use Rattle.pyc_ast.specs.Targets.{Target}
use Rattle.pyc_class_ids.specs.Class.{Id}
use Rattle.pyc_displays.specs.Displays.{Reads, entry_types, check_pair_types, check_value_type}
use Rattle.pyc_displays.specs.Expecting.{Entry}
use Rattle.pyc_displays.specs.Messages as displays
use Rattle.pyc_displays.specs.Messages.{required_entry}
use Rattle.pyc_subscripts.specs.Subscripts.{required_index, required_item}
use Rattle.pyc_locals.specs.FlowStates.{FlowState}
use Rattle.pyc_matching.specs.Matching.{Given, Match}
use Rattle.pyc_obligations.specs.Judging.{judge_assignable}
use Rattle.pyc_overrides.specs.Overrides.{more_required, overrides_required}
use Rattle.pyc_expression_laws.specs.Rows.{Answers, source_keys}
use Rattle.pyc_reading.specs.Answers.{MemberAnswer}
use Rattle.pyc_reading.specs.Traces.{required}
use Rattle.pyc_reading.specs.Keys.{Key}
use Rattle.pyc_reading.specs.Owing.{Detail, Obligation, written}
use Rattle.pyc_reading.specs.Readings.{asked, obligations, result_of}
use Rattle.pyc_targets.specs.TargetTypes.{TargetType}
use Rattle.pyc_type_forms.specs.Types.{Ty}

-- ---- what is asked

-- the keys of the classes that are written in a type and in another to which it is to be assignable
abbrev pub obligation_keys : Ty → Ty → List Key
obligation_keys got want = source_keys (written got ++ written want)

-- the law of the question whether a type is assignable to another
abbrev pub JudgementReads : Type 0
JudgementReads = (answers : Answers) (got want : Ty) → asked answers (judge_assignable got want) ≡ obligation_keys got
    want

-- the law of obligations
abbrev pub ObligationReads : Type 0
ObligationReads =
    (answers : Answers) (o : Obligation)
    → asked answers (required o)
    ≡ obligation_keys o.got o.want ++ flat_map (λ (d : Detail). obligation_keys d.got d.want) o.details

-- ---- what is required

-- an argument that a parameter takes has to be assignable to its type, whatever reading it requires before that
abbrev pub ArgumentIsRequired : Type 0
ArgumentIsRequired =
    (answers : Answers) (call : Call) (number : ℕ) (given : Given) (found : Match) (arg : Arg) (want : Ty)
    → wanted found ≡ Some want
    → obligations answers (argument_read call number given found arg)
    ≡ obligations answers (report_refused call given found)
    ++ (obligations answers (arg.got (wanted found))
    ++ (required_argument call arg.at given number (result_of answers (arg.got (wanted found))) want ∷ []))

-- an index has to be assignable to the type that is taken
abbrev pub IndexIsRequired : Type 0
IndexIsRequired =
    (answers : Answers) (at : Position) (got whole want given : Ty)
    → obligations answers (required_item at got whole want given) ≡ required_index at got whole want ∷ []

-- an item of a list of which a type is expected has to be assignable to it, after what reading it requires
abbrev pub ItemIsRequired : Type 0
ItemIsRequired =
    (answers : Answers) (read : Reads) (want : Ty) (index : ℕ) (x : Expr)
    → obligations answers (check_value_type read want index x)
    ≡ obligations answers (read x (Some want))
    ++ (displays.required_item (at_of x) index (result_of answers (read x (Some want))) want ∷ [])

-- the key and the value of an entry of which types are expected have to be assignable to them, after what reading them
-- requires
abbrev pub EntryIsRequired : Type 0
EntryIsRequired =
    (answers : Answers) (read : Reads) (want : Entry) (index : ℕ) (key value : Expr)
    → obligations answers (check_pair_types read want index key value)
    ≡ obligations answers (entry_types read key value (Some want.key) (Some want.value))
    ++ required_entry (at_of key) index (result_of answers (entry_types read key value (Some want.key)
    (Some want.value)))
    want

-- a value that is assigned to a target which takes a type has to be assignable to it, before what is known of the
-- target changes
abbrev pub AssignmentIsRequired : Type 0
AssignmentIsRequired =
    (answers : Answers) (at : Position) (to : Target) (target_type : TargetType) (got want : Ty) (p : FlowState) →
    target_type.want ≡ Some want
    → obligations answers (store_in_target at to (target_type_outcome target_type) got p)
    ≡ required_assignment at target_type.is_item got want ∷ obligations answers
    (renarrow to target_type.want got p.state)

-- a member has to be assignable to that of each ancestor that declares its name, in one row
abbrev pub OverrideIsRequired : Type 0
OverrideIsRequired =
    (answers : Answers) (at : Position) (n : List ℕ) (got : MemberAnswer) (ancestors : List Id)
    → obligations answers (overrides_required at n got ancestors)
    ≡ obligations answers (more_required at n got [] ancestors) ++ result_of answers
    (more_required at n got [] ancestors)
