-- What an obligation asks.
use Rattle.std.proofs.Common.{◌≡◌, List, [], ◌∷◌, ◌++◌, flat_map, append-nil, Option, Some, refl, ap, ◌∙◌}
use Rattle.pyc_arguments.specs.Matched.{argument_required, argument_read, report_refused, wanted}
use Rattle.pyc_assignments.specs.Storing.{assignment_required, required_assignment, renarrow, target_type_stored, want_required}
use Rattle.pyc_ast.specs.Exprs.{at_of}
use Rattle.pyc_builtins.specs.MroTable.{builtin_orders}
use Rattle.pyc_class_ids.specs.Class.{Id, builtin, user}
use Rattle.pyc_class_ids.specs.Mro.{MroTable}
use Rattle.pyc_displays.specs.Displays.{entry_types, check_pair_types, check_value_type}
use Rattle.pyc_displays.specs.Messages as displays
use Rattle.pyc_displays.specs.Messages.{required_entry}
use Rattle.pyc_subscripts.specs.Subscripts.{required_item}
use Rattle.pyc_locals.specs.FlowStates.{in_state}
use Rattle.pyc_obligations.specs.Judging.{with_order, known_after, judge_assignable}
use Rattle.pyc_overrides.specs.Overrides.{more_required, overrides_required}
use Rattle.pyc_expression_laws.proofs.AskedLemmas.{asked-then_nothing}
use Rattle.pyc_expression_laws.specs.ObligationRows.{obligation_keys, ArgumentIsRequired, AssignmentIsRequired, EntryIsRequired, IndexIsRequired, ItemIsRequired, JudgementReads, ObligationReads, OverrideIsRequired}
use Rattle.pyc_expression_laws.specs.Rows.{Answers, class_key, order_at, source_keys}
use Rattle.pyc_reading.proofs.ReadingLemmas.{obligations-and_then}
use Rattle.pyc_reading.specs.Traces.{required, owing}
use Rattle.pyc_reading.specs.Owing.{Detail, class_keys, detail_keys, keys_of, written}
use Rattle.pyc_reading.specs.Readings.{Done, and_then, asked, obligations, result_of}
use Rattle.pyc_type_forms.specs.Types.{Ty}
use Rattle.pyc_types.specs.Ways.{assignable}

-- to know the orders of classes is to ask those of sources
pub known_after-asks : (answers : Answers) (classes : List Id) (orders : MroTable) → asked answers (known_after classes orders) ≡ source_keys classes
unfolding known_after and_then
known_after-asks answers [] orders = refl
known_after-asks answers (builtin c ∷ classes) orders = known_after-asks answers classes (with_order orders (builtin c) (builtin_orders (builtin c)))
known_after-asks answers (user m x ∷ classes) orders =
    ap (λ l. class_key (user m x) ∷ l) (known_after-asks answers classes (with_order orders (user m x) (order_at answers (user m x))))

pub judgement_asks : JudgementReads
unfolding judge_assignable
judgement_asks answers got want =
    asked-then_nothing answers (known_after (written got ++ written want) builtin_orders) (λ orders. Done (assignable orders got want)) (λ orders. refl)
    ∙ known_after-asks answers (written got ++ written want) builtin_orders

-- the keys of a type and another, as an obligation asks them
keys_are : (classes : List Id) → class_keys classes ≡ source_keys classes
keys_are [] = refl
keys_are (builtin c ∷ classes) = keys_are classes
keys_are (user m x ∷ classes) = ap (λ l. class_key (user m x) ∷ l) (keys_are classes)

details_are : (details : List Detail) → detail_keys details ≡ flat_map (λ (d : Detail). obligation_keys d.got d.want) details
details_are [] = refl
details_are (d ∷ details) = λ i. keys_are (written d.got ++ written d.want) i ++ details_are details i

pub obligation_asks : ObligationReads
unfolding owing
obligation_asks answers o =
    append-nil (keys_of o ++ [])
    ∙ append-nil (keys_of o)
    ∙ (λ i. keys_are (written o.got ++ written o.want) i ++ details_are o.details i)

-- ---- what is required

-- what two readings require, where the second is one obligation
pub argument_is_required : ArgumentIsRequired
unfolding argument_read owing
argument_is_required answers call number given found arg want taken =
    let rest = λ (u : Unit {0}). and_then (arg.got (wanted found)) (λ got. argument_required call arg.at given number got (wanted found)) in
    obligations-and_then answers (report_refused call given found) rest
    ∙ ap (λ l. obligations answers (report_refused call given found) ++ l)
    (obligations-and_then answers (arg.got (wanted found)) (λ got. argument_required call arg.at given number got (wanted found))
    ∙ ap (λ (w : Option Ty). obligations answers (arg.got (wanted found)) ++ obligations answers (argument_required call arg.at given number (result_of answers (arg.got (wanted found))) w)) taken)

pub index_is_required : IndexIsRequired
unfolding required_item owing and_then
index_is_required answers at got whole want given = refl

pub item_is_required : ItemIsRequired
unfolding check_value_type owing
item_is_required answers read want index x =
    obligations-and_then answers (read x (Some want)) (λ got. required (displays.required_item (at_of x) index got want))

pub entry_is_required : EntryIsRequired
unfolding check_pair_types owing
entry_is_required answers read want index key value =
    obligations-and_then answers (entry_types read key value (Some want.key) (Some want.value)) (λ got. owing (required_entry (at_of key) index got want))

pub assignment_is_required : AssignmentIsRequired
unfolding target_type_stored assignment_required owing
assignment_is_required answers at to target_type got want p takes =
    let known = renarrow to target_type.want got p.state in
    let rest = and_then known (λ s. Done (in_state p s)) in
    obligations-and_then answers (want_required at target_type.is_item got target_type.want) (λ u. rest)
    ∙ ap (λ (w : Option Ty). obligations answers (want_required at target_type.is_item got w) ++ obligations answers rest) takes
    ∙ ap (λ l. required_assignment at target_type.is_item got want ∷ l)
    (obligations-and_then answers known (λ s. Done (in_state p s)) ∙ append-nil (obligations answers known))

pub member_is_required : OverrideIsRequired
unfolding overrides_required owing
member_is_required answers at n got ancestors =
    obligations-and_then answers (more_required at n got [] ancestors) owing
    ∙ ap (λ l. obligations answers (more_required at n got [] ancestors) ++ l) (append-nil (result_of answers (more_required at n got [] ancestors)))
