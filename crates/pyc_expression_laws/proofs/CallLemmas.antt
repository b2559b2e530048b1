-- What a call asks before its arguments.
use Rattle.std.proofs.Common.{◌≡◌, ℕ, Bool, true, false, codes, if◌then◌else◌, is_some, List, [], ◌∷◌, ◌++◌, Option, None, Some, refl, ap, ◌∙◌}
use Rattle.pyc_arguments.specs.Arguments.{Arg, all_read}
use Rattle.pyc_arguments.specs.Reporting.{Call}
use Rattle.pyc_calls.specs.Called.{Calls, infer_given_call, not_callable, report_refused, infer_class_call, report_refused_unless, without_call, remembering_same, by_member, source_called, infer_signature_call}
use Rattle.pyc_calls.specs.Constructors.{constructor_by_initializer, without_new, constructor_by_order, constructor}
use Rattle.pyc_calls.specs.Remembered.{Memory, progress_of}
use Rattle.pyc_class_ids.specs.Class.{Id, builtin, user}
use Rattle.pyc_class_ids.specs.Mro.{Mro}
use Rattle.pyc_expression_laws.proofs.AskedLemmas.{asked-and_then, asked-then_nothing}
use Rattle.pyc_expression_laws.specs.CallRows.{ConstructorReads, ClassCallReads, after_call_keys, InstanceCallReads}
use Rattle.pyc_expression_laws.specs.Rows.{Answers, class_key, member_key, member_at, has_no_order, has_member, order_at}
use Rattle.pyc_reading.specs.Answers.{MemberAnswer}
use Rattle.pyc_reading.specs.Traces.{Step}
use Rattle.pyc_reading.specs.Readings.{Done, and_then, result_of, asked}
use Rattle.pyc_type_forms.specs.Instances.{instance_of}
use Rattle.pyc_type_forms.specs.Types.{Ty, any, dots, instance}

-- ---- classes

without_new-asks : (answers : Answers) (c : Id) (order : Mro) (found : Option MemberAnswer)
    → asked answers (without_new c order found) ≡ (if is_some found then [] else member_key c (codes "__init__") ∷ [])
unfolding constructor_by_initializer and_then
without_new-asks answers c order (Some found) = refl
without_new-asks answers c order None = refl

constructor_by_order-asks : (answers : Answers) (c : Id) (order : Mro)
    → asked answers (constructor_by_order c order)
    ≡ member_key c (codes "__new__") ∷ (if has_member answers c (codes "__new__") then [] else member_key c (codes "__init__") ∷ [])
unfolding constructor_by_order and_then
constructor_by_order-asks answers c order = ap (λ l. member_key c (codes "__new__") ∷ l) (without_new-asks answers c order (member_at answers c (codes "__new__")))

known-asks : (answers : Answers) (c : Id) (order : Mro) (no_order : Bool)
    → asked answers (if no_order then Done dots else constructor_by_order c order)
    ≡ (if no_order then [] else member_key c (codes "__new__") ∷ (if has_member answers c (codes "__new__") then [] else member_key c (codes "__init__") ∷ []))
known-asks answers c order true = refl
known-asks answers c order false = constructor_by_order-asks answers c order

pub constructor_asks : ConstructorReads
constructor_asks answers (builtin c) = refl
constructor_asks answers (user m x) =
    ap (λ l. class_key (user m x) ∷ l) (known-asks answers (user m x) (order_at answers (user m x)) (has_no_order answers (user m x)))

pub class_call_asks : ClassCallReads
unfolding infer_class_call
class_call_asks answers call args c =
    let rest = asked answers (infer_signature_call call args (result_of answers (constructor c)) (instance_of c)) in
    asked-and_then answers (constructor c) (λ params. infer_signature_call call args params (instance_of c))
    ∙ ap (λ l. l ++ rest) (constructor_asks answers c)

-- ---- instances

remembered-asks : (answers : Answers) (memory : Memory) (call : Step Ty) → asked answers (remembering_same memory call) ≡ asked answers call
unfolding remembering_same
remembered-asks answers memory call = asked-then_nothing answers call (λ ty. Done (record { ty = ty; memory = memory })) (λ ty. refl)

report_refused_unless-asks : (answers : Answers) (no_order : Bool) (call : Call) (args : List Arg) (c : Id)
    → asked answers (report_refused_unless no_order call args c) ≡ asked answers (all_read args)
unfolding infer_given_call report_refused not_callable
report_refused_unless-asks answers true call args c = asked-then_nothing answers (all_read args) (λ u. Done any) (λ u. refl)
report_refused_unless-asks answers false call args c = asked-then_nothing answers (all_read args) (λ u. not_callable call (instance c)) (λ u. refl)

without_call-asks : (answers : Answers) (call : Call) (args : List Arg) (m : List (List ℕ)) (x : List ℕ)
    → asked answers (without_call call args (user m x)) ≡ class_key (user m x) ∷ asked answers (all_read args)
unfolding without_call and_then
without_call-asks answers call args m x =
    ap (λ l. class_key (user m x) ∷ l) (report_refused_unless-asks answers (has_no_order answers (user m x)) call args (user m x))

by_member-asks : (answers : Answers) (deeper : Calls) (call : Call) (memory : Memory) (args : List Arg) (m : List (List ℕ)) (x : List ℕ) (found : Option MemberAnswer)
    → asked answers (by_member deeper call memory args (user m x) (progress_of memory (user m x)) found) ≡ after_call_keys answers deeper memory args (user m x) found
by_member-asks answers deeper call memory args m x (Some found) = refl
by_member-asks answers deeper call memory args m x None =
    remembered-asks answers memory (without_call call args (user m x)) ∙ without_call-asks answers call args m x

pub instance_call_asks : InstanceCallReads
unfolding source_called and_then
instance_call_asks answers deeper call memory args m x =
    ap (λ l. member_key (user m x) (codes "__call__") ∷ l) (by_member-asks answers deeper call memory args m x (member_at answers (user m x) (codes "__call__")))
