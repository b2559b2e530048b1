-- What calls ask, where to read each of their arguments asks files alone.
use Rattle.std.proofs.Common.{ℕ, zero, suc, Bool, true, false, codes, List, [], ◌∷◌, ◌++◌, map, Option, None, Some, refl}
use Rattle.pyc_arguments.specs.Arguments.{Arg, Reads, unread}
use Rattle.pyc_arguments.specs.Reporting.{Call, CalleeName}
use Rattle.pyc_ast.specs.declared.position.Position.{Position}
use Rattle.pyc_ast.specs.Exprs.{Argument, Expr}
use Rattle.pyc_attributes.specs.Binding.{through_instance}
use Rattle.pyc_calls.specs.Called.{Calls, infer_any_call, by_member, by_progress, call, call_result, called_by, called_to, infer_class_call, infer_given_call, instance_called, items_called, infer_member_call, most_calls, not_callable, infer_plain_call, report_refused, report_refused_unless, remembering_same, infer_signature_call, source_called, without_call}
use Rattle.pyc_calls.specs.Constructors.{constructor_by_initializer, constructor_by_order, constructor, if_known, without_new}
use Rattle.pyc_calls.specs.Methods.{method_call, infer_method_call, arguments_by_place, infer_call_quietly}
use Rattle.pyc_calls.specs.Remembered.{Memory, Progress, fresh, gave, nothing_met, progress_of, remembering, under_way}
use Rattle.pyc_class_ids.specs.Class.{Id, builtin, user}
use Rattle.pyc_class_ids.specs.Mro.{Mro, is_unknown}
use Rattle.pyc_reading.specs.Answers.{MemberAnswer}
use Rattle.pyc_reading.specs.Traces.{Step}
use Rattle.pyc_reading.specs.Owing.{order_in}
use Rattle.pyc_expression_laws.proofs.ArgumentLemmas.{ArgsAskFiles, of-all_read, of-matched, of-read_once, of-unread, read_once-args}
use Rattle.pyc_expression_laws.proofs.ObligationKeyLemmas.{of-ask_member, of-is_unknown_class, of-quiet}
use Rattle.pyc_expression_laws.proofs.StepLemmas.{Files, files_after, files_ask, files_done, files_if, files_report, files_then}
use Rattle.pyc_type_forms.specs.Instances.{instance_of}
use Rattle.pyc_type_forms.specs.Types.{Params, Ty, Tys, any, callable, class_object, cons, instance, nil, union}

-- ---- constructors

of-without_new : (m : List (List ℕ)) (x : List ℕ) (order : Mro) (found : Option MemberAnswer) → Files (without_new (user m x) order found)
unfolding constructor_by_initializer
of-without_new m x order (Some found) = files_done
of-without_new m x order None = files_then _ _ (of-ask_member m x (codes "__init__")) (λ found. files_done)

of-if_known : (m : List (List ℕ)) (x : List ℕ) (order : Mro) → Files (if_known (user m x) order)
unfolding constructor_by_order
of-if_known m x order = files_if (is_unknown order) _ _ files_done (files_then _ _ (of-ask_member m x (codes "__new__")) (of-without_new m x order))

of-constructor : (c : Id) → Files (constructor c)
of-constructor (builtin c) = files_done
of-constructor (user m x) = files_ask refl (λ answer. of-if_known m x (order_in answer))

-- ---- one type

of-infer_given_call : (args : List Arg) (ty : Ty) → ArgsAskFiles args → Files (infer_given_call args ty)
unfolding infer_given_call
of-infer_given_call args ty all = files_then _ _ (of-all_read args all) (λ u. files_done)

of-report_refused : (call : Call) (args : List Arg) (ty : Ty) → ArgsAskFiles args → Files (report_refused call args ty)
unfolding report_refused not_callable
of-report_refused call args ty all = files_then _ _ (of-all_read args all) (λ u. files_report files_done)

of-infer_signature_call : (call : Call) (args : List Arg) (params : Params) (given : Ty) → ArgsAskFiles args → Files (infer_signature_call call args params given)
unfolding infer_signature_call
of-infer_signature_call call args params given all = files_then _ _ (of-matched call params args all) (λ u. files_done)

of-infer_plain_call : (call : Call) (args : List Arg) (ty : Ty) → ArgsAskFiles args → Files (infer_plain_call call args ty)
unfolding infer_class_call
of-infer_plain_call call args any all = of-infer_given_call args any all
of-infer_plain_call call args (class_object c) all =
    files_then _ _ (of-constructor c) (λ params. of-infer_signature_call call args params (instance_of c) all)
of-infer_plain_call call args (callable params given) all = of-infer_signature_call call args params given all
of-infer_plain_call call args ty all = of-report_refused call args ty all

of-report_refused_unless : (is_unknown : Bool) (call : Call) (args : List Arg) (c : Id) → ArgsAskFiles args → Files (report_refused_unless is_unknown call args c)
of-report_refused_unless true call args c all = of-infer_given_call args any all
of-report_refused_unless false call args c all = of-report_refused call args (instance c) all

of-without_call : (call : Call) (args : List Arg) (c : Id) → ArgsAskFiles args → Files (without_call call args c)
unfolding without_call
of-without_call call args c all = files_then _ _ (of-is_unknown_class c) (λ is_unknown. of-report_refused_unless is_unknown call args c all)

of-remembering_same : (memory : Memory) (call : Step Ty) → Files call → Files (remembering_same memory call)
unfolding remembering_same
of-remembering_same memory call all = files_then _ _ all (λ ty. files_done)

-- ---- calls in calls

module _ (deeper : Calls) (deep : (memory : Memory) (args : List Arg) (ty : Ty) → ArgsAskFiles args → Files (deeper memory args ty)) (call : Call) where
  of-by_progress : (memory : Memory) (args : List Arg) (c : Id) (progress : Progress) (found : MemberAnswer) → ArgsAskFiles args
      → Files (by_progress deeper memory args c progress found)
  unfolding infer_member_call
  of-by_progress memory args c fresh found all =
      files_then _ _ (deep (remembering memory c under_way) args (through_instance found) all) (λ call_result. files_done)
  of-by_progress memory args c under_way found all = of-remembering_same memory (infer_any_call args) (of-infer_given_call args any all)
  of-by_progress memory args c (gave ty) found all = of-remembering_same memory (infer_given_call args ty) (of-infer_given_call args ty all)

  of-by_member : (memory : Memory) (args : List Arg) (c : Id) (progress : Progress) (found : Option MemberAnswer) → ArgsAskFiles args
      → Files (by_member deeper call memory args c progress found)
  of-by_member memory args c progress (Some found) all = of-by_progress memory args c progress found all
  of-by_member memory args c progress None all = of-remembering_same memory (without_call call args c) (of-without_call call args c all)

  of-instance_called : (memory : Memory) (args : List Arg) (c : Id) → ArgsAskFiles args → Files (instance_called deeper call memory args c)
  unfolding source_called
  of-instance_called memory args (builtin c) all = of-remembering_same memory _ (of-report_refused call args (instance (builtin c)) all)
  of-instance_called memory args (user m x) all =
      files_then _ _ (of-ask_member m x (codes "__call__")) (λ found. of-by_member memory args (user m x) (progress_of memory (user m x)) found all)

  mutual
    of-called_by : (memory : Memory) (args : List Arg) (ty : Ty) → ArgsAskFiles args → Files (called_by deeper call memory args ty)
    of-called_by memory args (instance c) all = of-instance_called memory args c all
    of-called_by memory args (union items) all =
        files_after _ _ (of-read_once args all) (λ answers.
        files_then _ _ (of-items_called [] memory _ items (read_once-args answers args)) (λ call_result. files_done))
    of-called_by memory args ty all = of-remembering_same memory (infer_plain_call call args ty) (of-infer_plain_call call args ty all)

    of-items_called : (before : List Ty) (memory : Memory) (args : List Arg) (items : Tys) → ArgsAskFiles args
        → Files (items_called deeper call before memory args items)
    of-items_called before memory args nil all = files_done
    of-items_called before memory args (cons item items) all =
        files_then _ _ (of-called_by memory args item all) (λ call_result. of-items_called (before ++ (call_result.ty ∷ [])) call_result.memory args items all)

of-called_to : (depth : ℕ) (call : Call) (memory : Memory) (args : List Arg) (ty : Ty) → ArgsAskFiles args → Files (called_to depth call memory args ty)
of-called_to zero call memory args ty all = of-remembering_same memory (infer_any_call args) (of-infer_given_call args any all)
of-called_to (suc depth) call memory args ty all = of-called_by (called_to depth call) (of-called_to depth call) call memory args ty all

of-call_result : (call : Call) (args : List Arg) (callee : Ty) → ArgsAskFiles args → Files (call_result call args callee)
unfolding call_result
of-call_result call args callee all = files_then _ _ (of-called_to most_calls call nothing_met args callee all) (λ call_result. files_done)

-- a call, where to read its arguments asks files alone
pub of-call : (read : Reads) → ((x : Expr) (want : Option Ty) → Files (read x want)) → (shown : CalleeName) (at : Position) (arguments : List Argument) (callee : Ty)
    → Files (call read shown at arguments callee)
of-call read reads shown at arguments callee = of-call_result _ (map (unread read) arguments) callee (of-unread read reads arguments)

-- ---- methods of operators

of-arguments_by_place : (types : List Ty) → ArgsAskFiles (arguments_by_place types)
of-arguments_by_place [] = tt
of-arguments_by_place (ty ∷ types) = ((λ want. files_done), of-arguments_by_place types)

pub of-infer_method_call : (found : MemberAnswer) (types : List Ty) → Files (infer_method_call found types)
unfolding infer_call_quietly
of-infer_method_call found types =
    files_then _ _ (of-quiet (call_result method_call (arguments_by_place types) (through_instance found)) (of-call_result method_call (arguments_by_place types) (through_instance found) (of-arguments_by_place types)))
    (λ heard. files_done)
