-- What is asked of classes, and where something is required.
use Rattle.std.proofs.Common.{ℕ, Bool, true, false, not, ◌||◌, List, [], ◌∷◌, ◌++◌, refl, sym, subst}
use Rattle.pyc_class_ids.specs.Class.{Id, builtin, user}
use Rattle.pyc_class_ids.specs.Mro.{MroTable}
use Rattle.pyc_obligations.specs.Asking.{ask_member, class_order, is_unknown_class}
use Rattle.pyc_obligations.specs.Judging.{class_asked, classes_asked, detail_asked, judge_assignable, known_after, judge_row, with_order}
use Rattle.pyc_obligations.specs.Quiet.{quiet, quiet_after}
use Rattle.pyc_expression_laws.proofs.AskedLemmas.{asked-and_then}
use Rattle.pyc_expression_laws.specs.Rows.{Answers}
use Rattle.pyc_reading.specs.Traces.{Step, required, owing}
use Rattle.pyc_reading.specs.Owing.{Detail, Obligation, written}
use Rattle.pyc_reading.specs.Readings.{Done, Ask, Report, Require, asked, result_of}
use Rattle.pyc_expression_laws.proofs.StepLemmas.{Files, files_ask, files_done, files_each, files_require, files_then, of-append, of-latter}
use Rattle.pyc_expression_laws.specs.FileKeys.{OfFiles}
use Rattle.pyc_type_forms.specs.Types.{Ty}

-- ---- classes

pub of-class_order : (c : Id) → Files (class_order c)
of-class_order (builtin c) = files_done
of-class_order (user m x) = files_ask refl (λ answer. files_done)

pub of-is_unknown_class : (c : Id) → Files (is_unknown_class c)
of-is_unknown_class (builtin c) = files_done
of-is_unknown_class (user m x) = files_ask refl (λ answer. files_done)

pub of-ask_member : (m : List (List ℕ)) (x n : List ℕ) → Files (ask_member (user m x) n)
of-ask_member m x n = files_ask refl (λ answer. files_done)

of-class_asked : (c : Id) → Files (class_asked c)
of-class_asked (builtin c) = files_done
of-class_asked (user m x) = files_ask refl (λ answer. files_done)

pub of-classes_asked : (classes : List Id) → Files (classes_asked classes)
of-classes_asked classes = files_each class_asked classes of-class_asked

-- ---- what is required

pub of-owing : (row : List Obligation) → Files (owing row)
unfolding owing
of-owing row = files_require files_done

pub of-required : (o : Obligation) → Files (required o)
of-required o = of-owing (o ∷ [])

pub of-known_after : (classes : List Id) (orders : MroTable) → Files (known_after classes orders)
unfolding known_after
of-known_after [] orders = files_done
of-known_after (c ∷ rest) orders = files_then _ _ (of-class_order c) (λ order. of-known_after rest (with_order orders c order))

pub of-judge_assignable : (got want : Ty) → Files (judge_assignable got want)
unfolding judge_assignable
of-judge_assignable got want = files_then _ _ (of-known_after (written got ++ written want) _) (λ orders. files_done)

of-detail_asked : (d : Detail) → Files (detail_asked d)
of-detail_asked d = of-classes_asked (written d.got ++ written d.want)

of-judge_row : (row : List Obligation) → Files (judge_row row)
unfolding judge_row
of-judge_row [] = files_done
of-judge_row (o ∷ rest) =
    files_then _ _ (of-judge_assignable o.got o.want) (λ goes.
    files_then _ _ (files_each detail_asked o.details of-detail_asked) (λ u.
    files_then _ _ (of-judge_row rest) (λ others. files_done)))

-- ---- readings of which no one is reported

of-quiet_after : {A : Type 0} (answers : Answers) (reported : Bool) (r : Step A) → OfFiles (asked answers r) → OfFiles (asked answers (quiet_after reported r))
unfolding quiet_after
of-quiet_after answers reported (Done a) all = tt
of-quiet_after answers reported (Ask key go) (one, rest) = (one, of-quiet_after answers reported (go (answers key)) rest)
of-quiet_after answers reported (Report diagnostic r) all = of-quiet_after answers true r all
of-quiet_after answers reported (Require row r) all =
    subst OfFiles (sym (asked-and_then answers (judge_row row) (λ holds. quiet_after (reported || not holds) r)))
    (of-append (asked answers (judge_row row)) _ ((of-judge_row row).all answers)
    (of-quiet_after answers (reported || not (result_of answers (judge_row row))) r (of-latter _ _ all)))

pub of-quiet : {A : Type 0} (r : Step A) → Files r → Files (quiet r)
unfolding quiet
of-quiet r all = record { all = λ answers. of-quiet_after answers false r (all.all answers) }
