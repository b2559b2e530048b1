-- Asking classes one after another.
use Rattle.std.proofs.Common.{◌≡◌, ℕ, suc, ◌+◌, ◌<◌, List, [], ◌∷◌, ◌++◌, drop, length, get_or, add-one, drop-cons, refl, sym, ap, ◌∙◌, subst, IfOk}
use Rattle.pyc_class_ids.specs.Class.{Id, builtin, user}
use Rattle.pyc_obligations.specs.Judging.{class_asked, classes_asked}
use Rattle.pyc_reading.specs.Owing.{written, row_written, listed_written}
use Rattle.std.specs.declared.alloc.AllocError.{AllocError}
use Rattle.std.specs.declared.result.Result.{Result}
use Rattle.pyc_reading.proofs.RunLemmas.{run_then, grown_trans}
use Rattle.pyc_reading.specs.Traces.{Trace, run, Grown, Performs}
use Rattle.pyc_reading.specs.Readings.{and_then}
use Rattle.pyc_type_forms.specs.declared.types.Param.{Param}
use Rattle.pyc_type_forms.specs.declared.types.Ty.{Ty as TyOf}
use Rattle.pyc_type_forms.specs.TypeView.{ty_of, row, param_row}
use Rattle.pyc_types.proofs.Measures.{param_ty}

-- to ask two rows of classes is to ask the one and then the other
pub run_both : (xs ys : List Id) (d : Trace) → run (classes_asked (xs ++ ys)) d ≡ run (and_then (classes_asked xs) (λ u. classes_asked ys)) d
unfolding and_then
run_both [] ys d = refl
run_both (x ∷ xs) ys d =
    run_then (class_asked x) (λ u. classes_asked (xs ++ ys)) d
    ∙ run_both xs ys (run (class_asked x) d).1
    ∙ run_then (classes_asked xs) (λ u. classes_asked ys) (run (class_asked x) d).1
    ∙ sym (ap (λ (found : Unit × Trace). run (classes_asked ys) found.1) (run_then (class_asked x) (λ u. classes_asked xs) d))
    ∙ sym (run_then (and_then (class_asked x) (λ u. classes_asked xs)) (λ u. classes_asked ys) d)

-- asking a class changes no answer, and reports nothing
pub class_keeps : (c : Id) (d : Trace) → ((run (class_asked c) d).1.answers ≡ d.answers) × ((run (class_asked c) d).1.messages ≡ d.messages)
unfolding and_then
class_keeps (builtin c) d = (refl, refl)
class_keeps (user m x) d = (refl, refl)

pub classes_keep : (cs : List Id) (d : Trace) → ((run (classes_asked cs) d).1.answers ≡ d.answers) × ((run (classes_asked cs) d).1.messages ≡ d.messages)
classes_keep [] d = (refl, refl)
classes_keep (c ∷ cs) d =
    let first = class_keeps c d in
    let rest = classes_keep cs (run (class_asked c) d).1 in
    let whole = run_then (class_asked c) (λ u. classes_asked cs) d in (
      ap (λ (found : Unit × Trace). found.1.answers) whole ∙ rest.0 ∙ first.0,
      ap (λ (found : Unit × Trace). found.1.messages) whole ∙ rest.1 ∙ first.1,
    )

-- to ask a row of one class is to ask it
pub run_one : (c : Id) (d : Trace) → run (classes_asked (c ∷ [])) d ≡ run (class_asked c) d
unfolding and_then
run_one (builtin c) d = refl
run_one (user m x) d = refl

-- what was asked first is what the second goes on from
pub run_two : (xs ys : List Id) (d middle : Trace) → run (classes_asked xs) d ≡ (tt, middle) → run (classes_asked (xs ++ ys)) d ≡ run (classes_asked ys) middle
run_two xs ys d middle first =
    run_both xs ys d ∙ run_then (classes_asked xs) (λ u. classes_asked ys) d ∙ ap (λ (found : Unit × Trace). run (classes_asked ys) found.1) first

left_of : {X : Type 0} (xs : List X) (i : ℕ) (x : X) → i < length xs → x ≡ get_or xs i x → drop i xs ≡ x ∷ drop (i + 1) xs
left_of xs i x within is = rw add-one (drop-cons xs i x within ∙ ap (λ y. y ∷ drop (suc i) xs) (sym is))

-- one turn over a row of types
pub row_turn : (xs : List TyOf) (i : ℕ) (x : TyOf) (d middle : Trace) → i < length xs → x ≡ get_or xs i x → run (classes_asked (written (ty_of x))) d ≡ (tt, middle)
    → run (classes_asked (row_written (row (drop (i + 1) xs)))) middle ≡ run (classes_asked (row_written (row (drop i xs)))) d
row_turn xs i x d middle within is first =
    sym (ap (λ l. run (classes_asked (row_written (row l))) d) (left_of xs i x within is) ∙ run_two (written (ty_of x)) (row_written (row (drop (i + 1) xs))) d middle first)

-- one turn over a row of parameters
pub param_turn : (xs : List Param) (i : ℕ) (x : Param) (d middle : Trace) → i < length xs → x ≡ get_or xs i x → run (classes_asked (written (ty_of x.ty))) d ≡ (tt, middle)
    → run (classes_asked (listed_written (param_row (drop (i + 1) xs)))) middle ≡ run (classes_asked (listed_written (param_row (drop i xs)))) d
param_turn xs i x d middle within is first =
    sym (ap (λ l. run (classes_asked (listed_written (param_row l))) d) (left_of xs i x within is) ∙ ap (λ t. run (classes_asked (written t ++ listed_written (param_row (drop (i + 1) xs)))) d) (param_ty x)
    ∙ run_two (written (ty_of x.ty)) (listed_written (param_row (drop (i + 1) xs))) d middle first)

-- to ask the classes `xs` and then `ys` is to ask them as one row
pub performs_two : (xs ys : List Id) (d middle e : Trace) (result : Result (Unit {0}) AllocError) → run (classes_asked xs) d ≡ (tt, middle) → Grown d middle
    → Performs (λ (u : Unit {0}). u) (classes_asked ys) middle result e → Performs (λ (u : Unit {0}). u) (classes_asked (xs ++ ys)) d result e
performs_two xs ys d middle e result first grown second = record {
  done = subst (λ s. IfOk result (λ x. s ≡ (x, e))) (sym (run_two xs ys d middle first)) second.done;
  grown = grown_trans grown second.grown;
}

-- to ask a class is to ask the row of it alone
pub performs_one : (c : Id) (d e : Trace) (result : Result (Unit {0}) AllocError)
    → Performs (λ (u : Unit {0}). u) (class_asked c) d result e → Performs (λ (u : Unit {0}). u) (classes_asked (c ∷ [])) d result e
performs_one c d e result done = record {
  done = subst (λ s. IfOk result (λ x. s ≡ (x, e))) (sym (run_one c d)) done.done;
  grown = done.grown;
}
