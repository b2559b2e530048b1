-- To require is to judge, and to report where that says no.
use Rattle.std.proofs.Common.{◌≡◌, ℕ, suc, ◌+◌, ◌<◌, drop, length, get_or, add-one, drop-cons, map, subst, Bool, true, false, ◌&&◌, if◌then◌else◌, List, [], ◌∷◌, ◌++◌, refl, sym, ap, ◌∙◌, append-nil}
use Rattle.std.specs.declared.alloc.AllocError.{AllocError}
use Rattle.std.specs.declared.result.Result.{Result}
use Rattle.std.specs.declared.result.Result.TheVariants.{Ok, Err}
use Rattle.pyc_class_ids.specs.Class.{Id, builtin, user}
use Rattle.pyc_obligations.proofs.Asked.{run_two}
use Rattle.pyc_obligations.proofs.Known.{run_judge_assignable}
use Rattle.pyc_obligations.specs.Asking.{orders_at}
use Rattle.pyc_obligations.specs.Judging.{classes_asked, detail_asked, details_asked, judge_assignable, judge_row}
use Rattle.pyc_reading.proofs.RunLemmas.{run_then, grown_trans, with_keys-append}
use Rattle.pyc_reading.specs.Answers.{Answer}
use Rattle.pyc_reading.specs.Traces.{Asks, Trace, Grown, Keeps, Performs, all_noted, kept, noted, owing, run}
use Rattle.pyc_reading.specs.Keys.{Key}
use Rattle.pyc_reading.specs.Keys as key
use Rattle.pyc_reading.specs.Owing.{Detail, Obligation, written, class_keys, pair_keys, detail_keys, keys_of, holds, row_keys, row_reported, message_by, orders_by}
use Rattle.pyc_reading.specs.Readings.{Done, and_then}
use Rattle.pyc_report.specs.Message.{Message}
use Rattle.pyc_type_forms.specs.Types.{Ty}
use Rattle.pyc_types.specs.Ways.{assignable}

-- to ask classes is to take down the keys of those of sources
pub run_classes : (cs : List Id) (d : Trace) → run (classes_asked cs) d ≡ (tt, all_noted d (class_keys cs))
unfolding and_then
run_classes [] d = refl
run_classes (builtin c ∷ cs) d = run_classes cs d
run_classes (user m x ∷ cs) d = run_classes cs (noted d (key.class (user m x)))

-- keys that are taken down in two turns
pub noted_twice : (d : Trace) (keys more : List Key) → all_noted (all_noted d keys) more ≡ all_noted d (keys ++ more)
noted_twice d keys more = ap (λ all. record { answers = d.answers; keys = all; messages = d.messages }) (sym (with_keys-append d.keys keys more))

-- to ask the classes that are written in `got`, and then those in `want`, is to ask the keys of both
pub asks_pair : (got want : Ty) (d middle e : Trace) (result : Result (Unit {0}) AllocError) → run (classes_asked (written got)) d ≡ (tt, middle) → Grown d middle
    → Performs (λ (u : Unit {0}). u) (classes_asked (written want)) middle result e → Asks (pair_keys got want) d result e
asks_pair got want d middle e (Ok u) first grown second = record {
  done = ap (λ (found : Unit {0} × Trace). found.1) (sym (run_two (written got) (written want) d middle first ∙ second.done) ∙ run_classes (written got ++ written want) d);
  grown = grown_trans grown second.grown;
}
asks_pair got want d middle e (Err x) first grown second = record { done = tt; grown = grown_trans grown second.grown }

-- to ask the keys `keys` and then `more` is to ask them all
pub asks_both : (keys more : List Key) (d middle e : Trace) (result : Result (Unit {0}) AllocError) → middle ≡ all_noted d keys → Grown d middle
    → Asks more middle result e → Asks (keys ++ more) d result e
asks_both keys more d middle e (Ok u) first grown second = record {
  done = second.done ∙ ap (λ trace. all_noted trace more) first ∙ noted_twice d keys more;
  grown = grown_trans grown second.grown;
}
asks_both keys more d middle e (Err x) first grown second = record { done = tt; grown = grown_trans grown second.grown }

-- to ask the keys of a row, and then to report the first obligation that does not hold, is to require the row
pub requires_row : (row : List Obligation) (d middle e : Trace) (result : Result (Unit {0}) AllocError) → middle ≡ all_noted d (row_keys row) → Grown d middle
    → Keeps (row_reported middle.answers row) middle result e → Performs (λ (u : Unit {0}). u) (owing row) d result e
unfolding owing
requires_row row d middle e (Ok u) first grown second = record {
  done = ap (λ trace. (tt, trace)) (ap (λ trace. kept trace (row_reported trace.answers row)) (sym first) ∙ sym second.done);
  grown = grown_trans grown second.grown;
}
requires_row row d middle e (Err x) first grown second = record { done = tt; grown = grown_trans grown second.grown }

-- what a row of one asks is what it asks
pub one_row : (o : Obligation) (d e : Trace) → e ≡ all_noted d (keys_of o) → e ≡ all_noted d (row_keys (o ∷ []))
one_row o d e done = done ∙ ap (all_noted d) (sym (append-nil (keys_of o)))

-- nothing is reported of what holds, and its message of what does not
pub held : (answers : Key → Answer) (o : Obligation) (row : List Obligation) → holds answers o ≡ true → row_reported answers (o ∷ row) ≡ row_reported answers row
held answers o row goes = ap (λ b. if b then row_reported answers row else (message_by (orders_by answers) o ∷ [])) goes

pub failed : (answers : Key → Answer) (o : Obligation) (row : List Obligation) → holds answers o ≡ false → row_reported answers (o ∷ row) ≡ message_by (orders_by answers) o ∷ []
failed answers o row goes = ap (λ b. if b then row_reported answers row else (message_by (orders_by answers) o ∷ [])) goes

left_of : {X : Type 0} (xs : List X) (i : ℕ) (x : X) → i < length xs → x ≡ get_or xs i x → drop i xs ≡ x ∷ drop (i + 1) xs
left_of xs i x within is = rw add-one (drop-cons xs i x within ∙ ap (λ y. y ∷ drop (suc i) xs) (sym is))

-- one turn of a loop that asks a row
pub ask_turn : {X : Type 0} (view : X → Obligation) (xs : List X) (i : ℕ) (x : X) (d middle whole : Trace) → i < length xs → x ≡ get_or xs i x → middle ≡ all_noted d (keys_of (view x))
    → all_noted d (row_keys (map view (drop i xs))) ≡ whole → all_noted middle (row_keys (map view (drop (i + 1) xs))) ≡ whole
ask_turn view xs i x d middle whole within is done before =
    let rest = row_keys (map view (drop (i + 1) xs)) in
    ap (λ trace. all_noted trace rest) done
    ∙ noted_twice d (keys_of (view x)) rest
    ∙ sym (ap (λ l. all_noted d (row_keys (map view l))) (left_of xs i x within is))
    ∙ before

-- one turn of a loop that reports a row, past an obligation that holds
pub reported_turn : {X : Type 0} (view : X → Obligation) (answers : Key → Answer) (xs : List X) (i : ℕ) (x : X) (whole : List Message) → i < length xs → x ≡ get_or xs i x → holds answers (view x) ≡ true
    → row_reported answers (map view (drop i xs)) ≡ whole → row_reported answers (map view (drop (i + 1) xs)) ≡ whole
reported_turn view answers xs i x whole within is goes before =
    sym (held answers (view x) (map view (drop (i + 1) xs)) goes)
    ∙ sym (ap (λ l. row_reported answers (map view l)) (left_of xs i x within is))
    ∙ before

-- the first obligation of what is left that does not hold is the one of the row that is reported
pub reported_first : {X : Type 0} (view : X → Obligation) (answers : Key → Answer) (xs : List X) (i : ℕ) (x : X) (whole : List Message) → i < length xs → x ≡ get_or xs i x → holds answers (view x) ≡ false
    → row_reported answers (map view (drop i xs)) ≡ whole → message_by (orders_by answers) (view x) ∷ [] ≡ whole
reported_first view answers xs i x whole within is goes before =
    sym (failed answers (view x) (map view (drop (i + 1) xs)) goes)
    ∙ sym (ap (λ l. row_reported answers (map view l)) (left_of xs i x within is))
    ∙ before

-- a call that keeps `xs` from the trace `now` keeps the equal messages `ys` from the equal trace `start`
pub keeps_same : (xs ys : List Message) (now start e : Trace) (result : Result (Unit {0}) AllocError) → xs ≡ ys → now ≡ start → Keeps xs now result e → Keeps ys start result e
keeps_same xs ys now start e result same trace done = subst (λ d. Keeps ys d result e) trace (subst (λ l. Keeps l now result e) same done)

-- ---- rows that are judged

-- to judge comes to the test, and takes down the keys of both types
pub run_judging : (got want : Ty) (o : Obligation) (d : Trace) → o.got ≡ got → o.want ≡ want → run (judge_assignable got want) d ≡ (holds d.answers o, all_noted d (pair_keys got want))
run_judging got want o d g w =
    run_judge_assignable got want d
    ∙ (λ i. (holds d.answers (record { obligation_kind = o.obligation_kind; at = o.at; got = sym g i; want = sym w i; details = o.details; text = o.text }), (run_classes (written got ++ written want) d i).1))

-- to ask the classes of both types, and to test by the orders at the trace, is to judge
pub judge_assignable_done : (got want : Ty) (d e : Trace) (goes : Bool) → e ≡ all_noted d (pair_keys got want) → e.answers ≡ d.answers → goes ≡ assignable (orders_at e) got want
    → run (judge_assignable got want) d ≡ (goes, e)
judge_assignable_done got want d e goes done answers is =
    run_judge_assignable got want d
    ∙ (λ i. (ap (λ a. assignable (orders_by a) got want) (sym answers) i, (run_classes (written got ++ written want) d i).1))
    ∙ (λ i. (sym is i, sym done i))

run_details : (ds : List Detail) (d : Trace) → run (details_asked ds) d ≡ (tt, all_noted d (detail_keys ds))
run_details [] d = refl
run_details (x ∷ ds) d =
    run_then (detail_asked x) (λ u. details_asked ds) d
    ∙ ap (λ (found : Unit {0} × Trace). run (details_asked ds) found.1) (run_classes (written x.got ++ written x.want) d)
    ∙ run_details ds (all_noted d (pair_keys x.got x.want))
    ∙ ap (λ trace. (tt, trace)) (noted_twice d (pair_keys x.got x.want) (detail_keys ds))

-- whether nothing is reported of a row
abbrev pub all_hold : List Message → Bool
all_hold [] = true
all_hold (m ∷ ms) = false

row_key_change : (d : Trace) (o : Obligation) (row : List Obligation) (goes : Bool)
    → goes && all_hold (row_reported d.answers row) ≡ all_hold (if goes then row_reported d.answers row else (message_by (orders_by d.answers) o ∷ []))
row_key_change d o row true = refl
row_key_change d o row false = refl

pub run_row : (row : List Obligation) (d : Trace) → run (judge_row row) d ≡ (all_hold (row_reported d.answers row), all_noted d (row_keys row))
unfolding judge_row
run_row [] d = refl
run_row (o ∷ row) d =
    let pair = pair_keys o.got o.want in
    let more = detail_keys o.details in
    run_then (judge_assignable o.got o.want) (λ goes. and_then (details_asked o.details) (λ u. and_then (judge_row row) (λ others. Done (goes && others)))) d
    ∙ ap (λ (found : Bool × Trace). run (and_then (details_asked o.details) (λ u. and_then (judge_row row) (λ others. Done (found.0 && others)))) found.1) (run_judging o.got o.want o d refl refl)
    ∙ run_then (details_asked o.details) (λ u. and_then (judge_row row) (λ others. Done (holds d.answers o && others))) (all_noted d pair)
    ∙ ap (λ (found : Unit {0} × Trace). run (and_then (judge_row row) (λ others. Done (holds d.answers o && others))) found.1) (run_details o.details (all_noted d pair))
    ∙ ap (λ trace. run (and_then (judge_row row) (λ others. Done (holds d.answers o && others))) trace) (noted_twice d pair more)
    ∙ run_then (judge_row row) (λ others. Done (holds d.answers o && others)) (all_noted d (keys_of o))
    ∙ ap (λ (found : Bool × Trace). (holds d.answers o && found.0, found.1)) (run_row row (all_noted d (keys_of o)))
    ∙ (λ i. (row_key_change d o row (holds d.answers o) i, noted_twice d (keys_of o) (row_keys row) i))
