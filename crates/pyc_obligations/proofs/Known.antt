-- What is known of orders after classes were asked.
use Rattle.std.proofs.Common.{◌≡◌, Bool, true, false, if◌then◌else◌, List, [], ◌∷◌, ◌++◌, refl, ap, ◌∙◌}
use Rattle.std.proofs.lemmas.Bool.{false≢true}
use Rattle.pyc_builtins.specs.MroTable.{builtin_orders}
use Rattle.pyc_class_ids.specs.Class.{Id, builtin, user, same_class}
use Rattle.pyc_class_ids.specs.ClassEquality.{same_class_equiv}
use Rattle.pyc_class_ids.specs.Mro.{MroTable}
use Rattle.pyc_class_table.proofs.BuiltinLemmas.{same_class-is}
use Rattle.pyc_obligations.specs.Asking.{orders_at}
use Rattle.pyc_reading.specs.Owing.{orders_by}
use Rattle.pyc_obligations.specs.Judging.{classes_asked, with_order, known_after, judge_assignable}
use Rattle.pyc_reading.specs.Owing.{written}
use Rattle.pyc_reading.proofs.OwingLemmas.{AgreeEach, same_assignable}
use Rattle.pyc_reading.proofs.RunLemmas.{run_then}
use Rattle.pyc_reading.specs.Answers.{Answer}
use Rattle.pyc_reading.specs.Traces.{Trace, run, noted}
use Rattle.pyc_reading.specs.Keys.{Key}
use Rattle.pyc_reading.specs.Keys as key
use Rattle.pyc_reading.specs.Readings.{Done, and_then}
use Rattle.pyc_type_forms.specs.Types.{Ty}
use Rattle.pyc_types.specs.Ways.{assignable}

-- the orders that are known after these classes were asked
abbrev pub after : List Id → MroTable → (Key → Answer) → MroTable
after [] orders answers = orders
after (c ∷ rest) orders answers = after rest (with_order orders c (orders_by answers c)) answers

-- what is known comes of the answers, and asking it is asking the classes
pub run_known : (cs : List Id) (orders : MroTable) (d : Trace) → run (known_after cs orders) d ≡ (after cs orders d.answers, (run (classes_asked cs) d).1)
unfolding known_after and_then
run_known [] orders d = refl
run_known (builtin c ∷ rest) orders d = run_known rest (with_order orders (builtin c) (builtin_orders (builtin c))) d
run_known (user m x ∷ rest) orders d = run_known rest (with_order orders (user m x) (orders_by d.answers (user m x))) (noted d (key.class (user m x)))

-- one more order of the answers changes nothing where they agree
with_agrees : (orders : MroTable) (answers : Key → Answer) (c d : Id) (is_same : Bool) → same_class c d ≡ is_same → orders d ≡ orders_by answers d
    → (if is_same then orders_by answers c else orders d) ≡ orders_by answers d
with_agrees orders answers c d true same agree = ap (orders_by answers) (same_class-is c d same)
with_agrees orders answers c d false same agree = agree

-- what agrees with the answers goes on to agree
pub keeps : (cs : List Id) (orders : MroTable) (answers : Key → Answer) (d : Id) → orders d ≡ orders_by answers d → after cs orders answers d ≡ orders_by answers d
keeps [] orders answers d agree = agree
keeps (c ∷ cs) orders answers d agree = keeps cs (with_order orders c (orders_by answers c)) answers d (with_agrees orders answers c d (same_class c d) refl agree)

with_itself : (orders : MroTable) (answers : Key → Answer) (c : Id) (is_same : Bool) → is_same ≡ true → (if is_same then orders_by answers c else orders c) ≡ orders_by answers c
with_itself orders answers c true same = refl
with_itself orders answers c false same = absurd (false≢true same)

-- what is known after classes were asked agrees with the answers on each of them
pub after_agrees : (cs : List Id) (orders : MroTable) (answers : Key → Answer) → AgreeEach (after cs orders answers) (orders_by answers) cs
after_agrees [] orders answers = tt
after_agrees (c ∷ cs) orders answers = (
  keeps cs (with_order orders c (orders_by answers c)) answers c (with_itself orders answers c (same_class c c) (same_class_equiv.refl c)),
  after_agrees cs (with_order orders c (orders_by answers c)) answers,
)

-- to judge is to ask the classes that are written, and to test by the orders of the answers
pub run_judge_assignable : (got want : Ty) (d : Trace) → run (judge_assignable got want) d ≡ (assignable (orders_at d) got want, (run (classes_asked (written got ++ written want)) d).1)
unfolding judge_assignable
run_judge_assignable got want d =
    let cs = written got ++ written want in
    let known = after cs builtin_orders d.answers in
    let same : assignable known got want ≡ assignable (orders_at d) got want =
    same_assignable known (orders_at d) got want (after_agrees cs builtin_orders d.answers) in
    run_then (known_after cs builtin_orders) (λ orders. Done (assignable orders got want)) d
    ∙ ap (λ (found : MroTable × Trace). run (Done (assignable found.0 got want)) found.1) (run_known cs builtin_orders d)
    ∙ ap (λ holds. (holds, (run (classes_asked cs) d).1)) same
