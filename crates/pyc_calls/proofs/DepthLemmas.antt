-- Going deeper gives the same: each class is begun once, so no more lie one in another than have a `__call__`.
use Rattle.std.proofs.Common.{◌≡◌, ◌<◌, ◌≤◌, ℕ, zero, suc, Bool, true, false, if◌then◌else◌, List, [], ◌∷◌, ◌++◌, length, Option, None, Some, is_some, refl, sym, ap, ◌∙◌, subst, codes, arith}
use Rattle.std.proofs.lemmas.Bool.{false≢true}
use Rattle.std.specs.Prelude.{Contains, slice_index_or}
use Rattle.pyc_arguments.specs.Arguments.{Arg, read_once}
use Rattle.pyc_arguments.specs.Reporting.{Call}
use Rattle.pyc_calls.specs.Called.{Called, Calls, ItemsCalled, infer_given_call, infer_any_call, infer_plain_call, report_refused, without_call, remembering_same, call_given, infer_member_call, by_progress, by_member, source_called, joined, called_by, items_called, called_to, call_result, most_calls}
use Rattle.pyc_calls.specs.Laws.{ComesToSame, call_of, AllCallable, DeeperGivesTheSame, IsDeepEnough}
use Rattle.pyc_calls.specs.Remembered.{Memory, Progress, fresh, under_way, gave, nothing_met, progress_of, remembering}
use Rattle.pyc_class_ids.specs.Class.{Id, builtin, user, same_class}
use Rattle.pyc_class_ids.specs.ClassEquality.{same_class_equiv}
use Rattle.pyc_obligations.specs.Asking.{ask_member}
use Rattle.pyc_reading.specs.Answers.{Answer, MemberAnswer}
use Rattle.pyc_reading.specs.Traces.{Step}
use Rattle.pyc_reading.specs.Keys.{Key}
use Rattle.pyc_reading.specs.Owing.{row_keys, row_reported}
use Rattle.pyc_reading.specs.Readings.{Done, Ask, Report, Require, and_then, result_of, reported, asked, obligations}
use Rattle.pyc_report.specs.Message.{diagnostic_message}
use Rattle.pyc_type_forms.specs.Types.{Ty, Tys, any, none, module_type, instance, class_object, list, dict, tuple, tuple_of, union, callable, nil, cons}

-- ---- classes that were not met

abbrev is_fresh : Progress → Bool
is_fresh fresh = true
is_fresh under_way = false
is_fresh (gave ty) = false

-- how many of these classes were not met
abbrev unmet : Memory → List Id → ℕ
unmet memory [] = 0
unmet memory (c ∷ classes) = if is_fresh (memory c) then suc (unmet memory classes) else unmet memory classes

-- what was met stays so
abbrev Keeps : Memory → Memory → Type 0
Keeps old new = (c : Id) → is_fresh (new c) ≡ true → is_fresh (old c) ≡ true

counted : (a b : Bool) (x y : ℕ) → x ≤ y → (a ≡ true → b ≡ true) → (if a then suc x else x) ≤ (if b then suc y else y)
counted true true x y h goes = omega (arith, h)
counted true false x y h goes = absurd (false≢true (goes refl))
counted false true x y h goes = omega (arith, h)
counted false false x y h goes = h

unmet_kept : (old new : Memory) (classes : List Id) → Keeps old new → unmet new classes ≤ unmet old classes
unmet_kept old new [] kept = omega arith
unmet_kept old new (c ∷ classes) kept = counted (is_fresh (new c)) (is_fresh (old c)) (unmet new classes) (unmet old classes) (unmet_kept old new classes kept) (kept c)

chosen_kept : (b : Bool) (progress before : Progress) → is_fresh progress ≡ false → is_fresh (if b then progress else before) ≡ true → is_fresh before ≡ true
chosen_kept true progress before old h = absurd (false≢true (sym old ∙ h))
chosen_kept false progress before old h = h

remembering_kept : (memory : Memory) (c : Id) (progress : Progress) → is_fresh progress ≡ false → Keeps memory (remembering memory c progress)
remembering_kept memory c progress old other h = chosen_kept (same_class c other) progress (memory other) old h

-- a class that is begun was not met before, and then is
begun_itself : (memory : Memory) (c : Id) (b : Bool) → b ≡ true → is_fresh (if b then under_way else memory c) ≡ false
begun_itself memory c true h = refl
begun_itself memory c false h = absurd (false≢true h)

unmet_fewer : (memory : Memory) (c : Id) → is_fresh (memory c) ≡ true → (classes : List Id) (k : ℕ) → k < length classes → slice_index_or classes k c ≡ c
    → unmet (remembering memory c under_way) classes < unmet memory classes
unmet_fewer memory c is [] k within at = omega (arith, within)
unmet_fewer memory c is (d ∷ classes) zero within at =
    let rest = unmet_kept memory (remembering memory c under_way) classes (remembering_kept memory c under_way refl) in
    let now : is_fresh (remembering memory c under_way d) ≡ false =
    ap (λ x. is_fresh (remembering memory c under_way x)) at ∙ begun_itself memory c (same_class c c) (same_class_equiv.refl c) in
    let before : is_fresh (memory d) ≡ true = ap (λ x. is_fresh (memory x)) at ∙ is in
    subst (λ b. (if is_fresh (remembering memory c under_way d) then suc (unmet (remembering memory c under_way) classes) else unmet (remembering memory c under_way) classes) < (if b then suc (unmet memory classes) else unmet memory classes)) (sym before)
    (subst (λ b. (if b then suc (unmet (remembering memory c under_way) classes) else unmet (remembering memory c under_way) classes) < suc (unmet memory classes)) (sym now) (omega (arith, rest)))
unmet_fewer memory c is (d ∷ classes) (suc k) within at =
    let rest = unmet_fewer memory c is classes k (omega (arith, within)) at in
    counted_fewer (is_fresh (remembering memory c under_way d)) (is_fresh (memory d)) (unmet (remembering memory c under_way) classes) (unmet memory classes) rest (remembering_kept memory c under_way refl d)
  where
    counted_fewer : (a b : Bool) (x y : ℕ) → x < y → (a ≡ true → b ≡ true) → (if a then suc x else x) < (if b then suc y else y)
    counted_fewer true true x y h goes = omega (arith, h)
    counted_fewer true false x y h goes = absurd (false≢true (goes refl))
    counted_fewer false true x y h goes = omega (arith, h)
    counted_fewer false false x y h goes = h

unmet_all : (classes : List Id) → unmet nothing_met classes ≡ length classes
unmet_all [] = refl
unmet_all (c ∷ classes) = ap suc (unmet_all classes)

-- ---- readings over answers

module _ (answers : Key → Answer) where
  -- a reading of which these answers alone are looked at
  abbrev fixed : {A : Type 0} → Step A → Step A
  fixed (Done a) = Done a
  fixed (Ask key go) = Ask key (λ answer. fixed (go (answers key)))
  fixed (Report diagnostic rest) = Report diagnostic (fixed rest)
  fixed (Require row rest) = Require row (fixed rest)

  fixed_result : {A : Type 0} (r : Step A) → result_of answers (fixed r) ≡ result_of answers r
  fixed_result (Done a) = refl
  fixed_result (Ask key go) = fixed_result (go (answers key))
  fixed_result (Report diagnostic rest) = fixed_result rest
  fixed_result (Require row rest) = fixed_result rest

  fixed_reported : {A : Type 0} (r : Step A) → reported answers (fixed r) ≡ reported answers r
  fixed_reported (Done a) = refl
  fixed_reported (Ask key go) = fixed_reported (go (answers key))
  fixed_reported (Report diagnostic rest) = ap (λ l. diagnostic_message diagnostic ∷ l) (fixed_reported rest)
  fixed_reported (Require row rest) = ap (λ l. row_reported answers row ++ l) (fixed_reported rest)

  fixed_asked : {A : Type 0} (r : Step A) → asked answers (fixed r) ≡ asked answers r
  fixed_asked (Done a) = refl
  fixed_asked (Ask key go) = ap (λ l. key ∷ l) (fixed_asked (go (answers key)))
  fixed_asked (Report diagnostic rest) = fixed_asked rest
  fixed_asked (Require row rest) = ap (λ l. row_keys row ++ l) (fixed_asked rest)

  fixed_obligations : {A : Type 0} (r : Step A) → obligations answers (fixed r) ≡ obligations answers r
  fixed_obligations (Done a) = refl
  fixed_obligations (Ask key go) = fixed_obligations (go (answers key))
  fixed_obligations (Report diagnostic rest) = fixed_obligations rest
  fixed_obligations (Require row rest) = ap (λ l. row ++ l) (fixed_obligations rest)

  -- readings that are the same over these answers come to the same
  same_comes : {A : Type 0} (r s : Step A) → fixed r ≡ fixed s → ComesToSame answers r s
  same_comes r s same = record {
    result = sym (fixed_result r) ∙ ap (result_of answers) same ∙ fixed_result s;
    reported = sym (fixed_reported r) ∙ ap (reported answers) same ∙ fixed_reported s;
    asked = sym (fixed_asked r) ∙ ap (asked answers) same ∙ fixed_asked s;
    obligations = sym (fixed_obligations r) ∙ ap (obligations answers) same ∙ fixed_obligations s;
  }

  -- the second may differ
  then_same : {A B : Type 0} (r : Step A) (f g : A → Step B) → fixed (f (result_of answers r)) ≡ fixed (g (result_of answers r)) → fixed (and_then r f) ≡ fixed (and_then r g)
  unfolding and_then
  then_same (Done a) f g same = same
  then_same (Ask key go) f g same = ap (λ rest. Ask key (λ answer. rest)) (then_same (go (answers key)) f g same)
  then_same (Report diagnostic rest) f g same = ap (Report diagnostic) (then_same rest f g same)
  then_same (Require row rest) f g same = ap (Require row) (then_same rest f g same)

  fixed_then : {A B : Type 0} (r : Step A) (f : A → Step B) → fixed (and_then r f) ≡ and_then (fixed r) (λ a. fixed (f a))
  unfolding and_then
  fixed_then (Done a) f = refl
  fixed_then (Ask key go) f = ap (λ rest. Ask key (λ answer. rest)) (fixed_then (go (answers key)) f)
  fixed_then (Report diagnostic rest) f = ap (Report diagnostic) (fixed_then rest f)
  fixed_then (Require row rest) f = ap (Require row) (fixed_then rest f)

  -- the first may differ
  first_same : {A B : Type 0} (r s : Step A) (f : A → Step B) → fixed r ≡ fixed s → fixed (and_then r f) ≡ fixed (and_then s f)
  first_same r s f same = fixed_then r f ∙ ap (λ x. and_then x (λ a. fixed (f a))) same ∙ sym (fixed_then s f)

  -- and both
  both_same : {A B : Type 0} (r s : Step A) (f g : A → Step B) → fixed r ≡ fixed s → fixed (f (result_of answers r)) ≡ fixed (g (result_of answers r)) → fixed (and_then r f) ≡ fixed (and_then s g)
  both_same r s f g first second = then_same r f g second ∙ first_same r s g first

  -- what a reading ends in over these answers
  abbrev Comes : {A : Type 0} → (A → Type 0) → Step A → Type 0
  Comes holds r = holds (result_of answers r)

  then_comes : {A B : Type 0} (holds : A → Type 0) (other : B → Type 0) (r : Step A) (f : A → Step B) → Comes holds r → ((a : A) → holds a → Comes other (f a)) → Comes other (and_then r f)
  unfolding and_then
  then_comes holds other (Done a) f h goes = goes a h
  then_comes holds other (Ask key go) f h goes = then_comes holds other (go (answers key)) f h goes
  then_comes holds other (Report diagnostic rest) f h goes = then_comes holds other rest f h goes
  then_comes holds other (Require row rest) f h goes = then_comes holds other rest f h goes

  abbrev Whatever : {A : Type 0} → A → Type 0
  Whatever a = Unit {0}

  whatever : {A : Type 0} (r : Step A) → Comes Whatever r
  whatever r = tt

  -- ---- what was met stays so

  abbrev Kept : Memory → Called → Type 0
  Kept memory call_result = Keeps memory call_result.memory

  same_kept : (memory : Memory) (call : Step Ty) → Comes (Kept memory) (remembering_same memory call)
  unfolding remembering_same
  same_kept memory call = then_comes Whatever (Kept memory) call (λ ty. Done (record { ty = ty; memory = memory })) tt (λ ty u c h. h)

  -- calls after which what was met stays so
  abbrev AreKeeping : Calls → Type 0
  AreKeeping deeper = (memory : Memory) (args : List Arg) (ty : Ty) → Comes (Kept memory) (deeper memory args ty)

  module _ (deeper : Calls) (keeping : AreKeeping deeper) (call : Call) where
    progress_kept : (memory : Memory) (args : List Arg) (c : Id) (progress : Progress) (found : MemberAnswer) → Comes (Kept memory) (by_progress deeper memory args c progress found)
    unfolding infer_member_call
    progress_kept memory args c fresh found =
        then_comes (Kept (remembering memory c under_way)) (Kept memory) (deeper (remembering memory c under_way) args _) (λ call_result. Done (call_given c call_result)) (keeping (remembering memory c under_way) args _)
        (λ call_result kept other h. remembering_kept memory c under_way refl other (kept other (remembering_kept call_result.memory c (gave call_result.ty) refl other h)))
    progress_kept memory args c under_way found = same_kept memory (infer_any_call args)
    progress_kept memory args c (gave ty) found = same_kept memory (infer_given_call args ty)

    member_kept : (memory : Memory) (args : List Arg) (c : Id) (found : Option MemberAnswer) → Comes (Kept memory) (by_member deeper call memory args c (progress_of memory c) found)
    member_kept memory args c (Some found) = progress_kept memory args c (progress_of memory c) found
    member_kept memory args c None = same_kept memory (without_call call args c)

    source_kept : (memory : Memory) (args : List Arg) (c : Id) → Comes (Kept memory) (source_called deeper call memory args c)
    unfolding source_called
    source_kept memory args c =
        then_comes Whatever (Kept memory) (ask_member c (codes "__call__")) (by_member deeper call memory args c (progress_of memory c)) tt (λ found u. member_kept memory args c found)

    abbrev ItemsKept : Memory → ItemsCalled → Type 0
    ItemsKept memory call_result = Keeps memory call_result.memory

    mutual
      by_kept : (memory : Memory) (args : List Arg) (ty : Ty) → Comes (Kept memory) (called_by deeper call memory args ty)
      by_kept memory args (instance (builtin c)) = same_kept memory (report_refused call args (instance (builtin c)))
      by_kept memory args (instance (user m x)) = source_kept memory args (user m x)
      by_kept memory args (union items) =
          then_comes Whatever (Kept memory) (read_once args) (λ read. and_then (items_called deeper call [] memory read items) (λ call_result. Done (joined call_result))) tt
          (λ read u. then_comes (ItemsKept memory) (Kept memory) (items_called deeper call [] memory read items) (λ call_result. Done (joined call_result)) (items_kept [] memory read items) (λ call_result kept. kept))
      by_kept memory args any = same_kept memory (infer_plain_call call args any)
      by_kept memory args none = same_kept memory (infer_plain_call call args none)
      by_kept memory args (module_type m) = same_kept memory (infer_plain_call call args (module_type m))
      by_kept memory args (class_object c) = same_kept memory (infer_plain_call call args (class_object c))
      by_kept memory args (list x) = same_kept memory (infer_plain_call call args (list x))
      by_kept memory args (dict k v) = same_kept memory (infer_plain_call call args (dict k v))
      by_kept memory args (tuple xs) = same_kept memory (infer_plain_call call args (tuple xs))
      by_kept memory args (tuple_of x) = same_kept memory (infer_plain_call call args (tuple_of x))
      by_kept memory args (callable ps r) = same_kept memory (infer_plain_call call args (callable ps r))

      items_kept : (before : List Ty) (memory : Memory) (args : List Arg) (items : Tys) → Comes (ItemsKept memory) (items_called deeper call before memory args items)
      items_kept before memory args nil = λ c h. h
      items_kept before memory args (cons item items) =
          then_comes (Kept memory) (ItemsKept memory) (called_by deeper call memory args item) (λ call_result. items_called deeper call (before ++ (call_result.ty ∷ [])) call_result.memory args items) (by_kept memory args item)
          (λ got kept c h. kept c (items_kept (before ++ (got.ty ∷ [])) got.memory args items c h))

  to_kept : (depth : ℕ) (call : Call) → AreKeeping (called_to depth call)
  to_kept zero call memory args ty = same_kept memory (infer_any_call args)
  to_kept (suc depth) call memory args ty = by_kept (called_to depth call) (to_kept depth call) call memory args ty

  -- ---- going deeper

  module _ (classes : List Id) (callable_are : AllCallable answers classes) (call : Call) where
    -- two ways of calling are the same where so many classes at most are left
    abbrev AreSame : ℕ → Calls → Calls → Type 0
    AreSame most deeper other = (memory : Memory) (args : List Arg) (ty : Ty) → unmet memory classes < most → fixed (deeper memory args ty) ≡ fixed (other memory args ty)

    module _ (most : ℕ) (deeper other : Calls) (keeping : AreKeeping deeper) (same : AreSame most deeper other) where
      progress_same : (memory : Memory) (args : List Arg) (c : Id) (progress : Progress) (found : MemberAnswer) → memory c ≡ progress → Contains classes c → unmet memory classes < suc most
          → fixed (by_progress deeper memory args c progress found) ≡ fixed (by_progress other memory args c progress found)
      unfolding infer_member_call
      progress_same memory args c fresh found is among within =
          let fewer = unmet_fewer memory c (ap is_fresh is) classes among.0 among.1 among.2 in
          first_same _ _ (λ call_result. Done (call_given c call_result)) (same (remembering memory c under_way) args _ (omega (arith, within, fewer)))
      progress_same memory args c under_way found is among within = refl
      progress_same memory args c (gave ty) found is among within = refl

      member_same : (memory : Memory) (args : List Arg) (c : Id) (found : Option MemberAnswer) → call_of answers c ≡ found → unmet memory classes < suc most
          → fixed (by_member deeper call memory args c (progress_of memory c) found) ≡ fixed (by_member other call memory args c (progress_of memory c) found)
      member_same memory args c (Some found) is within = progress_same memory args c (memory c) found refl (callable_are c (ap is_some is)) within
      member_same memory args c None is within = refl

      source_same : (memory : Memory) (args : List Arg) (c : Id) → unmet memory classes < suc most → fixed (source_called deeper call memory args c) ≡ fixed (source_called other call memory args c)
      unfolding source_called
      source_same memory args c within =
          then_same (ask_member c (codes "__call__")) (by_member deeper call memory args c (progress_of memory c)) (by_member other call memory args c (progress_of memory c)) (member_same memory args c (call_of answers c) refl within)

      mutual
        by_same : (memory : Memory) (args : List Arg) (ty : Ty) → unmet memory classes < suc most → fixed (called_by deeper call memory args ty) ≡ fixed (called_by other call memory args ty)
        by_same memory args (instance (builtin c)) within = refl
        by_same memory args (instance (user m x)) within = source_same memory args (user m x) within
        by_same memory args (union items) within =
            then_same (read_once args) (λ read. and_then (items_called deeper call [] memory read items) (λ call_result. Done (joined call_result))) (λ read. and_then (items_called other call [] memory read items) (λ call_result. Done (joined call_result)))
            (first_same _ _ (λ call_result. Done (joined call_result)) (items_same [] memory (result_of answers (read_once args)) items within))
        by_same memory args any within = refl
        by_same memory args none within = refl
        by_same memory args (module_type m) within = refl
        by_same memory args (class_object c) within = refl
        by_same memory args (list x) within = refl
        by_same memory args (dict k v) within = refl
        by_same memory args (tuple xs) within = refl
        by_same memory args (tuple_of x) within = refl
        by_same memory args (callable ps r) within = refl

        items_same : (before : List Ty) (memory : Memory) (args : List Arg) (items : Tys) → unmet memory classes < suc most → fixed (items_called deeper call before memory args items) ≡ fixed (items_called other call before memory args items)
        items_same before memory args nil within = refl
        items_same before memory args (cons item items) within =
            let first = result_of answers (called_by deeper call memory args item) in
            let fewer = unmet_kept memory first.memory classes (by_kept deeper keeping call memory args item) in
            both_same (called_by deeper call memory args item) (called_by other call memory args item)
            (λ call_result. items_called deeper call (before ++ (call_result.ty ∷ [])) call_result.memory args items) (λ call_result. items_called other call (before ++ (call_result.ty ∷ [])) call_result.memory args items)
            (by_same memory args item within)
            (items_same (before ++ (first.ty ∷ [])) first.memory args items (omega (arith, within, fewer)))

    -- at two depths above the number of classes that are left a call is the same
    to_same : (depth deeper : ℕ) (most : ℕ) → most ≤ depth → most ≤ deeper → AreSame most (called_to depth call) (called_to deeper call)
    to_same depth deeper zero h k memory args ty within = absurd (omega (arith, within))
    to_same zero deeper (suc most) h k memory args ty within = absurd (omega (arith, h))
    to_same (suc depth) zero (suc most) h k memory args ty within = absurd (omega (arith, k))
    to_same (suc depth) (suc deeper) (suc most) h k memory args ty within =
        by_same most (called_to depth call) (called_to deeper call) (to_kept depth call) (to_same depth deeper most (omega (arith, h)) (omega (arith, k))) memory args ty within

pub deeper_gives_the_same : DeeperGivesTheSame
deeper_gives_the_same answers classes all call args callee depth deeper h k =
    let most = suc (length classes) in
    let within : unmet nothing_met classes < most = subst (λ n. n < most) (sym (unmet_all classes)) (omega arith) in
    same_comes answers _ _ (first_same answers _ _ (λ call_result. Done call_result.ty) (to_same answers classes all call depth deeper most (omega (arith, h)) (omega (arith, k)) nothing_met args callee within))

pub is_deep_enough : IsDeepEnough
unfolding call_result
is_deep_enough answers classes all call args callee depth h k = deeper_gives_the_same answers classes all call args callee most_calls depth k h
