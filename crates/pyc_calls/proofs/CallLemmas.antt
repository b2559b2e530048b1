-- The turns of the loops that go through calls.
use Rattle.std.proofs.Common.{◌≡◌, ◌<◌, ◌≤◌, ◌+◌, ◌-◌, ◌^◌, ℕ, suc, false, [], refl, sym, ap, ◌∙◌, subst, List, arith}
use Rattle.pyc_arguments.specs.Arguments.{Arg}
use Rattle.pyc_arguments.specs.Reporting.{Call}
use Rattle.pyc_calls.proofs.WalkLemmas.{then_then, first_runs, stepped_runs, given_left, begun_left}
use Rattle.pyc_calls.specs.Called.{Called, call_result, called_to, most_calls, typed}
use Rattle.pyc_calls.specs.Remembered.{Memory, nothing_met, remembering, under_way}
use Rattle.pyc_calls.specs.Walks.{came, met_new, form_met, callee_form, is_union, called_in, left, left_met, Walk, Waiting, Stood, calls, gives, meets, begun, form_stepped, waiting_given, classes_waiting, IsRead}
use Rattle.pyc_class_ids.specs.Class.{Id}
use Rattle.pyc_reading.proofs.RunLemmas.{after, grown_trans}
use Rattle.pyc_reading.specs.Traces.{Step, Trace, Going, Grown, run}
use Rattle.pyc_reading.specs.Readings.{Done, and_then}
use Rattle.pyc_type_forms.specs.Types.{Ty}

-- more classes may lie in one another than were met
most_is : (n : ℕ) → n < 2 ^ 63 → most_calls - n ≡ suc (most_calls - (n + 1))
unfolding most_calls
most_is n small = omega (arith, small)

pub deep_enough : (n : ℕ) → n < 2 ^ 63 → 2 ^ 63 ≤ most_calls - (n + 1)
unfolding most_calls
deep_enough n small = omega (arith, small)

all_of_it : most_calls ≡ suc (most_calls - (0 + 1))
unfolding most_calls
all_of_it = refl

module _ (call : Call) (args : List Arg) where
  -- before any class is met
  pub call_begins : (memory : Memory) (count : ℕ) (ty callee : Ty) → memory ≡ nothing_met → count ≡ 0 → ty ≡ callee
      → typed (called_in (most_calls - (count + 1)) call memory args ty) ≡ call_result call args callee
  unfolding call_result
  call_begins memory count ty callee nothing none same =
      (λ i. typed (called_in (most_calls - (none i + 1)) call (nothing i) args (same i)))
      ∙ ap (λ depth. typed (called_to depth call nothing_met args callee)) (sym all_of_it)

  -- a class is met
  pub call_goes_on : (memory next : Memory) (count more : ℕ) (ty bound : Ty) (c : Id) (old new : Trace)
      → is_union ty ≡ false → run (form_met call memory args ty (callee_form ty)) old ≡ (met_new c bound, new)
      → next ≡ remembering memory c under_way → more ≡ count + 1 → more < 2 ^ 63
      → run (typed (called_in (most_calls - (more + 1)) call next args bound)) new ≡ run (typed (called_in (most_calls - (count + 1)) call memory args ty)) old
  call_goes_on memory next count more ty bound c old new other met is counted small =
      let depth : most_calls - (count + 1) ≡ suc (most_calls - (more + 1)) = subst (λ n. most_calls - n ≡ suc (most_calls - (more + 1))) counted (most_is more small) in
      (λ i. run (typed (called_in (most_calls - (more + 1)) call (is i) args bound)) new)
      ∙ ap (λ d. run (typed (called_to d call (remembering memory c under_way) args bound)) new) (sym depth)
      ∙ sym (first_runs (most_calls - (count + 1)) call memory args ty old new (met_new c bound) other met)

  -- the call is at its end
  pub call_ends : (depth : ℕ) (memory : Memory) (ty given : Ty) (old new : Trace)
      → is_union ty ≡ false → run (form_met call memory args ty (callee_form ty)) old ≡ (came given, new)
      → run (typed (called_in depth call memory args ty)) old ≡ (given, new)
  call_ends depth memory ty given old new other met = first_runs depth call memory args ty old new (came given) other met

  -- a walk begins
  pub walk_begins : (top : ℕ) (memory : Memory) (ty : Ty)
      → typed (called_in top call memory args ty) ≡ typed (left top call args (record { memory = memory; waiting = [] }) (calls ty))
  unfolding and_then
  walk_begins top memory ty =
      let e : top - 0 ≡ top = omega arith in
      ap (λ depth. typed (called_in depth call memory args ty)) (sym e)
      ∙ sym (then_then (called_in (top - 0) call memory args ty) (λ (call_result : Called). Done call_result) (λ (call_result : Called). Done call_result.ty))

module _ (top : ℕ) (call : Call) (args : List Arg) (whole : Step Called) (start : Trace) where
  -- something of a type was called
  pub called_goes_on : IsRead args → (walk : Walk) (ty : Ty) (stood : Stood) (old new : Trace) → run (form_stepped call args walk ty (callee_form ty)) old ≡ (stood, new) → Grown old new
      → Going (left top call args walk (calls ty)) old whole start → Going (left top call args stood.walk stood.standing) new whole start
  called_goes_on read walk ty stood old new first grown before =
      record { same = sym (stepped_runs top call args walk read ty stood old new first) ∙ before.same; grown = grown_trans before.grown grown }

  -- a call gave a type
  pub given_goes_on : (memory : Memory) (waiting : List Waiting) (ty : Ty) (stood : Stood) (trace : Trace) → stood ≡ waiting_given memory waiting ty → classes_waiting waiting ≤ top
      → Going (left top call args (record { memory = memory; waiting = waiting }) (gives ty)) trace whole start → Going (left top call args stood.walk stood.standing) trace whole start
  given_goes_on memory waiting ty stood trace is within before =
      record {
        same =
            ap (λ (s : Stood). run (left top call args s.walk s.standing) trace) is
            ∙ ap (λ r. run r trace) (sym (given_left top call args memory waiting ty within))
            ∙ before.same;
        grown = before.grown;
      }

  -- a `__call__` was met that was not met before
  pub begun_goes_on : (walk : Walk) (c : Id) (bound : Ty) (next : Walk) (trace : Trace) → next ≡ begun walk c → classes_waiting walk.waiting < top
      → Going (left top call args walk (meets c bound)) trace whole start → Going (left top call args next (calls bound)) trace whole start
  begun_goes_on walk c bound next trace is within before =
      record {
        same =
            ap (λ (w : Walk). run (left top call args w (calls bound)) trace) is
            ∙ ap (λ r. run r trace) (sym (begun_left top call args walk c bound within))
            ∙ before.same;
        grown = before.grown;
      }

  -- a walk is at its end
  pub walk_ends : (walk : Walk) (ty : Ty) (before : Step Called) (old new : Trace) → run (left_met top call args walk (came ty)) new ≡ run before old → Going before old whole start
      → run (typed whole) start ≡ (ty, new)
  walk_ends walk ty before old new last going =
      let found : Called = record { ty = ty; memory = walk.memory } in
      after whole (λ (call_result : Called). Done call_result.ty) start new new found ty (sym going.same ∙ sym last) refl
