use Rattle.std.proofs.Common.{◌≡◌, ◌+◌, Bool, [], drop, ap, sym, ◌∙◌, arith, if◌then◌else◌}
use Rattle.std.proofs.lemmas.List.{drop_all}
use Rattle.pyc_overrides.proofs.Turns.{asked_turn, no_details, placed_after}
use Rattle.pyc_overrides.specs.Parameters.{parameters_details, place_after}
use Rattle.pyc_reading.specs.Traces.{all_noted}
use Rattle.pyc_reading.specs.Owing.{detail_keys}
use Rattle.pyc_overrides.specs.Views.{override_of}
use Rattle.pyc_reading.proofs.RunLemmas.{grown_trans}
use Rattle.pyc_type_forms.specs.TypeView.{param_of, param_row}
use Rattle.pyc_overrides.proofs.parameters.ask_parameters.Goals as goal
use Rattle.pyc_overrides.proofs.parameters.ask_parameters.Goals.{then-is_plain, else-is_plain}

pub loop-want-preserved : goal.loop-want-preserved
loop-want-preserved g c =
    let place = c.loop-want.place in
    let want = c.want-item.result in
    let after = placed_after place want c.is_plain.result c.is_plain.ensures in
    let placed : c.if-is_plain.place ≡ place_after place (param_of want).slot =
    elim c.if-is_plain.branch [
      | then-is_plain w ↦ w.place-is ∙ sym (after ∙ ap (λ (b : Bool). if b then place + 1 else place) w.if-is_plain.true)
      | else-is_plain w ↦ w.place-is ∙ sym (after ∙ ap (λ (b : Bool). if b then place + 1 else place) w.if-is_plain.false)
    ] in
    record {
      same =
          asked_turn (override_of c.args.reported.now) (param_row c.args.gots.now) place c.if-is_plain.place c.args.wants.now c.loop-want.want-index want _ _ _
          c.loop-want-test.true c.want-item.is c.in_ok-ask_parameter.ensures.done placed c.loop-want.invariant.same;
      grown = grown_trans c.loop-want.invariant.grown c.ask_parameter.ensures.grown;
      within =
          elim c.if-is_plain.branch [
            | then-is_plain w ↦ omega (arith, c.loop-want.invariant.within)
            | else-is_plain w ↦ omega (arith, c.loop-want.invariant.within)
          ];
    }

pub returns : goal.returns
returns g c =
    let reported = override_of c.args.reported.now in
    let gots = param_row c.args.gots.now in
    let place = c.loop-want.place in
    let now = g.N.Ask.trace c.loop-want.recorder in
    let left : drop c.loop-want.want-index c.args.wants.now ≡ [] = drop_all c.loop-want.want-index c.args.wants.now (omega arith) in
    record {
      done =
          sym (ap (λ l. all_noted now (detail_keys (parameters_details reported gots place (param_row l)))) left
          ∙ ap (λ ds. all_noted now (detail_keys ds)) (no_details reported gots place))
          ∙ c.loop-want.invariant.same;
      grown = c.loop-want.invariant.grown;
    }
