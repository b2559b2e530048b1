use Rattle.std.proofs.Common.{◌≡◌, ◌+◌, Bool, [], drop, ap, sym, subst, string_bytes, IfOk, ◌∙◌, arith, if◌then◌else◌}
use Rattle.std.proofs.lemmas.List.{drop_all}
use Rattle.pyc_obligations.specs.Asking.{orders_at}
use Rattle.pyc_overrides.proofs.Turns.{no_details, text_turn, text_found, placed_after}
use Rattle.pyc_overrides.specs.Messages.{required_signature_text}
use Rattle.pyc_overrides.specs.Parameters.{parameters_details, place_after}
use Rattle.pyc_reading.specs.Owing.{text_by}
use Rattle.pyc_overrides.specs.Views.{override_of}
use Rattle.pyc_type_forms.specs.TypeView.{param_of, param_row}
use Rattle.pyc_overrides.proofs.parameters.parameters_text.Goals as goal
use Rattle.pyc_overrides.proofs.parameters.parameters_text.Goals.{then-is_plain, else-is_plain}

pub loop-want-preserved : goal.loop-want-preserved
loop-want-preserved g c =
    let place = c.loop-want.place in
    let want = c.want-item.result in
    let reported = override_of c.args.reported.now in
    let after = placed_after place want c.is_plain.result c.is_plain.ensures in
    let placed : c.if-is_plain.place ≡ place_after place (param_of want).slot =
    elim c.if-is_plain.branch [
      | then-is_plain w ↦ w.place-is ∙ sym (after ∙ ap (λ (b : Bool). if b then place + 1 else place) w.if-is_plain.true)
      | else-is_plain w ↦ w.place-is ∙ sym (after ∙ ap (λ (b : Bool). if b then place + 1 else place) w.if-is_plain.false)
    ] in
    record {
      same =
          text_turn (orders_at (g.N.Ask.trace c.args.recorder.now)) reported (param_row c.args.gots.now) place c.if-is_plain.place c.args.wants.now c.loop-want.want-index want (required_signature_text reported) _
          c.loop-want-test.true c.want-item.is (sym c.is_refused.ensures ∙ c.if-is_refused.false) placed c.loop-want.invariant.same;
      within =
          elim c.if-is_plain.branch [
            | then-is_plain w ↦ omega (arith, c.loop-want.invariant.within)
            | else-is_plain w ↦ omega (arith, c.loop-want.invariant.within)
          ];
    }

pub returns-then-is_refused : goal.returns-then-is_refused
returns-then-is_refused g c =
    let reported = override_of c.args.reported.now in
    subst (λ whole. IfOk c.required_argument_text.result (λ text. string_bytes text ≡ whole))
    (text_found (orders_at (g.N.Ask.trace c.args.recorder.now)) reported (param_row c.args.gots.now) c.loop-want.place c.args.wants.now c.loop-want.want-index c.want-item.result (required_signature_text reported) _
    c.loop-want-test.true c.want-item.is (sym c.is_refused.ensures ∙ c.if-is_refused.true) c.loop-want.invariant.same)
    c.required_argument_text.ensures

pub returns : goal.returns
returns g c =
    let reported = override_of c.args.reported.now in
    let gots = param_row c.args.gots.now in
    let place = c.loop-want.place in
    let orders = orders_at (g.N.Ask.trace c.args.recorder.now) in
    let left : drop c.loop-want.want-index c.args.wants.now ≡ [] = drop_all c.loop-want.want-index c.args.wants.now (omega arith) in
    subst (λ whole. IfOk c.required_signature_text.result (λ text. string_bytes text ≡ whole))
    (sym (ap (λ l. text_by orders (parameters_details reported gots place (param_row l)) (required_signature_text reported)) left
    ∙ ap (λ ds. text_by orders ds (required_signature_text reported)) (no_details reported gots place))
    ∙ c.loop-want.invariant.same)
    c.required_signature_text.ensures
