use Rattle.pyc_obligations.proofs.Steps.{performing}
use Rattle.std.proofs.Common.{◌≡◌, List, length, map, option_map, Bor, ap, sym, ◌∙◌, arith, rules}
use Rattle.std.proofs.lemmas.List.{length-map}
use Rattle.std.specs.List.{list_any}
use Rattle.pyc_ast.specs.ExprView.{element_of}
use Rattle.pyc_displays.specs.Displays.{tuple_display, tuple_type, types_of, is_starred}
use Rattle.pyc_displays.specs.Expecting.{expected_places}
use Rattle.pyc_reading.proofs.RunLemmas.{after}
use Rattle.pyc_reading.specs.Traces.{run}
use Rattle.pyc_reading.specs.Readings.{Done}
use Rattle.pyc_type_forms.specs.declared.types.Ty.{Ty as TyOf}
use Rattle.pyc_type_forms.specs.Types.{Ty}
use Rattle.pyc_type_forms.specs.TypeView.{ty_of}
use Rattle.pyc_displays.proofs.tuples.tuple_display.Goals as goal

pub returns : goal.returns
unfolding tuple_display
returns g c =
    let read = g.R.InferType.reads c.args.reader.now in
    let items = map element_of c.args.items.now in
    let want = option_map (λ (ty : Bor TyOf). ty_of ty.now) c.args.want in
    let starred = list_any is_starred items in
    let places : map ty_of c.in_ok-places.places.items ≡ expected_places starred (length items) want =
    c.in_ok-places.ensures ∙ ap (λ b. expected_places b (length c.args.items.now) want) c.has_starred-is_starred.ensures
    ∙ ap (λ n. expected_places starred n want) (sym (length-map c.args.items.now element_of)) in
    record {
      done =
          after (types_of read (expected_places starred (length items) want) items) (λ types. Done (tuple_type starred types)) (g.N.Ask.trace c.args.recorder.now) _ _ _ _
          (ap (λ (l : List Ty). run (types_of read l items) (g.N.Ask.trace c.args.recorder.now)) (sym places)
          ∙ ap (λ (l : List TyOf). run (types_of read (map ty_of l) items) (g.N.Ask.trace c.args.recorder.now)) (sym c.deref.ensures.value) ∙ c.in_ok-types.ensures.done)
          (ap (λ ty. (ty, g.N.Ask.trace c.read_types.new.recorder)) (sym (c.in_ok-tuple.ensures ∙ ap (λ b. tuple_type b (map ty_of c.in_ok-types.types.items)) c.has_starred-is_starred.ensures)));
      grown = c.read_types.ensures.grown;
    }

pub returns-in_err-places : goal.returns-in_err-places
unfolding tuple_display
returns-in_err-places g c = first_of (grind (arith, performing), search rules)

pub returns-in_err-types : goal.returns-in_err-types
unfolding tuple_display
returns-in_err-types g c = first_of (grind (arith, performing), search rules)

pub returns-in_err-tuple : goal.returns-in_err-tuple
unfolding tuple_display
returns-in_err-tuple g c = first_of (grind (arith, performing), search rules)
