use Rattle.std.proofs.lemmas.Grind.{common_steps}
use Rattle.std.proofs.Common.{◌≡◌, ◌∷◌, ◌∙◌, [], ◌<◌, ◌≤◌, List, length, map, ap, sym, subst, arith, rules, true, false}
use Rattle.std.proofs.lemmas.List.{map_push}
use Rattle.pyc_annotations.proofs.Arguments.{readings_of, length_readings, form_taken, form_not_taken, callable_two, callable_other, tuple_other}
use Rattle.pyc_annotations.proofs.Sizes.{arguments_below, union_below}
use Rattle.pyc_annotations.proofs.Steps.{performs_same, performing}
use Rattle.pyc_annotations.proofs.Turns.{argument_turn, type_turn, union_turn, union_readings}
use Rattle.pyc_annotations.specs.Annotations.{Annotation, annotation_of_type, plain_callable, more_types, more_unions, type_readings, read_type, callable_of, shape_reading, takes, subscripted_rule, union_rule, subscript_rule, built_rule, form_rule}
use Rattle.pyc_annotations.specs.Views.{annotation_in, subscripted_of}
use Rattle.pyc_names.specs.InterfaceView.{interface_in}
use Rattle.pyc_reading.proofs.RunLemmas.{after, grown_trans}
use Rattle.pyc_reading.specs.Traces.{Step, run}
use Rattle.pyc_reading.specs.Readings.{Done, and_then}
use Rattle.pyc_type_exprs.specs.declared.forms.ArgumentShape.TheFolds.{the_lemmas}
use Rattle.pyc_type_exprs.specs.declared.forms.ArgumentShape.TheViews.{size-TypeExpr, size-TypeArgument}
use Rattle.pyc_type_exprs.specs.TypeExprs.{TypeExpr as Written, list_shape, other_shape, type_exprs, union_written, unions_written}
use Rattle.pyc_type_exprs.specs.TypeExprView.{type_expr_of, shape_in, dotted_name_of}
use Rattle.pyc_type_forms.specs.declared.types.Ty.{Ty}
use Rattle.pyc_type_forms.specs.TypeView.{ty_of}
use Rattle.pyc_type_forms.specs.Unions.{union_of}
use denote.Param.Weighed.{most}
use Rattle.pyc_annotations.proofs.reading.+reading.Goals.{read_callable-in_default-via-then-arguments-lt2, read_callable-in_default-via-else-arguments-lt2+else-arguments-lt3}
use Rattle.pyc_annotations.proofs.reading.+reading.Goals.{read_tuple-in_default-via-then-arguments-lt2, read_tuple-in_default-via-else-arguments-lt2+else-arguments-lt3}
use Rattle.pyc_annotations.proofs.reading.+reading.Goals as goal

pub argument_types-loop-argument-preserved : goal.argument_types-loop-argument-preserved
argument_types-loop-argument-preserved g t c =
    let types = c.loop-argument.types.items in
    record {
      same =
          argument_turn (interface_in c.args.file.now) (map ty_of types) _ c.args.arguments.now c.loop-argument.argument-index _ _ _ _ c.loop-argument-test.true c.argument-item.is c.in_ok-found.ensures.done (ap (map ty_of) c.in_ok-push.ensures.items ∙ map_push ty_of types c.in_ok-found.found.ty)
          ∙ c.loop-argument.invariant.same;
      grown = grown_trans c.loop-argument.invariant.grown c.read_type.ensures.grown;
    }

pub listed_types-loop-written-preserved : goal.listed_types-loop-written-preserved
listed_types-loop-written-preserved g t c =
    let types = c.loop-written.types.items in
    record {
      same =
          type_turn (interface_in c.args.file.now) (map ty_of types) _ c.args.listed.now c.loop-written.written-index _ _ _ _ c.loop-written-test.true c.written-item.is c.in_ok-found.ensures.done (ap (map ty_of) c.in_ok-push.ensures.items ∙ map_push ty_of types c.in_ok-found.found.ty)
          ∙ c.loop-written.invariant.same;
      grown = grown_trans c.loop-written.invariant.grown c.read_type.ensures.grown;
    }

pub read_callable-returns-in_ok-found-in-List : goal.read_callable-returns-in_ok-found-in-List
read_callable-returns-in_ok-found-in-List g t c =
    let file = interface_in c.args.file.now in
    let trace = g.N.Ask.trace c.args.recorder.now in
    let answer = read_type file (type_expr_of c.answer-item.result.written) in
    let listed : shape_in c.params-item.result.shape ≡ list_shape (type_exprs (map type_expr_of c.deref.result.now)) = rw c.in-List.is (search (rules, the_lemmas)) in
    let found : run (and_then answer (λ found. Done (annotation_of_type (plain_callable (map ty_of c.in_ok-types-in-List.types.items) found.ty)))) (g.N.Ask.trace c.listed_types.new.recorder) ≡ (annotation_in c.in_ok-found-in-List.found, g.N.Ask.trace c.read_plain_callable.new.recorder)
    = subst (λ (l : List Ty). run (and_then answer (λ found. Done (annotation_of_type (plain_callable (map ty_of l) found.ty)))) (g.N.Ask.trace c.listed_types.new.recorder) ≡ (annotation_in c.in_ok-found-in-List.found, g.N.Ask.trace c.read_plain_callable.new.recorder)) c.deref-in-List.ensures.value c.in_ok-found-in-List.ensures.done in
    record {
      done =
          ap (λ (r : Step Annotation). run r trace) (callable_two file c.args.at c.args.arguments.now _ _ c.in-len2.len_at_least c.in-len2.len_below c.params-item.is c.answer-item.is ∙ ap (λ s. callable_of c.args.at (shape_reading file s) answer) listed)
          ∙ after (more_types [] (type_readings file (type_exprs (map type_expr_of c.deref.result.now)))) (λ tys. and_then answer (λ found. Done (annotation_of_type (plain_callable tys found.ty)))) trace _ _ _ _ c.in_ok-types-in-List.ensures.done found;
      grown = grown_trans c.listed_types.ensures.grown c.read_plain_callable.ensures.grown;
    }

pub read_callable-returns-in-Other : goal.read_callable-returns-in-Other
read_callable-returns-in-Other g t c =
    let file = interface_in c.args.file.now in
    let answer = read_type file (type_expr_of c.answer-item.result.written) in
    let other : shape_in c.params-item.result.shape ≡ other_shape = rw c.in-Other.is (search (rules, the_lemmas)) in
    performs_same _ _ _ _ _ _ (callable_two file c.args.at c.args.arguments.now _ _ c.in-len2.len_at_least c.in-len2.len_below c.params-item.is c.answer-item.is ∙ ap (λ s. callable_of c.args.at (shape_reading file s) answer) other) c.invalid.ensures

pub read_callable-returns-in_default : goal.read_callable-returns-in_default
read_callable-returns-in_default g t c =
    let file = interface_in c.args.file.now in
    let xs = c.args.arguments.now in
    let other : length xs ≡ 2 → ⊥ = elim c.in_default.branch as (λ b. length xs ≡ 2 → ⊥) [
      | read_callable-in_default-via-then-arguments-lt2 w ↦ λ e. let h : length xs < 2 = search rules in omega arith
      | read_callable-in_default-via-else-arguments-lt2+else-arguments-lt3 w ↦ λ e. let h : 3 ≤ length xs = search rules in omega arith
    ] in
    performs_same _ _ _ _ _ _ (callable_other c.args.at (readings_of file xs) (λ e. other (sym (length_readings file xs) ∙ e))) c.invalid-in_default.ensures

pub read_subscripted-returns-then-takes : goal.read_subscripted-returns-then-takes
read_subscripted-returns-then-takes g t c =
    let name = dotted_name_of c.args.written.now.name.now in
    let xs = readings_of (interface_in c.args.file.now) c.args.arguments.now in
    let taken : takes c.in-Form.form (length xs) ≡ true = ap (takes c.in-Form.form) (length_readings (interface_in c.args.file.now) c.args.arguments.now) ∙ sym c.takes.ensures ∙ c.if-takes.true in
    performs_same _ _ _ _ _ _ (ap (λ s. subscripted_rule c.args.written.now.at name xs (subscripted_of s)) c.in-Form.is ∙ form_taken c.args.written.now.at name xs c.in-Form.form taken) c.read_form.ensures

pub read_subscripted-returns-else-takes : goal.read_subscripted-returns-else-takes
read_subscripted-returns-else-takes g t c =
    let name = dotted_name_of c.args.written.now.name.now in
    let xs = readings_of (interface_in c.args.file.now) c.args.arguments.now in
    let not_taken : takes c.in-Form.form (length xs) ≡ false = ap (takes c.in-Form.form) (length_readings (interface_in c.args.file.now) c.args.arguments.now) ∙ sym c.takes.ensures ∙ c.if-takes.false in
    performs_same _ _ _ _ _ _ (ap (λ s. subscripted_rule c.args.written.now.at name xs (subscripted_of s)) c.in-Form.is ∙ form_not_taken c.args.written.now.at name xs c.in-Form.form not_taken) c.wrong_count.ensures

pub read_tuple-returns-in_default : goal.read_tuple-returns-in_default
read_tuple-returns-in_default g t c =
    let file = interface_in c.args.file.now in
    let xs = c.args.arguments.now in
    let other : length xs ≡ 2 → ⊥ = elim c.in_default.branch as (λ b. length xs ≡ 2 → ⊥) [
      | read_tuple-in_default-via-then-arguments-lt2 w ↦ λ e. let h : length xs < 2 = search rules in omega arith
      | read_tuple-in_default-via-else-arguments-lt2+else-arguments-lt3 w ↦ λ e. let h : 3 ≤ length xs = search rules in omega arith
    ] in
    performs_same _ _ _ _ _ _ (tuple_other (readings_of file xs) (λ e. other (sym (length_readings file xs) ∙ e))) c.read_built-in_default.ensures

pub read_rest-loop-right-preserved : goal.read_rest-loop-right-preserved
read_rest-loop-right-preserved g t c =
    record {
      same =
          union_turn (interface_in c.args.file.now) (annotation_in c.loop-right.left) _ c.args.rest.now c.loop-right.right-index _ _ _ c.loop-right-test.true c.right-item.is c.in_ok-left.ensures.done
          ∙ c.loop-right.invariant.same;
      grown = grown_trans c.loop-right.invariant.grown c.read_right.ensures.grown;
    }

pub read_type-returns-in_ok-union-in-Union : goal.read_type-returns-in_ok-union-in-Union
unfolding union_rule
read_type-returns-in_ok-union-in-Union g t c =
    let file = interface_in c.args.file.now in
    let trace = g.N.Ask.trace c.args.recorder.now in
    let first = type_expr_of c.deref.result.now in
    let between = c.deref-in-Union.result.now in
    let last = type_expr_of c.deref-in-Union-2.result.now in
    let front = unions_written first (map type_expr_of between) in
    let written : type_expr_of c.args.written.now ≡ union_written front last = rw c.in-Union.is (search (rules, the_lemmas)) in
    let left =
    union_readings file first between trace
    ∙ after (read_type file first) (λ l. more_unions l (type_readings file (type_exprs (map type_expr_of between)))) trace _ _ _ _ c.in_ok-first-in-Union.ensures.done c.in_ok-left-in-Union.ensures.done in
    record {
      done =
          ap (λ (w : Written). run (read_type file w) trace) written
          ∙ after (read_type file front) (λ l. and_then (read_type file last) (λ r. Done (annotation_of_type (union_of (l.ty ∷ r.ty ∷ []))))) trace _ _ _ _ left c.in_ok-union-in-Union.ensures.done;
      grown = grown_trans (grown_trans c.read_type.ensures.grown c.read_rest.ensures.grown) c.read_right.ensures.grown;
    }

pub read_type-read_rest-requires : goal.read_type-read_rest-requires
read_type-read_rest-requires g t c κs within =
    let h : most size-TypeExpr c.deref-in-Union.result.now < size-TypeExpr c.args.written.now = rw (c.in-Union.is, c.deref-in-Union.ensures.value) (union_below _ _ _) in
    (omega (arith, h, c.decreases), search rules)

pub read_type-read_subscript-requires : goal.read_type-read_subscript-requires
read_type-read_subscript-requires g t c κs within =
    let h : most size-TypeArgument c.deref-in-Subscript.result.now < size-TypeExpr c.args.written.now = rw (c.in-Subscript.is, c.deref-in-Subscript.ensures.value) (arguments_below _ _ _ _) in
    (omega (arith, h, c.decreases), search rules)

pub read_type-returns-in_err-first-in-Union : goal.read_type-returns-in_err-first-in-Union
unfolding union_rule
read_type-returns-in_err-first-in-Union g t c = first_of (grind (arith, performing), search rules)

pub read_type-returns-in_err-union-in-Union : goal.read_type-returns-in_err-union-in-Union
read_type-returns-in_err-union-in-Union g t c =
    record {
      done = search rules;
      grown = grown_trans (grown_trans c.read_type.ensures.grown c.read_rest.ensures.grown) c.read_right.ensures.grown;
    }

pub read_subscript-returns-in_err-meaning : goal.read_subscript-returns-in_err-meaning
unfolding subscript_rule
read_subscript-returns-in_err-meaning g t c = first_of (grind (arith, performing), search rules)

pub read_subscript-returns : goal.read_subscript-returns
unfolding subscript_rule
read_subscript-returns g t c = first_of (grind (arith, performing), search rules)

pub read_built-returns-in_err-types : goal.read_built-returns-in_err-types
unfolding built_rule
read_built-returns-in_err-types g t c = first_of (grind (arith, performing), search rules)

pub read_built-returns-in_err-ty : goal.read_built-returns-in_err-ty
unfolding built_rule
read_built-returns-in_err-ty g t c = first_of (grind (arith, performing), search rules)

pub read_built-returns : goal.read_built-returns
unfolding built_rule
read_built-returns g t c = first_of (grind (arith, performing), search rules)

pub read_object-returns-in_err-found : goal.read_object-returns-in_err-found
read_object-returns-in_err-found g t c = first_of (grind (arith, performing), search rules)

pub read_object-returns : goal.read_object-returns
read_object-returns g t c = first_of (grind (arith, performing), search rules)

pub read_any_length-returns-in_err-found : goal.read_any_length-returns-in_err-found
read_any_length-returns-in_err-found g t c = first_of (grind (arith, performing), search rules)

pub read_any_length-returns-in_err-ty : goal.read_any_length-returns-in_err-ty
read_any_length-returns-in_err-ty g t c = first_of (grind (arith, performing), search rules)

pub read_any_length-returns : goal.read_any_length-returns
read_any_length-returns g t c = first_of (grind (arith, performing), search rules)

pub read_any_callable-returns-in_err-found : goal.read_any_callable-returns-in_err-found
read_any_callable-returns-in_err-found g t c = first_of (grind (arith, performing), search rules)

pub read_any_callable-returns-in_err-ty : goal.read_any_callable-returns-in_err-ty
read_any_callable-returns-in_err-ty g t c = first_of (grind (arith, performing), search rules)

pub read_any_callable-returns : goal.read_any_callable-returns
read_any_callable-returns g t c = first_of (grind (arith, performing), search rules)

pub read_plain_callable-returns-in_err-found : goal.read_plain_callable-returns-in_err-found
read_plain_callable-returns-in_err-found g t c = first_of (grind (arith, performing), search rules)

pub read_plain_callable-returns-in_err-ty : goal.read_plain_callable-returns-in_err-ty
read_plain_callable-returns-in_err-ty g t c = first_of (grind (arith, performing), search rules)

pub read_plain_callable-returns : goal.read_plain_callable-returns
read_plain_callable-returns g t c = first_of (grind (arith, performing), search rules)

pub argument_types-returns-in_err-types : goal.argument_types-returns-in_err-types
unfolding more_types
argument_types-returns-in_err-types g t c = first_of (grind (arith, performing), search rules)

pub argument_types-returns-in_err-found : goal.argument_types-returns-in_err-found
unfolding more_types
argument_types-returns-in_err-found g t c = first_of (grind (arith, performing), search rules)

pub argument_types-returns-in_err-push : goal.argument_types-returns-in_err-push
unfolding more_types
argument_types-returns-in_err-push g t c = first_of (grind (arith, performing), search rules)

pub listed_types-returns-in_err-types : goal.listed_types-returns-in_err-types
unfolding more_types
listed_types-returns-in_err-types g t c = first_of (grind (arith, performing), search rules)

pub listed_types-returns-in_err-found : goal.listed_types-returns-in_err-found
unfolding more_types
listed_types-returns-in_err-found g t c = first_of (grind (arith, performing), search rules)

pub listed_types-returns-in_err-push : goal.listed_types-returns-in_err-push
unfolding more_types
listed_types-returns-in_err-push g t c = first_of (grind (arith, performing), search rules)

pub argument_types-loop-argument-init : goal.argument_types-loop-argument-init
unfolding more_types
argument_types-loop-argument-init g t c = first_of (grind (arith, performing), search rules)

pub argument_types-returns : goal.argument_types-returns
unfolding more_types
argument_types-returns g t c = first_of (grind (arith, common_steps, performing), search rules)

pub listed_types-loop-written-init : goal.listed_types-loop-written-init
unfolding more_types
listed_types-loop-written-init g t c = first_of (grind (arith, performing), search rules)

pub listed_types-returns : goal.listed_types-returns
unfolding more_types
listed_types-returns g t c = first_of (grind (arith, common_steps, performing), search rules)

pub read_callable-returns-in_err-found-in-List : goal.read_callable-returns-in_err-found-in-List
read_callable-returns-in_err-found-in-List g t c = first_of (grind (arith, common_steps), search rules)

pub read_callable-returns-in_err-types-in-List : goal.read_callable-returns-in_err-types-in-List
read_callable-returns-in_err-types-in-List g t c = first_of (grind (arith, common_steps), search rules)

pub read_form-returns-in-Callable : goal.read_form-returns-in-Callable
unfolding form_rule
read_form-returns-in-Callable g t c = first_of (grind (arith, common_steps), search rules)

pub read_form-returns-in-Tuple : goal.read_form-returns-in-Tuple
unfolding form_rule
read_form-returns-in-Tuple g t c = first_of (grind (arith, common_steps), search rules)

pub read_form-returns-in-Type : goal.read_form-returns-in-Type
unfolding form_rule
read_form-returns-in-Type g t c = first_of (grind (arith, common_steps), search rules)

pub read_form-returns-in_default : goal.read_form-returns-in_default
unfolding form_rule
read_form-returns-in_default g t c = first_of (grind (arith, common_steps), search rules)

pub read_subscripted-returns-in-Value : goal.read_subscripted-returns-in-Value
unfolding subscripted_rule
read_subscripted-returns-in-Value g t c = first_of (grind (arith, common_steps), search rules)

pub read_subscripted-returns-in-Wrong : goal.read_subscripted-returns-in-Wrong
unfolding subscripted_rule
read_subscripted-returns-in-Wrong g t c = first_of (grind (arith, common_steps), search rules)

pub read_subscripted-returns-in_err-of_class-in-Class : goal.read_subscripted-returns-in_err-of_class-in-Class
unfolding subscripted_rule
read_subscripted-returns-in_err-of_class-in-Class g t c = first_of (grind (arith, common_steps), search rules)

pub read_subscripted-returns-in_ok-of_class-in-Class : goal.read_subscripted-returns-in_ok-of_class-in-Class
unfolding subscripted_rule
read_subscripted-returns-in_ok-of_class-in-Class g t c = first_of (grind (arith, common_steps), search rules)

pub read_right-returns-in_err-right : goal.read_right-returns-in_err-right
read_right-returns-in_err-right g t c = first_of (grind (arith, performing), search rules)

pub read_right-returns-in_err-union : goal.read_right-returns-in_err-union
read_right-returns-in_err-union g t c = first_of (grind (arith, performing), search rules)

pub read_right-returns : goal.read_right-returns
read_right-returns g t c = first_of (grind (arith, performing), search rules)

pub read_rest-loop-right-init : goal.read_rest-loop-right-init
unfolding more_unions
read_rest-loop-right-init g t c = first_of (grind (arith, performing), search rules)

pub read_rest-returns : goal.read_rest-returns
unfolding more_unions
read_rest-returns g t c = first_of (grind (arith, common_steps, performing), search rules)

pub read_rest-returns-in_err-left : goal.read_rest-returns-in_err-left
unfolding more_unions
read_rest-returns-in_err-left g t c = first_of (grind (arith, performing), search rules)

pub read_type-returns-in_err-left-in-Union : goal.read_type-returns-in_err-left-in-Union
unfolding union_rule
read_type-returns-in_err-left-in-Union g t c = first_of (grind (arith, performing), search rules)
