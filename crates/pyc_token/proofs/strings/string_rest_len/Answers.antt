use Rattle.std.proofs.Common.{◌-◌, ◌+◌, length, arith, sym, ◌∙◌}
use Rattle.std.proofs.lemmas.Grind.{common_steps}
use Rattle.pyc_token.proofs.StringLemmas.{closing-start, closing-end, closing-out_of_turns, closing-closes, closing-ends, closing-past, closing-past_run, closing-step}
use Rattle.pyc_token.proofs.strings.string_rest_len.Goals as goal

pub loop-turn-init : goal.loop-turn-init
loop-turn-init c = closing-start _ _ _ (omega arith)

pub returns-then-begins_with-clause-value : goal.returns-then-begins_with-clause-value
returns-then-begins_with-clause-value c =
    let run = closing-past_run _ _ _ _ _ _ _ _ c.requires c.byte_at-quote.ensures c.inner_len.ensures.value c.split_at.ensures.back c.loop-turn.invariant in
    closing-closes _ _ _ _ _ run (grind (arith, common_steps)) (sym c.begins_with.ensures ∙ c.if-begins_with.true)

pub returns-then-is_cut_off-clause-value : goal.returns-then-is_cut_off-clause-value
returns-then-is_cut_off-clause-value c =
    let run = closing-past_run _ _ _ _ _ _ _ _ c.requires c.byte_at-quote.ensures c.inner_len.ensures.value c.split_at.ensures.back c.loop-turn.invariant in
    closing-ends _ _ _ _ _ run (grind (arith, common_steps)) (sym c.begins_with.ensures ∙ c.if-begins_with.false) (sym c.is_cut_off.ensures ∙ c.if-is_cut_off.true)

pub returns-then-len-rest-clause-value : goal.returns-then-len-rest-clause-value
returns-then-len-rest-clause-value c =
    let run = closing-past_run _ _ _ _ _ _ _ _ c.requires c.byte_at-quote.ensures c.inner_len.ensures.value c.split_at.ensures.back c.loop-turn.invariant in
    closing-past _ _ _ _ _ run c.unit_len-len.result (grind (arith, common_steps))
    (sym c.begins_with.ensures ∙ c.if-begins_with.false) (sym c.is_cut_off.ensures ∙ c.if-is_cut_off.false) c.unit_len-len.ensures.value (omega arith)

pub loop-turn-preserved : goal.loop-turn-preserved
loop-turn-preserved c =
    let run = closing-past_run _ _ _ _ _ _ _ _ c.requires c.byte_at-quote.ensures c.inner_len.ensures.value c.split_at.ensures.back c.loop-turn.invariant in
    closing-step _ _ _ _ _ run c.unit_len-len.result (length c.args.text.now - (c.loop-turn._turn + 1)) c.split_at-in-loop-turn.result.1.now (grind (arith, common_steps))
    (sym c.begins_with.ensures ∙ c.if-begins_with.false) (sym c.is_cut_off.ensures ∙ c.if-is_cut_off.false) c.unit_len-len.ensures.value (omega arith) c.unit_len-len.ensures.least c.split_at-in-loop-turn.ensures.back
    (omega (arith, run.ends, c.split_at-in-loop-turn.ensures.back_len, c.unit_len-len.ensures.least))

pub returns-after-loop-turn-clause-value : goal.returns-after-loop-turn-clause-value
returns-after-loop-turn-clause-value c = closing-out_of_turns _ _ _ _ _ c.loop-turn.invariant (omega arith)

pub returns-then-is_empty-clause-value : goal.returns-then-is_empty-clause-value
returns-then-is_empty-clause-value c =
    let run = closing-past_run _ _ _ _ _ _ _ _ c.requires c.byte_at-quote.ensures c.inner_len.ensures.value c.split_at.ensures.back c.loop-turn.invariant in
    closing-end _ _ _ _ _ run (grind (arith, common_steps))
