use Rattle.std.proofs.Common.{◌≡◌, ◌<◌, ◌-◌, ◌+◌, ◌==◌, Some, length, drop, arith, sym, ap, ◌∙◌, false, true}
use Rattle.std.proofs.lemmas.Bool.Decides.{nat_tests}
use Rattle.std.proofs.lemmas.List.{drop-drop}
use Rattle.pyc_lex.specs.Ignores.{trim_spaces}
use Rattle.pyc_lex.proofs.IgnoreLemmas.{listing-start, listing-empty, listing-last, listing-step}
use Rattle.pyc_lex.proofs.ignores.codes_at.Goals as goal

pub loop-turn-init : goal.loop-turn-init
loop-turn-init c = rw c.new-spans.ensures.items (listing-start c.args.from (length c.args.text.now + 1 - 0) c.args.text.now (omega arith))

pub returns-in_default : goal.returns-in_default
returns-in_default c =
    listing-empty _ _ _ _ _ _ c.loop-turn.invariant (length c.args.text.now + 1 - (c.loop-turn._turn + 1)) (omega arith) c.code_len-len.result c.code_len-len.ensures.value
    (sym c.in_default.is ∙ c.trim_spaces.ensures ∙ ap (trim_spaces c.loop-turn.at) c.split_at.ensures.front)

pub returns-then-is_empty : goal.returns-then-is_empty
returns-then-is_empty c =
    let left = c.split_at.ensures.back_len in
    let none = sym c.is_empty.ensures ∙ c.if-is_empty.true in
    let last : (c.code_len-len.result == length c.loop-turn.rest.now) ≡ true = grind (arith, nat_tests, left, none) in
    ap Some c.in_ok-push.ensures.items ∙ listing-last _ _ _ _ _ _ c.loop-turn.invariant (length c.args.text.now + 1 - (c.loop-turn._turn + 1)) (omega arith)
    c.code_len-len.result c.code_len-len.ensures.value c.in-Some.span (sym c.in-Some.is ∙ c.trim_spaces.ensures ∙ ap (trim_spaces c.loop-turn.at) c.split_at.ensures.front) last

pub loop-turn-preserved : goal.loop-turn-preserved
loop-turn-preserved c =
    let left = c.split_at.ensures.back_len in
    let some = sym c.is_empty.ensures ∙ c.if-is_empty.false in
    let more : (c.code_len-len.result == length c.loop-turn.rest.now) ≡ false = grind (arith, nat_tests, left, some) in
    let within : c.code_len-len.result < length c.loop-turn.rest.now = grind (arith, nat_tests, left, some) in
    rw c.in_ok-push.ensures.items (
    listing-step _ _ _ _ _ _ c.loop-turn.invariant (length c.args.text.now + 1 - (c.loop-turn._turn + 1)) (omega arith)
    c.code_len-len.result c.code_len-len.ensures.value c.in-Some.span c.split_at-in-loop-turn.result.1.now (c.loop-turn.at + (c.code_len-len.result + 1))
    (sym c.in-Some.is ∙ c.trim_spaces.ensures ∙ ap (trim_spaces c.loop-turn.at) c.split_at.ensures.front) more within
    (c.split_at-in-loop-turn.ensures.back ∙ ap (drop 1) c.split_at.ensures.back ∙ drop-drop 1 c.code_len-len.result c.loop-turn.rest.now) (omega arith))

pub returns : goal.returns
returns c = absurd (omega (arith, c.loop-turn.invariant.enough))
