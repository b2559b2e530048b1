use Rattle.std.proofs.Common.{◌≡◌, ◌∙◌, ◌<◌, length, rules}
use Rattle.std.specs.Char.{encode_utf8}
use Rattle.pyc_console.proofs.TextLemmas.{made_all, made_fault, made_last, made_none, word_text_marked, word_text_same}
use Rattle.pyc_console.proofs.text.word_text.Goals as goal

pub loop-chunk-init : goal.loop-chunk-init
loop-chunk-init c =
    rw (c.new-text.ensures.bytes, c.into_iter-chunk-iterator.ensures.into_iter_gives, c.utf8_chunks-chunk-items.ensures.rest) (made_none c.args.bytes.now)

pub loop-chunk-preserved-in-Continue-branch-2 : goal.loop-chunk-preserved-in-Continue-branch-2
unfolding encode_utf8
loop-chunk-preserved-in-Continue-branch-2 c =
    let steps = c.in-Some.ensures.steps in
    let some : 0 < length c.in-Some.chunk.invalid.now = search rules in
    rw (c.in_ok-push.ensures.bytes, c.in_ok-push_str.ensures.bytes, c.valid.ensures)
    (made_fault _ _ _ _ steps.0 steps.3.0 _ _ steps.1 c.loop-chunk.invariant steps.3.1 some)

pub loop-chunk-preserved : goal.loop-chunk-preserved
loop-chunk-preserved c =
    let steps = c.in-Some.ensures.steps in
    let none : length c.in-Some.chunk.invalid.now ≡ 0 = search rules in
    rw (c.in_ok-push_str.ensures.bytes, c.valid.ensures)
    (made_last _ _ _ _ steps.0 steps.3.0 _ _ steps.1 c.loop-chunk.invariant none (steps.2 none))

pub returns-clause-text : goal.returns-clause-text
returns-clause-text c = made_all _ _ _ c.loop-chunk.invariant c.in-None.ensures.steps.0

pub returns-clause-same : goal.returns-clause-same
returns-clause-same c is = made_all _ _ _ c.loop-chunk.invariant c.in-None.ensures.steps.0 ∙ word_text_same _ is

pub returns-clause-marked : goal.returns-clause-marked
returns-clause-marked c is = rw (made_all _ _ _ c.loop-chunk.invariant c.in-None.ensures.steps.0) (word_text_marked _ is)
