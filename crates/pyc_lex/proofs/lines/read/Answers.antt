use Rattle.std.proofs.Common.{◌≡◌, ◌<◌, ◌+◌, ◌-◌, length, Result, sym, ap, subst, ◌∙◌, arith}
use Rattle.std.proofs.lemmas.Grind.{common_steps}
use Rattle.pyc_lex.specs.declared.fault.LexFault.{LexFault}
use Rattle.pyc_lex.specs.Lines.{Reading, Lexis, and_then, finished}
use Rattle.pyc_lex.specs.View.{AnswersScan}
use Rattle.pyc_lex.specs.Reader.{reading_of}
use Rattle.pyc_token.proofs.CutLemmas.{cut_lexeme}
use Rattle.pyc_lex.proofs.ReadLemmas.{answers_err, read_end, on_the_way-start, on_the_way-bad, on_the_way-fault, on_the_way-step}
use Rattle.pyc_lex.proofs.lines.read.Goals as goal
use Rattle.pyc_lex.proofs.lines.read.Goals.{else-loop-turn-test, then-loop-turn-test+then-is_empty}

pub loop-turn-init : goal.loop-turn-init
loop-turn-init c = on_the_way-start _ _ _ _ c.in_ok-reader.ensures (omega arith) c.utf8.text

pub split_at-requires : goal.split_at-requires
split_at-requires c =
    (cut_lexeme c.loop-turn.rest.now c.in-Ok.lexeme c.in-Ok.len c.loop-turn.invariant.utf8 (grind (arith, common_steps)) (sym c.cut_first_lexeme.ensures ∙ c.in-Ok.is)).boundary

pub step-requires-clause-within : goal.step-requires-clause-within
step-requires-clause-within c =
    omega (arith, c.split_at.ensures.front_len, c.split_at.ensures.back_len, c.loop-turn.invariant.position, c.requires)

pub step-requires-clause-not_empty : goal.step-requires-clause-not_empty
step-requires-clause-not_empty c =
    let least = (cut_lexeme c.loop-turn.rest.now c.in-Ok.lexeme c.in-Ok.len c.loop-turn.invariant.utf8 (grind (arith, common_steps)) (sym c.cut_first_lexeme.ensures ∙ c.in-Ok.is)).least in
    omega (arith, c.split_at.ensures.front_len, least)

pub returns-in_err-step-in-Ok : goal.returns-in_err-step-in-Ok
returns-in_err-step-in-Ok c =
    let some : 0 < length c.loop-turn.rest.now = grind (arith, common_steps) in
    answers_err _ c.in_err-step-in-Ok.field-0.0 c.from_residual-in_err-step-in-Ok.result c.from_residual-in_err-step-in-Ok.ensures.1 (λ other.
    ap (λ (x : Result Reading LexFault). and_then x finished)
    (sym (on_the_way-fault _ _ _ _ _ c.loop-turn.invariant some c.in-Ok.lexeme c.in-Ok.len (length c.args.text.now - (c.loop-turn._turn + 1)) (sym c.cut_first_lexeme.ensures ∙ c.in-Ok.is) (omega arith)
    c.in_err-step-in-Ok.field-0.0 c.split_at.result.0.now c.split_at.ensures.front (c.in_err-step-in-Ok.ensures other))))

pub returns-in-Err : goal.returns-in-Err
returns-in-Err c = λ other.
    let some : 0 < length c.loop-turn.rest.now = grind (arith, common_steps) in
    ap (λ (x : Result Reading LexFault). and_then x finished)
    (sym (on_the_way-bad _ _ _ _ _ c.loop-turn.invariant some c.in-Err.fault (sym c.cut_first_lexeme.ensures ∙ c.in-Err.is)) ∙ c.fault.ensures other)

pub loop-turn-preserved : goal.loop-turn-preserved
loop-turn-preserved c =
    let some : 0 < length c.loop-turn.rest.now = grind (arith, common_steps) in
    on_the_way-step _ _ _ _ _ c.loop-turn.invariant some c.in-Ok.lexeme c.in-Ok.len (length c.args.text.now - (c.loop-turn._turn + 1)) (sym c.cut_first_lexeme.ensures ∙ c.in-Ok.is) (omega arith)
    (reading_of c.step.new.self) c.split_at.result.0.now c.split_at.result.1.now c.split_at.ensures.front c.split_at.ensures.back c.in_ok-step-in-Ok.ensures

pub returns : goal.returns
returns c =
    let ends : length c.loop-turn.rest.now ≡ 0 = elim c.loop-turn-test.branch [
      | else-loop-turn-test w ↦ omega (arith, c.loop-turn.invariant.enough)
      | then-loop-turn-test+then-is_empty w ↦ grind (arith, common_steps)
    ] in
    subst (λ (x : Result Lexis LexFault). AnswersScan x c.finish.result)
    (ap (λ (x : Result Reading LexFault). and_then x finished) (sym (read_end _ _ _ ends) ∙ c.loop-turn.invariant.reads)) c.finish.ensures
