use Rattle.std.proofs.Common.{◌≡◌, drop, ap, ◌∙◌}
use Rattle.pyc_token.specs.Cuts.{cuts}
use Rattle.pyc_lex.specs.Lines.{start_at, and_then, read, finished, lines_of}
use Rattle.pyc_lex.proofs.MarkLemmas.{mark_boundary}
use Rattle.pyc_lex.proofs.ScanLemmas.{lines_of-no_utf8, lines_of-text, lines_answer, fault_answer, texts_answer, spans_answer, codes_answer, order_answer, limits_answer}
use Rattle.pyc_lex.proofs.lines.scan.Goals as goal

pub returns-in_default-clause-fault : goal.returns-in_default-clause-fault
returns-in_default-clause-fault c = λ _. lines_of-no_utf8 c.args.bytes.now c.in_default.ensures.cases.0

pub split_at-requires : goal.split_at-requires
split_at-requires c =
    rw (c.in-Ok.ensures.cases.0, c.mark_len-from.ensures.value) (mark_boundary c.args.bytes.now c.in-Ok.ensures.cases.1)

the_text : (c : goal.After-read) → lines_of c.args.bytes.now ≡ and_then (read (start_at c.mark_len-from.result) (cuts c.split_at.result.1.now)) finished
the_text c = lines_of-text _ _ _ c.in-Ok.ensures.cases.1 c.mark_len-from.ensures.value (c.split_at.ensures.back ∙ ap (drop c.mark_len-from.result) c.in-Ok.ensures.cases.0)

pub returns-clause-lines : goal.returns-clause-lines
returns-clause-lines c = lines_answer _ _ c.read.result (the_text c) c.read.ensures

pub returns-clause-fault : goal.returns-clause-fault
returns-clause-fault c = fault_answer _ _ c.read.result (the_text c) c.read.ensures

pub returns-clause-texts : goal.returns-clause-texts
returns-clause-texts c = texts_answer c.args.bytes.now c.in-Ok.ensures.cases.1 c.read.result (returns-clause-lines c)

pub returns-clause-spans : goal.returns-clause-spans
returns-clause-spans c = spans_answer c.args.bytes.now c.in-Ok.ensures.cases.1 c.read.result (returns-clause-lines c)

pub returns-clause-codes : goal.returns-clause-codes
returns-clause-codes c = codes_answer c.args.bytes.now c.in-Ok.ensures.cases.1 c.read.result (returns-clause-lines c)

pub returns-clause-order : goal.returns-clause-order
returns-clause-order c = order_answer c.args.bytes.now c.in-Ok.ensures.cases.1 c.read.result (returns-clause-lines c)

pub returns-clause-limits : goal.returns-clause-limits
returns-clause-limits c = limits_answer c.args.bytes.now c.in-Ok.ensures.cases.1 c.read.result (returns-clause-lines c)
