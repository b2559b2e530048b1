use Rattle.std.proofs.Common.{◌∙◌, map, ap}
use Rattle.pyc_ast.specs.Modules.{outcome_of}
use Rattle.pyc_lex.specs.View as lex
use Rattle.pyc_lex.specs.View.{line_in, lexis_in}
use Rattle.pyc_lower.specs.Ignores.{ignore_in}
use Rattle.pyc_lower.specs.Parts.{lines_in, lowered_of}
use Rattle.pyc_lower.proofs.PartLemmas.{answers_lowered, answers_fault}
use Rattle.pyc_lower.proofs.ReadingLemmas.{lines_made, lines_bad}
use Rattle.pyc_lower.proofs.reading.scan_outcome.Goals as goal

pub returns-in-Lowered-clause-outcome : goal.returns-in-Lowered-clause-outcome
returns-in-Lowered-clause-outcome c =
    let source = c.args.source.now in
    lines_made source (lexis_in c.args.scan) (lowered_of c.in-Lowered.found) _
    (answers_lowered (lines_in source (map line_in c.args.scan.lines.items)) c.in_ok-found.field-0 c.in-Lowered.found c.in_ok-found.ensures.parts c.in-Lowered.is)
    (c.in_ok-ignores-in-Lowered.ensures ∙ ap (λ found. map (ignore_in source) (map lex.ignore_in found)) c.deref.ensures.value)

pub returns-in-Fault-clause-outcome : goal.returns-in-Fault-clause-outcome
returns-in-Fault-clause-outcome c =
    let source = c.args.source.now in
    lines_bad source (lexis_in c.args.scan) c.in-Fault.fault c.in_ok-parse_fault-in-Fault.field-0 (outcome_of c.reported.result)
    (answers_fault (lines_in source (map line_in c.args.scan.lines.items)) c.in_ok-found.field-0 c.in-Fault.fault c.in_ok-found.ensures.parts c.in-Fault.is)
    c.in_ok-parse_fault-in-Fault.ensures.reported c.reported.ensures
