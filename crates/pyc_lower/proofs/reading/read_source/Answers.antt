use Rattle.pyc_ast.specs.Modules.{outcome_of}
use Rattle.pyc_lex.specs.View.{lexis_in}
use Rattle.pyc_lower.proofs.ReadingLemmas.{read_lines, read_lexical}
use Rattle.pyc_lower.proofs.reading.read_source.Goals as goal

pub returns-in-Ok-clause-outcome : goal.returns-in-Ok-clause-outcome
returns-in-Ok-clause-outcome c =
    read_lines c.args.bytes.now (lexis_in c.in-Ok.scan) c.scan_outcome.result c.in-Ok.ensures.lines c.scan_outcome.ensures.outcome

pub returns-in_ok-lexical_fault-in-Err-clause-outcome :
    goal.returns-in_ok-lexical_fault-in-Err-clause-outcome
returns-in_ok-lexical_fault-in-Err-clause-outcome c =
    read_lexical c.args.bytes.now c.in-Err.fault c.in_ok-lexical_fault-in-Err.field-0 (outcome_of c.reported.result)
    (c.in-Err.ensures.fault c.in_ok-lexical_fault-in-Err.ensures.of_source) c.in_ok-lexical_fault-in-Err.ensures.reported c.reported.ensures
