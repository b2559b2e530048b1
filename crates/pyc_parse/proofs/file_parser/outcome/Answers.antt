-- The tokens of a tree are spans of its source; a fault of a line is that of the first bad one.
use Rattle.pyc_lex.specs.Texts.{IsTextSpan}
use Rattle.pyc_lex.specs.View.{lexis_in}
use Rattle.pyc_parse.proofs.BadLineLemmas.{reports_lexical, reports_parsed}
use Rattle.pyc_parse.proofs.OutcomeLemmas.{outcome_all}
use Rattle.pyc_parse.proofs.file_parser.outcome.Goals as goal

pub returns-in-Ok-clause-spans : goal.returns-in-Ok-clause-spans
returns-in-Ok-clause-spans c =
    outcome_all (λ token. IsTextSpan c.args.bytes.now token.span) c.in-Ok.scan c.parse_outcome.result c.in-Ok.ensures.spans c.parse_outcome.ensures

pub returns-in-Ok-clause-bad_line : goal.returns-in-Ok-clause-bad_line
returns-in-Ok-clause-bad_line c =
    reports_parsed c.args.bytes.now (lexis_in c.in-Ok.scan) c.parse_outcome.result c.in-Ok.ensures.lines c.parse_outcome.ensures

pub returns-in-Err-clause-bad_line : goal.returns-in-Err-clause-bad_line
returns-in-Err-clause-bad_line c =
    reports_lexical c.args.bytes.now c.in-Err.fault c.lexical_outcome.result c.lexical_outcome.ensures.outcome
