use Rattle.std.proofs.Common.{◌++◌, ◌∙◌, ap}
use Rattle.pyc_report.specs.Report.{located_in, printed_line}
use Rattle.pyc_report.proofs.reporting.printed_line.Goals as goal

pub returns : goal.returns
returns c = c.in_ok-push_line.ensures ∙ ap (λ text. text ++ printed_line (located_in c.args.message.now)) c.new-line.ensures.bytes
