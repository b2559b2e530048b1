use Rattle.std.proofs.Common.{append_assoc}
use Rattle.pyc_report.specs.Report.{printed_line}
use Rattle.pyc_report.proofs.TextLemmas.{written}
use Rattle.pyc_report.proofs.reporting.push_line.Goals as goal

pub returns : goal.returns
unfolding printed_line
returns c =
    written _ _ _ _ _ c.push_str-5.ensures.bytes
    (rw (
      c.in_ok-push_reported.ensures,
      c.in_ok-push_str-4.ensures.bytes,
      c.in_ok-push_str-3.ensures.bytes,
      c.in_ok-push_str-2.ensures.bytes,
      c.in_ok-push_str.ensures.bytes,
      c.format.ensures.text,
    ) (simp append_assoc))
