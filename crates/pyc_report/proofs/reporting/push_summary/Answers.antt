use Rattle.std.proofs.Common.{◌≡◌, append_assoc, nat_eq, false}
use Rattle.std.proofs.Common.{arith}
use Rattle.std.proofs.lemmas.Bool.Decides.{nat_tests}
use Rattle.pyc_report.specs.Report.{summary}
use Rattle.pyc_report.proofs.TextLemmas.{written}
use Rattle.pyc_report.proofs.reporting.push_summary.Goals as goal

pub returns-in_ok-push_counted : goal.returns-in_ok-push_counted
unfolding summary
returns-in_ok-push_counted c =
    written _ _ _ _ _ c.push_str-then-errors-eq0.ensures.bytes
    (rw (c.if-errors-eq0.true, c.in_ok-push_counted.ensures, c.in_ok-push_str.ensures.bytes) (simp append_assoc))

pub returns-in_ok-push_counted-4 : goal.returns-in_ok-push_counted-4
unfolding summary
returns-in_ok-push_counted-4 c =
    let some : nat_eq c.args.errors 0 ≡ false = grind (arith, nat_tests) in
    written _ _ _ _ _ c.push_str-else-errors-eq0-4.ensures.bytes
    (rw (
      some,
      c.in_ok-push_counted-4.ensures,
      c.in_ok-push_str-4.ensures.bytes,
      c.in_ok-push_counted-3.ensures,
      c.in_ok-push_str-3.ensures.bytes,
      c.in_ok-push_counted-2.ensures,
      c.in_ok-push_str-2.ensures.bytes,
    ) (simp append_assoc))
