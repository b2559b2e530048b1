use Rattle.pyc_console.proofs.CheckFilesLemmas.{refusal_reported}
use Rattle.pyc_console.proofs.checking.report_refusal.Goals as goal

pub returns-clause-reports : goal.returns-clause-reports
returns-clause-reports g c = refusal_reported _ _ _ _ c.args.file.now c.args.text.now c.print_parts.ensures.reports
