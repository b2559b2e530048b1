-- What is reported of files, as plain values.
use Rattle.std.specs.Prelude.{map}
use Rattle.pyc_report.specs.Message.{message_in}
use Rattle.pyc_report.specs.Report.{Found}
use Rattle.pyc_workspace.specs.declared.fresh.Reported.{Reported}

abbrev pub reported_in : Reported → Found
reported_in reported = record { path = reported.path.now; messages = map message_in reported.messages.items }
