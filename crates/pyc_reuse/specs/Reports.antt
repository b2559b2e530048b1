-- What is reported of files, by what came of their units.
use Rattle.std.specs.Prelude.{List, [], ◌∷◌}
use Rattle.pyc_report.specs.Message.{Message}
use Rattle.pyc_report.specs.Report.{Found}
use Rattle.pyc_reuse.specs.Examined.{examined}
use Rattle.pyc_reuse.specs.Revision.{Revision}
use Rattle.pyc_workspace.specs.Workspace.{File}

-- what is reported of files, from the messages of each
abbrev pub reported_by : List File → List (List Message) → List Found
reported_by (file ∷ files) (messages ∷ more) = record { path = file.path; messages = messages } ∷ reported_by files more
reported_by _ _ = []

-- what a check of the files that are present leaves, after this one
abbrev pub next_revision : Revision → List File → Revision
next_revision revision present =
    record {
      options = revision.options;
      files = present;
      examined = examined revision.options revision.files present;
    }
