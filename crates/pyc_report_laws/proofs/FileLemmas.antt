-- What the report of a check of files says, by what is found in their units.
use Rattle.std.proofs.Common.{ℕ, not, List, length, map, sym, ap, subst, ◌∙◌}
use Rattle.std.proofs.lemmas.Bool.{not-true, not_from_false}
use Rattle.std.proofs.lemmas.List.{length-map}
use Rattle.pyc_ast.specs.Modules.{Outcome, tree, fault}
use Rattle.pyc_body.specs.FoundMessages.{found, found_in_units, without_ignored, unsuppressed}
use Rattle.pyc_iface.specs.declared.options.Options.{Options}
use Rattle.pyc_names.specs.SourceFiles.{SourceFile}
use Rattle.pyc_report.specs.Message.{Message}
use Rattle.pyc_report.specs.Report.{Found, Located, Report, report_of}
use Rattle.pyc_report.specs.Suppressing.{is_suppressed}
use Rattle.pyc_report_laws.specs.Reports.{IsReported, IsReport, HasFound}
use Rattle.pyc_report_laws.specs.FileReports.{IsUnsuppressed, IsFound, HasMessage, ReportsFiles}
use Rattle.pyc_report_laws.proofs.InLemmas.{In, in-contains, contains-in, in-filter, from-filter, in-map, from-map, in-flat, from-flat}
use Rattle.pyc_report_laws.proofs.ReportLemmas.{reports_found}
use Rattle.pyc_units.specs.Units as units
use Rattle.pyc_workspace.specs.Fresh.{checked, fresh, source_of, sources_of}
use Rattle.pyc_workspace.specs.Workspace.{File}

-- ---- files that have the same messages

moved : (P Q : List ℕ → Message → Type 0) → ((path : List ℕ) (message : Message) → P path message → Q path message)
    → (x : Located) → IsReported P x → IsReported Q x
moved P Q to x r = record { path = r.path; own = r.own; has = to r.path r.own r.has; is = r.is }

-- they have the same report
same-report : (P Q : List ℕ → Message → Type 0) → ((path : List ℕ) (message : Message) → P path message → Q path message)
    → ((path : List ℕ) (message : Message) → Q path message → P path message) → (count : ℕ) (report : Report)
    → IsReport P count report → IsReport Q count report
same-report P Q to back count report r = record {
  messages = r.messages;
  printed = record {
    reported = λ k d below. moved P Q to _ (r.printed.reported k d below);
    in_order = r.printed.in_order;
    once = r.printed.once;
    first = λ x q. r.printed.first x (moved Q P back x q);
    just = λ line. (
      λ among. let p = (r.printed.just line).0 among in (p.0, p.1, to p.0 p.1 p.2, p.3),
      λ q. (r.printed.just line).1 (q.0, q.1, back q.0 q.1 q.2, q.3),
    );
  };
  errors = r.errors;
  are_errors = record {
    texts = r.are_errors.texts;
    once = r.are_errors.once;
    just = λ line. (
      λ among. let p = (r.are_errors.just line).0 among in (p.0, p.1, to p.0 p.1 p.2, p.3, p.4),
      λ q. (r.are_errors.just line).1 (q.0, q.1, back q.0 q.1 q.2, q.3, q.4),
    );
    are = r.are_errors.are;
  };
  files = r.files;
  are_files = record {
    texts = r.are_files.texts;
    once = r.are_files.once;
    just = λ path. (
      λ among. let p = (r.are_files.just path).0 among in (p.0, to path p.0 p.1, p.2),
      λ q. (r.are_files.just path).1 (q.0, back path q.0 q.1, q.2),
    );
    are = r.are_files.are;
  };
  text = r.text;
  clean = (
    λ clean path message q error. r.clean.0 clean path message (back path message q) error,
    λ none. r.clean.1 (λ path message p error. none path message (to path message p) error),
  );
}

-- ---- what ignore comments leave

kept-in : (outcome : Outcome) (messages : List Message) (message : Message) → IsUnsuppressed outcome message → In message messages
    → In message (without_ignored outcome messages)
kept-in (tree m) messages message stays s =
    in-filter message (λ x. not (is_suppressed m x)) messages s (not_from_false (is_suppressed m message) stays)
kept-in (fault line text) messages message stays s = s

from-kept : (outcome : Outcome) (messages : List Message) (message : Message) → In message (without_ignored outcome messages)
    → In message messages × IsUnsuppressed outcome message
from-kept (tree m) messages message s =
    let left = from-filter message (λ x. not (is_suppressed m x)) messages s in
    (left.0, not-true (is_suppressed m message) left.1)
from-kept (fault line text) messages message s = (s, tt)

module _ (options : Options) (files : List SourceFile) (file : SourceFile) (message : Message) where
  in-unsuppressed : IsFound options files file message → In message (unsuppressed options files file)
  unfolding unsuppressed
  in-unsuppressed r =
      kept-in file.outcome (found_in_units options files file) message r.stays
      (in-flat (found options files file) message r.unit (units.file_units file.outcome) (in-contains r.unit (units.file_units file.outcome) r.is_unit)
      (in-contains message (found options files file r.unit) r.is_found))

  from-unsuppressed : In message (unsuppressed options files file) → IsFound options files file message
  unfolding unsuppressed
  from-unsuppressed s =
      let left = from-kept file.outcome (found_in_units options files file) message s in
      let unit = from-flat (found options files file) message (units.file_units file.outcome) left.0 in
      record {
        unit = unit.0;
        is_unit = contains-in unit.0 (units.file_units file.outcome) unit.1;
        is_found = contains-in message (found options files file unit.0) unit.2;
        stays = left.1;
      }

-- ---- the files of a check

module _ (options : Options) (files : List File) where
  abbrev found_of : File → Found
  found_of = checked options (sources_of files)

  abbrev founds : List Found
  founds = map found_of files

  of-files : (path : List ℕ) (message : Message) → HasFound founds path message → HasMessage options files path message
  of-files path message (one, is_one, is_path, is_own) =
      let file = from-map found_of one files (in-contains one founds is_one) in
      let own = subst (λ (f : Found). In message f.messages) (sym file.2) (in-contains message one.messages is_own) in (
        file.0,
        contains-in file.0 files file.1,
        ap (λ (f : Found). f.path) file.2 ∙ is_path,
        from-unsuppressed options (sources_of files) (source_of file.0) message own,
      )

  of-found : (path : List ℕ) (message : Message) → HasMessage options files path message → HasFound founds path message
  of-found path message (file, is_file, is_path, is_found) = (
    found_of file,
    contains-in (found_of file) founds (in-map found_of file files (in-contains file files is_file)),
    is_path,
    contains-in message (unsuppressed options (sources_of files) (source_of file))
        (in-unsuppressed options (sources_of files) (source_of file) message is_found),
  )

-- ---- the law

pub reports_files : ReportsFiles
unfolding fresh
reports_files options files =
    same-report (HasFound (founds options files)) (HasMessage options files) (of-files options files) (of-found options files) (length files)
    (report_of (founds options files))
    (subst (λ n. IsReport (HasFound (founds options files)) n (report_of (founds options files))) (length-map files (found_of options files)) (reports_found (founds options files)))
