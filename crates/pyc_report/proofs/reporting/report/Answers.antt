use Rattle.std.proofs.Common.{◌≡◌, ◌∙◌, ◌++◌, ap, sym, map, length, List, string_bytes, refl}
use Rattle.std.specs.List.{concat}
use Rattle.std.proofs.lemmas.List.{length-map}
use Rattle.pyc_report.specs.Report.{Found, printed_lines, summary, found_in}
use Rattle.pyc_report.proofs.FoundLemmas.{report_from_parts}
use Rattle.pyc_report.proofs.reporting.report.Goals as goal

pub returns : goal.returns
returns c =
    let founds : List Found = map found_in c.args.found.now in
    let checked : length c.args.found.now ≡ length founds = sym (length-map c.args.found.now found_in) in
    let text : string_bytes c.push_summary.new.text ≡ concat (printed_lines founds) ++ summary c.in_ok-text.field-0.errors c.in_ok-files.files (length c.args.found.now) =
    c.in_ok-push_summary.ensures ∙ ap (λ t. t ++ summary c.in_ok-text.field-0.errors c.in_ok-files.files (length c.args.found.now)) c.in_ok-text.ensures.text in
    record { fresh = report_from_parts founds _ _ _ _ _ c.in_ok-text.ensures.errors c.in_ok-files.ensures checked text refl }
