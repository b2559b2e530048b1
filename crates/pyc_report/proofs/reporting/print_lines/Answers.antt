use Rattle.std.proofs.Common.{◌≡◌, ◌∙◌, ap, sym, subst, IfOk, List, filter, length, map, string_bytes}
use Rattle.std.specs.List.{concat}
use Rattle.pyc_report.specs.declared.reporting.PrintedLines.{PrintedLines}
use Rattle.pyc_report.specs.Report.{Located, error_lines, is_error, lines_of, placed_in, printed_line, printed_lines, without_repeats}
use Rattle.pyc_report.proofs.ApartLemmas.{errors_apart}
use Rattle.pyc_report.proofs.reporting.print_lines.Goals as goal

pub returns-then-branch-clause-text : goal.returns-then-branch-clause-text
unfolding printed_lines
returns-then-branch-clause-text c =
    let messages = map placed_in c.in_ok-messages.messages.items in
    let once : without_repeats (map printed_line messages) ≡ map printed_line messages = c.in_ok-are_apart.ensures c.if-branch.true (map printed_line messages)
    (c.deref.ensures ∙ c.in_ok-text.ensures.text) (c.deref-2.ensures.value ∙ c.in_ok-text.ensures.lengths) in
    c.in_ok-text.ensures.text ∙ ap concat (sym once) ∙ ap (λ ms. concat (lines_of ms)) c.in_ok-messages.ensures

pub returns-then-branch-clause-errors : goal.returns-then-branch-clause-errors
unfolding error_lines
returns-then-branch-clause-errors c =
    let messages = map placed_in c.in_ok-messages.messages.items in
    let once : without_repeats (map printed_line messages) ≡ map printed_line messages = c.in_ok-are_apart.ensures c.if-branch.true (map printed_line messages)
    (c.deref.ensures ∙ c.in_ok-text.ensures.text) (c.deref-2.ensures.value ∙ c.in_ok-text.ensures.lengths) in
    c.in_ok-text.ensures.errors ∙ errors_apart messages once ∙ ap (λ ms. length (lines_of (filter is_error ms))) c.in_ok-messages.ensures

pub returns-clause-text : goal.returns-clause-text
unfolding printed_lines
returns-clause-text c =
    subst (λ (ms : List Located). IfOk c.lines_once.result (λ (lines : PrintedLines). string_bytes lines.text ≡ concat (lines_of ms))) c.in_ok-messages-2.ensures c.lines_once.ensures.text

pub returns-clause-errors : goal.returns-clause-errors
unfolding error_lines
returns-clause-errors c =
    subst (λ (ms : List Located). IfOk c.lines_once.result (λ (lines : PrintedLines). lines.errors ≡ length (lines_of (filter is_error ms)))) c.in_ok-messages-2.ensures c.lines_once.ensures.errors
