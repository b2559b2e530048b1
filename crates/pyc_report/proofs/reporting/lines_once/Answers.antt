use Rattle.std.proofs.Common.{◌≡◌, ◌∙◌, rules, map, string_bytes, refl}
use Rattle.std.proofs.lemmas.List.Folds.{flat_map-map}
use Rattle.std.proofs.lemmas.List.Concat.{concat_is}
use Rattle.pyc_report.specs.Report.{lines_of, placed_in}
use Rattle.pyc_report.proofs.reporting.lines_once.Goals as goal

pub returns-clause-text : goal.returns-clause-text
returns-clause-text c =
    let lines : map string_bytes c.in_ok-lines.lines.keys ≡ lines_of (map placed_in c.args.messages.items) = c.in_ok-lines.ensures ∙ rw c.as_slice.ensures.value refl in
    let slice : c.as_slice-2.result.now ≡ c.in_ok-lines.lines.keys = search rules in
    rw (c.in_ok-text.ensures.ok, slice, ← lines, concat_is, flat_map-map) refl
