use Rattle.std.proofs.Common.{rules, map, ap, ◌∙◌}
use Rattle.std.proofs.lemmas.Fn.{filter_same}
use Rattle.pyc_report.specs.Report.{is_error, placed_in}
use Rattle.pyc_report.proofs.ListLemmas.{map-filter}
use Rattle.pyc_report.proofs.reporting.drop_recorder.Goals as goal

pub returns : goal.returns
returns c =
    ap (map placed_in) (filter_same _ (λ message. is_error (placed_in message)) _ (λ x b f' k. search rules) _ _ c.retain.ensures.filtered)
    ∙ map-filter placed_in is_error c.args.messages.now.items
