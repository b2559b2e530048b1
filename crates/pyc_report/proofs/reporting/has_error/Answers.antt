use Rattle.std.proofs.Common.{rules, tests, map, Bor, ◌∙◌}
use Rattle.std.proofs.lemmas.Iterator.{YieldsList-from_slice}
use Rattle.std.proofs.lemmas.Iterator.Search.{any_from_yields_List}
use Rattle.pyc_report.specs.declared.message.Message.{Message as MessageOf}
use Rattle.pyc_report.specs.Message.{message_in}
use Rattle.pyc_report.specs.Report.{is_error, located}
use Rattle.pyc_report.proofs.ListLemmas.{list_any-map}
use Rattle.pyc_report.proofs.reporting.has_error.Goals as goal

pub returns : goal.returns
returns c =
    let messages = c.args.found.now.messages.items in
    let at_path = located c.args.found.now.path.now in
    any_from_yields_List (λ (message : Bor MessageOf). is_error (at_path (message_in message.now))) _ _ _ c.any.ensures.ran (YieldsList-from_slice messages cc) (λ x b q k. search (rules, tests))
    ∙ list_any-map (λ (message : Bor MessageOf). message_in message.now) (λ message. is_error (at_path message)) messages
    ∙ list_any-map at_path is_error (map (λ (message : Bor MessageOf). message_in message.now) messages)
