use Rattle.std.proofs.Common.{Bool, rules, not, map, ap, ◌∙◌}
use Rattle.std.proofs.lemmas.Fn.{filter_same}
use Rattle.pyc_ast.specs.Modules.{module_of}
use Rattle.pyc_report.specs.Message.{Message, message_in}
use Rattle.pyc_report.specs.Suppressing.{is_suppressed}
use Rattle.pyc_report.proofs.ListLemmas.{map-filter}
use Rattle.pyc_report.proofs.suppressing.drop_suppressed.Goals as goal

pub returns : goal.returns
returns c =
    let stays : Message → Bool = λ message. not (is_suppressed (module_of c.args.tree.now) message) in
    ap (map message_in) (filter_same _ (λ message. stays (message_in message)) _ (λ x b f' k. search rules) _ _ c.retain.ensures.filtered)
    ∙ map-filter message_in stays c.args.messages.now.items
