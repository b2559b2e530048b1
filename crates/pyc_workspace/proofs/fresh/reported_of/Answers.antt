use Rattle.std.proofs.Common.{ap, ◌∙◌}
use Rattle.pyc_body.specs.FoundMessages.{without_ignored}
use Rattle.pyc_lower.specs.Reading.{read_of}
use Rattle.pyc_workspace.proofs.FreshLemmas.{all_messages}
use Rattle.pyc_workspace.specs.Files.{file_in}
use Rattle.pyc_workspace.proofs.fresh.reported_of.Goals as goal

pub returns : goal.returns
returns c =
    let file = file_in c.args.file.now in
    let messages = c.in_ok-messages.ensures ∙ ap (without_ignored (read_of file.bytes)) (all_messages c.args.checks.now) in
    λ t. record { path = c.path.ensures t; messages = messages t }
