use Rattle.std.proofs.Common.{◌∙◌}
use Rattle.clap.specs.Words.{found_of}
use Rattle.clap.proofs.WalkLemmas.{one_text-rows}
use Rattle.pyc_console.specs.Words.{check_untyped_id, ignore_missing_id}
use Rattle.pyc_console.proofs.words.found_options.Goals as goal

pub returns-clause-ignore_missing : goal.returns-clause-ignore_missing
returns-clause-ignore_missing c = (λ h. c.get_flag.ensures.value (one_text-rows (found_of c.args.found.now) ignore_missing_id ∙ h), λ h. c.get_flag.ensures.other (one_text-rows (found_of c.args.found.now) ignore_missing_id ∙ h))

pub returns-clause-check_untyped : goal.returns-clause-check_untyped
returns-clause-check_untyped c = (λ h. c.get_flag-2.ensures.value (one_text-rows (found_of c.args.found.now) check_untyped_id ∙ h), λ h. c.get_flag-2.ensures.other (one_text-rows (found_of c.args.found.now) check_untyped_id ∙ h))
