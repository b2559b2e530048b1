use Rattle.std.proofs.Common.{ap, ap₂, ◌≡◌, ◌∙◌}
use Rattle.std.proofs.lemmas.Result.{IfOk-weaker}
use Rattle.clap.specs.Words.{app_of, new_app, with_rule}
use Rattle.clap.specs.Simple.{app_of_fields}
use Rattle.pyc_console.proofs.words.subcommand.Goals as goal

pub returns : goal.returns
returns c =
    let about_is : app_of c.about.result ≡ new_app c.args.name.now = ap app_of_fields c.about.ensures ∙ c.new.ensures.app in
    IfOk-weaker c.arg-2.result _ _ (λ r h. h.shape c.flag-2.ensures.local
    ∙ ap₂ with_rule (c.in_ok-arg.ensures.shape c.flag.ensures.local ∙ ap₂ with_rule about_is c.flag.ensures.rule) c.flag-2.ensures.rule) c.arg-2.ensures
