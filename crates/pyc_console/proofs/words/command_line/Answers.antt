use Rattle.std.proofs.Common.{ap, ap₂, ◌≡◌, ◌∙◌, codes, true}
use Rattle.std.proofs.lemmas.Result.{IfOk-weaker}
use Rattle.clap.specs.Words.{App, app_of, new_app, with_rule, with_subcommand}
use Rattle.clap.specs.Simple.{app_of_fields}
use Rattle.pyc_console.specs.Words.{check_app, command_line, program_app, session_app}
use Rattle.pyc_console.proofs.CommandLine.{third_passes}
use Rattle.pyc_console.proofs.words.command_line.Goals as goal

abbrev wanting_subcommand : App → App
wanting_subcommand a = record a { top = record a.top { subcommand_required = true } }

pub returns : goal.returns
unfolding command_line
returns c =
    let session_is : app_of c.in_ok-session.session ≡ session_app = c.in_ok-session.ensures in
    let check_is : app_of c.in_ok-check.check ≡ check_app = c.in_ok-check.ensures.shape c.files.ensures.local ∙ ap₂ with_rule c.in_ok-subcommand.ensures c.files.ensures.rule in
    let plain_is : app_of c.about.result ≡ new_app (codes "dmypy") = ap app_of_fields c.about.ensures ∙ c.new.ensures.app in
    let program_is : app_of c.subcommand_required.result ≡ program_app = ap app_of_fields c.subcommand_required.ensures ∙ ap wanting_subcommand plain_is in
    let first_is : app_of c.in_ok-subcommand-2.field-0 ≡ with_subcommand program_app session_app.top =
    c.in_ok-subcommand-2.ensures.shape (third_passes _ _ _ _ (ap (λ (a : App). a.top.is_plain) session_is)) ∙ ap₂ with_subcommand program_is (ap (λ (a : App). a.top) session_is) in
    IfOk-weaker c.subcommand-4.result _ _ (λ r h. h.shape (third_passes _ _ _ _ (ap (λ (a : App). a.top.is_plain) check_is))
    ∙ ap₂ with_subcommand first_is (ap (λ (a : App). a.top) check_is)) c.subcommand-4.ensures
