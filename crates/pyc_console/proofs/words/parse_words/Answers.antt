use Rattle.std.proofs.Common.{ap, ◌≡◌, ◌∙◌, sym, true, map, List, [], string_bytes, option_map, is_some, subst}
use Rattle.std.proofs.lemmas.Result.{err_from_is_err_and}
use Rattle.clap.specs.Words.{App, HasKind, Text, app_of, fault_of, found_of, is_simple, is_simple_and_free, one_of, rows_of, subcommand_of, subcommand_rows_of}
use Rattle.pyc_console.specs.Words.{HasFiles, IsFlag, options_of, check_untyped_id, command_line, ignore_missing_id, option_text}
use Rattle.pyc_console.proofs.CommandLine.{command_line_is_free, command_line_is_simple, found_files-rows, found_text-rows, name_of_rows, names_check-name, is_some-option_map, subcommand_met}
use Rattle.pyc_console.proofs.words.parse_words.Goals as goal

pub returns-in_err-matches-clause-fault : goal.returns-in_err-matches-clause-fault
returns-in_err-matches-clause-fault c =
    let app_is : app_of c.in_ok-command_line.field-0 ≡ command_line = c.in_ok-command_line.ensures in
    let p = err_from_is_err_and c.from_residual-in_err-matches.result c.from_residual-in_err-matches.ensures.1 in
    let fails = c.in_err-matches.ensures.kinds (ap is_simple_and_free app_is ∙ command_line_is_free) in
    let words : List Text = map string_bytes c.args.words.now in
    rw (p.1, p.2) (subst (λ (a : App). HasKind (fault_of a words) c.in_err-matches.field-0.0) app_is fails)

pub returns-clause-fault : goal.returns-clause-fault
returns-clause-fault c =
    let app_is : app_of c.in_ok-command_line.field-0 ≡ command_line = c.in_ok-command_line.ensures in
    let words : List Text = map string_bytes c.args.words.now in
    sym (ap (λ a. fault_of a words) app_is) ∙ c.in_ok-matches.ensures.kinds (ap is_simple_and_free app_is ∙ command_line_is_free)

pub unwrap-requires : goal.unwrap-requires
unwrap-requires c =
    let app_is : app_of c.in_ok-command_line.field-0 ≡ command_line = c.in_ok-command_line.ensures in
    let words : List Text = map string_bytes c.args.words.now in
    let none_fails : fault_of command_line words ≡ [] = sym (ap (λ a. fault_of a words) app_is) ∙ c.in_ok-matches.ensures.kinds (ap is_simple_and_free app_is ∙ command_line_is_free) in
    let rows_are : subcommand_rows_of c.in_ok-matches.matches ≡ subcommand_of command_line words =
    (c.in_ok-matches.ensures.matches (ap is_simple app_is ∙ command_line_is_simple)).1 ∙ ap (λ a. subcommand_of a words) app_is in
    let there : is_some (subcommand_rows_of c.in_ok-matches.matches) ≡ true = ap is_some rows_are ∙ subcommand_met words none_fails in
    sym (is_some-option_map (λ p. rows_of (found_of p.1.now)) c.subcommand.result) ∙ ap is_some c.subcommand.ensures.rows
    ∙ is_some-option_map (λ p. p.1) (subcommand_rows_of c.in_ok-matches.matches) ∙ there

pub returns-clause-ignore_missing : goal.returns-clause-ignore_missing
returns-clause-ignore_missing c =
    let app_is : app_of c.in_ok-command_line.field-0 ≡ command_line = c.in_ok-command_line.ensures in
    let words : List Text = map string_bytes c.args.words.now in
    let rows_are : subcommand_rows_of c.in_ok-matches.matches ≡ subcommand_of command_line words =
    (c.in_ok-matches.ensures.matches (ap is_simple app_is ∙ command_line_is_simple)).1 ∙ ap (λ a. subcommand_of a words) app_is in
    let found = sym (ap (option_map (λ p. rows_of (found_of p.1.now))) c.unwrap.ensures) ∙ c.subcommand.ensures.rows ∙ ap (option_map (λ p. p.1)) rows_are in
    let text_is : one_of ignore_missing_id (rows_of (found_of c.unwrap.result.1.now)) ≡ option_text ignore_missing_id words = found_text-rows ignore_missing_id _ _ found in
    subst (λ t. IsFlag t (options_of c.in_ok-job_of.field-0).ignore_missing) text_is c.in_ok-job_of.ensures.ignore_missing

pub returns-clause-check_untyped : goal.returns-clause-check_untyped
returns-clause-check_untyped c =
    let app_is : app_of c.in_ok-command_line.field-0 ≡ command_line = c.in_ok-command_line.ensures in
    let words : List Text = map string_bytes c.args.words.now in
    let rows_are : subcommand_rows_of c.in_ok-matches.matches ≡ subcommand_of command_line words =
    (c.in_ok-matches.ensures.matches (ap is_simple app_is ∙ command_line_is_simple)).1 ∙ ap (λ a. subcommand_of a words) app_is in
    let found = sym (ap (option_map (λ p. rows_of (found_of p.1.now))) c.unwrap.ensures) ∙ c.subcommand.ensures.rows ∙ ap (option_map (λ p. p.1)) rows_are in
    let text_is : one_of check_untyped_id (rows_of (found_of c.unwrap.result.1.now)) ≡ option_text check_untyped_id words = found_text-rows check_untyped_id _ _ found in
    subst (λ t. IsFlag t (options_of c.in_ok-job_of.field-0).check_untyped) text_is c.in_ok-job_of.ensures.check_untyped

pub returns-clause-check : goal.returns-clause-check
returns-clause-check c =
    let app_is : app_of c.in_ok-command_line.field-0 ≡ command_line = c.in_ok-command_line.ensures in
    let words : List Text = map string_bytes c.args.words.now in
    let rows_are : subcommand_rows_of c.in_ok-matches.matches ≡ subcommand_of command_line words =
    (c.in_ok-matches.ensures.matches (ap is_simple app_is ∙ command_line_is_simple)).1 ∙ ap (λ a. subcommand_of a words) app_is in
    let named = sym (ap (option_map (λ p. p.0.now)) c.unwrap.ensures) ∙ c.subcommand.ensures.name ∙ name_of_rows c.in_ok-matches.matches ∙ ap (option_map (λ p. p.0)) rows_are in
    c.in_ok-job_of.ensures.check ∙ names_check-name _ _ named

pub returns-clause-files : goal.returns-clause-files
returns-clause-files c =
    let app_is : app_of c.in_ok-command_line.field-0 ≡ command_line = c.in_ok-command_line.ensures in
    let words : List Text = map string_bytes c.args.words.now in
    let rows_are : subcommand_rows_of c.in_ok-matches.matches ≡ subcommand_of command_line words =
    (c.in_ok-matches.ensures.matches (ap is_simple app_is ∙ command_line_is_simple)).1 ∙ ap (λ a. subcommand_of a words) app_is in
    let found = sym (ap (option_map (λ p. rows_of (found_of p.1.now))) c.unwrap.ensures) ∙ c.subcommand.ensures.rows ∙ ap (option_map (λ p. p.1)) rows_are in
    subst (λ t. HasFiles t c.in_ok-job_of.field-0) (found_files-rows _ _ found) c.in_ok-job_of.ensures.files
