-- What a parse by the program's command line gives.
use Rattle.std.proofs.Common.{bytes_eq, ◌&&◌, not, ◌≡◌, ◌∙◌, ◌∷◌, [], All, Bool, true, false, List, Option, Some, None, ap, codes, drop, is_some, option_and_then, option_map, refl, rules, sym}
use Rattle.std.proofs.lemmas.List.Elements.{All-from_recursion}
use Rattle.clap.specs.Words.{all_of, Row, Shape, Text, built, fault_of, is_simple, is_simple_and_free, one_of, subcommand_name_of, subcommand_of, subcommand_rows_of}
use Rattle.clap.specs.declared.parser.matches.ArgMatches.{ArgMatches}
use Rattle.clap.specs.Kinds.{Kinds, or_else}
use Rattle.clap.specs.Faults.{built_fault, check_fault, defaults_fault, entered_fault, level_fault, settle_fault, walk_fault}
use Rattle.clap.specs.Walk.{Held, Names, finished, nothing_held, settled, stop_after, walk, walk_from}
use Rattle.clap.specs.Simple.{argument_words, entered, names_of}
use Rattle.clap.proofs.OnLiterals.{clap_on_literals}
use Rattle.pyc_iface.specs.declared.options.Options.{Options}
use Rattle.pyc_iface.specs.declared.options.TheConstants.{TURNS}
use Rattle.pyc_console.specs.declared.words.Job.{Job}
use Rattle.pyc_console.specs.declared.words.Job.TheVariants.{Session, Check}
use Rattle.pyc_console.specs.Words.{IsFlag, check_untyped_id, command_line, found_text, is_check, names_check, files_id, found_files, files_id, found_files, ignore_missing_id, options_of, session_rows, option_text}

pub command_line_is_simple : is_simple command_line ≡ true
unfolding command_line clap_on_literals
command_line_is_simple = refl

pub command_line_is_free : is_simple_and_free command_line ≡ true
unfolding command_line clap_on_literals
command_line_is_free = refl

-- where neither of two steps fails, the second does not
second_passes : (a b : Kinds) → or_else a b ≡ [] → b ≡ []
second_passes [] b e = e
second_passes (k ∷ ks) b e = search rules

-- a level of a parse that does not fail passes the last checks
last_checks_pass : (s : Shape) (names : Names) (h : Held) (words : List Text) (has_subcommand : Bool) (below : Kinds)
    → level_fault s names h words has_subcommand below ≡ [] → check_fault s (finished s.rules (walk s.rules names h words).held) has_subcommand ≡ []
last_checks_pass s names h words has_subcommand below e =
    let end : Held = (walk s.rules names h words).held in
    let settling : Kinds = settle_fault s.rules s.args_override_self end in
    let defaults : Kinds = defaults_fault (settled s.rules end).rows s.rules in
    let checks : Kinds = check_fault s (finished s.rules end) has_subcommand in
    second_passes defaults checks
    (second_passes settling (or_else defaults checks)
    (second_passes below (or_else settling (or_else defaults checks))
    (second_passes (walk_fault s names (walk_from h) words) (or_else below (or_else settling (or_else defaults checks))) e)))

-- a check that wants a subcommand passes only with one
subcommand_there : (s : Shape) (rows : List Row) (has_subcommand : Bool) → s.arg_required_else_help ≡ false → s.subcommand_required ≡ true
    → check_fault s rows has_subcommand ≡ [] → has_subcommand ≡ true
subcommand_there s rows true plain wanted e = refl
subcommand_there s rows false plain wanted e = let none = rw (plain, wanted) at e in search rules

-- words that are taken name a subcommand
pub subcommand_met : (words : List Text) → fault_of command_line words ≡ [] → is_some (subcommand_of command_line words) ≡ true
unfolding command_line
subcommand_met words e =
    let top : Shape = (built command_line).top in
    let end : Held = (walk top.rules (names_of (built command_line)) nothing_held (argument_words command_line words)).held in
    subcommand_there top (finished top.rules end) (is_some (subcommand_of command_line words)) refl refl
    (last_checks_pass top (names_of (built command_line)) nothing_held (argument_words command_line words) (is_some (subcommand_of command_line words))
    (entered_fault (built command_line) (walk top.rules (names_of (built command_line)) nothing_held (argument_words command_line words)).stopped) e)

pub is_some-option_map : {X Y : Type 0} (f : X → Y) (o : Option X) → is_some (option_map f o) ≡ is_some o
is_some-option_map f None = refl
is_some-option_map f (Some x) = refl

-- what is read of the second part alone
second_alone : {X Y Z : Type 0} (f : Y → Option Z) (o : Option (X × Y)) → option_and_then f (option_map (λ p. p.1) o) ≡ option_and_then (λ p. f p.1) o
second_alone f None = refl
second_alone f (Some p) = refl

-- what was found for an option, where these rows were found for the subcommand
pub found_text-rows : (id : Text) (found : Option (Text × List Row)) (rows : List Row) → Some rows ≡ option_map (λ p. p.1) found → one_of id rows ≡ found_text id found
found_text-rows id found rows e = ap (option_and_then (one_of id)) e ∙ second_alone (one_of id) found

-- what is found for the subcommand that the words after the program's name enter
abbrev found_after : List Text → Option (Text × List Row)
found_after words = entered (built command_line) (stop_after (built command_line).top.rules (names_of (built command_line)) words)

-- a flag as the matches have it
abbrev flag_word : Bool → Text
flag_word true = codes "true"
flag_word false = codes "false"

-- the words after the program's name are taken, and stand for the options
pub record Says (row : List Text × Options) : Type 0 where
  pub none_fails : built_fault (built command_line) nothing_held row.0 ≡ []
  pub ignore_missing : found_text ignore_missing_id (found_after row.0) ≡ Some (flag_word row.1.ignore_missing)
  pub check_untyped : found_text check_untyped_id (found_after row.0) ≡ Some (flag_word row.1.check_untyped)
  pub turns : row.1.turns ≡ TURNS
  pub no_check : names_check (found_after row.0) ≡ false

pub rows_say : All Says session_rows
unfolding command_line clap_on_literals
rows_say = All-from_recursion Says session_rows (
  record { none_fails = refl; ignore_missing = refl; check_untyped = refl; turns = refl; no_check = refl },
  (
    record { none_fails = refl; ignore_missing = refl; check_untyped = refl; turns = refl; no_check = refl },
    (
      record { none_fails = refl; ignore_missing = refl; check_untyped = refl; turns = refl; no_check = refl },
      (
        record { none_fails = refl; ignore_missing = refl; check_untyped = refl; turns = refl; no_check = refl },
        (record { none_fails = refl; ignore_missing = refl; check_untyped = refl; turns = refl; no_check = refl }, tt),
      ),
    ),
  ),
)

flag_is : (text : Option Text) (flag wanted : Bool) → IsFlag text flag → text ≡ Some (flag_word wanted) → flag ≡ wanted
flag_is text flag true h e = h.0 e
flag_is text flag false h e = h.1 e

same_options : (a b : Options) → a.ignore_missing ≡ b.ignore_missing → a.check_untyped ≡ b.check_untyped → a.turns ≡ b.turns → a ≡ b
same_options a b ignore_missing check_untyped turns =
    ap (λ x. record a { ignore_missing = x }) ignore_missing
    ∙ ap (λ x. record a { ignore_missing = b.ignore_missing; check_untyped = x }) check_untyped
    ∙ ap (λ x. record b { turns = x }) turns

-- the answer to a row's words: no kind of error but want of memory, and the row's options
pub row_fault : (texts : List Text) (row : List Text × Options) → Says row → drop 1 texts ≡ row.0 → fault_of command_line texts ≡ []
unfolding command_line
row_fault texts row says e = ap (built_fault (built command_line) nothing_held) e ∙ says.none_fails

pub row_job : (texts : List Text) (row : List Text × Options) (job : Job) → Says row → drop 1 texts ≡ row.0 → (options_of job).turns ≡ TURNS
    → IsFlag (option_text ignore_missing_id texts) (options_of job).ignore_missing → IsFlag (option_text check_untyped_id texts) (options_of job).check_untyped
    → is_check job ≡ names_check (subcommand_of command_line texts) → job ≡ Session row.1
unfolding command_line
row_job texts row (Session options) says e turns ignore_missing check_untyped kind =
    let first = flag_is _ _ _ ignore_missing (ap (λ words. found_text ignore_missing_id (found_after words)) e ∙ says.ignore_missing) in
    let second = flag_is _ _ _ check_untyped (ap (λ words. found_text check_untyped_id (found_after words)) e ∙ says.check_untyped) in
    ap Session (same_options options row.1 first second (turns ∙ sym says.turns))
row_job texts row (Check options files) says e turns ignore_missing check_untyped kind =
    let wrong : true ≡ false = kind ∙ ap (λ words. names_check (found_after words)) e ∙ says.no_check in
    cc

-- what was found for the files, where these rows were found for the subcommand
pub found_files-rows : (found : Option (Text × List Row)) (rows : List Row) → Some rows ≡ option_map (λ p. p.1) found → all_of files_id rows ≡ found_files found
found_files-rows found rows e = ap (option_and_then (all_of files_id)) e ∙ second_alone (all_of files_id) found

-- whether the subcommand is `check`, where it has this name
pub names_check-name : (found : Option (Text × List Row)) (name : Text) → Some name ≡ option_map (λ p. p.0) found → bytes_eq name (codes "check") ≡ names_check found
names_check-name None name e = search rules
names_check-name (Some found) name e = let same : name ≡ found.0 = cc in rw same refl

-- a plain command has no global argument
pub third_passes : (a b c rest : Bool) → (a && (not b && (not c && rest))) ≡ true → c ≡ false
third_passes true false false rest e = refl
third_passes true false true rest e = let wrong : false ≡ true = e in cc
third_passes true true c rest e = let wrong : false ≡ true = e in cc
third_passes false b c rest e = let wrong : false ≡ true = e in cc

map_twice : {X Y Z : Type 0} (f : Y → Z) (g : X → Y) (o : Option X) → option_map (λ x. f (g x)) o ≡ option_map f (option_map g o)
map_twice f g None = refl
map_twice f g (Some x) = refl

-- the name of the subcommand that a parse entered
pub name_of_rows : (m : ArgMatches) → subcommand_name_of m ≡ option_map (λ p. p.0) (subcommand_rows_of m)
name_of_rows m = map_twice (λ p. p.0) _ _
