use Rattle.std.proofs.Common.{List, map, string_bytes, subst, inl, inr}
use Rattle.clap.specs.Words.{Text, HasKind}
use Rattle.clap.specs.Kinds.{Kinds}
use Rattle.pyc_console.proofs.CommandLine.{row_fault, row_job, rows_say}
use Rattle.pyc_console.proofs.words.read_words.Goals as goal

pub returns-in-Ok-clause-sessions : goal.returns-in-Ok-clause-sessions
returns-in-Ok-clause-sessions c k d lt e =
    row_job (map string_bytes c.args.words.now) _ c.in-Ok.job (rows_say k d lt) e c.in-Ok.ensures.turns c.in-Ok.ensures.ignore_missing c.in-Ok.ensures.check_untyped c.in-Ok.ensures.check

pub returns-in-Err-clause-sessions : goal.returns-in-Err-clause-sessions
returns-in-Err-clause-sessions c k d lt e =
    let words : List Text = map string_bytes c.args.words.now in
    elim (subst (λ (kinds : Kinds). HasKind kinds c.in-Err.error) (row_fault words _ (rows_say k d lt) e) c.in-Err.ensures.fault) [ inl memory ↦ memory | inr none ↦ absurd none ]
