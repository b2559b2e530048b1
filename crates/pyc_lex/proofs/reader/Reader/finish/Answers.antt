use Rattle.std.proofs.lemmas.Grind.{common_steps}
use Rattle.std.proofs.Common.{Option, Ok, sym, ap, ◌∙◌, arith, rules}
use Rattle.pyc_lex.specs.declared.brackets.Opened.{Opened}
use Rattle.pyc_lex.specs.Lines.{Reading, innermost, lexis_read, finished}
use Rattle.pyc_lex.specs.Reader.{reading_of}
use Rattle.pyc_lex.proofs.reader.Reader.finish.Goals as goal

pub returns-in-Some : goal.returns-in-Some
unfolding finished
returns-in-Some c =
    λ _. ap (λ (o : Option Opened). lexis_read o (reading_of c.args.self)) (ap innermost (sym c.deref.ensures.value) ∙ sym c.innermost.ensures ∙ c.in-Some.is)

pub returns : goal.returns
unfolding finished
returns c =
    ap (λ (o : Option Opened). lexis_read o (reading_of c.args.self)) (ap innermost (sym c.deref.ensures.value) ∙ sym c.innermost.ensures ∙ c.in_default.is)
    ∙ ap (λ (r : Reading). Ok r.lexis) (sym c.in_ok-end_line.ensures)

pub returns-in_err-end_line : goal.returns-in_err-end_line
returns-in_err-end_line c = first_of (grind (arith, common_steps), search rules)
