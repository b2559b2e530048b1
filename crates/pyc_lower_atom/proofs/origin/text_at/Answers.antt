use Rattle.std.proofs.Common.{◌∙◌}
use Rattle.pyc_lower_atom.proofs.OriginLemmas.{text_at-text, text_at-bytes}
use Rattle.pyc_lower_atom.proofs.origin.text_at.Goals as goal

pub returns-in-Ok : goal.returns-in-Ok
returns-in-Ok c =
    let found = c.in-Some.ensures.lookup.0 in
    let text = c.in-Ok.ensures.cases in
    text.0 ∙ text_at-text _ _ c.args.span found.0 found.1 found.2 text.1

pub returns-in-Err : goal.returns-in-Err
returns-in-Err c = text_at-bytes _ c.in-Some.bytes.now c.args.span c.in-Some.ensures.lookup.0.2 c.in-Err.ensures.cases.0
