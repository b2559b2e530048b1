use Rattle.std.proofs.Common.{◌∙◌, ap, sym}
use Rattle.std.specs.Prelude.{string_bytes}
use Rattle.pyc_keys.specs.NameNumbers.{text_at}
use Rattle.pyc_keys.proofs.NameLemmas.{found_text, no_text}
use Rattle.pyc_keys.proofs.names.Names.find.Goals as goal

pub returns-in-Some-clause-held : goal.returns-in-Some-clause-held
returns-in-Some-clause-held c =
    ap (text_at c.args.self.now) c.new.ensures ∙ ap (λ ts. text_at ts c.in-Some.number) (sym c.self.view_is)
    ∙ found_text string_bytes c.args.text.now c.self.inside.texts.keys c.in-Some.number c.in-Some.field-0-1.now
    c.in-Some.ensures.stored (sym c.in-Some.ensures.key)

pub returns-in-None-clause-none : goal.returns-in-None-clause-none
returns-in-None-clause-none c =
    λ i e. no_text string_bytes c.args.text.now c.self.inside.texts.keys (sym c.in-None.ensures.found) i
    (ap (λ ts. text_at ts i) c.self.view_is ∙ e)
