use Rattle.std.proofs.Common.{◌≢◌, ◌∙◌, ◌++◌, ◌∷◌, [], ℕ, Some, ap, map, subst, sym}
use Rattle.std.specs.Prelude.{string_bytes}
use Rattle.pyc_keys.specs.NameNumbers.{text_at}
use Rattle.pyc_keys.specs.Numbering.{IsInjective}
use Rattle.pyc_keys.proofs.NameLemmas.{listed_more, still_distinct}
use Rattle.pyc_keys.proofs.names.Names.add.Goals as goal

pub invariant_of-self-2 : goal.invariant_of-self-2
invariant_of-self-2 c =
    let texts = map string_bytes c.self.inside.texts.keys in
    let absent : (i : ℕ) → text_at texts i ≢ Some c.args.text.now =
    λ i e. c.requires i (ap (λ ts. text_at ts i) (sym c.self.view_is) ∙ e) in
    subst (λ ts. IsInjective (text_at ts))
    (sym (listed_more string_bytes c.args.text.now c.self.inside.texts.keys _ c.in_ok-kept.kept c.in_ok-insert.ensures.keys c.in_ok-kept.ensures.ok absent))
    (still_distinct texts c.args.text.now c.self.invariant absent)

pub returns-clause-listed : goal.returns-clause-listed
returns-clause-listed c =
    let texts = map string_bytes c.self.inside.texts.keys in
    let absent : (i : ℕ) → text_at texts i ≢ Some c.args.text.now =
    λ i e. c.requires i (ap (λ ts. text_at ts i) (sym c.self.view_is) ∙ e) in
    listed_more string_bytes c.args.text.now c.self.inside.texts.keys _ c.in_ok-kept.kept c.in_ok-insert.ensures.keys c.in_ok-kept.ensures.ok absent
    ∙ ap (λ ts. ts ++ c.args.text.now ∷ []) c.self.view_is
