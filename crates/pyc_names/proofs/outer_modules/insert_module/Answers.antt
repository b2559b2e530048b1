use Rattle.std.proofs.Common.{sym, ◌∙◌}
use Rattle.pyc_names.proofs.OuterLemmas.{module_known, module_more}
use Rattle.pyc_names.proofs.outer_modules.insert_module.Goals as goal

pub returns-then-contains : goal.returns-then-contains
returns-then-contains c = λ m. module_known (λ k. k.items) m c.args.parts.now c.args.outer.now.keys (sym c.contains.ensures ∙ c.if-contains.true)

pub returns : goal.returns
returns c = λ m. module_more (λ k. k.items) m c.args.parts.now c.args.outer.now.keys _ c.name.inside.parts (c.name.view_is ∙ c.in_ok-name.ensures) c.in_ok-insert.ensures.keys
