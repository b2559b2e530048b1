use Rattle.std.proofs.Common.{ap, ◌∙◌}
use Rattle.pyc_names.proofs.ModuleLemmas.{stem_is}
use Rattle.pyc_names.proofs.module_name.stem.Goals as goal

pub returns : goal.returns
returns c = ap (λ x. x.now) c.unwrap_or.ensures ∙ stem_is c.args.name c.strip_suffix.result c.strip_suffix.ensures.cases
