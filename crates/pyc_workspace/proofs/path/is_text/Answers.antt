use Rattle.std.proofs.Common.{◌∙◌}
use Rattle.pyc_workspace.proofs.Texts.{is_ok-utf8}
use Rattle.pyc_workspace.proofs.path.is_text.Goals as goal

pub returns : goal.returns
returns c = c.is_ok.ensures.value ∙ is_ok-utf8 c.args.path.now c.from_utf8.result _ _ c.from_utf8.ensures.cases (λ s h. h.1) (λ e h. h.0)
