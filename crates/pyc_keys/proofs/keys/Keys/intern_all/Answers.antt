use Rattle.std.proofs.Common.{◌∙◌, ap}
use Rattle.pyc_keys.specs.Numbering.{without_all}
use Rattle.pyc_keys.specs.KeyNumbers.{key_at}
use Rattle.pyc_keys.proofs.NumberingLemmas.{extends_same}
use Rattle.pyc_keys.proofs.keys.Keys.intern_all.Goals as goal

pub returns-then-is_err-clause-extends : goal.returns-then-is_err-clause-extends
returns-then-is_err-clause-extends c =
    extends_same _ _ (c.forget_all.ensures ∙ ap (λ is. without_all (key_at c.intern_each.new.self) is) c.deref.ensures.value ∙ c.intern_each.ensures.undo)
