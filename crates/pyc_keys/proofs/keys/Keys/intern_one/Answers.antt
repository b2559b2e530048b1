use Rattle.std.proofs.Common.{ap, ◌∙◌, ◌++◌, ◌∷◌, []}
use Rattle.pyc_keys.specs.KeyNumbers.{key_at}
use Rattle.pyc_keys.proofs.NumberingLemmas.{new_held, new_extends, extends_same, noted_undo}
use Rattle.pyc_keys.proofs.keys.Keys.intern_one.Goals as goal

pub returns-in_err-id-clause-extends : goal.returns-in_err-id-clause-extends
returns-in_err-id-clause-extends c = extends_same _ _ (ap key_at c.in_err-id.ensures.same)

pub returns-in_err-push-2-clause-extends : goal.returns-in_err-push-2-clause-extends
returns-in_err-push-2-clause-extends c = new_extends _ _ _ _ c.in_ok-id.ensures.held c.in_ok-id.ensures.free

pub returns-in_err-push-2-clause-undo : goal.returns-in_err-push-2-clause-undo
returns-in_err-push-2-clause-undo c = noted_undo _ _ _ _ _ _ c.in_ok-id.ensures.held c.in_ok-id.ensures.free
    (c.push_reserved.ensures.items ∙ ap (λ is. is ++ c.in_ok-id.id ∷ []) c.in_ok-reserve.ensures.items)

pub returns-clause-held : goal.returns-clause-held
returns-clause-held c = (c.in_ok-id.id, c.in_ok-push-2.ensures.items, new_held _ _ _ _ c.in_ok-id.ensures.held)

pub returns-clause-extends : goal.returns-clause-extends
returns-clause-extends c = new_extends _ _ _ _ c.in_ok-id.ensures.held c.in_ok-id.ensures.free

pub returns-clause-undo : goal.returns-clause-undo
returns-clause-undo c = noted_undo _ _ _ _ _ _ c.in_ok-id.ensures.held c.in_ok-id.ensures.free
    (c.push_reserved.ensures.items ∙ ap (λ is. is ++ c.in_ok-id.id ∷ []) c.in_ok-reserve.ensures.items)
