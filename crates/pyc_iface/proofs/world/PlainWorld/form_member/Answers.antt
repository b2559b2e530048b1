use Rattle.std.proofs.Common.{sym, ap, ◌∙◌}
use Rattle.std.proofs.lemmas.Result.{IfOk-weaker}
use Rattle.pyc_iface.specs.DeclaredView.{declared_at}
use Rattle.pyc_iface.specs.PlainWorldView.{world_in}
use Rattle.pyc_names.specs.NotedLooks.{with_looks}
use Rattle.pyc_names.specs.NotedLooksView.{noted_in}
use Rattle.pyc_names.proofs.NotedLemmas.{with_none}
use Rattle.pyc_iface.specs.Members.{variable}
use Rattle.pyc_iface.proofs.MemberLookLemmas.{any_in, other_form, other_form_looks}
use Rattle.pyc_iface.proofs.world.PlainWorld.form_member.Goals as goal

pub returns-in_default : goal.returns-in_default
returns-in_default c =
    let files = world_in c.args.self.now in
    let noted = noted_in c.args.looks.now in
    let looks = other_form_looks files (declared_at c.args.c) c.args.form.now c.in_default.not-Function c.in_default.not-Annotated in
    let form = other_form files (declared_at c.args.c) c.args.name.now c.args.form.now c.in_default.not-Function c.in_default.not-Annotated c.in_default.not-Assigned in
    record {
      found = IfOk-weaker c.variable-in_default.result _ _ (λ member is. is ∙ ap (variable (declared_at c.args.c)) any_in ∙ form) c.variable-in_default.ensures;
      looks = IfOk-weaker c.variable-in_default.result _ _ (λ member is. sym (with_none noted) ∙ ap (with_looks noted) (sym looks)) c.variable-in_default.ensures;
    }
