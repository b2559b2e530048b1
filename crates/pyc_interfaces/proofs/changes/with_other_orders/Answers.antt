use Rattle.std.proofs.Common.{◌≤◌, ◌+◌, List, length, ap, subst, sym, ◌∙◌}
use Rattle.std.proofs.Math.Logic.{∥∥₁_elim}
use Rattle.std.proofs.Props.{props}
use Rattle.pyc_iface.specs.CarryLaws.{AnswersStay}
use Rattle.pyc_iface.specs.Flags.{is_flagged}
use Rattle.pyc_iface.specs.PlainWorldView.{world_in}
use Rattle.pyc_interfaces.proofs.ChangedLemmas.{changed_looks_are_all}
use Rattle.pyc_interfaces.proofs.NotedChanges.{all_differ}
use Rattle.pyc_names.specs.Interfaces.{Interface}
use Rattle.pyc_names.specs.TableView.{table_in}
use Rattle.pyc_interfaces.proofs.changes.with_other_orders.Goals as goal

pub note_order_changes-requires : goal.note_order_changes-requires
note_order_changes-requires c =
    subst (λ (l : List Interface). c.args.common.front + c.args.common.back ≤ length l) (sym c.in_ok-world.ensures)
    (∥∥₁_elim c.requires.common (Prim.hlevel props) (λ common. common.fit_others))

pub returns-clause-world : goal.returns-clause-world
returns-clause-world c = ap world_in c.in_ok-shared.ensures.ok ∙ c.in_ok-world.ensures

pub returns-clause-stay : goal.returns-clause-stay
returns-clause-stay c =
    let front = c.args.common.front in
    let back = c.args.common.back in
    let files = world_in c.args.old.now in
    let others = table_in c.args.table in
    let flags = c.in_ok-flags.flags in
    ∥∥₁_elim c.requires.common squash₁
    (λ common. ∣ subst (AnswersStay (is_flagged flags) files) (sym (ap world_in c.in_ok-shared.ensures.ok ∙ c.in_ok-world.ensures))
    (changed_looks_are_all (is_flagged flags) front back files others common
    (all_differ front back files others _ flags _ _ c.requires.looks c.in_ok-world.ensures c.in_ok-note_order_changes.ensures c.in_ok-flags.ensures)) ∣₁)
