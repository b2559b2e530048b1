use Rattle.std.proofs.Common.{◌≡◌, ◌≤◌, ◌+◌, true, false, List, length, ap, subst, sym, ◌∙◌}
use Rattle.std.proofs.Math.Logic.{∥∥₁_elim}
use Rattle.std.proofs.Props.{props}
use Rattle.pyc_iface.specs.CarryLaws.{AnswersStay}
use Rattle.pyc_iface.specs.Flags.{is_flagged}
use Rattle.pyc_iface.specs.PlainWorldView.{world_in}
use Rattle.pyc_interfaces.proofs.NotedChanges.{modules_differ}
use Rattle.pyc_interfaces.proofs.SharedLemmas.{shared_orders, shared_looks, shared_answers}
use Rattle.pyc_interfaces.specs.ChangedBetween.{HaveInCommon, modules_between}
use Rattle.pyc_interfaces.specs.ClassHeads.{same_heads_between}
use Rattle.pyc_names.specs.Interfaces.{Interface}
use Rattle.pyc_names.specs.NotedLooks.{with_looks}
use Rattle.pyc_names.specs.TableView.{table_in}
use Rattle.pyc_interfaces.proofs.changes.revised_world.Goals as goal

pub note_changes-requires-clause-old : goal.note_changes-requires-clause-old
note_changes-requires-clause-old c =
    subst (λ (l : List Interface). c.args.common.front + c.args.common.back ≤ length l) (sym c.table.ensures)
    (∥∥₁_elim c.requires (Prim.hlevel props) (λ common. common.fit))

pub note_changes-requires-clause-new : goal.note_changes-requires-clause-new
note_changes-requires-clause-new c =
    subst (λ (l : List Interface). c.args.common.front + c.args.common.back ≤ length l) (sym c.in_ok-table.ensures)
    (∥∥₁_elim c.requires (Prim.hlevel props) (λ common. common.fit_others))

pub with_other_orders-requires-clause-common : goal.with_other_orders-requires-clause-common
with_other_orders-requires-clause-common c =
    subst (λ (l : List Interface). ∥ HaveInCommon c.args.common.front c.args.common.back (world_in c.args.old.now) l ∥₁) (sym c.in_ok-table.ensures) c.requires

pub with_table-requires-clause-orders : goal.with_table-requires-clause-orders
with_table-requires-clause-orders c =
    let front = c.args.common.front in
    let back = c.args.common.back in
    let files = world_in c.args.old.now in
    let others = table_in c.in_ok-table.table in
    let flags = c.in_ok-flags.flags in
    shared_orders (is_flagged flags) front back files others
    (subst (λ (l : List Interface). ∥ HaveInCommon front back files l ∥₁) (sym c.in_ok-table.ensures) c.requires)
    (modules_differ front back files others _ flags _ _ c.table.ensures c.new-looks.ensures c.in_ok-note_changes.ensures c.in_ok-flags.ensures)
    (ap (λ (l : List Interface). same_heads_between front back l others) (sym c.table.ensures) ∙ sym c.in_ok-same.ensures ∙ c.if-same.true)
    (sym c.is_any_class_flagged.ensures ∙ c.if-not-is_any_class_flagged.true)

pub with_table-requires-clause-looks : goal.with_table-requires-clause-looks
with_table-requires-clause-looks c =
    let front = c.args.common.front in
    let back = c.args.common.back in
    let files = world_in c.args.old.now in
    let others = table_in c.in_ok-table.table in
    let flags = c.in_ok-flags.flags in
    shared_looks (is_flagged flags) front back files others
    (subst (λ (l : List Interface). ∥ HaveInCommon front back files l ∥₁) (sym c.in_ok-table.ensures) c.requires)
    (modules_differ front back files others _ flags _ _ c.table.ensures c.new-looks.ensures c.in_ok-note_changes.ensures c.in_ok-flags.ensures)
    (ap (λ (l : List Interface). same_heads_between front back l others) (sym c.table.ensures) ∙ sym c.in_ok-same.ensures ∙ c.if-same.true)
    (sym c.is_any_class_flagged.ensures ∙ c.if-not-is_any_class_flagged.true)

pub returns-then-not-is_any_class_flagged-clause-stay : goal.returns-then-not-is_any_class_flagged-clause-stay
returns-then-not-is_any_class_flagged-clause-stay c =
    let front = c.args.common.front in
    let back = c.args.common.back in
    let files = world_in c.args.old.now in
    let others = table_in c.in_ok-table.table in
    let flags = c.in_ok-flags.flags in
    subst (λ (l : List Interface). ∥ AnswersStay (is_flagged flags) files l ∥₁) (sym (ap world_in c.in_ok-shared.ensures.ok ∙ c.in_ok-world.ensures))
    (shared_answers (is_flagged flags) front back files others
    (subst (λ (l : List Interface). ∥ HaveInCommon front back files l ∥₁) (sym c.in_ok-table.ensures) c.requires)
    (modules_differ front back files others _ flags _ _ c.table.ensures c.new-looks.ensures c.in_ok-note_changes.ensures c.in_ok-flags.ensures)
    (ap (λ (l : List Interface). same_heads_between front back l others) (sym c.table.ensures) ∙ sym c.in_ok-same.ensures ∙ c.if-same.true)
    (sym c.is_any_class_flagged.ensures ∙ c.if-not-is_any_class_flagged.true))
