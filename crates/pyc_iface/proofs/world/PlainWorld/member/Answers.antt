use Rattle.std.proofs.Common.{◌≡◌, Some, option_map, sym, ap, ◌∙◌}
use Rattle.pyc_class_ids.specs.Mro.{Mro}
use Rattle.pyc_iface.specs.Answers.{orders_by}
use Rattle.pyc_iface.specs.Looks.{order_looks, first_assigned_looks}
use Rattle.pyc_iface.specs.Members.{first_declared}
use Rattle.pyc_iface.specs.PlainWorldView.{world_in}
use Rattle.pyc_names.specs.NotedLooksView.{noted_in}
use Rattle.pyc_reading.specs.AnswerView.{member_answer_of}
use Rattle.pyc_iface.proofs.MemberLookLemmas.{declared-found}
use Rattle.pyc_iface.proofs.world.PlainWorld.member.Goals as goal

pub returns-in-Some-clause-looks : goal.returns-in-Some-clause-looks
returns-in-Some-clause-looks c =
    let files = world_in c.args.self.now in
    let class = c.args.q.now.class in
    let x = c.args.q.now.name in
    let some : first_declared files c.lin-lin.result.classes.now x ≡ Some (member_answer_of c.in-Some.found) =
    sym c.in_ok-found.ensures.found ∙ ap (option_map member_answer_of) c.in-Some.is in
    let order = c.lin-lin.ensures in
    declared-found files x c.lin-lin.result.classes.now (orders_by files class).classes (noted_in c.args.looks.now) (noted_in c.note_order_of.new.looks)
    (noted_in c.first_declared.new.looks) (order_looks class) (first_assigned_looks files (orders_by files class).classes x) (member_answer_of c.in-Some.found)
    c.in_ok-note_order_of.ensures c.in_ok-found.ensures.looks some (ap (λ (o : Mro). o.classes) order)
