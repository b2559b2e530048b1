use Rattle.std.proofs.Common.{◌≡◌, ◌≤◌, None, length, option_map, sym, ap, ◌∙◌, arith}
use Rattle.pyc_iface.specs.Members.{assigned_in}
use Rattle.pyc_iface.specs.PlainWorldView.{world_in}
use Rattle.pyc_names.specs.NotedLooksView.{noted_in}
use Rattle.pyc_reading.specs.AnswerView.{member_answer_of}
use Rattle.pyc_iface.proofs.MemberLookLemmas.{assigned-rest, assigned-next, assigned-end}
use Rattle.pyc_iface.proofs.world.PlainWorld.first_assigned.Goals as goal

pub loop-class-preserved : goal.loop-class-preserved
loop-class-preserved c =
    let files = world_in c.args.self.now in
    let x = c.args.name.now in
    let classes = c.args.classes.now in
    let i = c.loop-class.class-index in
    let class = c.class-item.result in
    let none : assigned_in files class x ≡ None = sym c.in_ok-found.ensures.found ∙ ap (option_map member_answer_of) c.in_default.is in
    record {
      rest = c.loop-class.invariant.rest ∙ assigned-rest files x classes i class c.loop-class-test.true c.class-item.is none;
      noted =
          assigned-next files x classes i class c.loop-class-test.true c.class-item.is (noted_in c.loop-class.looks) (noted_in c.assigned_in.new.looks) none
          c.in_ok-found.ensures.looks
          ∙ c.loop-class.invariant.noted;
    }

pub returns-clause-looks : goal.returns-clause-looks
returns-clause-looks c =
    let all : length c.args.classes.now ≤ c.loop-class.class-index = omega (arith, c.loop-class-test.false) in
    assigned-end (world_in c.args.self.now) c.args.name.now c.args.classes.now c.loop-class.class-index (noted_in c.loop-class.looks) all
    ∙ c.loop-class.invariant.noted
