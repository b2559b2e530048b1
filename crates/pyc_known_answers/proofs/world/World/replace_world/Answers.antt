use Rattle.std.proofs.Common.{subst, sym}
use Rattle.pyc_known_answers.specs.WorldView.{held_by}
use Rattle.pyc_known_answers.specs.KnownAnswersView.{IsOver}
use Rattle.pyc_known_answers.proofs.world.World.replace_world.Goals as goal

pub invariant_of-self : goal.invariant_of-self
invariant_of-self c =
    record { are_over = subst (IsOver (held_by c.args.self.now)) (sym c.replace.ensures.after) c.requires }

pub returns-clause-over : goal.returns-clause-over
returns-clause-over c = subst (IsOver (held_by c.args.self.now)) (sym c.replace.ensures.value) c.args.self.now.are_over
