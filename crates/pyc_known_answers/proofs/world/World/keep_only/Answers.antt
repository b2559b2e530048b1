use Rattle.std.proofs.Common.{subst, sym}
use Rattle.pyc_keys.specs.KeyNumbers.{key_at}
use Rattle.pyc_keys.specs.Numbering.{Extends}
use Rattle.pyc_known_answers.proofs.KnownLemmas.{only_extends}
use Rattle.pyc_known_answers.proofs.world.World.keep_only.Goals as goal

pub invariant_of-self : goal.invariant_of-self
invariant_of-self g c =
    let before = key_at c.args.self.now.keys in
    record {
      are_over = c.keep_held.ensures.over before
          (subst (λ held. Extends held before) (sym c.keep_only.ensures) (only_extends _ before)) c.args.self.now.are_over;
    }
