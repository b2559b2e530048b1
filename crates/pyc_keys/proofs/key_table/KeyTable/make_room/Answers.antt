use Rattle.std.proofs.Common.{ap, subst, sym}
use Rattle.indexmap.specs.IndexMap.{get as number_of}
use Rattle.pyc_keys.specs.Inverse.{AreInverse}
use Rattle.pyc_keys.specs.KeyEquality.{is_asked}
use Rattle.pyc_keys.specs.KeyNumbers.{key_at}
use Rattle.pyc_keys.proofs.TableLemmas.{same_entries}
use Rattle.pyc_keys.proofs.key_table.KeyTable.make_room.Goals as goal

pub invariant_of-self : goal.invariant_of-self
invariant_of-self c = record { inverse = same_entries _ _ _ c.reserve.ensures.entries c.args.self.now.inverse }

pub invariant_of-self-2 : goal.invariant_of-self-2
invariant_of-self-2 c =
    record {
      inverse =
          subst (λ slots. AreInverse (key_at slots) (number_of is_asked c.reserve.new.self))
          (sym (ap (λ s. s.slots) c.reserve-2.ensures.rest_kept))
          (same_entries _ _ _ c.reserve.ensures.entries c.args.self.now.inverse);
    }
