use Rattle.std.proofs.Common.{sym}
use Rattle.indexmap.specs.IndexMap.{get as number_of}
use Rattle.pyc_keys.specs.KeyEquality.{is_asked}
use Rattle.pyc_keys.specs.KeyNumbers.{key_at}
use Rattle.pyc_keys.proofs.TableLemmas.{inverse_without}
use Rattle.pyc_keys.proofs.key_table.KeyTable.release.Goals as goal

pub invariant_of-self : goal.invariant_of-self
invariant_of-self c =
    record {
      inverse =
          inverse_without (key_at c.args.self.now.slots.slots) (key_at c.try_remove.new.self.slots)
          (number_of is_asked c.args.self.now.numbers) (number_of is_asked c.swap_remove.new.self)
          c.args.number c.in-Some.key c.args.self.now.inverse (sym c.in-Some.ensures.value) c.in-Some.ensures.updates.changed
          c.in-Some.ensures.updates.others c.swap_remove.ensures.updates.0;
    }
