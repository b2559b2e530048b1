use Rattle.std.proofs.Common.{◌∙◌, ap, cond, sym, Some}
use Rattle.indexmap.specs.IndexMap.{get as number_of}
use Rattle.pyc_keys.specs.KeyEquality.{is_asked}
use Rattle.pyc_keys.specs.KeyNumbers.{key_at}
use Rattle.pyc_reading.specs.KeyView.{key_of}
use Rattle.pyc_keys.proofs.TableLemmas.{inverse_with, no_number}
use Rattle.pyc_keys.proofs.key_table.KeyTable.add.Goals as goal

pub invariant_of-self : goal.invariant_of-self
invariant_of-self c =
    let room = c.make_room.new.self in
    record {
      inverse =
          inverse_with (key_at room.slots.slots) (key_at c.insert_reserved-number.new.self.slots)
          (number_of is_asked room.numbers) (number_of is_asked c.note.new.numbers)
          c.insert_reserved-number.result (key_of c.args.key.now) room.inverse c.insert_reserved-number.ensures.was_vacant
          (no_number _ (number_of is_asked room.numbers) _ room.inverse
          (λ i h. c.requires i (ap (λ ks. key_at ks i) (sym c.make_room.ensures.same) ∙ h)))
          (c.insert_reserved-number.ensures.updates.changed ∙ ap (λ k. Some k) c.in_ok-held.ensures.first)
          c.insert_reserved-number.ensures.updates.others
          (λ q. c.note.ensures.0 q
          ∙ ap (λ k. cond (is_asked k q) (Some c.insert_reserved-number.result) (number_of is_asked room.numbers q)) c.in_ok-held.ensures.second);
    }
