use Rattle.std.proofs.Common.{◌≡◌, ◌∙◌, length, map, sym, ap, arith}
use Rattle.std.proofs.lemmas.List.{with_items_is}
use Rattle.std.specs.List.{list_all}
use Rattle.pyc_mro.specs.Merge.{first_free, is_empty}
use Rattle.pyc_mro.specs.Rows.{rows_in, past}
use Rattle.pyc_mro.proofs.MergeLemmas.{merge-more, entry_count-more, merge-done, merge-fails}
use Rattle.pyc_mro.proofs.TailLemmas.{counts_kept}
use Rattle.pyc_mro.proofs.counting.merge_by.Goals as goal

pub first_free-requires : goal.first_free-requires
first_free-requires c = counts_kept c.deref-in-loop-class.ensures.value c.deref.ensures.value c.loop-class.invariant.counts

pub take_off-requires : goal.take_off-requires
take_off-requires c = counts_kept c.deref_mut-in-Some.ensures.value c.deref_mut.ensures.value c.loop-class.invariant.counts

pub loop-class-smaller : goal.loop-class-smaller
loop-class-smaller c =
    let long : length c.take_off.new.rows ≡ c.loop-class.rows.len = omega (arith, c.take_off.auto.rows, c.deref_mut.ensures.len) in
    let off = ap rows_in (with_items_is c.loop-class.rows c.take_off.new.rows long) ∙ c.take_off.ensures.rows ∙ ap (λ r. map (past c.in-Some.class) (rows_in r)) c.deref_mut.ensures.value in
    let found = sym (c.in-Some.ensures ∙ ap (λ r. first_free (rows_in r) (rows_in r)) c.deref.ensures.value) in
    entry_count-more (rows_in c.loop-class.rows.items) _ c.in-Some.class found off

pub loop-class-preserved : goal.loop-class-preserved
loop-class-preserved c =
    let long : length c.take_off.new.rows ≡ c.loop-class.rows.len = omega (arith, c.take_off.auto.rows, c.deref_mut.ensures.len) in
    let off = ap rows_in (with_items_is c.loop-class.rows c.take_off.new.rows long) ∙ c.take_off.ensures.rows ∙ ap (λ r. map (past c.in-Some.class) (rows_in r)) c.deref_mut.ensures.value in
    let found = sym (c.in-Some.ensures ∙ ap (λ r. first_free (rows_in r) (rows_in r)) c.deref.ensures.value) in
    let wide : length c.take_off.new.counts ≡ c.loop-class.counts.len = omega (arith, c.take_off.auto.counts, c.deref_mut-in-Some.ensures.len) in
    record {
      whole = merge-more c.loop-class.classes.items _ (rows_in c.loop-class.rows.items) _ _ c.in-Some.class found off c.in_ok-push.ensures.items c.loop-class.invariant.whole;
      counts = counts_kept (with_items_is c.loop-class.counts c.take_off.new.counts wide) (with_items_is c.loop-class.rows c.take_off.new.rows long) c.take_off.ensures.counts;
    }

pub returns-then-are_empty : goal.returns-then-are_empty
returns-then-are_empty c =
    let none = sym (c.in_default.ensures ∙ ap (λ r. first_free (rows_in r) (rows_in r)) c.deref.ensures.value) in
    let empty = sym (c.if-are_empty.ensures ∙ ap (λ r. list_all is_empty (rows_in r)) c.deref-2.ensures.value) in
    merge-done c.loop-class.classes.items (rows_in c.loop-class.rows.items) _ none empty c.loop-class.invariant.whole

pub returns : goal.returns
returns c =
    let none = sym (c.in_default.ensures ∙ ap (λ r. first_free (rows_in r) (rows_in r)) c.deref.ensures.value) in
    let left = sym (c.if-are_empty.ensures ∙ ap (λ r. list_all is_empty (rows_in r)) c.deref-2.ensures.value) in
    merge-fails c.loop-class.classes.items (rows_in c.loop-class.rows.items) _ none left c.loop-class.invariant.whole
