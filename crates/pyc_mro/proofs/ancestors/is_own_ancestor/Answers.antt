use Rattle.std.proofs.Common.{◌≡◌, ◌<◌, ℕ, List, Bool, false, replicate, length, sym, ap, ◌∙◌, arith}
use Rattle.std.proofs.lemmas.List.{with_items_is, nil_from_length, get_or_read_under}
use Rattle.pyc_mro.specs.TableView.{table_in}
use Rattle.pyc_mro.specs.Marks.{Marks}
use Rattle.pyc_mro.proofs.SearchLemmas.{search-first, search-more, search-smaller, search-end, mark_all-same, table-long}
use Rattle.pyc_mro.proofs.ancestors.is_own_ancestor.Goals as goal

abbrev made : List Bool → List ℕ → Marks
made marks work = record { marks = marks; work = work }

pub loop-next-init : goal.loop-next-init
loop-next-init c =
    let bases = c.args.bases.now in
    let work = c.mark.new.work.items in
    let long : length c.mark.new.marks ≡ c.in_ok-marks.marks.len = omega (arith, c.mark.auto.marks, c.deref_mut.ensures.len) in
    let none = c.in_ok-marks.ensures.items_if_clones_equal (λ y e. e) in
    let before = c.deref_mut.ensures.value ∙ none ∙ ap (λ n. replicate n false) (sym (table-long bases)) in
    search-first (table_in bases) c.args.class _
    (ap (λ ms. made ms work) (with_items_is c.in_ok-marks.marks c.mark.new.marks long) ∙ c.in_ok-mark.ensures
    ∙ mark_all-same _ _ _ _ _ _ c.bases_of.ensures before c.new-work.ensures.items)

pub loop-next-smaller : goal.loop-next-smaller
loop-next-smaller c =
    let marks = c.loop-next.marks in
    let work = c.mark-in-Some.new.work.items in
    let long : length c.mark-in-Some.new.marks ≡ marks.len = omega (arith, c.mark-in-Some.auto.marks, c.deref_mut-in-Some.ensures.len) in
    let same = with_items_is marks c.mark-in-Some.new.marks long in
    search-smaller (table_in c.args.bases.now) c.args.class (made marks.items c.loop-next.work.items) _ c.pop.new.self.items c.in-Some.next c.in-Some.ensures.items
    (ap (λ ms. made ms work) same ∙ c.in_ok-mark-2.ensures ∙ mark_all-same _ _ _ _ _ _ c.bases_of-in-Some.ensures c.deref_mut-in-Some.ensures.value (λ i. c.pop.new.self.items))
    (omega (arith, ap length same, marks.ok.0))

pub loop-next-preserved : goal.loop-next-preserved
loop-next-preserved c =
    let marks = c.loop-next.marks in
    let work = c.mark-in-Some.new.work.items in
    let long : length c.mark-in-Some.new.marks ≡ marks.len = omega (arith, c.mark-in-Some.auto.marks, c.deref_mut-in-Some.ensures.len) in
    let same = with_items_is marks c.mark-in-Some.new.marks long in
    search-more (table_in c.args.bases.now) c.args.class (made marks.items c.loop-next.work.items) _ c.pop.new.self.items c.in-Some.next c.loop-next.invariant c.in-Some.ensures.items
    (ap (λ ms. made ms work) same ∙ c.in_ok-mark-2.ensures ∙ mark_all-same _ _ _ _ _ _ c.bases_of-in-Some.ensures c.deref_mut-in-Some.ensures.value (λ i. c.pop.new.self.items))

pub returns : goal.returns
returns c =
    let bases = c.args.bases.now in
    let marks = c.loop-next.marks.items in
    let rows = table-long bases in
    let within : c.args.class < length (table_in bases) = let r = c.requires in omega arith in
    let over = nil_from_length c.loop-next.work.items (omega (arith, c.in_default.ensures.cases.0, c.loop-next.work.ok.0)) in
    get_or_read_under marks c.args.class (length (table_in bases)) c.index.result.now false c.index.ensures within (sym c.loop-next.invariant.long)
    ∙ search-end (table_in bases) c.args.class (made marks c.loop-next.work.items) within c.loop-next.invariant over
