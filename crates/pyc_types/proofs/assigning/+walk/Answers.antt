use Rattle.std.proofs.lemmas.Grind.{common_steps}
use Rattle.std.proofs.Common.{rules, suc, ◌≡◌, ◌≤◌, false, true, length, ap, sym, ◌∙◌, refl, arith}
use Rattle.pyc_class_ids.specs.Class.{form_of}
use Rattle.pyc_type_forms.specs.Types.{class_object, union}
use Rattle.pyc_type_forms.specs.Instances.{instance_of}
use Rattle.pyc_types.specs.Cross as cross
use Rattle.pyc_types.specs.Pairs as pairs
use Rattle.pyc_types.specs.Ways as spec
use Rattle.pyc_type_forms.specs.declared.types.Params.TheFolds.{the_lemmas}
use Rattle.pyc_type_forms.specs.TypeView.{ty_of, row, param_row}
use Rattle.pyc_types.specs.Slots.{slots_in}
use Rattle.pyc_type_forms.specs.Size.{size, row_size, listed_size}
use Rattle.pyc_types.proofs.Measures.{size_in_row, size_in_params}
use Rattle.pyc_types.proofs.WalkLemmas.{slots_row, other_lengths, row_step, rows_step, joins}
use Rattle.pyc_types.proofs.WayLemmas.{is_whole, ways_whole, made_by_form}
use Rattle.pyc_types.proofs.CrossLemmas.{rows_done, enough_marks, crossed}
use Rattle.pyc_types.proofs.Rules.{turned}
use Rattle.pyc_types.proofs.assigning.+walk.Goals as goal

pub item_ways-whole_ways-requires : goal.item_ways-whole_ways-requires
item_ways-whole_ways-requires g t c κs within =
    let h : size (ty_of c.item-item.result) ≤ row_size (row c.args.items.now) = size_in_row _ c.loop-item.item-index _ (omega arith) c.item-item.is in
    search rules

pub rules::is_each_back-walk-requires : goal.rules::is_each_back-walk-requires
rules::is_each_back-walk-requires g t c κs within =
    let h : size (ty_of c.other-item.result) ≤ row_size (row c.args.others.now) = size_in_row _ c.loop-other.other-index _ (omega arith) c.other-item.is in
    search rules

pub crossing::cross_row-walk-ways-requires : goal.crossing::cross_row-walk-ways-requires
crossing::cross_row-walk-ways-requires g t c κs within =
    let h : size (ty_of c.index-others-i.result) ≤ row_size (row c.args.others.now) = size_in_row _ c.loop-i.i _ (omega arith) c.index-others-i.is in
    search rules

pub crossing::cross_marked-cross_row-goes-requires : goal.crossing::cross_marked-cross_row-goes-requires
crossing::cross_marked-cross_row-goes-requires g t c κs within =
    let h : size (ty_of c.item-item.result) ≤ row_size (row c.args.items.now) = size_in_row _ c.loop-item.item-index _ (omega arith) c.item-item.is in
    let k : length c.args.others.now ≤ length c.loop-item.reached = omega (arith, c.requires.marks, c.loop-item.invariant.marks) in
    search rules

pub unions::union_ways-cross_ways-requires : goal.unions::union_ways-cross_ways-requires
unions::union_ways-cross_ways-requires g t c κs within =
    let few : length c.deref-then-is_crossable-2.result.now ≤ 1000 = enough_marks c.args.items.now c.deref-then-is_crossable-2.result.now (search rules) in
    let u : ty_of c.args.want.now ≡ union (row c.deref-then-is_crossable-2.result.now) = rw c.in-Union.is (search (rules, the_lemmas)) in
    let m : size (ty_of c.args.want.now) ≡ suc (row_size (row c.deref-then-is_crossable-2.result.now)) = ap size u in
    (search rules, (search rules, few))

pub unions::is_each_back_to-is_back_to-requires : goal.unions::is_each_back_to-is_back_to-requires
unions::is_each_back_to-is_back_to-requires g t c κs within =
    let h : size (ty_of c.other-item.result) ≤ row_size (row c.args.others.now) = size_in_row _ c.loop-other.other-index _ (omega arith) c.other-item.is in
    search rules

pub unions::is_each_there-walk-requires : goal.unions::is_each_there-walk-requires
unions::is_each_there-walk-requires g t c κs within =
    let h : size (ty_of c.item-item.result) ≤ row_size (row c.args.items.now) = size_in_row _ c.loop-item.item-index _ (omega arith) c.item-item.is in
    search rules

pub unions::is_some_back-walk-requires : goal.unions::is_some_back-walk-requires
unions::is_some_back-walk-requires g t c κs within =
    let h : size (ty_of c.item-item.result) ≤ row_size (row c.args.items.now) = size_in_row _ c.loop-item.item-index _ (omega arith) c.item-item.is in
    search rules

pub unions::one_ways-walk-requires : goal.unions::one_ways-walk-requires
unions::one_ways-walk-requires g t c κs within =
    let h : size (ty_of c.item-item.result) ≤ row_size (row c.args.items.now) = size_in_row _ c.loop-item.item-index _ (omega arith) c.item-item.is in
    search rules

pub parameters::row_ways-pair_ways-requires : goal.parameters::row_ways-pair_ways-requires
parameters::row_ways-pair_ways-requires g t c κs within =
    let h : size (ty_of c.index-wants-j.result.ty) ≤ listed_size (param_row c.args.wants.now) = size_in_params _ c.loop-j.j _ (omega arith) c.index-wants-j.is in
    search rules

pub parameters::rows_ways-row_ways-requires : goal.parameters::rows_ways-row_ways-requires
parameters::rows_ways-row_ways-requires g t c κs within =
    let h : size (ty_of c.index-gots-i.result.ty) ≤ listed_size (param_row c.args.gots.now) = size_in_params _ c.loop-i.i _ (omega arith) c.index-gots-i.is in
    search rules

pub rules::place_ways-walk-requires : goal.rules::place_ways-walk-requires
rules::place_ways-walk-requires g t c κs within =
    let h : size (ty_of c.index-items-i.result) ≤ row_size (row c.args.items.now) = size_in_row _ c.loop-i.i _ (omega arith) c.index-items-i.is in
    let k : size (ty_of c.index-others-i.result) ≤ row_size (row c.args.others.now) = size_in_row _ c.loop-i.i _ (omega arith) c.index-others-i.is in
    search rules

pub parameters::listed_ways-returns-then-not-fitting-2 : goal.parameters::listed_ways-returns-then-not-fitting-2
parameters::listed_ways-returns-then-not-fitting-2 g t c =
    let a : c.fits.result ≡ false = search rules in
    let b : c.fits-2.result ≡ false = search rules in
    rw (slots_row c.args.gots.now, slots_row c.args.wants.now, ← c.fits.ensures, ← c.fits-2.ensures, a, b) refl

pub parameters::listed_ways-returns : goal.parameters::listed_ways-returns
parameters::listed_ways-returns g t c =
    rw (slots_row c.args.gots.now, slots_row c.args.wants.now, ← c.fits.ensures, ← c.fits-2.ensures, ← c.rows_ways.ensures) c.meet.ensures

pub parameters::row_ways-loop-j-preserved : goal.parameters::row_ways-loop-j-preserved
parameters::row_ways-loop-j-preserved g t c =
    row_step (pairs.pair_ways (slots_in c.args.gots.now) (slots_in c.args.wants.now) c.args.i) (spec.ways (g.L.Lins.orders c.args.lins.now) (ty_of c.args.got.now.ty)) c.args.wants.now c.loop-j.j c.index-wants-j.result c.loop-j.all c.pair_ways.result c.meet-all.result _ (omega arith) c.index-wants-j.is c.pair_ways.ensures c.meet-all.ensures c.loop-j.invariant

pub parameters::rows_ways-loop-i-preserved : goal.parameters::rows_ways-loop-i-preserved
parameters::rows_ways-loop-i-preserved g t c =
    rows_step (g.L.Lins.orders c.args.lins.now) (pairs.pair_ways (slots_in c.args.gots.now) (slots_in c.args.wants.now)) (param_row c.args.wants.now) c.args.gots.now c.loop-i.i c.index-gots-i.result c.loop-i.all c.row_ways.result c.meet-all.result _ (omega arith) c.index-gots-i.is c.row_ways.ensures c.meet-all.ensures c.loop-i.invariant

pub crossing::cross_marked-returns : goal.crossing::cross_marked-returns
crossing::cross_marked-returns g t c =
    rows_done (g.L.Lins.orders c.args.lins.now) c.args.items.now c.args.others.now c.loop-item.item-index (length c.args.reached.now) c.loop-item.there c.is_all_reached.result c.loop-item.reached (omega arith) c.requires.marks c.loop-item.invariant.there c.loop-item.invariant.reached c.is_all_reached.ensures

pub crossing::cross_marked-loop-item-init : goal.crossing::cross_marked-loop-item-init
crossing::cross_marked-loop-item-init g t c =
    let fs = spec.ways_of (g.L.Lins.orders c.args.lins.now) (row c.args.items.now) in
    record {
      there = search rules;
      reached = ap (cross.reach_all fs (row c.args.others.now)) c.requires.unmarked;
      marks = refl;
    }

pub unions::union_ways-returns-then-is_crossable : goal.unions::union_ways-returns-then-is_crossable
unions::union_ways-returns-then-is_crossable g t c =
    let k : cross.is_crossable (row c.args.items.now) (row c.deref-then-is_crossable-2.result.now) ≡ true = search rules in
    let u : ty_of c.args.want.now ≡ union (row c.deref-then-is_crossable-2.result.now) = rw c.in-Union.is (search (rules, the_lemmas)) in
    rw (u, c.cross_ways.ensures) (crossed (g.L.Lins.orders c.args.lins.now) (row c.args.items.now) (row c.deref-then-is_crossable-2.result.now) k)

pub rules::callable_rule-returns-in-Class : goal.rules::callable_rule-returns-in-Class
rules::callable_rule-returns-in-Class g t c =
    let o = g.L.Lins.orders c.args.lins.now in
    let r = ty_of c.args.signature.now.result in
    let d = c.in-Class.class in
    let k : ty_of c.args.want.now ≡ class_object d = rw c.in-Class.is (search (rules, the_lemmas)) in
    let m : c.made_ways.result.there ≡ (spec.ways o r (instance_of d)).back =
    ap (λ w. w.there) (c.made_ways.ensures ∙ made_by_form o (form_of d) d r) ∙ sym (turned o r (instance_of d)) in
    rw (k, m) refl

pub rules::place_ways-returns-then-items-others : goal.rules::place_ways-returns-then-items-others
rules::place_ways-returns-then-items-others g t c =
    c.neither.ensures ∙ sym (other_lengths _ c.args.items.now c.args.others.now (λ same. absurd (omega (arith, same))))

pub walk-returns-in_default : goal.walk-returns-in_default
walk-returns-in_default g t c =
    let h : is_whole (ty_of c.args.got.now) ≡ true = search (rules, the_lemmas) in
    rw (ways_whole _ _ h) c.whole_ways.ensures

pub item_ways-loop-item-init : goal.item_ways-loop-item-init
item_ways-loop-item-init g t c = first_of (grind (arith, joins), search rules)

pub item_ways-returns : goal.item_ways-returns
item_ways-returns g t c = first_of (grind (arith, common_steps, joins), search rules)
