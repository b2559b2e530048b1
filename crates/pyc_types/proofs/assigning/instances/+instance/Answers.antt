use Rattle.pyc_types.proofs.WalkLemmas.{joins}
use Rattle.std.proofs.Common.{◌≡◌, false, rules, arith}
use Rattle.pyc_type_forms.specs.declared.types.Params.TheFolds.{the_lemmas}
use Rattle.pyc_type_forms.specs.Types.{union}
use Rattle.pyc_type_forms.specs.TypeView.{ty_of, row}
use Rattle.pyc_types.specs.Assignable.{is_union}
use Rattle.pyc_types.proofs.WayLemmas.{into_other, into_union}
use Rattle.pyc_types.proofs.assigning.instances.+instance.Goals as goal
use Rattle.pyc_types.proofs.assigning.instances.+instance.Goals.{instance_ways-in-Union, instance_ways-in_default}

pub instance_ways-returns : goal.instance_ways-returns
instance_ways-returns g t c =
    elim c.match-want.branch [
      | instance_ways-in-Union w ↦
          let k : ty_of c.args.want.now ≡ union (row w.in-Union.items.value.items) = rw w.in-Union.is (search (rules, the_lemmas)) in
          rw (into_union _ _ _ _ _ k) (rw (w.by_form-is, w.instance_item_ways-by_form.ensures, w.deref-in-Union.ensures.value, w.deref.ensures, c.is_simple_instance.ensures, c.is_simple_target.ensures) at c.either.ensures)
      | instance_ways-in_default w ↦
          let h : is_union (ty_of c.args.want.now) ≡ false = search (rules, the_lemmas) in
          rw (into_other _ _ _ _ h) (rw (w.by_form-is, w.instance_rule-by_form.ensures, c.is_simple_instance.ensures, c.is_simple_target.ensures) at c.either.ensures)
    ]

pub instance_item_ways-loop-item-init : goal.instance_item_ways-loop-item-init
instance_item_ways-loop-item-init g t c = first_of (grind (arith, joins), search rules)
