use Rattle.std.proofs.Common.{◌≡◌, false, map, ap, sym, ◌∙◌, rules}
use Rattle.pyc_type_forms.specs.declared.types.Params.TheFolds.{the_lemmas}
use Rattle.pyc_type_forms.specs.Types.{instance}
use Rattle.pyc_type_forms.specs.TypeView.{ty_of}
use Rattle.pyc_type_forms.specs.Unions.{is_among}
use Rattle.pyc_type_forms.proofs.DistinctLemmas.{is_instance, other_kept}
use Rattle.pyc_type_forms.proofs.distinct.add_if_unknown.Goals as goal

pub returns-in_ok-add_if_new-in_default-clause-classes : goal.returns-in_ok-add_if_new-in_default-clause-classes
returns-in_ok-add_if_new-in_default-clause-classes c =
    let other : is_instance (ty_of c.args.ty.now) ≡ false = search (rules, the_lemmas) in
    λ d. c.requires d ∙ sym (other_kept (map ty_of c.args.kept.now.items) (ty_of c.args.ty.now) d other)
    ∙ ap (λ l. is_among l (instance d)) (sym c.in_ok-add_if_new-in_default.ensures)
