use Rattle.std.proofs.Common.{map, sym, ◌∙◌}
use Rattle.pyc_type_forms.specs.Types.{instance}
use Rattle.pyc_type_forms.specs.TypeView.{ty_of}
use Rattle.pyc_type_forms.proofs.DistinctLemmas.{known_kept, new_kept, new_class}
use Rattle.pyc_type_forms.proofs.distinct.add_instance_if_unknown.Goals as goal

pub returns-then-contains-clause-kept : goal.returns-then-contains-clause-kept
returns-then-contains-clause-kept c =
    known_kept (map ty_of c.args.kept.now.items) (instance c.args.class.now) (sym (c.requires c.args.class.now) ∙ sym c.contains.ensures ∙ c.if-contains.true)

pub returns-clause-kept : goal.returns-clause-kept
returns-clause-kept c =
    new_kept (map ty_of c.args.kept.now.items) _ (instance c.args.class.now) c.in_ok-push_instance.ensures
    (sym (c.requires c.args.class.now) ∙ sym c.contains.ensures ∙ c.if-contains.false)

pub returns-clause-classes : goal.returns-clause-classes
returns-clause-classes c = λ d.
    new_class (map ty_of c.args.kept.now.items) _ c.args.class.now _ d _ _ c.in_ok-clone.ensures.cases (c.requires d)
    (c.in_ok-insert.ensures.updates.0 d) c.in_ok-push_instance.ensures
