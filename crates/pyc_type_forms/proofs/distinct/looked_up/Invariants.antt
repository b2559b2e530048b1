use Rattle.std.proofs.Common.{◌≡◌, [], drop, map}
use Rattle.pyc_type_forms.specs.Distinct.{AreClasses}
use Rattle.pyc_type_forms.specs.TypeView.{ty_of}
use Rattle.pyc_type_forms.specs.Unions.{with_items}
use Rattle.pyc_type_forms.proofs.distinct.looked_up.Given as goal

-- what is kept, with the types that are left, is the whole; and the classes are those of its instances
abbrev pub invariant-loop-ty : goal.invariant-loop-ty
invariant-loop-ty l =
    record {
      kept : with_items (map ty_of l.kept.items) (map ty_of (drop l.ty-index l.types)) ≡ with_items [] (map ty_of l.types);
      classes : AreClasses l.classes (map ty_of l.kept.items);
    }
