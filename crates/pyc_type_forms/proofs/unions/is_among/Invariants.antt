use Rattle.std.proofs.Common.{◌≡◌, drop, map}
use Rattle.pyc_type_forms.specs.TypeView.{ty_of}
use Rattle.pyc_type_forms.specs.Unions.{is_among}
use Rattle.pyc_type_forms.proofs.unions.is_among.Given as goal

-- the types that are left decide
abbrev pub invariant-loop-other : goal.invariant-loop-other
invariant-loop-other l =
    is_among (map ty_of (drop l.other-index l.types)) (ty_of l.ty) ≡ is_among (map ty_of l.types) (ty_of l.ty)
