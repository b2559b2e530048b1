use Rattle.std.proofs.Common.{◌≡◌, ◌++◌, drop, map}
use Rattle.pyc_type_forms.specs.TypeView.{ty_of}
use Rattle.pyc_operators.proofs.made.add_each.Given as goal

-- what was added, with the types that are left, is the whole
abbrev pub invariant-loop-ty : goal.invariant-loop-ty
invariant-loop-ty l =
    map ty_of l.out.items ++ map ty_of (drop l.ty-index l.types) ≡ map ty_of l.fn.out.items ++ map ty_of l.types
