use Rattle.std.proofs.Common.{◌≡◌, ◌++◌, map, drop}
use Rattle.pyc_type_forms.specs.TypeView.{ty_of}
use Rattle.pyc_displays.proofs.expecting.copy_types.Given as goal

-- the copies, with the types that are left, are all
abbrev pub invariant-loop-ty : goal.invariant-loop-ty
invariant-loop-ty l = map ty_of l.copies.items ++ map ty_of (drop l.ty-index l.types) ≡ map ty_of l.types
