use Rattle.std.proofs.Common.{◌≡◌, map, drop}
use Rattle.std.specs.List.{list_any}
use Rattle.pyc_simple_statements.specs.Heads.{is_any}
use Rattle.pyc_type_forms.specs.TypeView.{ty_of}
use Rattle.pyc_simple_statements.proofs.catching.has_any.Given as goal

-- the types that are left decide
abbrev pub invariant-loop-ty : goal.invariant-loop-ty
invariant-loop-ty l = list_any is_any (map ty_of (drop l.ty-index l.types)) ≡ list_any is_any (map ty_of l.types)
