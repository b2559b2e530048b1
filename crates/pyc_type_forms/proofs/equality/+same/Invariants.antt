use Rattle.std.proofs.Common.{◌≡◌, drop}
use Rattle.pyc_type_forms.specs.TypeView.{row, param_row}
use Rattle.pyc_type_forms.specs.Equality.{same_types, same_listed}
use Rattle.pyc_type_forms.proofs.equality.+same.Given as goal

-- the types that are left decide
abbrev pub invariant-are_same_types-loop-i : goal.invariant-are_same_types-loop-i
invariant-are_same_types-loop-i l =
    same_types (row (drop l.i l.types)) (row (drop l.i l.others)) ≡ same_types (row l.types) (row l.others)

-- the parameters that are left decide
abbrev pub invariant-is_same_row-loop-i : goal.invariant-is_same_row-loop-i
invariant-is_same_row-loop-i l =
    same_listed (param_row (drop l.i l.params)) (param_row (drop l.i l.others))
    ≡ same_listed (param_row l.params) (param_row l.others)
