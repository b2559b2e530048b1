use Rattle.std.proofs.Common.{◌≡◌, ◌+◌, drop}
use Rattle.pyc_type_forms.specs.TypeView.{row, param_row}
use Rattle.pyc_type_forms.specs.Size.{row_size, listed_size}
use Rattle.pyc_type_forms.proofs.size.+size.Given as goal

-- what is left and the types that were counted are what there was
abbrev pub invariant-left_after_each-loop-ty : goal.invariant-left_after_each-loop-ty
invariant-left_after_each-loop-ty l =
    l.left + row_size (row l.types) ≡ l.fn.left + row_size (row (drop l.ty-index l.types))

-- what is left and the types that were counted are what there was
abbrev pub invariant-left_after_listed-loop-param : goal.invariant-left_after_listed-loop-param
invariant-left_after_listed-loop-param l =
    l.left + listed_size (param_row l.params) ≡ l.fn.left + listed_size (param_row (drop l.param-index l.params))
