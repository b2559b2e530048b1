use Rattle.std.proofs.Common.{◌≡◌, ◌++◌, ◌*◌, ◌+◌, drop, map}
use Rattle.pyc_type_forms.specs.TypeView.{ty_of, row}
use Rattle.pyc_type_forms.specs.Size.{size, row_size}
use Rattle.pyc_type_forms.specs.Unions.{row_items}
use Rattle.pyc_type_forms.proofs.unions.+items.Given as goal

abbrev pub decreases-add_items : goal.decreases-add_items
decreases-add_items l = 2 * size (ty_of l.ty.now)

abbrev pub decreases-add_row_items : goal.decreases-add_row_items
decreases-add_row_items l = 2 * row_size (row l.types.now) + 1

-- what was added, with the items of the types that are left, is the whole
abbrev pub invariant-add_row_items-loop-ty : goal.invariant-add_row_items-loop-ty
invariant-add_row_items-loop-ty l =
    map ty_of l.out.items ++ row_items (row (drop l.ty-index l.types)) ≡ map ty_of l.fn.out.items ++ row_items (row l.types)
