use Rattle.std.proofs.Common.{rules, ◌≤◌, arith}
use Rattle.pyc_type_forms.specs.TypeView.{ty_of, row}
use Rattle.pyc_type_forms.specs.Size.{size, row_size}
use Rattle.pyc_type_forms.proofs.UnionLemmas.{size_in_row}
use Rattle.pyc_type_forms.proofs.unions.+items.Goals as goal

pub add_row_items-add_items-requires : goal.add_row_items-add_items-requires
add_row_items-add_items-requires t c =
    let h : size (ty_of c.ty-item.result) ≤ row_size (row c.args.types.now) = size_in_row _ c.loop-ty.ty-index _ (omega arith) c.ty-item.is in
    search rules
