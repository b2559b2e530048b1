use Rattle.std.proofs.Common.{◌≡◌, ◌++◌, if◌then◌else◌, drop, string_bytes, codes}
use Rattle.pyc_type_forms.specs.TypeView.{row, param_row}
use Rattle.pyc_type_forms.specs.Text.{texts_of, param_texts, joined, each_after}
use Rattle.pyc_type_forms.proofs.text.+write.Given as goal

-- what is written, with what is left, is the whole
abbrev pub invariant-write_joined-loop-item : goal.invariant-write_joined-loop-item
invariant-write_joined-loop-item l =
    let left = texts_of (row (drop l.item-index l.items)) in
    string_bytes l.out ++ (if l.is_first then joined l.separator left else each_after l.separator left)
    ≡ string_bytes l.fn.out ++ joined l.separator (texts_of (row l.items))

-- what is written, with what is left, is the whole
abbrev pub invariant-write_param_types-loop-param : goal.invariant-write_param_types-loop-param
invariant-write_param_types-loop-param l =
    let left = param_texts (param_row (drop l.param-index l.params)) in
    string_bytes l.out ++ (if l.is_first then joined (codes ", ") left else each_after (codes ", ") left)
    ≡ string_bytes l.fn.out ++ joined (codes ", ") (param_texts (param_row l.params))
