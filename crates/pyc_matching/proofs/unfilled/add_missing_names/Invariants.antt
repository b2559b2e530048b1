use Rattle.std.proofs.Common.{◌≡◌, ◌++◌, drop, map}
use Rattle.pyc_matching.specs.Missing.{missing_names}
use Rattle.pyc_matching.specs.Views.{fill_of, missing_in}
use Rattle.pyc_type_forms.specs.TypeView.{param_row}
use Rattle.pyc_matching.proofs.unfilled.add_missing_names.Given as goal

-- what was added, with what is missing among the parameters that are left, is the whole
abbrev pub invariant-loop-index : goal.invariant-loop-index
invariant-loop-index l =
    map missing_in l.found.items ++ missing_names (fill_of l.fill) l.index (param_row (drop l.index l.params))
    ≡ map missing_in l.fn.found.items ++ missing_names (fill_of l.fill) 0 (param_row l.params)
