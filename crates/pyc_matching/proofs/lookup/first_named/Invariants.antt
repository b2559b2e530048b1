use Rattle.std.proofs.Common.{◌≡◌, drop}
use Rattle.pyc_matching.specs.Matching.{first_from, is_named}
use Rattle.pyc_type_forms.specs.TypeView.{param_row}
use Rattle.pyc_matching.proofs.lookup.first_named.Given as goal

-- the first of those that are left is the first of all
abbrev pub invariant-loop-index : goal.invariant-loop-index
invariant-loop-index l =
    first_from (is_named l.name) l.index (param_row (drop l.index l.params)) ≡ first_from (is_named l.name) 0 (param_row l.params)
