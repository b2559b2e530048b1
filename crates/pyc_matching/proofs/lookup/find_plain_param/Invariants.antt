use Rattle.std.proofs.Common.{◌≡◌, drop}
use Rattle.pyc_matching.specs.Matching.{plain_from}
use Rattle.pyc_type_forms.specs.TypeView.{param_row}
use Rattle.pyc_matching.proofs.lookup.find_plain_param.Given as goal

-- behind those that are left stands what stood behind all
abbrev pub invariant-loop-index : goal.invariant-loop-index
invariant-loop-index l =
    plain_from l.index (param_row (drop l.index l.params)) l.left ≡ plain_from 0 (param_row l.params) l.before
