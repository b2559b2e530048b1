use Rattle.pyc_line.proofs.FaultLemmas.{star_import_last, star_import_not, star_import_short}
use Rattle.pyc_line.proofs.fault.ends_with_star_import.Goals as goal

pub returns-in_default : goal.returns-in_default
returns-in_default c = star_import_short c.args.tokens.now c.in_default.len_below

pub returns-then-same_kind : goal.returns-then-same_kind
returns-then-same_kind c =
    star_import_last c.args.tokens.now _ _ c.same_kind.result c.same_kind-then-same_kind.result c.in-len2-up.len_at_least c.same_kind.ensures c.same_kind-then-same_kind.ensures c.if-same_kind.true

pub returns-else-same_kind : goal.returns-else-same_kind
returns-else-same_kind c = star_import_not c.args.tokens.now _ c.same_kind.result c.in-len2-up.len_at_least c.same_kind.ensures c.if-same_kind.false
