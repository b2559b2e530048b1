use Rattle.std.proofs.Common.{rules, tests, bytes_eq}
use Rattle.std.proofs.lemmas.Iterator.{YieldsList-from_slice}
use Rattle.std.proofs.lemmas.Iterator.Search.{any_from_yields_List}
use Rattle.pyc_report.proofs.suppressing.is_listed.Goals as goal

pub returns : goal.returns
returns c =
    any_from_yields_List (bytes_eq c.args.code.now) _ _ _ c.any.ensures.ran (YieldsList-from_slice c.args.listed.now cc) (λ x b q k. search (rules, tests))
