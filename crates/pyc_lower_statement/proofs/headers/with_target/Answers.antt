use Rattle.std.proofs.Common.{sym, arith, rules}
use Rattle.pyc_lower_atom.specs.OriginView.{origin_of}
use Rattle.pyc_lower_statement.proofs.HeaderLemmas.{with_target_other, heads}
use Rattle.pyc_lower_statement.proofs.headers.with_target.Goals as goal

pub returns-in_default : goal.returns-in_default
returns-in_default g c =
    sym (with_target_other g.Q.Quotes.spelled (origin_of c.args.lowering.now.origin) c.args.item.now c.in_default.not-WithItem)

pub returns-in-WithItem : goal.returns-in-WithItem
returns-in-WithItem g c = first_of (grind (arith, heads), search rules)
