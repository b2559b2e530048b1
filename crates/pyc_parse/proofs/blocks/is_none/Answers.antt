use Rattle.std.proofs.Common.{arith}
use Rattle.pyc_parse.proofs.BlockLemmas.{is_none-some}
use Rattle.pyc_parse.proofs.blocks.is_none.Goals as goal

pub returns-in-len1-up : goal.returns-in-len1-up
returns-in-len1-up c = is_none-some c.args.statements.now.each.items _ (omega (arith, c.in-len1-up.len_at_least))
