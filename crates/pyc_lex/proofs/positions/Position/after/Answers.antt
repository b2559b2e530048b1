use Rattle.std.proofs.Common.{arith}
use Rattle.pyc_lex.proofs.PositionLemmas.{printed_counted}
use Rattle.pyc_lex.proofs.positions.Position.after.Goals as goal

pub loop-index-init : goal.loop-index-init
loop-index-init c = record {
  value = printed_counted c.args.self c.args.text.now _ c.printed_len-front.ensures.value;
  line = omega arith;
  column = omega arith;
  from_one = omega (arith, c.requires.from_one);
}
