use Rattle.std.proofs.Common.{map, ap, ◌∙◌, lit<}
use Rattle.std.proofs.lemmas.Iterator.Consumers.{YieldsList-end, YieldsList-at}
use Rattle.std.proofs.lemmas.Iterator.Splits.{YieldsList-from_str_split}
use Rattle.pyc_names.proofs.module_name.path_parts.Goals as goal

pub returns : goal.returns
returns c =
    let split = c.split-part-items.ensures in
    let chain = YieldsList-at c.into_iter-part-iterator.ensures.into_iter_gives (YieldsList-from_str_split 47 c.args.path.now (lit< tt) split.text split.has_more split.pattern) in
    let end = YieldsList-end chain c.loop-part.yielded _ c.loop-part.yielded_by _ _ c.in-None.is c.next.ensures.steps in
    ap (map (λ part. part.now)) c.loop-part.invariant ∙ end.0
