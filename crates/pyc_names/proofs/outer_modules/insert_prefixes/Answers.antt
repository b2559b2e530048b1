use Rattle.std.proofs.Common.{◌≡◌, ◌≤◌, ◌+◌, length, arith}
use Rattle.pyc_names.proofs.OuterLemmas.{prefix_more, prefixes_all}
use Rattle.pyc_names.proofs.outer_modules.insert_prefixes.Goals as goal

pub loop-count-preserved : goal.loop-count-preserved
loop-count-preserved c =
    let within : c.loop-count.count ≤ length c.args.parts.now = omega (arith, c.loop-count-test.true) in
    λ m. prefix_more m c.args.parts.now c.loop-count.count _ _ _ within (c.loop-count.invariant m) (c.in_ok-insert_module.ensures m)

pub returns : goal.returns
returns c =
    let all : c.loop-count.count ≡ length c.args.parts.now + 1 = omega (arith, c.loop-count-test.false, c.loop-count.auto.count-end) in
    λ m. prefixes_all m c.args.parts.now c.loop-count.count _ _ all (c.loop-count.invariant m)
