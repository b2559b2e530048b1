use Rattle.std.proofs.Common.{rules}
use Rattle.std.proofs.lemmas.List.{take_min, take_rest, drop_min}
use Rattle.pyc_workspace.proofs.fresh.split_checks.Goals as goal

pub returns-clause-own : goal.returns-clause-own
returns-clause-own c = let split_checks = take_min c.args.count c.args.checks.now in search rules

pub returns-clause-rest : goal.returns-clause-rest
returns-clause-rest c =
    let left = drop_min c.args.count c.args.checks.now in
    let whole = take_rest c.args.checks.now c.min-count.result in
    search rules
