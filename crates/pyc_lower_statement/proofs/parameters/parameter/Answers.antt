use Rattle.std.proofs.Common.{sym, arith, rules}
use Rattle.pyc_lower_atom.specs.OriginView.{origin_of}
use Rattle.pyc_lower_statement.proofs.ParameterLemmas.{parameter_other, parameters}
use Rattle.pyc_lower_statement.proofs.parameters.parameter.Goals as goal

pub returns-in_default : goal.returns-in_default
returns-in_default g c =
    sym (parameter_other g.Q.Quotes.spelled (origin_of c.args.lowering.now.origin) c.args.after_star c.args.tree.now
    c.in_default.not-Parameter c.in_default.not-StarParameter c.in_default.not-DoubleParameter)

pub returns-in_err-boxed_tail-in-DoubleParameter : goal.returns-in_err-boxed_tail-in-DoubleParameter
returns-in_err-boxed_tail-in-DoubleParameter g c = first_of (grind (arith, parameters), search rules)

pub returns-in_err-boxed_tail-in-Parameter : goal.returns-in_err-boxed_tail-in-Parameter
returns-in_err-boxed_tail-in-Parameter g c = first_of (grind (arith, parameters), search rules)

pub returns-in_err-boxed_tail-in-Parameter-2 : goal.returns-in_err-boxed_tail-in-Parameter-2
returns-in_err-boxed_tail-in-Parameter-2 g c = first_of (grind (arith, parameters), search rules)

pub returns-in_err-boxed_tail-in-StarParameter : goal.returns-in_err-boxed_tail-in-StarParameter
returns-in_err-boxed_tail-in-StarParameter g c = first_of (grind (arith, parameters), search rules)

pub returns-in_err-shared-in-DoubleParameter : goal.returns-in_err-shared-in-DoubleParameter
returns-in_err-shared-in-DoubleParameter g c = first_of (grind (arith, parameters), search rules)

pub returns-in_err-shared-in-Parameter : goal.returns-in_err-shared-in-Parameter
returns-in_err-shared-in-Parameter g c = first_of (grind (arith, parameters), search rules)

pub returns-in_err-shared-in-StarParameter : goal.returns-in_err-shared-in-StarParameter
returns-in_err-shared-in-StarParameter g c = first_of (grind (arith, parameters), search rules)

pub returns-in_ok-boxed_tail-in-DoubleParameter : goal.returns-in_ok-boxed_tail-in-DoubleParameter
returns-in_ok-boxed_tail-in-DoubleParameter g c = first_of (grind (arith, parameters), search rules)

pub returns-in_ok-boxed_tail-in-Parameter-2 : goal.returns-in_ok-boxed_tail-in-Parameter-2
returns-in_ok-boxed_tail-in-Parameter-2 g c = first_of (grind (arith, parameters), search rules)

pub returns-in_ok-boxed_tail-in-StarParameter : goal.returns-in_ok-boxed_tail-in-StarParameter
returns-in_ok-boxed_tail-in-StarParameter g c = first_of (grind (arith, parameters), search rules)
