use Rattle.pyc_tree.specs.SimpleStatements.{simple}
use Rattle.pyc_statement.proofs.ReadingSteps.{reading}
use Rattle.std.proofs.Common.{arith, rules}
use Rattle.pyc_statement.proofs.rules.StatementRules.simple.Goals as goal

pub returns-in-Keyword-Pass : goal.returns-in-Keyword-Pass
unfolding simple
returns-in-Keyword-Pass g c = first_of (grind (arith, reading), search rules)

pub returns-in-Keyword-Return : goal.returns-in-Keyword-Return
unfolding simple
returns-in-Keyword-Return g c = first_of (grind (arith, reading), search rules)

pub returns-in-Keyword-Raise : goal.returns-in-Keyword-Raise
unfolding simple
returns-in-Keyword-Raise g c = first_of (grind (arith, reading), search rules)

pub returns-in-Keyword-Assert : goal.returns-in-Keyword-Assert
unfolding simple
returns-in-Keyword-Assert g c = first_of (grind (arith, reading), search rules)

pub returns-in-Keyword-Del : goal.returns-in-Keyword-Del
unfolding simple
returns-in-Keyword-Del g c = first_of (grind (arith, reading), search rules)

pub returns-in-Keyword-Global : goal.returns-in-Keyword-Global
unfolding simple
returns-in-Keyword-Global g c = first_of (grind (arith, reading), search rules)

pub returns-in-Keyword-Import : goal.returns-in-Keyword-Import
unfolding simple
returns-in-Keyword-Import g c = first_of (grind (arith, reading), search rules)

pub returns-in-Keyword-From : goal.returns-in-Keyword-From
unfolding simple
returns-in-Keyword-From g c = first_of (grind (arith, reading), search rules)

pub returns-in-Keyword-Yield : goal.returns-in-Keyword-Yield
unfolding simple
returns-in-Keyword-Yield g c = first_of (grind (arith, reading), search rules)

pub returns-in_default : goal.returns-in_default
unfolding simple
returns-in_default g c = first_of (grind (arith, reading), search rules)
