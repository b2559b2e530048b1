use Rattle.pyc_statement.proofs.ReadingSteps.{reading}
use Rattle.std.proofs.Common.{◌≡◌, Some, sym, ap, arith, rules}
use Rattle.pyc_tree.specs.Expressions.{expr}
use Rattle.pyc_tree.specs.Parser.{Parsed}
use Rattle.pyc_tree.specs.SimpleStatements.{assigned}
use Rattle.pyc_tree.specs.Statements.{SimpleStatement}
use Rattle.pyc_statement.proofs.rules.StatementRules.assigned.Goals as goal

pub returns : goal.returns
unfolding assigned
returns g c =
    rw c.in_ok-chain.ensures
    (ap {B = Parsed SimpleStatement} (λ s. Some (s, c.chain.new.tokens.rest.now)) (sym (c.chained.ensures (expr c.args.self.now.rules.depth))))

pub returns-in_err-chain : goal.returns-in_err-chain
unfolding assigned
returns-in_err-chain g c = first_of (grind (arith, reading), search rules)
