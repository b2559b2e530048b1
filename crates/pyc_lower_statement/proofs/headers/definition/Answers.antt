use Rattle.std.proofs.Common.{◌≡◌, ◌∙◌, map, rules, sym, arith}
use Rattle.pyc_ast.specs.declared.stmt.Block.TheFolds.{the_lemmas}
use Rattle.pyc_ast.specs.declared.stmt.StmtForm.TheVariants as s
use Rattle.pyc_ast.specs.ExprView.{expr_of}
use Rattle.pyc_ast.specs.Statements.{pass}
use Rattle.pyc_ast.specs.StatementView.{stmt_form_of, block_of}
use Rattle.pyc_lower_atom.specs.OriginView.{origin_of}
use Rattle.pyc_lower_statement.proofs.HeaderLemmas.{definition_other, heads}
use Rattle.pyc_lower_statement.proofs.headers.definition.Goals as goal

pub returns-in_default : goal.returns-in_default
returns-in_default g c =
    let view : stmt_form_of s.Pass ≡ pass = search (rules, the_lemmas) in
    view ∙ sym (definition_other g.Q.Quotes.spelled (origin_of c.args.lowering.now.origin) (map expr_of c.args.decorators.items) c.args.suspends
    c.args.header.now (block_of c.args.body) c.in_default.not-Def c.in_default.not-Class c.in_default.not-ClassOf)

pub returns-in_err-arguments-in-ClassOf : goal.returns-in_err-arguments-in-ClassOf
returns-in_err-arguments-in-ClassOf g c = first_of (grind (arith, heads), search rules)

pub returns-in_err-head-in-Class : goal.returns-in_err-head-in-Class
returns-in_err-head-in-Class g c = first_of (grind (arith, heads), search rules)

pub returns-in_err-head-in-ClassOf : goal.returns-in_err-head-in-ClassOf
returns-in_err-head-in-ClassOf g c = first_of (grind (arith, heads), search rules)

pub returns-in_err-head-in-Def : goal.returns-in_err-head-in-Def
returns-in_err-head-in-Def g c = first_of (grind (arith, heads), search rules)

pub returns-in_err-name-in-Class : goal.returns-in_err-name-in-Class
returns-in_err-name-in-Class g c = first_of (grind (arith, heads), search rules)

pub returns-in_err-name-in-ClassOf : goal.returns-in_err-name-in-ClassOf
returns-in_err-name-in-ClassOf g c = first_of (grind (arith, heads), search rules)

pub returns-in_err-name-in-Def : goal.returns-in_err-name-in-Def
returns-in_err-name-in-Def g c = first_of (grind (arith, heads), search rules)

pub returns-in_err-parameters-in-Def : goal.returns-in_err-parameters-in-Def
returns-in_err-parameters-in-Def g c = first_of (grind (arith, heads), search rules)

pub returns-in_err-tail-in-Def : goal.returns-in_err-tail-in-Def
returns-in_err-tail-in-Def g c = first_of (grind (arith, heads), search rules)
