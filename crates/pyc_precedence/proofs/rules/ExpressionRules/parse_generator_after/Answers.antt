use Rattle.std.proofs.Common.{◌≡◌, ◌∙◌, ◌+◌, ap, sym, subst, arith, false, IfSome, IfNone}
use Rattle.pyc_tree.specs.Height.{height}
use Rattle.pyc_tree.specs.Expressions.{expr}
use Rattle.pyc_tree.specs.Items.{parse_generator_after, is_plain_argument}
use Rattle.pyc_tree.specs.Tree as tree
use Rattle.pyc_tree.specs.View.{tree_of}
use Rattle.pyc_tree.proofs.FormLemmas.{generated_other}
use Rattle.pyc_tree.proofs.HeightLemmas.{height_argument}
use Rattle.pyc_precedence.proofs.rules.ExpressionRules.parse_generator_after.Goals as goal

pub overflow_sub-height : goal.overflow_sub-height
overflow_sub-height g c =
    let is : tree_of c.args.first.expr.value ≡ tree.argument (tree_of c.in-Some.element.value) =
    ap tree_of (sym c.into_inner.ensures) ∙ subst (λ o. IfSome o (λ value. tree_of c.into_inner.result ≡ tree.argument (tree_of value.value))) c.in-Some.is c.into_argument.ensures.found in
    let tall : c.args.first.height ≡ height (tree_of c.in-Some.element.value) + 1 = c.args.first.height_is ∙ (ap height is ∙ height_argument (tree_of c.in-Some.element.value)) in
    omega (arith, tall)

pub parse_generator_call-requires-clause-height_is : goal.parse_generator_call-requires-clause-height_is
parse_generator_call-requires-clause-height_is g c =
    let is : tree_of c.args.first.expr.value ≡ tree.argument (tree_of c.in-Some.element.value) =
    ap tree_of (sym c.into_inner.ensures) ∙ subst (λ o. IfSome o (λ value. tree_of c.into_inner.result ≡ tree.argument (tree_of value.value))) c.in-Some.is c.into_argument.ensures.found in
    let tall : c.args.first.height ≡ height (tree_of c.in-Some.element.value) + 1 = c.args.first.height_is ∙ (ap height is ∙ height_argument (tree_of c.in-Some.element.value)) in
    omega (arith, tall)

pub returns-in-Some : goal.returns-in-Some
returns-in-Some g c =
    let is : tree_of c.args.first.expr.value ≡ tree.argument (tree_of c.in-Some.element.value) =
    ap tree_of (sym c.into_inner.ensures) ∙ subst (λ o. IfSome o (λ value. tree_of c.into_inner.result ≡ tree.argument (tree_of value.value))) c.in-Some.is c.into_argument.ensures.found in
    rw is c.parse_generator_call.ensures

pub returns-in-None : goal.returns-in-None
returns-in-None g c =
    let plain : is_plain_argument (tree_of c.args.first.expr.value) ≡ false =
    ap (λ x. is_plain_argument (tree_of x)) (sym c.into_inner.ensures) ∙ subst (λ o. IfNone o (is_plain_argument (tree_of c.into_inner.result) ≡ false)) c.in-None.is c.into_argument.ensures.none in
    generated_other (expr c.args.self.now.rules.depth) (tree_of c.args.callee.expr.value) c.args.opening (tree_of c.args.first.expr.value) plain c.args.tokens.now.rest.now
