use Rattle.std.proofs.lemmas.Grind.{common_steps}
use Rattle.std.proofs.Common.{◌≡◌, refl, sym, ap, ◌∙◌, length, arith, rules}
use Rattle.pyc_tree.specs.SimpleStatements.{imported_name}
use Rattle.pyc_tree.specs.StatementView.{name_of}
use Rattle.pyc_statement.proofs.NameSteps.{read_err, with_items, items_refused, items_end, items_cut, items_on, items_trail}
use Rattle.pyc_statement.proofs.names.imported_names.Goals as goal

pub returns-in_err-value : goal.returns-in_err-value
returns-in_err-value c =
    read_err name_of _ _ _ _ _ c.from_residual.result _ c.from_residual.ensures.1 c.in_err-value.ensures
    (items_refused name_of imported_name c.args.may_trail _ _ _ _ _ c.loop-turn-test.true c.loop-turn.invariant)

pub returns-then-not-same_kind : goal.returns-then-not-same_kind
returns-then-not-same_kind c =
    rw c.in_ok-last.ensures.same
    (items_end name_of imported_name c.args.may_trail _ _ _ _ _ c.loop-turn-test.true c.loop-turn.invariant c.in_ok-value.value _ c.in_ok-value.ensures (cc))

pub returns-in_err-separator : goal.returns-in_err-separator
returns-in_err-separator c =
    read_err (λ t. t) _ _ _ _ _ c.from_residual-in_err-separator.result _ c.from_residual-in_err-separator.ensures.1 c.in_err-separator.ensures
    (items_cut name_of imported_name c.args.may_trail _ _ _ _ _ c.loop-turn-test.true c.loop-turn.invariant c.in_ok-value.value _ c.in_ok-value.ensures (cc))

pub loop-turn-preserved : goal.loop-turn-preserved
loop-turn-preserved c =
    rw c.in_ok-push.ensures.items
    (items_on name_of imported_name c.args.may_trail _ _ _ _ _ c.loop-turn-test.true c.loop-turn.invariant c.in_ok-value.value _ c.in_ok-value.ensures c.in_ok-separator.separator _ (cc) c.in_ok-separator.ensures (cc))

pub returns-then-ends : goal.returns-then-ends
returns-then-ends c =
    rw c.in_ok-push.ensures.items
    (items_trail name_of imported_name c.args.may_trail _ _ _ _ _ c.loop-turn-test.true c.loop-turn.invariant c.in_ok-value.value _ c.in_ok-value.ensures c.in_ok-separator.separator _ (cc) c.in_ok-separator.ensures (cc))

pub loop-turn-init : goal.loop-turn-init
loop-turn-init c = first_of (grind (arith, common_steps), search rules)

pub returns : goal.returns
returns c = first_of (grind (arith, common_steps), search rules)

pub returns-in_err-last : goal.returns-in_err-last
returns-in_err-last c = first_of (grind (arith, common_steps), search rules)

pub returns-in_err-push : goal.returns-in_err-push
returns-in_err-push c = first_of (grind (arith, common_steps), search rules)
