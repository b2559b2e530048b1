use Rattle.std.proofs.lemmas.Grind.{common_steps}
use Rattle.std.proofs.Common.{sym, arith, rules}
use Rattle.pyc_type_forms.proofs.EqualityLemmas.{other_types, other_params}
use Rattle.pyc_type_forms.proofs.equality.+same.Goals as goal

pub are_same_types-returns-then-types-others : goal.are_same_types-returns-then-types-others
are_same_types-returns-then-types-others t c =
    sym (other_types c.args.types.now c.args.others.now (λ same. absurd (omega (arith, same))))

pub is_same_row-returns-then-params-others : goal.is_same_row-returns-then-params-others
is_same_row-returns-then-params-others t c =
    sym (other_params c.args.params.now c.args.others.now (λ same. absurd (omega (arith, same))))

pub are_same_types-loop-i-init : goal.are_same_types-loop-i-init
are_same_types-loop-i-init t c = first_of (grind (arith, common_steps), search rules)

pub are_same_types-returns : goal.are_same_types-returns
are_same_types-returns t c = first_of (grind (arith, common_steps), search rules)

pub are_same_types-returns-then-not-same_type : goal.are_same_types-returns-then-not-same_type
are_same_types-returns-then-not-same_type t c = first_of (grind (arith, common_steps), search rules)

pub is_same_row-loop-i-init : goal.is_same_row-loop-i-init
is_same_row-loop-i-init t c = first_of (grind (arith, common_steps), search rules)

pub is_same_row-returns : goal.is_same_row-returns
is_same_row-returns t c = first_of (grind (arith, common_steps), search rules)

pub is_same_row-returns-then-not-is_same_param : goal.is_same_row-returns-then-not-is_same_param
is_same_row-returns-then-not-is_same_param t c = first_of (grind (arith, common_steps), search rules)
