use Rattle.std.proofs.Common.{arith, sym, ◌∙◌}
use Rattle.pyc_token.specs.Operators.{operators, operator_at}
use Rattle.pyc_token.proofs.OperatorLemmas.{operator_among, no_operator}
use Rattle.pyc_token.proofs.operators.operator_at.Goals as goal

pub returns-in-42-clause-value : goal.returns-in-42-clause-value
unfolding operators operator_at
returns-in-42-clause-value c = c.operator_in.ensures.value ∙ sym (operator_among 42 c.args.text.now (sym c.byte_at.ensures ∙ c.in-42.is))

pub returns-in-47-clause-value : goal.returns-in-47-clause-value
unfolding operators operator_at
returns-in-47-clause-value c = c.operator_in-in-47.ensures.value ∙ sym (operator_among 47 c.args.text.now (sym c.byte_at.ensures ∙ c.in-47.is))

pub returns-in-62-clause-value : goal.returns-in-62-clause-value
unfolding operators operator_at
returns-in-62-clause-value c = c.operator_in-in-62.ensures.value ∙ sym (operator_among 62 c.args.text.now (sym c.byte_at.ensures ∙ c.in-62.is))

pub returns-in-60-clause-value : goal.returns-in-60-clause-value
unfolding operators operator_at
returns-in-60-clause-value c = c.operator_in-in-60.ensures.value ∙ sym (operator_among 60 c.args.text.now (sym c.byte_at.ensures ∙ c.in-60.is))

pub returns-in-46-clause-value : goal.returns-in-46-clause-value
unfolding operators operator_at
returns-in-46-clause-value c = c.operator_in-in-46.ensures.value ∙ sym (operator_among 46 c.args.text.now (sym c.byte_at.ensures ∙ c.in-46.is))

pub returns-in-45-clause-value : goal.returns-in-45-clause-value
unfolding operators operator_at
returns-in-45-clause-value c = c.operator_in-in-45.ensures.value ∙ sym (operator_among 45 c.args.text.now (sym c.byte_at.ensures ∙ c.in-45.is))

pub returns-in-58-clause-value : goal.returns-in-58-clause-value
unfolding operators operator_at
returns-in-58-clause-value c = c.operator_in-in-58.ensures.value ∙ sym (operator_among 58 c.args.text.now (sym c.byte_at.ensures ∙ c.in-58.is))

pub returns-in-61-clause-value : goal.returns-in-61-clause-value
unfolding operators operator_at
returns-in-61-clause-value c = c.operator_in-in-61.ensures.value ∙ sym (operator_among 61 c.args.text.now (sym c.byte_at.ensures ∙ c.in-61.is))

pub returns-in-33-clause-value : goal.returns-in-33-clause-value
unfolding operators operator_at
returns-in-33-clause-value c = c.operator_in-in-33.ensures.value ∙ sym (operator_among 33 c.args.text.now (sym c.byte_at.ensures ∙ c.in-33.is))

pub returns-in-43-clause-value : goal.returns-in-43-clause-value
unfolding operators operator_at
returns-in-43-clause-value c = c.operator_in-in-43.ensures.value ∙ sym (operator_among 43 c.args.text.now (sym c.byte_at.ensures ∙ c.in-43.is))

pub returns-in-37-clause-value : goal.returns-in-37-clause-value
unfolding operators operator_at
returns-in-37-clause-value c = c.operator_in-in-37.ensures.value ∙ sym (operator_among 37 c.args.text.now (sym c.byte_at.ensures ∙ c.in-37.is))

pub returns-in-64-clause-value : goal.returns-in-64-clause-value
unfolding operators operator_at
returns-in-64-clause-value c = c.operator_in-in-64.ensures.value ∙ sym (operator_among 64 c.args.text.now (sym c.byte_at.ensures ∙ c.in-64.is))

pub returns-in-38-clause-value : goal.returns-in-38-clause-value
unfolding operators operator_at
returns-in-38-clause-value c = c.operator_in-in-38.ensures.value ∙ sym (operator_among 38 c.args.text.now (sym c.byte_at.ensures ∙ c.in-38.is))

pub returns-in-124-clause-value : goal.returns-in-124-clause-value
unfolding operators operator_at
returns-in-124-clause-value c = c.operator_in-in-124.ensures.value ∙ sym (operator_among 124 c.args.text.now (sym c.byte_at.ensures ∙ c.in-124.is))

pub returns-in-94-clause-value : goal.returns-in-94-clause-value
unfolding operators operator_at
returns-in-94-clause-value c = c.operator_in-in-94.ensures.value ∙ sym (operator_among 94 c.args.text.now (sym c.byte_at.ensures ∙ c.in-94.is))

pub returns-in-126-clause-value : goal.returns-in-126-clause-value
unfolding operators operator_at
returns-in-126-clause-value c = c.operator_in-in-126.ensures.value ∙ sym (operator_among 126 c.args.text.now (sym c.byte_at.ensures ∙ c.in-126.is))

pub returns-in-40-clause-value : goal.returns-in-40-clause-value
unfolding operators operator_at
returns-in-40-clause-value c = c.operator_in-in-40.ensures.value ∙ sym (operator_among 40 c.args.text.now (sym c.byte_at.ensures ∙ c.in-40.is))

pub returns-in-41-clause-value : goal.returns-in-41-clause-value
unfolding operators operator_at
returns-in-41-clause-value c = c.operator_in-in-41.ensures.value ∙ sym (operator_among 41 c.args.text.now (sym c.byte_at.ensures ∙ c.in-41.is))

pub returns-in-91-clause-value : goal.returns-in-91-clause-value
unfolding operators operator_at
returns-in-91-clause-value c = c.operator_in-in-91.ensures.value ∙ sym (operator_among 91 c.args.text.now (sym c.byte_at.ensures ∙ c.in-91.is))

pub returns-in-93-clause-value : goal.returns-in-93-clause-value
unfolding operators operator_at
returns-in-93-clause-value c = c.operator_in-in-93.ensures.value ∙ sym (operator_among 93 c.args.text.now (sym c.byte_at.ensures ∙ c.in-93.is))

pub returns-in-123-clause-value : goal.returns-in-123-clause-value
unfolding operators operator_at
returns-in-123-clause-value c = c.operator_in-in-123.ensures.value ∙ sym (operator_among 123 c.args.text.now (sym c.byte_at.ensures ∙ c.in-123.is))

pub returns-in-125-clause-value : goal.returns-in-125-clause-value
unfolding operators operator_at
returns-in-125-clause-value c = c.operator_in-in-125.ensures.value ∙ sym (operator_among 125 c.args.text.now (sym c.byte_at.ensures ∙ c.in-125.is))

pub returns-in-44-clause-value : goal.returns-in-44-clause-value
unfolding operators operator_at
returns-in-44-clause-value c = c.operator_in-in-44.ensures.value ∙ sym (operator_among 44 c.args.text.now (sym c.byte_at.ensures ∙ c.in-44.is))

pub returns-in-59-clause-value : goal.returns-in-59-clause-value
unfolding operators operator_at
returns-in-59-clause-value c = c.operator_in-in-59.ensures.value ∙ sym (operator_among 59 c.args.text.now (sym c.byte_at.ensures ∙ c.in-59.is))

pub returns-in_default-clause-value : goal.returns-in_default-clause-value
unfolding operator_at
returns-in_default-clause-value c =
    sym (no_operator c.args.text.now (omega arith) (omega arith) (omega arith) (omega arith) (omega arith) (omega arith) (omega arith) (omega arith) (omega arith) (omega arith) (omega arith) (omega arith) (omega arith) (omega arith) (omega arith) (omega arith) (omega arith) (omega arith) (omega arith) (omega arith) (omega arith) (omega arith) (omega arith) (omega arith))
