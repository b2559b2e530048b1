use Rattle.pyc_expression_laws.proofs.ExpressionLemmas.{of-condition, of-infer}
use Rattle.pyc_expression_laws.proofs.expressions.expressions_ask_files.Goals as goal

pub returns-clause-value : goal.returns-clause-value
returns-clause-value c = λ context s x want where_it_stands.
    (of-infer context (λ at n. record { all = where_it_stands.resolve_name at n }) (λ e. record { all = where_it_stands.annotated e }) s x want).all

pub returns-clause-condition : goal.returns-clause-condition
returns-clause-condition c = λ context s x where_it_stands.
    (of-condition context (λ at n. record { all = where_it_stands.resolve_name at n }) (λ e. record { all = where_it_stands.annotated e }) s x).all
