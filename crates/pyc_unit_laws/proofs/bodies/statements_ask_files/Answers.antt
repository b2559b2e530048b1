use Rattle.pyc_body_context.specs.BodyNames.{body_context}
use Rattle.pyc_unit_laws.proofs.BodyLemmas.{of-body_annotation, of-body_name}
use Rattle.pyc_expression_laws.proofs.ExpressionLemmas.{of-infer_type}
use Rattle.pyc_unit_laws.proofs.bodies.statements_ask_files.Goals as goal
use Rattle.pyc_unit_laws.proofs.SimpleLemmas.{of-simple_read}
use Rattle.pyc_unit_laws.proofs.UnitLemmas.{block_of_files}

pub returns-clause-expression : goal.returns-clause-expression
returns-clause-expression c = λ body locals s x want source.
    (of-infer_type (body_context body locals) (of-body_name body locals source) (of-body_annotation body) s x want).all

pub returns-clause-simple : goal.returns-clause-simple
returns-clause-simple c = λ body at form p source. (of-simple_read body source at form p).all

pub returns-clause-block : goal.returns-clause-block
returns-clause-block c = block_of_files
