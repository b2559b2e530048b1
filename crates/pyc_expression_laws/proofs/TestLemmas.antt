-- What a test by `isinstance` asks.
use Rattle.std.proofs.Common.{◌++◌, refl, ◌∙◌}
use Rattle.pyc_builtins.specs.MroTable.{builtin_orders}
use Rattle.pyc_narrowing.specs.SplitStates.{instance_states}
use Rattle.pyc_narrowing.specs.Splitting.{instance_test}
use Rattle.pyc_obligations.specs.Judging.{known_after}
use Rattle.pyc_reading.specs.Owing.{written}
use Rattle.pyc_expression_laws.proofs.AskedLemmas.{asked-then_nothing}
use Rattle.pyc_expression_laws.proofs.ObligationLemmas.{known_after-asks}
use Rattle.pyc_expression_laws.specs.TestRows.{InstanceTestReads}
use Rattle.pyc_reading.specs.Readings.{Done}

pub instance_test_asks : InstanceTestReads
unfolding instance_test
instance_test_asks answers state place ty classes =
    asked-then_nothing answers (known_after (written ty ++ classes) builtin_orders) (λ orders. Done (instance_states orders state place ty classes)) (λ orders. refl)
    ∙ known_after-asks answers (written ty ++ classes) builtin_orders
