use Rattle.pyc_mro.specs.TableView.{table_in}
use Rattle.pyc_mro.specs.Passes.{AreMade}
use Rattle.pyc_mro.proofs.orders.made_orders.Given as goal

-- as many passes are made as bases are gone to
abbrev pub invariant-loop-depth : goal.invariant-loop-depth
invariant-loop-depth l = AreMade (table_in l.bases) l.depth l.made.items
