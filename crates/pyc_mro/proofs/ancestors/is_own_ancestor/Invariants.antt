use Rattle.std.proofs.Common.{◌+◌, ◌-◌, length}
use Rattle.pyc_mro.specs.TableView.{table_in}
use Rattle.pyc_mro.proofs.SearchLemmas.{Searched, count_marks}
use Rattle.pyc_mro.proofs.ancestors.is_own_ancestor.Given as goal

-- what has a mark is reached, and is to be gone on from or was
abbrev pub invariant-loop-next : goal.invariant-loop-next
invariant-loop-next l = Searched (table_in l.bases) l.class (record { marks = l.marks.items; work = l.work.items })

-- the classes without a mark, and those to go on from
abbrev pub decreases-loop-next : goal.decreases-loop-next
decreases-loop-next l = (length l.marks.items + length l.work.items) - count_marks l.marks.items
