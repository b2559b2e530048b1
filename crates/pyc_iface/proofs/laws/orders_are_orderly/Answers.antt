use Rattle.std.proofs.Common.{map}
use Rattle.pyc_class_table.proofs.LawLemmas.{orders_orderly}
use Rattle.pyc_declarations.specs.ClassEntries.{class_entries}
use Rattle.pyc_iface.specs.Answers.{orders_by}
use Rattle.pyc_names.specs.Interfaces.{interface_of}
use Rattle.pyc_iface.proofs.laws.orders_are_orderly.Goals as goal

pub returns : goal.returns
unfolding orders_by
returns c files = orders_orderly (class_entries (map interface_of files))
