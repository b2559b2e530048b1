use Rattle.std.proofs.Common.{◌≡◌, map}
use Rattle.pyc_annotations.specs.Views.{base_of}
use Rattle.pyc_declarations.specs.ClassEntries.{written_base}
use Rattle.pyc_declarations.proofs.class_entries.all_written.Given as goal

-- those that were passed, as they count
abbrev pub invariant-loop-base : goal.invariant-loop-base
invariant-loop-base l = l.bases.items ≡ map written_base (map base_of l.yielded)
