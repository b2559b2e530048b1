use Rattle.std.proofs.Common.{◌≡◌, ◌++◌, map, flat_map, drop}
use Rattle.pyc_class_table.specs.EntryView.{entry_in}
use Rattle.pyc_declarations.specs.ClassEntries.{file_entries}
use Rattle.pyc_declarations.specs.KindsView.{declarations_in}
use Rattle.pyc_declarations.specs.Looks.{class_looks}
use Rattle.pyc_names.specs.Interfaces.{Interface}
use Rattle.pyc_names.specs.InterfaceView.{interfaces_in}
use Rattle.pyc_names.specs.NotedLooks.{with_looks}
use Rattle.pyc_names.specs.NotedLooksView.{noted_in}
use Rattle.pyc_declarations.proofs.declarations.Declarations.class_entries.Given as goal

-- those that were added, with those of the files that are left, are all, and so is what is noted
abbrev pub invariant-loop-file : goal.invariant-loop-file
invariant-loop-file l =
    record {
      added : map entry_in l.entries.items
          ++ flat_map (file_entries (declarations_in l.self)) (interfaces_in (drop l.file-index l.file-items))
          ≡ flat_map (file_entries (declarations_in l.self)) (declarations_in l.self);
      noted : with_looks (noted_in l.looks)
          (flat_map (λ (file : Interface). flat_map (class_looks (declarations_in l.self) file) file.classes) (interfaces_in (drop l.file-index l.file-items)))
          ≡ with_looks (noted_in l.fn.looks)
          (flat_map (λ (file : Interface). flat_map (class_looks (declarations_in l.self) file) file.classes) (declarations_in l.self));
    }
