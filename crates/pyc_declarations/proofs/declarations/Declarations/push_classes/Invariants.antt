use Rattle.std.proofs.Common.{◌≡◌, ◌++◌, map, flat_map, drop, take}
use Rattle.pyc_class_table.specs.EntryView.{entry_in}
use Rattle.pyc_declarations.specs.ClassEntries.{class_entry}
use Rattle.pyc_declarations.specs.KindsView.{declarations_in}
use Rattle.pyc_declarations.specs.Looks.{class_looks}
use Rattle.pyc_members.specs.DeclaredClassView.{declared_class_in}
use Rattle.pyc_names.specs.InterfaceView.{interface_in}
use Rattle.pyc_names.specs.NotedLooks.{with_looks}
use Rattle.pyc_names.specs.NotedLooksView.{noted_in}
use Rattle.pyc_declarations.proofs.declarations.Declarations.push_classes.Given as goal

-- those that were passed stand behind those that were there, and what is noted, with what is looked at for those that
-- are left, is the whole
abbrev pub invariant-loop-class : goal.invariant-loop-class
invariant-loop-class l =
    record {
      added : map entry_in l.entries.items
          ≡ map entry_in l.fn.entries.items
          ++ map (class_entry (declarations_in l.self) (interface_in l.file)) (map declared_class_in (take l.class-index l.classes));
      noted : with_looks (noted_in l.looks)
          (flat_map (class_looks (declarations_in l.self) (interface_in l.file)) (map declared_class_in (drop l.class-index l.classes)))
          ≡ with_looks (noted_in l.fn.looks)
          (flat_map (class_looks (declarations_in l.self) (interface_in l.file)) (map declared_class_in l.classes));
    }
