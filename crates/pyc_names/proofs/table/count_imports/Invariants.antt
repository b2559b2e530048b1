use Rattle.std.proofs.Common.{◌≡◌, ◌+◌, ◌*◌, ◌^◌, ◌≤◌, drop}
use Rattle.pyc_names.specs.Following.{import_count}
use Rattle.pyc_names.specs.InterfaceView.{interfaces_in}
use Rattle.pyc_names.proofs.table.count_imports.Given as goal

-- the count so far, with that of the files that are left, is the whole
abbrev pub invariant-loop-file : goal.invariant-loop-file
invariant-loop-file l =
    record {
      counted : l.count + import_count (interfaces_in (drop l.file-index l.files)) ≡ import_count (interfaces_in l.files);
      fits : l.count ≤ l.file-index * 2 ^ 64;
    }
