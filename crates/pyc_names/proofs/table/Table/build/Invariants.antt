use Rattle.std.proofs.Common.{◌≡◌, take}
use Rattle.pyc_names.specs.InterfaceView.{interfaces_in}
use Rattle.pyc_names.proofs.table.Table.build.Given as goal

-- those so far are shared
abbrev pub invariant-loop-file : goal.invariant-loop-file
invariant-loop-file l = interfaces_in l.shared.items ≡ interfaces_in (take l.file-index l.files)
