use Rattle.std.proofs.Common.{◌≡◌, drop}
use Rattle.std.specs.List.{list_all}
use Rattle.pyc_interfaces.specs.ClassHeads.{declares_none}
use Rattle.pyc_names.specs.InterfaceView.{interfaces_in}
use Rattle.pyc_interfaces.proofs.class_heads.declare_none.Given as goal

-- the answer is that of the files that are left
abbrev pub invariant-loop-file : goal.invariant-loop-file
invariant-loop-file l = list_all declares_none (interfaces_in (drop l.file-index l.files)) ≡ list_all declares_none (interfaces_in l.files)
