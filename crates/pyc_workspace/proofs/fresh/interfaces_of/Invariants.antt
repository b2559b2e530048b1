use Rattle.std.proofs.Common.{◌≡◌, take, map}
use Rattle.pyc_names.specs.Interfaces.{interface_of}
use Rattle.pyc_names.specs.InterfaceView.{interfaces_in}
use Rattle.pyc_workspace.specs.Files.{files_in}
use Rattle.pyc_workspace.specs.Fresh.{source_of}
use Rattle.pyc_workspace.proofs.fresh.interfaces_of.Given as goal

-- those so far are of the files so far
abbrev pub invariant-loop-file : goal.invariant-loop-file
invariant-loop-file l =
    ∥ interfaces_in l.interfaces.items ≡ map interface_of (map source_of (files_in (take l.file-index l.files))) ∥₁
