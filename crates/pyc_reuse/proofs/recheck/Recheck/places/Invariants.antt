use Rattle.std.proofs.Common.{◌≡◌, map, take}
use Rattle.pyc_reuse.specs.Places.{place_in}
use Rattle.pyc_reuse.specs.RecheckView.{last_in}
use Rattle.pyc_workspace.specs.Files.{files_in}
use Rattle.pyc_reuse.proofs.recheck.Recheck.places.Given as goal

-- those so far are the places of the files so far
abbrev pub invariant-loop-file : goal.invariant-loop-file
invariant-loop-file l = l.places.items ≡ map (place_in (last_in l.self)) (files_in (take l.file-index l.file-items))
