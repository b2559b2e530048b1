use Rattle.std.proofs.Common.{◌≡◌, ℕ, List, map, take}
use Rattle.std.specs.List.{list_any}
use Rattle.indexmap.specs.IndexSet.{contains_by}
use Rattle.pyc_names.specs.ModuleName.{same_module}
use Rattle.pyc_names.specs.Presence.{is_within}
use Rattle.pyc_names.specs.Interfaces.{Interface}
use Rattle.pyc_names.specs.InterfaceView.{interfaces_in}
use Rattle.pyc_names.proofs.outer_modules.outer_modules.Given as goal

-- the modules that the files so far name or lie under are there
abbrev pub invariant-loop-file : goal.invariant-loop-file
invariant-loop-file l =
    (m : List (List ℕ)) → contains_by (λ parts. same_module m parts.items) l.outer
    ≡ list_any (is_within m) (map (λ (file : Interface). file.name) (interfaces_in (take l.file-index l.files)))
