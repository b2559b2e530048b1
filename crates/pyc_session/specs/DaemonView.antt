-- What the last completed check of a daemon left.
use Rattle.std.specs.Prelude.{◌≡◌, [], filter, List, Option, None, Some}
use Rattle.std.specs.declared.alloc.Global.{Global}
use Rattle.std.specs.declared.string.String.{String}
use Rattle.indexmap.specs.IndexSet.{IndexSet}
use Rattle.pyc_iface.specs.declared.options.Options.{Options}
use Rattle.pyc_reuse.specs.declared.last_check.LastCheck.{LastCheck}
use Rattle.pyc_reuse.specs.Revision.{Revision}
use Rattle.pyc_reuse.specs.RevisionView.{revision_in}
use Rattle.pyc_reuse.specs.RecheckView.{AreKept, is_touched}
use Rattle.pyc_workspace.specs.Workspace.{File}

-- what it left; nothing, where there was none
abbrev pub revision_of : Options → Option LastCheck → Revision
revision_of options None = record { options = options; files = []; examined = [] }
revision_of options (Some last) = revision_in last

-- it was a check with these options, and a file that is present and was not put since then stands among its files as it
-- is, where its path is one of theirs
pub record KeepsUp {S : Type 0} (options : Options) (present : List File) (touched : IndexSet (String Global) S)
    (last : Option LastCheck) : Type 0 where
  pub options_are : (revision_of options last).options ≡ options
  pub kept : AreKept (revision_of options last).files present touched

-- the files that are present and were put since then
abbrev pub touched_in : {S : Type 0} → List File → IndexSet (String Global) S → List File
touched_in present touched = filter (λ file. is_touched touched file.path) present
