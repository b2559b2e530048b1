-- A check that is fresh and examines what is to be examined is exact.
use Rattle.std.proofs.Common.{◌≡◌, List, map, subst, sym}
use Rattle.pyc_body.proofs.ListedLemmas.{found_is_listed}
use Rattle.pyc_body.specs.FileUnits.{UnitId}
use Rattle.pyc_iface.specs.declared.options.Options.{Options}
use Rattle.pyc_report.specs.Report.{Report}
use Rattle.pyc_reuse.proofs.OnceLemmas.{examined_once}
use Rattle.pyc_reuse.proofs.WhereLemmas.{examined_just_where}
use Rattle.pyc_reuse.specs.Exact.{IsExact}
use Rattle.pyc_reuse.specs.Examined.{examined}
use Rattle.pyc_workspace.specs.Fresh.{fresh, source_of}
use Rattle.pyc_workspace.specs.Workspace.{File, IsInOrder}

pub exact_from : (options : Options) (last present : List File) (report : Report) (ids : List UnitId) → IsInOrder present → report ≡ fresh options present
    → ids ≡ examined options last present → IsExact options last present report ids
exact_from options last present report ids sorted same are =
    subst (IsExact options last present report) (sym are) (record {
      is_fresh = same;
      is_listed = λ unit. found_is_listed options (map source_of present) unit.file unit.unit;
      are_the_affected = examined_just_where options last present;
      have_no_repeats = λ i j id a b. examined_once options last present i j id sorted a b;
    })
