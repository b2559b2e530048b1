use Rattle.std.proofs.Common.{◌≡◌, map, filter, take}
use Rattle.pyc_report.specs.Report.{found_in, has_error, without_repeats}
use Rattle.pyc_report.proofs.reporting.count_paths_with_error.Given as goal

abbrev pub invariant-loop-file : goal.invariant-loop-file
invariant-loop-file l =
    map (λ path. path.now) l.paths.keys ≡ without_repeats (map (λ found. found.path) (filter has_error (map found_in (take l.file-index l.found))))
