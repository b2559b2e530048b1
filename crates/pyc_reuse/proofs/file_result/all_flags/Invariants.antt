use Rattle.std.proofs.Common.{◌≡◌, ◌++◌, map, drop}
use Rattle.pyc_names.specs.SourceFileView.{source_in}
use Rattle.pyc_reuse.specs.Shown.{is_shown}
use Rattle.pyc_reuse.specs.SharedChecks.{found_of}
use Rattle.pyc_reuse.proofs.file_result.all_flags.Given as goal

-- the flags so far, with those of the checks that are left, are all
abbrev pub invariant-loop-check : goal.invariant-loop-check
invariant-loop-check l =
    let shown = is_shown (source_in l.file).outcome in
    l.flags.items ++ map shown (found_of (drop l.check-index l.checks)) ≡ map shown (found_of l.checks)
