use Rattle.std.proofs.Common.{◌≡◌, ◌++◌, drop}
use Rattle.pyc_reuse.specs.SharedChecks.{reads_of}
use Rattle.pyc_reuse.proofs.file_result.all_reads.Given as goal

-- the numbers so far, with those of the checks that are left, are all
abbrev pub invariant-loop-check : goal.invariant-loop-check
invariant-loop-check l = l.reads.items ++ reads_of (drop l.check-index l.checks) ≡ reads_of l.checks
