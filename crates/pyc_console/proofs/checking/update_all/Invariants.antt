use Rattle.std.proofs.Common.{Bool, map, string_bytes, take}
use Rattle.pyc_daemon.specs.Counted.{inner_of, GivesRoom}
use Rattle.pyc_console.specs.Updates.{UpdatesAll}
use Rattle.pyc_console.proofs.checking.update_all.Given as goal

abbrev pub invariant-loop-file : goal.invariant-loop-file
invariant-loop-file g l = record {
  buffers : GivesRoom l.fn.err l.err;
  updates : (failed : Bool) × UpdatesAll g.S.Sources.step l.fn.sources l.sources l.fn.err l.err (g.E.Write.contents (inner_of l.fn.err)) (g.E.Write.contents (inner_of l.err)) l.fn.daemon l.daemon
      (map string_bytes (take l.file-index l.files)) l.refused l.untold failed;
}
