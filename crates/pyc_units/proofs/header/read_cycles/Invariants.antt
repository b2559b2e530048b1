use Rattle.std.proofs.Common.{[], map, take, drop}
use Rattle.pyc_bindings.specs.BindingView.{binding_of}
use Rattle.pyc_units.specs.Header.{cycles_after}
use Rattle.pyc_names.specs.SourceFileView.{source_in}
use Rattle.pyc_reading.specs.Traces.{Going}
use Rattle.pyc_units.proofs.header.read_cycles.Given as goal

-- what is left to do comes to the same as all
abbrev pub invariant-loop-i : goal.invariant-loop-i
invariant-loop-i g l =
    Going (cycles_after (source_in l.file) (map binding_of (take l.i l.bindings)) (map binding_of (drop l.i l.bindings))) (g.N.Ask.trace l.recorder)
    (cycles_after (source_in l.file) [] (source_in l.file).bindings) (g.N.Ask.trace l.fn.recorder)
