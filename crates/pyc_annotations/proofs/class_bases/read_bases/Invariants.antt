use Rattle.std.proofs.Common.{map, drop, []}
use Rattle.pyc_annotations.specs.Bases.{more_bases}
use Rattle.pyc_annotations.specs.Views.{base_of}
use Rattle.pyc_ast.specs.ExprView.{argument_of}
use Rattle.pyc_names.specs.InterfaceView.{interface_in}
use Rattle.pyc_reading.specs.Traces.{Going}
use Rattle.pyc_annotations.proofs.class_bases.read_bases.Given as goal

-- what is left to do comes to the same as all
abbrev pub invariant-loop-argument : goal.invariant-loop-argument
invariant-loop-argument g l =
    Going (more_bases (interface_in l.file) (map base_of l.found.items) (map argument_of (drop l.argument-index l.arguments))) (g.N.Ask.trace l.recorder)
    (more_bases (interface_in l.file) [] (map argument_of l.arguments)) (g.N.Ask.trace l.fn.recorder)
