use Rattle.std.proofs.Common.{map, drop, []}
use Rattle.pyc_annotations.specs.Annotations.{more_types, more_unions, argument_readings, type_readings}
use Rattle.pyc_annotations.specs.Views.{annotation_in}
use Rattle.pyc_names.specs.InterfaceView.{interface_in}
use Rattle.pyc_reading.specs.Traces.{Going}
use Rattle.pyc_type_exprs.specs.TypeExprs.{type_arguments, type_exprs}
use Rattle.pyc_type_exprs.specs.TypeExprView.{type_argument_of, type_expr_of}
use Rattle.pyc_type_forms.specs.TypeView.{ty_of}
use Rattle.pyc_annotations.proofs.reading.+reading.Given as goal

-- what is left to do comes to the same as all
abbrev pub invariant-argument_types-loop-argument : goal.invariant-argument_types-loop-argument
invariant-argument_types-loop-argument g l =
    Going (more_types (map ty_of l.types.items) (map (λ a. a.read) (argument_readings (interface_in l.file) (type_arguments (map type_argument_of (drop l.argument-index l.arguments)))))) (g.N.Ask.trace l.recorder)
    (more_types [] (map (λ a. a.read) (argument_readings (interface_in l.file) (type_arguments (map type_argument_of l.arguments))))) (g.N.Ask.trace l.fn.recorder)

abbrev pub invariant-listed_types-loop-written : goal.invariant-listed_types-loop-written
invariant-listed_types-loop-written g l =
    Going (more_types (map ty_of l.types.items) (type_readings (interface_in l.file) (type_exprs (map type_expr_of (drop l.written-index l.listed))))) (g.N.Ask.trace l.recorder)
    (more_types [] (type_readings (interface_in l.file) (type_exprs (map type_expr_of l.listed)))) (g.N.Ask.trace l.fn.recorder)

abbrev pub invariant-read_rest-loop-right : goal.invariant-read_rest-loop-right
invariant-read_rest-loop-right g l =
    Going (more_unions (annotation_in l.left) (type_readings (interface_in l.file) (type_exprs (map type_expr_of (drop l.right-index l.rest))))) (g.N.Ask.trace l.recorder)
    (more_unions (annotation_in l.fn.first) (type_readings (interface_in l.file) (type_exprs (map type_expr_of l.rest)))) (g.N.Ask.trace l.fn.recorder)
