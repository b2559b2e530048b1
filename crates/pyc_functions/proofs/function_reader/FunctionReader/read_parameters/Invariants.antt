use Rattle.std.proofs.Common.{[], map, drop}
use Rattle.pyc_ast.specs.StatementView.{parameter_of}
use Rattle.pyc_body_context.specs.Views.{body_in}
use Rattle.pyc_functions.specs.Parameters.{parameters_read}
use Rattle.pyc_functions.specs.Views.{parameter_type_in}
use Rattle.pyc_reading.specs.Traces.{Going}
use Rattle.pyc_type_forms.specs.TypeView.{ty_of}
use Rattle.pyc_functions.proofs.function_reader.FunctionReader.read_parameters.Given as goal

-- what is left to do comes to the same as all
abbrev pub invariant-loop-parameter : goal.invariant-loop-parameter
invariant-loop-parameter g l =
    Going (parameters_read (body_in l.self.outside) (ty_of l.called_on) (map parameter_type_in l.found.items) (map parameter_of (drop l.parameter-index l.parameters))) (g.N.Ask.trace l.recorder)
    (parameters_read (body_in l.self.outside) (ty_of l.fn.receiver) [] (map parameter_of l.parameters)) (g.N.Ask.trace l.fn.recorder)
