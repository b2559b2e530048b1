use Rattle.std.proofs.Common.{◌≡◌, map, take}
use Rattle.pyc_ast.specs.StatementView.{parameter_of}
use Rattle.pyc_bindings.specs.BindingView.{binding_of}
use Rattle.pyc_functions.specs.FunctionNames.{parameter_binding}
use Rattle.pyc_functions.proofs.function_names.parameter_bindings.Given as goal

-- the parameters so far are added
abbrev pub invariant-loop-parameter : goal.invariant-loop-parameter
invariant-loop-parameter l =
    map binding_of l.found.items ≡ map parameter_binding (map parameter_of (take l.parameter-index l.parameters))
