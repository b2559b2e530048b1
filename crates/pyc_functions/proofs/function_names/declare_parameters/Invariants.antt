use Rattle.std.proofs.Common.{◌≡◌, map, drop}
use Rattle.pyc_functions.specs.FunctionNames.{with_parameters}
use Rattle.pyc_functions.specs.Views.{parameter_type_in}
use Rattle.pyc_locals.specs.Views.{locals_in}
use Rattle.pyc_functions.proofs.function_names.declare_parameters.Given as goal

-- to declare the parameters that are left comes to the same as all
abbrev pub invariant-loop-parameter : goal.invariant-loop-parameter
invariant-loop-parameter l =
    with_parameters (map parameter_type_in (drop l.parameter-index l.parameters)) (locals_in l.locals)
    ≡ with_parameters (map parameter_type_in l.parameters) (locals_in l.fn.locals)
