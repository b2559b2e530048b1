use Rattle.std.proofs.Common.{◌≡◌, is_some, map, drop}
use Rattle.std.specs.List.{list_any}
use Rattle.pyc_ast.specs.Statements.{Parameter}
use Rattle.pyc_ast.specs.StatementView.{parameter_of}
use Rattle.pyc_functions.proofs.functions.has_annotation.Given as goal

-- the answer is that of the parameters that are left
abbrev pub invariant-loop-parameter : goal.invariant-loop-parameter
invariant-loop-parameter l =
    list_any (λ (p : Parameter). is_some p.annotation) (map parameter_of (drop l.parameter-index l.parameters))
    ≡ list_any (λ (p : Parameter). is_some p.annotation) (map parameter_of l.parameters)
