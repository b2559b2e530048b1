use Rattle.std.proofs.Common.{◌≡◌, map, drop}
use Rattle.pyc_ast.specs.StatementView.{parameter_of}
use Rattle.pyc_iface.specs.Members.{parameter_named}
use Rattle.pyc_iface.proofs.member_types.parameter_named.Given as goal

-- the parameters from this one on decide
abbrev pub invariant-loop-parameter : goal.invariant-loop-parameter
invariant-loop-parameter l =
    parameter_named (map parameter_of l.params) l.name
    ≡ parameter_named (map parameter_of (drop l.parameter-index l.params)) l.name
