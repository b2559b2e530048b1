-- No expression of a source is higher than expressions are read deep.
use Rattle.std.specs.Prelude.{◌≡◌, ◌≤◌, ℕ, List}
use Rattle.pyc_ast.specs.Modules.{Module, tree}
use Rattle.pyc_expr.specs.Values.{most_depth}
use Rattle.pyc_height_laws.specs.Heights.{stmts_height}
use Rattle.pyc_lower.specs.Reading.{read_of}

-- where a source is a module, the highest expression anywhere in its statements is at most as high as expressions are
-- read deep: so none is cut off
abbrev pub ModulesAreLow : Type 0
ModulesAreLow =
    (source : List ℕ) (m : Module) → read_of source ≡ tree m → stmts_height m.statements ≤ most_depth
