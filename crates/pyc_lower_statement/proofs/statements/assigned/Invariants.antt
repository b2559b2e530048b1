use Rattle.std.proofs.Common.{◌≡◌, ◌++◌, map, drop}
use Rattle.pyc_ast.specs.TargetView.{target_of}
use Rattle.pyc_lower_atom.specs.OriginView.{origin_of}
use Rattle.pyc_lower_statement.specs.Statements.{assigned_in}
use Rattle.pyc_tree.specs.StatementView.{assigned_of}
use Rattle.pyc_lower_statement.proofs.statements.assigned.Given as goal

-- the targets made so far, and those that are left, are all of them
abbrev pub invariant-loop-tree : goal.invariant-loop-tree
invariant-loop-tree g l =
    map target_of l.found.items ++ assigned_in g.Q.Quotes.spelled (origin_of l.lowering.origin) (map assigned_of (drop l.tree-index l.trees))
    ≡ assigned_in g.Q.Quotes.spelled (origin_of l.lowering.origin) (map assigned_of l.trees)
