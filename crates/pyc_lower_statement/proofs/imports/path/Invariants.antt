use Rattle.std.proofs.Common.{◌≡◌, ◌++◌, map, drop}
use Rattle.pyc_lower_atom.specs.Origins.{name_at}
use Rattle.pyc_lower_atom.specs.OriginView.{origin_of}
use Rattle.pyc_lower_statement.specs.Statements.{path_in}
use Rattle.pyc_tree.specs.StatementView.{dotted_of, part_of}
use Rattle.pyc_lower_statement.proofs.imports.path.Given as goal

-- the names made so far, and those of the parts that are left, are those of all
abbrev pub invariant-loop-part : goal.invariant-loop-part
invariant-loop-part g l =
    l.found.items ++ map (λ part. name_at (origin_of l.lowering.origin) part.name) (map part_of (drop l.part-index l.part-items))
    ≡ path_in (origin_of l.lowering.origin) (dotted_of l.path)
