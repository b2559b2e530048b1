use Rattle.std.proofs.Common.{◌≡◌, ◌++◌, drop}
use Rattle.pyc_lower_atom.specs.Origins.{name_at}
use Rattle.pyc_lower_atom.specs.OriginView.{origin_of}
use Rattle.pyc_lower_statement.specs.Statements.{separated_in}
use Rattle.pyc_tree.specs.StatementView.{separated_of, separated_before, last_item_of, token_of}
use Rattle.pyc_lower_statement.proofs.imports.declared_names.Given as goal

-- what is made so far, and what is left, is the whole
abbrev pub invariant-loop-item : goal.invariant-loop-item
invariant-loop-item g l =
    l.found.items
    ++ separated_in (name_at (origin_of l.lowering.origin)) (separated_before token_of (drop l.item-index l.item-items) (last_item_of token_of l.tokens.last))
    ≡ separated_in (name_at (origin_of l.lowering.origin)) (separated_of token_of l.tokens)
