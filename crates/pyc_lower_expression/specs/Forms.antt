-- Which function of the code lowers a tree.
use Rattle.std.specs.Prelude.{Bool, true, false}
use Rattle.pyc_tree.specs.Tree.{Tree}
use Rattle.pyc_tree.specs.Tree as tree

-- whether a tree is an atom, or another form that begins with a token of its own and has no operator
abbrev pub is_atom : Tree → Bool
is_atom (tree.name t) = true
is_atom (tree.number t) = true
is_atom (tree.constant t) = true
is_atom (tree.strings t more) = true
is_atom (tree.parenthesized opening e closing) = true
is_atom (tree.display made opening items closing) = true
is_atom (tree.comprehension_display made opening e clauses closing) = true
is_atom (tree.lambda t parameters colon body) = true
is_atom (tree.bare items) = true
is_atom _ = false

-- whether a tree is an operator with its operands
abbrev pub is_operation : Tree → Bool
is_operation (tree.attribute e dot name) = true
is_operation (tree.call e opening items closing) = true
is_operation (tree.subscript e opening items closing) = true
is_operation (tree.await t e) = true
is_operation (tree.unary sign e) = true
is_operation (tree.binary a sign b) = true
is_operation (tree.compare a links) = true
is_operation (tree.conditional a word_if test word_else b) = true
is_operation (tree.yield t value) = true
is_operation (tree.yield_from t from e) = true
is_operation _ = false
