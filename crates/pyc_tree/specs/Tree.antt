-- The trees of a logical line as plain values: every node keeps each of its tokens
-- (Python reference 3.13, "Full Grammar specification").
use Rattle.std.specs.Prelude.{List, Option}
use Rattle.pyc_token.specs.declared.tokens.Token.{Token}
use Rattle.pyc_tree.specs.declared.display_kind.DisplayKind.{DisplayKind}

mutual
  -- an expression, or a part that stands in some places alone ("Expressions")
  pub data Tree : Type 0 where
    -- an identifier
    name : Token → Tree
    number : Token → Tree
    -- `False`, `None`, `True` or `...`
    constant : Token → Tree
    -- string literals, one after another
    strings : Token → List Token → Tree
    -- a form in parentheses
    parenthesized : Token → Tree → Token → Tree
    -- a display of items in brackets
    display : DisplayKind → Token → Pieces → Token → Tree
    -- a comprehension, or a generator, in brackets
    comprehension_display : DisplayKind → Token → Tree → Comprehensions → Token → Tree
    -- an object, `.` and a name
    attribute : Tree → Token → Token → Tree
    -- a callee and its arguments in parentheses
    call : Tree → Token → Pieces → Token → Tree
    -- an object and its indices in square brackets
    subscript : Tree → Token → Pieces → Token → Tree
    -- `await` and its operand
    await : Token → Tree → Tree
    -- a sign, `~` or `not`, and its operand
    unary : Token → Tree → Tree
    -- an operator between two operands, `and` and `or` too
    binary : Tree → Token → Tree → Tree
    -- a chain of comparisons
    compare : Tree → Links → Tree
    -- a value, `if`, a test, `else`, another value
    conditional : Tree → Token → Tree → Token → Tree → Tree
    -- `lambda`, parameters, `:` and a body
    lambda : Token → Pieces → Token → Tree → Tree
    -- items with commas and no brackets: a tuple
    bare : Pieces → Tree
    -- `yield`, perhaps with a value
    yield : Token → Perhaps → Tree
    -- `yield`, `from` and a value
    yield_from : Token → Token → Tree → Tree
    -- `*` and an operand
    starred : Token → Tree → Tree
    -- `**` and a value, in a call
    double_starred : Token → Tree → Tree
    -- a key, `:` and a value, in a dictionary
    entry : Tree → Token → Tree → Tree
    -- `**` and a mapping, in a dictionary
    mapping : Token → Tree → Tree
    -- a lower bound, `:` and an upper bound, in a subscript
    slice : Perhaps → Token → Perhaps → Tree
    -- a lower bound, `:`, an upper bound, `:` and a step, in a subscript
    stride : Perhaps → Token → Perhaps → Token → Perhaps → Tree
    -- a plain argument of a call
    argument : Tree → Tree
    -- a name, `=` and a value, in a call
    keyword : Token → Token → Tree → Tree
    -- a generator that is the only argument of a call
    generator : Tree → Comprehensions → Tree
    -- a parameter with its annotation after `:` and its default after `=`
    parameter : Token → Tail → Tail → Tree
    -- `*` and a parameter with its annotation
    star_parameter : Token → Token → Tail → Tree
    -- `*` alone among parameters
    bare_star : Token → Tree
    -- `**` and a parameter with its annotation
    double_parameter : Token → Token → Tail → Tree
    -- a context manager with its target after `as`, in a `with`
    with_item : Tree → Tail → Tree

  -- items with commas between them, and perhaps one after the last
  pub data Pieces : Type 0 where
    none : Pieces
    -- the last one, without a comma
    last : Tree → Pieces
    piece : Tree → Token → Pieces → Pieces

  -- comparisons, each with its operator, which may have a second word: `not in` or `is not`
  pub data Links : Type 0 where
    unlinked : Links
    link : Token → Option Token → Tree → Links → Links

  -- the clauses of a comprehension
  pub data Comprehensions : Type 0 where
    no_comprehension : Comprehensions
    -- perhaps `async`, then `for`, targets, `in` and what is iterated
    for_clause : Option Token → Token → Tree → Token → Tree → Comprehensions → Comprehensions
    -- `if` and a condition
    if_clause : Token → Tree → Comprehensions → Comprehensions

  -- an expression, or none
  pub data Perhaps : Type 0 where
    absent : Perhaps
    present : Tree → Perhaps

  -- a token with an expression after it, or nothing
  pub data Tail : Type 0 where
    nothing : Tail
    after : Token → Tree → Tail
