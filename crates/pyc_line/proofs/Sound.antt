-- What is read, said of the tree and the tokens alone: it is well-formed, its tokens are those that were taken, it is
-- no higher than the profile allows, and it stops where nothing of its precedence goes on.
use Rattle.std.proofs.Common.{◌≡◌, ℕ, ◌≤◌, ◌<◌, Bool, true, List, ◌++◌, length, Option, Some, None}
use Rattle.pyc_token.specs.declared.tokens.Kind.{Kind}
use Rattle.pyc_token.specs.declared.tokens.Token.{Token}
use Rattle.pyc_tree.specs.declared.list_context.ListContext.{ListContext}
use Rattle.pyc_tree.specs.Tree.{Tree, Pieces, Links, Comprehensions, Perhaps, Tail}
use Rattle.pyc_tree.specs.Tree as tree
use Rattle.pyc_tree.specs.Kinds.{kind_of, begins_comprehension}
use Rattle.pyc_tree.specs.Precedence.{infix_precedence, left_precedence, precedence}
use Rattle.pyc_tree.specs.Yield.{yield_of, pieces_yield, comprehensions_yield, perhaps_yield, tail_yield}
use Rattle.pyc_tree.specs.Height.{height, pieces_height, perhaps_height, tail_height, max_height}
use Rattle.pyc_tree.specs.ListContexts.{is_at}
use Rattle.pyc_tree.specs.Well.{IsWell, ArePieces, AreComprehensions, MayBe, MayFollow, has_for}
use Rattle.pyc_tree.specs.Parser.{Parser}

-- an expression of a precedence
pub record IsRead (loosest : ℕ) (ts : List Token) (t : Tree) (rest : List Token) : Type 0 where
  pub well : IsWell t
  pub high : loosest ≤ precedence t
  pub text : ts ≡ yield_of t ++ rest
  pub low : height t ≤ max_height
  pub stop : infix_precedence (kind_of rest) < loosest

-- an expression of a precedence that may go on: the next operator may take it
pub record Starts (loosest : ℕ) (ts : List Token) (t : Tree) (rest : List Token) : Type 0 where
  pub well : IsWell t
  pub high : loosest ≤ precedence t
  pub text : ts ≡ yield_of t ++ rest
  pub low : height t ≤ max_height
  pub fits : left_precedence (kind_of rest) ≤ precedence t

-- a tree of any form
pub record IsPart (ts : List Token) (t : Tree) (rest : List Token) : Type 0 where
  pub well : IsWell t
  pub text : ts ≡ yield_of t ++ rest
  pub low : height t ≤ max_height

-- a tree that passes a test
pub record IsOf (test : Tree → Bool) (ts : List Token) (t : Tree) (rest : List Token) : Type 0 where
  pub well : IsWell t
  pub text : ts ≡ yield_of t ++ rest
  pub low : height t ≤ max_height
  pub passes : test t ≡ true

-- a tree of one precedence
pub record IsForm (n : ℕ) (ts : List Token) (t : Tree) (rest : List Token) : Type 0 where
  pub well : IsWell t
  pub text : ts ≡ yield_of t ++ rest
  pub low : height t ≤ max_height
  pub at : precedence t ≡ n

-- what an operator makes with an expression before it
pub record Continues (left : Tree) (ts : List Token) (t : Tree) (rest : List Token) : Type 0 where
  pub well : IsWell t
  pub text : yield_of left ++ ts ≡ yield_of t ++ rest
  pub low : height t ≤ max_height
  pub at : precedence t ≡ infix_precedence (kind_of ts)
  pub fits : left_precedence (kind_of rest) ≤ precedence t
  pub shorter : length rest < length ts

-- the first of some items
abbrev pub first_of : Pieces → Option Tree
first_of tree.none = None
first_of (tree.last e) = Some e
first_of (tree.piece e _ _) = Some e

-- items from a place on
pub record ArePart (here : ListContext) (ts : List Token) (found : Pieces) (rest : List Token) : Type 0 where
  pub pieces : ArePieces here found
  pub text : ts ≡ pieces_yield found ++ rest
  pub low : pieces_height found ≤ max_height

-- items from a place on, of which this is the first
pub record AreListed (here : ListContext) (e : Tree) (ts : List Token) (found : Pieces) (rest : List Token) : Type 0 where
  pub pieces : ArePieces here found
  pub text : ts ≡ pieces_yield found ++ rest
  pub low : pieces_height found ≤ max_height
  pub first : first_of found ≡ Some e

-- a clause of a comprehension, in front of any others; a `for` where one begins
pub record IsComprehension (ts : List Token) (front : Comprehensions → Comprehensions) (rest : List Token) : Type 0 where
  pub comprehensions : (more : Comprehensions) → AreComprehensions more → AreComprehensions (front more)
  pub text : (more : Comprehensions) (left : List Token) → rest ≡ comprehensions_yield more ++ left → ts ≡ comprehensions_yield (front more) ++ left
  pub heads : (more : Comprehensions) → begins_comprehension (kind_of ts) ≡ true → has_for (front more) ≡ true

-- the clauses of a comprehension, as many as a number allows
pub record AreComprehensionsRead (n : ℕ) (ts : List Token) (found : Comprehensions) (rest : List Token) : Type 0 where
  pub comprehensions : AreComprehensions found
  pub text : ts ≡ comprehensions_yield found ++ rest
  pub heads : begins_comprehension (kind_of ts) ≡ true → length ts ≤ n → has_for found ≡ true

-- a token of a kind and the expression after it, or nothing
pub record IsTail (k : Kind) (ts : List Token) (found : Tail) (rest : List Token) : Type 0 where
  pub follows : MayFollow k (is_at 1) found
  pub text : ts ≡ tail_yield found ++ rest
  pub low : tail_height found ≤ max_height

-- an expression, or none
pub record IsBound (ts : List Token) (found : Perhaps) (rest : List Token) : Type 0 where
  pub given : MayBe (is_at 1) found
  pub text : ts ≡ perhaps_yield found ++ rest
  pub low : perhaps_height found ≤ max_height

-- expressions of each precedence are read
pub record Good (S : ℕ → Parser Tree) : Type 0 where
  pub reads : (loosest : ℕ) (ts : List Token) (t : Tree) (rest : List Token) → S loosest ts ≡ Some (t, rest) → 1 ≤ loosest → loosest ≤ 16
      → IsRead loosest ts t rest
