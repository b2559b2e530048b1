-- What is assigned to, as plain values (Python reference 3.13, "Assignment statements").
use Rattle.std.specs.Prelude.{ℕ, Bool, List, [], ◌∷◌}
use Rattle.pyc_ast.specs.declared.position.Position.{Position}
use Rattle.pyc_ast.specs.Exprs.{Expr, Index}

mutual
  -- where it begins, its parentheses included, where it begins within them, and what it is
  pub data Target : Type 0 where
    target : (at inside : Position) → TargetForm → Target

  pub data TargetForm : Type 0 where
    name : List ℕ → TargetForm
    attribute : Expr → List ℕ → TargetForm
    subscript : Expr → Index → TargetForm
    -- a tuple or a list of targets
    unpacking : TargetElements → TargetForm

  -- whether it stands after `*`, and the target
  pub data TargetElement : Type 0 where
    target_element : Bool → Target → TargetElement

  pub data TargetElements : Type 0 where
    no_target : TargetElements
    another_target : TargetElement → TargetElements → TargetElements

abbrev pub target_elements : List TargetElement → TargetElements
target_elements [] = no_target
target_elements (x ∷ xs) = another_target x (target_elements xs)
