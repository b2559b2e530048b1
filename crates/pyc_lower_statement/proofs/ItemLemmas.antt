-- Items with commas, by their fields.
use Rattle.std.proofs.Common.{◌≡◌, arith, refl, ap, sym, ◌∙◌, List, [], ◌∷◌, length, ◌<◌, ◌≤◌, get_or, Option, None, Some}
use Rattle.std.specs.declared.alloc.Global.{Global}
use Rattle.std.specs.declared.boxed.Box.{Box}
use Rattle.pyc_lower_expression.specs.Expressions.{first_of}
use Rattle.pyc_tree.specs.declared.tree.Expr.{Expr}
use Rattle.pyc_tree.specs.declared.tree.Piece.{Piece}
use Rattle.pyc_tree.specs.declared.tree.Pieces.{Pieces as Items, out-Pieces, roll-out-Pieces}
use Rattle.pyc_tree.specs.Tree.{Pieces}
use Rattle.pyc_tree.specs.View.{tree_of, pieces_of, pieces_before, last_of}
use Rattle.pyc_tree.proofs.ViewLemmas.{view_Pieces}

-- items by their fields
pub pieces_of-fields : (x : Items) → pieces_of x ≡ pieces_before (out-Pieces x).each.items (last_of (out-Pieces x).last)
pieces_of-fields x = ap pieces_of (sym (roll-out-Pieces x)) ∙ view_Pieces (out-Pieces x).each (out-Pieces x).last

-- a recursion over items begins with all of them
pub items_begin : {B : Type 0} (f : Pieces → B) (x : Items) (each : List Piece) → each ≡ (out-Pieces x).each.items → f (pieces_before each (last_of (out-Pieces x).last)) ≡ f (pieces_of x)
items_begin f x each e = ap (λ (found : List Piece). f (pieces_before found (last_of (out-Pieces x).last))) e ∙ ap f (sym (pieces_of-fields x))

-- ---- the first of some items

first-end : (each : List Piece) (end : Option (Box Expr Global)) (b : Box Expr Global) → length each < 1 → end ≡ Some b → Some (tree_of b.value) ≡ first_of (pieces_before each (last_of end))
first-end [] end b short e = rw e refl
first-end (p ∷ each) end b short e = absurd (omega arith)

first-none : (each : List Piece) (end : Option (Box Expr Global)) → length each < 1 → end ≡ None → None ≡ first_of (pieces_before each (last_of end))
first-none [] end short e = rw e refl
first-none (p ∷ each) end short e = absurd (omega arith)

first-each : (each : List Piece) (end : Pieces) (p : Piece) → 1 ≤ length each → p ≡ get_or each 0 p → Some (tree_of p.value.value) ≡ first_of (pieces_before each end)
first-each [] end p long e = absurd (omega arith)
first-each (q ∷ each) end p long e = ap (λ (found : Piece). Some (tree_of found.value.value)) e

-- the last one is the first where none stands before
pub first_of-last : (x : Items) (b : Box Expr Global) → length (out-Pieces x).each.items < 1 → (out-Pieces x).last ≡ Some b → Some (tree_of b.value) ≡ first_of (pieces_of x)
first_of-last x b short e = first-end (out-Pieces x).each.items (out-Pieces x).last b short e ∙ ap first_of (sym (pieces_of-fields x))

-- no item has no first one
pub first_of-none : (x : Items) → length (out-Pieces x).each.items < 1 → (out-Pieces x).last ≡ None → None ≡ first_of (pieces_of x)
first_of-none x short e = first-none (out-Pieces x).each.items (out-Pieces x).last short e ∙ ap first_of (sym (pieces_of-fields x))

-- the first one with a comma
pub first_of-each : (x : Items) (p : Piece) → 1 ≤ length (out-Pieces x).each.items → p ≡ get_or (out-Pieces x).each.items 0 p → Some (tree_of p.value.value) ≡ first_of (pieces_of x)
first_of-each x p long e = first-each (out-Pieces x).each.items (last_of (out-Pieces x).last) p long e ∙ ap first_of (sym (pieces_of-fields x))
