-- Items with commas, by their fields.
use Rattle.std.proofs.Common.{◌≡◌, ℕ, suc, ◌==◌, arith, refl, ap, sym, ◌∙◌, true, false, List, [], ◌∷◌, length, ◌<◌, ◌≤◌, get_or, Option, None, Some}
use Rattle.std.specs.declared.alloc.Global.{Global}
use Rattle.std.specs.declared.boxed.Box.{Box}
use Rattle.std.proofs.lemmas.Bool.Decides.{nat_tests}
use Rattle.std.specs.Option.{is_some}
use Rattle.pyc_lower_expression.specs.Expressions.{first_of, are_two, is_last, is_single, is_only_generator}
use Rattle.pyc_tree.specs.declared.tree.Expr.{Expr}
use Rattle.pyc_tree.specs.declared.tree.Piece.{Piece}
use Rattle.pyc_tree.specs.declared.tree.Pieces.{Pieces as Items, out-Pieces, roll-out-Pieces}
use Rattle.pyc_tree.specs.Tree.{Tree, Pieces}
use Rattle.pyc_tree.specs.Tree as tree
use Rattle.pyc_tree.specs.View.{tree_of, pieces_of, pieces_before, last_of}
use Rattle.pyc_tree.proofs.ViewLemmas.{view_Pieces}

-- items by their fields
pub pieces_of-fields : (x : Items) → pieces_of x ≡ pieces_before (out-Pieces x).each.items (last_of (out-Pieces x).last)
pieces_of-fields x = ap pieces_of (sym (roll-out-Pieces x)) ∙ view_Pieces (out-Pieces x).each (out-Pieces x).last

-- ---- whether items are two

suc-zero : (n : ℕ) → false ≡ (suc n == 0)
suc-zero n = grind (arith, nat_tests)

suc-one : (n : ℕ) → false ≡ (suc (suc n) == 1)
suc-one n = grind (arith, nat_tests)

suc-two : (n : ℕ) → (n == 0) ≡ (suc (suc n) == 2)
suc-two n = grind (arith, nat_tests)

one-two : false ≡ (1 == 2)
one-two = refl

not_last : (each : List Piece) (e : Tree) → is_last (pieces_before each (tree.last e)) ≡ false
not_last [] e = refl
not_last (p ∷ each) e = refl

two-with : (each : List Piece) (e : Tree) → are_two (pieces_before each (tree.last e)) ≡ (length each == 1)
two-with [] e = refl
two-with (p ∷ []) e = refl
two-with (p ∷ q ∷ each) e = not_last each e ∙ suc-one (length each)

last-without : (each : List Piece) → is_last (pieces_before each tree.none) ≡ (length each == 0)
last-without [] = refl
last-without (p ∷ each) = suc-zero (length each)

two-without : (each : List Piece) → are_two (pieces_before each tree.none) ≡ (length each == 2)
two-without [] = refl
two-without (p ∷ []) = refl
two-without (p ∷ q ∷ each) = last-without each ∙ suc-two (length each)

two-some : (each : List Piece) (end : Option (Box Expr Global)) → is_some end ≡ true → are_two (pieces_before each (last_of end)) ≡ (length each == 1)
two-some each None e = cc
two-some each (Some x) e = two-with each (tree_of x.value)

two-none : (each : List Piece) (end : Option (Box Expr Global)) → is_some end ≡ false → are_two (pieces_before each (last_of end)) ≡ (length each == 2)
two-none each None e = two-without each
two-none each (Some x) e = cc

-- items that end without a comma are two where one stands before
pub are_two-last : (x : Items) → is_some (out-Pieces x).last ≡ true → are_two (pieces_of x) ≡ (length (out-Pieces x).each.items == 1)
are_two-last x e = ap are_two (pieces_of-fields x) ∙ two-some (out-Pieces x).each.items (out-Pieces x).last e

-- items that end with a comma are two where two have one
pub are_two-comma : (x : Items) → is_some (out-Pieces x).last ≡ false → are_two (pieces_of x) ≡ (length (out-Pieces x).each.items == 2)
are_two-comma x e = ap are_two (pieces_of-fields x) ∙ two-none (out-Pieces x).each.items (out-Pieces x).last e

-- ---- the first of some items

first-end : (each : List Piece) (end : Option (Box Expr Global)) (b : Box Expr Global) → length each < 1 → end ≡ Some b → Some (tree_of b.value) ≡ first_of (pieces_before each (last_of end))
first-end [] end b short e = rw e refl
first-end (p ∷ each) end b short e = absurd (omega arith)

first-none : (each : List Piece) (end : Option (Box Expr Global)) → length each < 1 → end ≡ None → None ≡ first_of (pieces_before each (last_of end))
first-none [] end short e = rw e refl
first-none (p ∷ each) end short e = absurd (omega arith)

first-each : (each : List Piece) (end : Pieces) (p : Piece) → 1 ≤ length each → p ≡ get_or each 0 p → Some (tree_of p.value.value) ≡ first_of (pieces_before each end)
first-each [] end p long e = absurd (omega arith)
first-each (q ∷ each) end p long e = ap (λ (found : Piece). Some (tree_of found.value.value)) e

-- the last one is the first where none stands before
pub first_of-last : (x : Items) (b : Box Expr Global) → length (out-Pieces x).each.items < 1 → (out-Pieces x).last ≡ Some b → Some (tree_of b.value) ≡ first_of (pieces_of x)
first_of-last x b short e = first-end (out-Pieces x).each.items (out-Pieces x).last b short e ∙ ap first_of (sym (pieces_of-fields x))

-- no item has no first one
pub first_of-none : (x : Items) → length (out-Pieces x).each.items < 1 → (out-Pieces x).last ≡ None → None ≡ first_of (pieces_of x)
first_of-none x short e = first-none (out-Pieces x).each.items (out-Pieces x).last short e ∙ ap first_of (sym (pieces_of-fields x))

-- the first one with a comma
pub first_of-each : (x : Items) (p : Piece) → 1 ≤ length (out-Pieces x).each.items → p ≡ get_or (out-Pieces x).each.items 0 p → Some (tree_of p.value.value) ≡ first_of (pieces_of x)
first_of-each x p long e = first-each (out-Pieces x).each.items (last_of (out-Pieces x).last) p long e ∙ ap first_of (sym (pieces_of-fields x))

-- ---- one item without a comma

only-before : (each : List Piece) (end : Option (Box Expr Global)) (b : Box Expr Global) → end ≡ Some b → (length each == 0) ≡ true → pieces_before each (last_of end) ≡ tree.last (tree_of b.value)
only-before [] end b e zero = rw e refl
only-before (p ∷ each) end b e zero = let f = suc-zero (length each) in cc

more-before : (each : List Piece) (end : Pieces) → (length each == 0) ≡ false → is_single (pieces_before each end) ≡ false
more-before [] end zero = cc
more-before (p ∷ each) end zero = refl

none-before : (each : List Piece) (end : Option (Box Expr Global)) → end ≡ None → is_single (pieces_before each (last_of end)) ≡ false
none-before [] end e = rw e refl
none-before (p ∷ each) end e = refl

pub single-only : (x : Items) (b : Box Expr Global) → (out-Pieces x).last ≡ Some b → (length (out-Pieces x).each.items == 0) ≡ true → pieces_of x ≡ tree.last (tree_of b.value)
single-only x b e zero = pieces_of-fields x ∙ only-before (out-Pieces x).each.items (out-Pieces x).last b e zero

pub single-more : (x : Items) → (length (out-Pieces x).each.items == 0) ≡ false → is_single (pieces_of x) ≡ false
single-more x zero = ap is_single (pieces_of-fields x) ∙ more-before (out-Pieces x).each.items (last_of (out-Pieces x).last) zero

pub single-none : (x : Items) → (out-Pieces x).last ≡ None → is_single (pieces_of x) ≡ false
single-none x e = ap is_single (pieces_of-fields x) ∙ none-before (out-Pieces x).each.items (out-Pieces x).last e

-- what is no single item is no single generator
pub only_generator-other : (items : Pieces) → is_single items ≡ false → false ≡ is_only_generator items
only_generator-other tree.none e = refl
only_generator-other (tree.last x) e = cc
only_generator-other (tree.piece x comma rest) e = refl
