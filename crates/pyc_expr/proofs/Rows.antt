-- The parts of expressions of the code, as lists.
use Rattle.std.proofs.Common.{◌≡◌, List, [], ◌∷◌, refl, ap}
use Rattle.pyc_ast.specs.Exprs.{Element, elements, DictItem, dict_items, Argument, arguments}
use Rattle.pyc_expr.specs.Parts.{element_list, dict_item_list, argument_list}

pub element_row : (xs : List Element) → element_list (elements xs) ≡ xs
element_row [] = refl
element_row (x ∷ xs) = ap (λ l. x ∷ l) (element_row xs)

pub dict_item_row : (xs : List DictItem) → dict_item_list (dict_items xs) ≡ xs
dict_item_row [] = refl
dict_item_row (x ∷ xs) = ap (λ l. x ∷ l) (dict_item_row xs)

pub argument_row : (xs : List Argument) → argument_list (arguments xs) ≡ xs
argument_row [] = refl
argument_row (x ∷ xs) = ap (λ l. x ∷ l) (argument_row xs)
