-- The parts of expressions as lists.
use Rattle.std.specs.Prelude.{List, [], ◌∷◌}
use Rattle.pyc_ast.specs.Exprs.{Element, Elements, no_element, another_element, DictItem, DictItems, no_dict_item}
use Rattle.pyc_ast.specs.Exprs.{another_dict_item, Argument, Arguments, no_argument, another_argument}

abbrev pub element_list : Elements → List Element
element_list no_element = []
element_list (another_element x xs) = x ∷ element_list xs

abbrev pub dict_item_list : DictItems → List DictItem
dict_item_list no_dict_item = []
dict_item_list (another_dict_item x xs) = x ∷ dict_item_list xs

abbrev pub argument_list : Arguments → List Argument
argument_list no_argument = []
argument_list (another_argument x xs) = x ∷ argument_list xs
