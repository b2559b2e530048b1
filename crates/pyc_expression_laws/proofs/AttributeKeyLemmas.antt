-- What attributes ask.
use Rattle.std.proofs.Common.{◌≡◌, ℕ, Bool, codes, List, [], ◌∷◌, ◌++◌, Option, None, Some, refl}
use Rattle.pyc_ast.specs.declared.position.Position.{Position}
use Rattle.pyc_attributes.specs.AttributeValues.{absent_value, found_value, item_type, item_types, no_attribute, no_item_attribute, single_attribute, type_attribute, union_attribute, union_item}
use Rattle.pyc_attributes.specs.FoundAttributes.{Found, absent, class_object_attribute, class_object_found, instance_attribute, instance_found, item_attribute, module_attribute, module_name, no_member, of_class_object, of_instance, without_member}
use Rattle.pyc_builtins.specs.Members.{is_dunder}
use Rattle.pyc_class_ids.specs.Class.{Id, builtin, user}
use Rattle.pyc_names.specs.declared.fixed.FixedModule.{FixedModule}
use Rattle.pyc_names.specs.FixedModules.{fixed_module}
use Rattle.pyc_reading.specs.Answers.{MemberAnswer}
use Rattle.pyc_expression_laws.proofs.ObligationKeyLemmas.{of-ask_member, of-is_unknown_class}
use Rattle.pyc_expression_laws.proofs.ScopeLemmas.{of-ask_outside}
use Rattle.pyc_expression_laws.proofs.StepLemmas.{Files, files_done, files_if, files_report, files_then}
use Rattle.pyc_type_forms.specs.Types.{Ty, module_type, instance, class_object, union}
use Rattle.pyc_type_forms.specs.Unions.{row_items}

-- ---- classes of sources

of-without_member : (m : List (List ℕ)) (x : List ℕ) (is_unknown : Bool) → Files (without_member (user m x) is_unknown)
of-without_member m x is_unknown = files_if is_unknown _ _ files_done (files_then _ _ (of-ask_member m x (codes "__getattr__")) (λ found. files_done))

of-no_member : (m : List (List ℕ)) (x n : List ℕ) → Files (no_member (user m x) n)
of-no_member m x n = files_if (is_dunder n) _ _ files_done (files_then _ _ (of-is_unknown_class (user m x)) (of-without_member m x))

of-instance_found : (m : List (List ℕ)) (x n : List ℕ) (found : Option MemberAnswer) → Files (instance_found (user m x) n found)
of-instance_found m x n (Some found) = files_done
of-instance_found m x n None = of-no_member m x n

of-instance : (c : Id) (n : List ℕ) → Files (of_instance c n)
unfolding instance_attribute
of-instance (builtin c) n = files_done
of-instance (user m x) n = files_then _ _ (of-ask_member m x n) (of-instance_found m x n)

of-class_object_found : (m : List (List ℕ)) (x n : List ℕ) (found : Option MemberAnswer) → Files (class_object_found (user m x) n found)
of-class_object_found m x n (Some found) = files_done
of-class_object_found m x n None = files_if (is_dunder n) _ _ files_done (files_then _ _ (of-is_unknown_class (user m x)) (λ unknown. files_done))

of-class_object : (c : Id) (n : List ℕ) → Files (of_class_object c n)
unfolding class_object_attribute
of-class_object (builtin c) n = files_done
of-class_object (user m x) n = files_then _ _ (of-ask_member m x n) (of-class_object_found m x n)

-- ---- modules

of-module_name : (m : List (List ℕ)) (n : List ℕ) (found : Option FixedModule) → fixed_module m ≡ found → Files (module_name m n found)
of-module_name m n (Some found) same = files_done
of-module_name m n None same = files_then _ _ (of-ask_outside m n same) (λ found. files_done)

of-module_attribute : (m : List (List ℕ)) (n : List ℕ) → Files (module_attribute m n)
unfolding module_attribute
of-module_attribute m n = files_if (is_dunder n) _ _ files_done (of-module_name m n (fixed_module m) refl)

-- ---- values

pub of-item_attribute : (ty : Ty) (n : List ℕ) → Files (item_attribute ty n)
of-item_attribute (module_type m) n = of-module_attribute m n
of-item_attribute (instance c) n = of-instance c n
of-item_attribute (class_object c) n = of-class_object c n
of-item_attribute _ n = files_done

pub of-no_attribute : (at : Position) (ty : Ty) (n : List ℕ) → Files (no_attribute at ty n)
unfolding no_attribute
of-no_attribute at ty n = files_report files_done

pub of-no_item_attribute : (at : Position) (whole item : Ty) (n : List ℕ) → Files (no_item_attribute at whole item n)
unfolding no_item_attribute
of-no_item_attribute at whole item n = files_report files_done

of-found_value : (at : Position) (ty : Ty) (n : List ℕ) (found : Found) → Files (found_value at ty n found)
unfolding absent_value
of-found_value at ty n absent = files_then _ _ (of-no_attribute at ty n) (λ found. files_done)
of-found_value at ty n _ = files_done

of-single_attribute : (at : Position) (ty : Ty) (n : List ℕ) → Files (single_attribute at ty n)
unfolding single_attribute
of-single_attribute at ty n = files_then _ _ (of-item_attribute ty n) (of-found_value at ty n)

of-item_type : (at : Position) (whole item : Ty) (n : List ℕ) (found : Found) → Files (item_type at whole item n found)
of-item_type at whole item n absent = of-no_item_attribute at whole item n
of-item_type at whole item n _ = files_done

of-item_types : (at : Position) (whole : Ty) (n : List ℕ) (found items : List Ty) → Files (item_types at whole n found items)
unfolding item_types union_item
of-item_types at whole n found [] = files_done
of-item_types at whole n found (item ∷ rest) =
    files_then _ _ (files_then _ _ (of-item_attribute item n) (of-item_type at whole item n)) (λ ty. of-item_types at whole n (found ++ (ty ∷ [])) rest)

pub of-type_attribute : (at : Position) (ty : Ty) (n : List ℕ) → Files (type_attribute at ty n)
unfolding union_attribute
of-type_attribute at (union items) n = files_then _ _ (of-item_types at (union items) n [] (row_items items)) (λ found. files_done)
of-type_attribute at ty n = of-single_attribute at ty n
