-- What displays ask, where to read each of their parts asks files alone.
use Rattle.std.proofs.Common.{ℕ, ◌+◌, true, false, List, [], ◌∷◌, ◌++◌, length, Option, None, Some}
use Rattle.std.specs.List.{list_any, slice_get}
use Rattle.pyc_ast.specs.Exprs.{DictItem, Element, Expr, at_of, element, entry, unpacking}
use Rattle.pyc_displays.specs.Displays.{EntryTypes, Reads, dict_by, dict_display, check_dict_display, entries_to, check_entry_types, entry_types, free_dict, free_entry, free_list, free_pair, free_unpacking, is_starred, check_item_type, check_item_types, list_by, list_display, check_list_display, more_entries, more_types, infer_freely, check_pair_types, set_display, tuple_display, value_in, check_value_type, with_entry}
use Rattle.pyc_displays.specs.Expecting.{Entry, expected_entry, expected_item, expected_places}
use Rattle.pyc_displays.specs.Messages.{required_entry, required_item}
use Rattle.pyc_expression_laws.proofs.ObligationKeyLemmas.{of-required, of-owing}
use Rattle.pyc_expression_laws.proofs.StepLemmas.{Files, files_done, files_then}
use Rattle.pyc_type_forms.specs.Types.{Ty}

module _ (read : Reads) (reads : (x : Expr) (want : Option Ty) → Files (read x want)) where
  of-infer_freely : (x : Expr) → Files (infer_freely read x)
  unfolding infer_freely
  of-infer_freely x = files_then _ _ (reads x None) (λ ty. files_done)

  of-more_types : (places : List Ty) (index : ℕ) (types : List Ty) (items : List Element) → Files (more_types read places index types items)
  unfolding more_types
  of-more_types places index types [] = files_done
  of-more_types places index types (x ∷ xs) =
      files_then _ _ (reads (value_in x) (slice_get places index)) (λ ty. of-more_types places (index + 1) (types ++ (ty ∷ [])) xs)

  -- ---- lists

  of-check_item_type : (want : Ty) (index : ℕ) (x : Element) → Files (check_item_type read want index x)
  unfolding check_value_type
  of-check_item_type want index (element true x) = of-infer_freely x
  of-check_item_type want index (element false x) = files_then _ _ (reads x (Some want)) (λ got. of-required (required_item (at_of x) index got want))

  of-check_item_types : (want : Ty) (index : ℕ) (items : List Element) → Files (check_item_types read want index items)
  unfolding check_item_types
  of-check_item_types want index [] = files_done
  of-check_item_types want index (x ∷ xs) = files_then _ _ (of-check_item_type want index x) (λ u. of-check_item_types want (index + 1) xs)

  of-list_by : (items : List Element) (want : Option Ty) → Files (list_by read items want)
  unfolding check_list_display free_list
  of-list_by items (Some want) = files_then _ _ (of-check_item_types want 0 items) (λ u. files_done)
  of-list_by items None = files_then _ _ (of-more_types [] 0 [] items) (λ types. files_done)

  pub of-list_display : (items : List Element) (want : Option Ty) → Files (list_display read items want)
  of-list_display items want = of-list_by items (expected_item want)

  -- ---- dictionaries

  of-entry_types : (key value : Expr) (want_key want_value : Option Ty) → Files (entry_types read key value want_key want_value)
  unfolding entry_types
  of-entry_types key value want_key want_value = files_then _ _ (reads key want_key) (λ got_key. files_then _ _ (reads value want_value) (λ got_value. files_done))

  of-check_entry_types : (want : Entry) (index : ℕ) (x : DictItem) → Files (check_entry_types read want index x)
  unfolding check_pair_types
  of-check_entry_types want index (entry key value) =
      files_then _ _ (of-entry_types key value (Some want.key) (Some want.value)) (λ got. of-owing (required_entry (at_of key) index got want))
  of-check_entry_types want index (unpacking x) = of-infer_freely x

  of-entries_to : (want : Entry) (index : ℕ) (items : List DictItem) → Files (entries_to read want index items)
  unfolding entries_to
  of-entries_to want index [] = files_done
  of-entries_to want index (x ∷ xs) = files_then _ _ (of-check_entry_types want index x) (λ u. of-entries_to want (index + 1) xs)

  of-free_entry : (x : DictItem) → Files (free_entry read x)
  unfolding free_pair free_unpacking
  of-free_entry (entry key value) = files_then _ _ (of-entry_types key value None None) (λ found. files_done)
  of-free_entry (unpacking x) = files_then _ _ (of-infer_freely x) (λ u. files_done)

  of-more_entries : (types : EntryTypes) (items : List DictItem) → Files (more_entries read types items)
  unfolding more_entries
  of-more_entries types [] = files_done
  of-more_entries types (x ∷ xs) = files_then _ _ (of-free_entry x) (λ found. of-more_entries (with_entry types found) xs)

  of-dict_by : (items : List DictItem) (want : Option Entry) → Files (dict_by read items want)
  unfolding check_dict_display free_dict
  of-dict_by items (Some want) = files_then _ _ (of-entries_to want 0 items) (λ u. files_done)
  of-dict_by items None = files_then _ _ (of-more_entries _ items) (λ types. files_done)

  pub of-dict_display : (items : List DictItem) (want : Option Ty) → Files (dict_display read items want)
  of-dict_display items want = of-dict_by items (expected_entry want)

  -- ---- tuples and sets

  pub of-tuple_display : (items : List Element) (want : Option Ty) → Files (tuple_display read items want)
  unfolding tuple_display
  of-tuple_display items want = files_then _ _ (of-more_types (expected_places (list_any is_starred items) (length items) want) 0 [] items) (λ types. files_done)

  pub of-set_display : (items : List Element) (want : Option Ty) → Files (set_display read items want)
  unfolding set_display
  of-set_display items want = files_then _ _ (of-more_types [] 0 [] items) (λ types. files_done)
