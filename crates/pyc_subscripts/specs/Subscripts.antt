-- Subscripts (Python reference 3.13, "Subscriptions" and "Slicings"; the library reference, "Sequence Types").
use Rattle.std.specs.Prelude.{ℕ, Bool, true, false, if◌then◌else◌, List, [], ◌∷◌, ◌++◌, Option, None, Some}
use Rattle.pyc_ast.specs.declared.position.Position.{Position}
use Rattle.pyc_ast.specs.Exprs.{Index}
use Rattle.pyc_class_ids.specs.declared.builtin_class.BuiltinClass.TheVariants as class
use Rattle.pyc_class_ids.specs.Class.{Id, builtin}
use Rattle.pyc_messages.specs.Expressions as message
use Rattle.pyc_subscripts.specs.declared.chosen.Chosen.{Chosen}
use Rattle.pyc_subscripts.specs.Chosen.{at_of, is_slice, chosen_by, chosen_type}
use Rattle.pyc_subscripts.specs.Owners.{Owner, unknown_owner, method_owner, builtin_owner, no_owner, int_type}
use Rattle.pyc_subscripts.specs.Owners.{str_type, bytes_type, subscript_owner}
use Rattle.pyc_reading.specs.Traces.{Step, required}
use Rattle.pyc_reading.specs.Owing.{Obligation}
use Rattle.pyc_reading.specs.Readings.{Done, Report, and_then, ◌>>=◌}
use Rattle.pyc_report.specs.declared.message.ObligationKind.TheVariants as obligation_kind
use Rattle.pyc_type_forms.specs.Text.{text_of}
use Rattle.pyc_type_forms.specs.Types.{Ty, Tys, any, instance, list, dict, tuple, tuple_of}
use Rattle.pyc_type_forms.specs.Unions.{items_of, union_of}

-- ---- what is reported

-- the text on an index of a type, by its type, that of what it is an index of, and the type that this takes
unfoldable pub required_index_text : (got whole want : Ty) → List ℕ
required_index_text got whole want = message.index_text (text_of got) (text_of whole) (text_of want)

-- an index has to be of the type that is taken, which is reported at the index
abbrev pub required_index : Position → (got whole want : Ty) → Obligation
required_index at got whole want =
    record {
      obligation_kind = obligation_kind.Index;
      at = at;
      got = got;
      want = want;
      details = [];
      text = required_index_text got whole want;
    }

unfoldable pub report_out_of_range : Position → Step (Option Ty)
report_out_of_range at = Report (message.out_of_range at) (Done (Some any))

unfoldable pub not_indexable : Position → Ty → Step Ty
not_indexable at ty = Report (message.not_indexable at (text_of ty)) (Done any)

-- ---- builtins

-- an item that an index of a wanted type gives
unfoldable pub required_item : Position → Ty → Ty → Ty → Ty → Step (Option Ty)
required_item at got whole want given = do
  u ← required (required_index at got whole want)
  Done (Some given)

-- a slice keeps the type, and an int gives an item
abbrev pub sequence_item : Index → Ty → Ty → Ty → Step (Option Ty)
sequence_item brackets got whole given =
    if is_slice brackets then Done (Some whole) else required_item (at_of brackets) got whole int_type given

abbrev pub text_item : Index → Ty → Id → Step (Option Ty)
text_item brackets got (builtin class.Str) = sequence_item brackets got str_type str_type
text_item brackets got (builtin class.Bytes) = sequence_item brackets got bytes_type int_type
text_item brackets got _ = Done None

-- the item at a place of a fixed tuple
abbrev pub placed_item : Position → Option Ty → Step (Option Ty)
placed_item at (Some ty) = Done (Some ty)
placed_item at None = report_out_of_range at

abbrev pub fixed_item : Position → Option Chosen → Tys → Step (Option Ty)
fixed_item at (Some place) items = placed_item at (chosen_type place items)
fixed_item at None items = Done (Some any)

abbrev pub any_length_item : Index → Ty → Ty
any_length_item brackets item = if is_slice brackets then tuple_of item else item

abbrev pub builtin_item : Position → Index → Ty → Ty → Step (Option Ty)
builtin_item at brackets got (instance c) = text_item brackets got c
builtin_item at brackets got (list item) = sequence_item brackets got (list item) item
builtin_item at brackets got (dict key value) = required_item (at_of brackets) got (dict key value) key value
builtin_item at brackets got (tuple items) = fixed_item at (chosen_by brackets) items
builtin_item at brackets got (tuple_of item) = Done (Some (any_length_item brackets item))
builtin_item at brackets got _ = Done None

-- ---- the whole

-- what a subscript gives by what it goes by; none where there is no such subscript
abbrev pub infer_item_by_owner : Position → Index → Ty → Owner → Step (Option Ty)
infer_item_by_owner at brackets got unknown_owner = Done (Some any)
infer_item_by_owner at brackets got (method_owner given) = Done (Some given)
infer_item_by_owner at brackets got (builtin_owner ty) = builtin_item at brackets got ty
infer_item_by_owner at brackets got no_owner = Done None

unfoldable pub item_of : Position → Index → Ty → Ty → Step (Option Ty)
item_of at brackets got ty = and_then (subscript_owner ty) (infer_item_by_owner at brackets got)

-- the types of items, and whether one has none
pub record Items : Type 0 where
  pub types : List Ty
  pub is_failed : Bool

abbrev pub no_items : Items
no_items = record { types = []; is_failed = false }

abbrev pub with_item : Items → Option Ty → Items
with_item found (Some ty) = record { types = found.types ++ (ty ∷ []); is_failed = found.is_failed }
with_item found None = record { types = found.types; is_failed = true }

-- these items, and then those of types, in turn
unfoldable pub more_items : Position → Index → Ty → Items → List Ty → Step Items
more_items at brackets got found [] = Done found
more_items at brackets got found (ty ∷ rest) =
    and_then (item_of at brackets got ty) (λ item. more_items at brackets got (with_item found item) rest)

abbrev pub finish_union : Position → Ty → Items → Step Ty
finish_union at ty found = if found.is_failed then not_indexable at ty else Done (union_of found.types)

-- a subscript of a value of a type by an index of a type, in an expression that begins at a position
unfoldable pub subscript : Position → Index → Ty → Ty → Step Ty
subscript at brackets got ty = and_then (more_items at brackets got no_items (items_of ty)) (finish_union at ty)
