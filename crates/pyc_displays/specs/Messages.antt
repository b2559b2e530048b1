-- What is reported of items of displays.
use Rattle.std.specs.Prelude.{ℕ, List, [], ◌∷◌}
use Rattle.pyc_ast.specs.declared.position.Position.{Position}
use Rattle.pyc_displays.specs.Expecting.{Entry}
use Rattle.pyc_messages.specs.Expressions as message
use Rattle.pyc_reading.specs.Owing.{Obligation}
use Rattle.pyc_report.specs.declared.message.ObligationKind.TheVariants as obligation_kind
use Rattle.pyc_type_forms.specs.Text.{text_of}
use Rattle.pyc_type_forms.specs.Types.{Ty}

-- the text on an item of a list, by its type and the type that is expected
unfoldable pub required_item_text : ℕ → (got want : Ty) → List ℕ
required_item_text index got want = message.list_item_text index (text_of got) (text_of want)

-- an item of a list has to be of the type that is expected, which is reported at the item
abbrev pub required_item : Position → ℕ → (got want : Ty) → Obligation
required_item at index got want =
    record {
      obligation_kind = obligation_kind.ListItem;
      at = at;
      got = got;
      want = want;
      details = [];
      text = required_item_text index got want;
    }

-- the text on an entry of a dictionary, by its types and those that are expected
unfoldable pub required_entry_text : ℕ → (got want : Entry) → List ℕ
required_entry_text index got want =
    message.dict_entry_text index (text_of got.key) (text_of got.value) (text_of want.key) (text_of want.value)

-- a part of an entry, its key or its value, has to be of the type that is expected of it
abbrev pub required_part : Position → ℕ → (got want : Entry) → (part expected : Ty) → Obligation
required_part at index got want part expected =
    record {
      obligation_kind = obligation_kind.DictEntry;
      at = at;
      got = part;
      want = expected;
      details = [];
      text = required_entry_text index got want;
    }

-- the key and the value of an entry have to be of the types that are expected, which is reported once, at the key
abbrev pub required_entry : Position → ℕ → (got want : Entry) → List Obligation
required_entry at index got want =
    required_part at index got want got.key want.key ∷ (required_part at index got want got.value want.value ∷ [])
