-- The plain values that those of the code are.
use Rattle.std.specs.Prelude.{map}
use Rattle.pyc_displays.specs.declared.dicts.EntryTypes.{EntryTypes as EntryTypesOf}
use Rattle.pyc_displays.specs.declared.messages.RequiredItem.{RequiredItem}
use Rattle.pyc_displays.specs.declared.messages.RequiredPart.{RequiredPart}
use Rattle.pyc_displays.specs.Displays.{EntryTypes}
use Rattle.pyc_displays.specs.Expecting.{Entry}
use Rattle.pyc_displays.specs.Messages.{required_item, required_part}
use Rattle.pyc_reading.specs.Owing.{Obligation}
use Rattle.pyc_type_forms.specs.declared.types.DictTypes.{DictTypes}
use Rattle.pyc_type_forms.specs.TypeView.{ty_of}

-- the types of a key and its value
abbrev pub entry_in : DictTypes → Entry
entry_in types = record { key = ty_of types.key; value = ty_of types.value }

-- the types of the keys and the values of entries
abbrev pub entry_types_in : EntryTypesOf → EntryTypes
entry_types_in types = record { keys = map ty_of types.keys.items; values = map ty_of types.values.items }

-- an item of a list that has to be of the type that is expected
abbrev pub item_in : RequiredItem → Obligation
item_in o = required_item o.at o.index (ty_of o.got.now) (ty_of o.want.now)

-- the key or the value of an entry that has to be of the type that is expected
abbrev pub part_in : RequiredPart → Obligation
part_in o =
    required_part o.at o.index (entry_in o.got_entry.now) (entry_in o.want_entry.now) (ty_of o.got.now)
    (ty_of o.want.now)
