-- Names by number, from inside.
use Rattle.std.specs.Prelude.{ℕ, List, map, string_bytes}
use Rattle.pyc_keys.specs.NameNumbers.{text_at}
use Rattle.pyc_keys.specs.Numbering.{IsInjective}
use Rattle.pyc_keys.specs.declared.names.Names.TheInside.{Inside}

abbrev pub texts_of : Inside → List (List ℕ)
texts_of names = map string_bytes names.texts.keys

-- no text has two numbers
abbrev pub AreDistinct : Inside → Type 0
AreDistinct names = IsInjective (text_at (texts_of names))
