-- Which keys ask files: no reading asks a builtin class, a member of one, a fixed module or a name of one (Python
-- reference 3.13, "The import system"; the library reference, "Built-in Types" and `typing`), since no file can change
-- what is answered to these.
use Rattle.std.specs.Prelude.{◌≡◌, ℕ, Bool, true, false, not, List, [], ◌∷◌}
use Rattle.pyc_class_ids.specs.declared.builtin_class.BuiltinClass.{BuiltinClass}
use Rattle.pyc_class_ids.specs.Class.{Id, builtin, user}
use Rattle.pyc_expression_laws.specs.NameRows.{is_fixed}
use Rattle.pyc_expression_laws.specs.Rows.{Answers}
use Rattle.pyc_reading.specs.Traces.{Step}
use Rattle.pyc_reading.specs.Keys.{Key}
use Rattle.pyc_reading.specs.Keys as key
use Rattle.pyc_reading.specs.Readings.{asked}

-- ---- keys

-- whether a class is one of a source
abbrev pub is_source : Id → Bool
is_source (builtin c) = false
is_source (user m x) = true

-- whether a key asks a file: not one of a fixed module or of a name of it, nor of a builtin class or a member of it
abbrev pub is_of_files : Key → Bool
is_of_files (key.has_module m) = not (is_fixed m)
is_of_files (key.has_name q) = not (is_fixed q.module_path)
is_of_files (key.name q) = not (is_fixed q.module_path)
is_of_files (key.class c) = is_source c
is_of_files (key.member n) = is_source n.class
is_of_files (key.export q) = not (is_fixed q.module_path)

-- no key of a builtin class, nor of a member of one, asks a file
abbrev pub BuiltinKeysAskNoFile : Type 0
BuiltinKeysAskNoFile =
    (c : BuiltinClass) (n : List ℕ)
    → (is_of_files (key.class (builtin c)) ≡ false)
    × (is_of_files (key.member (record { class = builtin c; name = n })) ≡ false)

-- nor does one of a fixed module, nor of a name of one
abbrev pub FixedKeysAskNoFile : Type 0
FixedKeysAskNoFile =
    (m : List (List ℕ)) (x : List ℕ) → is_fixed m ≡ true
    → (is_of_files (key.has_module m) ≡ false)
    × (is_of_files (key.has_name (record { module_path = m; name = x })) ≡ false)
    × (is_of_files (key.name (record { module_path = m; name = x })) ≡ false)
    × (is_of_files (key.export (record { module_path = m; name = x })) ≡ false)

-- ---- readings

-- each of some keys asks a file
abbrev pub OfFiles : List Key → Type 0
OfFiles [] = Unit {0}
OfFiles (k ∷ rest) = (is_of_files k ≡ true) × OfFiles rest

-- whatever is answered, a reading asks files alone
abbrev pub AsksFiles : {A : Type 0} → Step A → Type 0
AsksFiles r = (answers : Answers) → OfFiles (asked answers r)

-- whatever is answered, a reading asks nothing
abbrev pub AsksNothing : {A : Type 0} → Step A → Type 0
AsksNothing r = (answers : Answers) → asked answers r ≡ []
