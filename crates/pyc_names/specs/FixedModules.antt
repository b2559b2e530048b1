-- Modules that are built in: every name of them is there, and is Any but for a few (Python standard library, `typing`,
-- `collections`, `collections.abc`, `abc`, `__future__`; typing specification, "Special types in annotations").
use Rattle.std.specs.Prelude.{ℕ, List, [], ◌∷◌, ◌&&◌, if◌then◌else◌, bytes_eq, codes, Option, None, Some}
use Rattle.pyc_names.specs.declared.fixed.FixedModule.{FixedModule}
use Rattle.pyc_names.specs.declared.fixed.FixedModule.TheVariants as fixed
use Rattle.pyc_names.specs.declared.fixed.FixedName.{FixedName}
use Rattle.pyc_names.specs.declared.fixed.FixedName.TheVariants as special

-- the fixed module that has this name of one part
abbrev pub top_module : List ℕ → Option FixedModule
top_module name =
    if bytes_eq name (codes "typing") then Some fixed.Typing
    else if bytes_eq name (codes "typing_extensions") then Some fixed.TypingExtensions
    else if bytes_eq name (codes "collections") then Some fixed.Collections
    else if bytes_eq name (codes "abc") then Some fixed.Abc
    else if bytes_eq name (codes "__future__") then Some fixed.Future
    else None

-- the fixed module that has these two parts as its name
abbrev pub inner_module : List ℕ → List ℕ → Option FixedModule
inner_module outer name =
    if bytes_eq outer (codes "collections") && bytes_eq name (codes "abc") then Some fixed.CollectionsAbc else None

-- the fixed module that has these parts as its name
abbrev pub fixed_module : List (List ℕ) → Option FixedModule
fixed_module (name ∷ []) = top_module name
fixed_module (outer ∷ name ∷ []) = inner_module outer name
fixed_module _ = None

-- what a name of `typing` is, if it is not Any
abbrev pub typing_name : List ℕ → Option FixedName
typing_name name =
    if bytes_eq name (codes "Any") then Some special.Any
    else if bytes_eq name (codes "Optional") then Some special.Optional
    else if bytes_eq name (codes "Union") then Some special.Union
    else if bytes_eq name (codes "List") then Some special.List
    else if bytes_eq name (codes "Dict") then Some special.Dict
    else if bytes_eq name (codes "Tuple") then Some special.Tuple
    else if bytes_eq name (codes "Callable") then Some special.Callable
    else if bytes_eq name (codes "cast") then Some special.Cast
    else if bytes_eq name (codes "reveal_type") then Some special.RevealType
    else if bytes_eq name (codes "TYPE_CHECKING") then Some special.TypeChecking
    else None

-- what a name of `collections.abc` is, if it is not Any
abbrev pub abc_name : List ℕ → Option FixedName
abc_name name = if bytes_eq name (codes "Callable") then Some special.Callable else None

-- what a name of a fixed module is, if it is not Any
abbrev pub fixed_name : FixedModule → List ℕ → Option FixedName
fixed_name fixed.Typing name = typing_name name
fixed_name fixed.TypingExtensions name = typing_name name
fixed_name fixed.CollectionsAbc name = abc_name name
fixed_name _ name = None
