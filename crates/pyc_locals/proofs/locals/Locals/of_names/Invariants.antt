use Rattle.std.proofs.Common.{◌≡◌, ℕ, List, bytes_eq, cond, drop, option_map, Some}
use Rattle.std.specs.List.{list_any}
use Rattle.indexmap.specs.IndexMap.{get_by}
use Rattle.pyc_locals.specs.Locals.{locals_of_names, undeclared}
use Rattle.pyc_locals.specs.Views.{local_type_of}
use Rattle.pyc_locals.proofs.locals.Locals.of_names.Given as goal

-- the names that are left, and those that are locals already, are the names
abbrev pub invariant-loop-name : goal.invariant-loop-name
invariant-loop-name l =
    (x : List ℕ)
    → cond (list_any (λ name. bytes_eq name x) (drop l.name-index l.names)) (Some undeclared) (option_map local_type_of (get_by (bytes_eq x) l.types))
    ≡ locals_of_names l.names x
