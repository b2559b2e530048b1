use Rattle.std.proofs.Common.{◌≡◌, ◌&&◌, ◌||◌, ℕ, List, length}
use Rattle.std.specs.Prelude.{nat_lt}
use Rattle.indexmap.specs.IndexSet.{contains_by}
use Rattle.pyc_names.specs.ModuleName.{same_module}
use Rattle.pyc_names.specs.Presence.{is_within}
use Rattle.pyc_names.proofs.outer_modules.insert_prefixes.Given as goal

-- those of fewer parts are inserted
abbrev pub invariant-loop-count : goal.invariant-loop-count
invariant-loop-count l =
    (m : List (List ℕ)) → contains_by (λ parts. same_module m parts.items) l.outer
    ≡ (contains_by (λ parts. same_module m parts.items) l.fn.outer || (is_within m l.parts && nat_lt (length m) l.count))
