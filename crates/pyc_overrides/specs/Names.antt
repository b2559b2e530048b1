-- The names that a class declares, and those of them that go their own way (Python reference 3.13, "Class definitions",
-- "Special method names", "Private name mangling"; typing specification, "Class type assignability").
use Rattle.std.specs.Prelude.{ℕ, Bool, true, false, not, ◌&&◌, ◌||◌, bytes_eq, nat_eq, codes, if◌then◌else◌}
use Rattle.std.specs.Prelude.{List, [], ◌∷◌, ◌++◌, map}
use Rattle.std.specs.List.{list_any, starts_with, ends_with}
use Rattle.pyc_members.specs.ClassBodies.{ClassBody}

-- ---- names that go their own way

-- whether a name is private to its class: it begins with two underscores, and does not end with two
abbrev pub is_private : List ℕ → Bool
is_private n = starts_with nat_eq n (codes "__") && not (ends_with nat_eq n (codes "__"))

-- whether a method of this name makes instances or classes: its parameters are those of one class alone
abbrev pub is_maker : List ℕ → Bool
is_maker n =
    if bytes_eq n (codes "__init__") then true
    else if bytes_eq n (codes "__new__") then true
    else if bytes_eq n (codes "__init_subclass__") then true
    else if bytes_eq n (codes "__post_init__") then true
    else false

-- whether a class may declare a name as it likes, whatever its ancestors declare
abbrev pub is_exempt : List ℕ → Bool
is_exempt n = is_maker n || is_private n

-- ---- the names that a class binds

-- these names, and one more, unless it is among them
abbrev pub with_name : List (List ℕ) → List ℕ → List (List ℕ)
with_name names n = if list_any (bytes_eq n) names then names else names ++ (n ∷ [])

-- these names, and those of a list that are not among them, in turn
abbrev pub with_names : List (List ℕ) → List (List ℕ) → List (List ℕ)
with_names names [] = names
with_names names (n ∷ more) = with_names (with_name names n) more

-- the names that the body of a class binds, and then those that its methods bind through the instance, each once
unfoldable pub bound_names : ClassBody → List (List ℕ)
bound_names body = with_names (with_names [] (map (λ b. b.name) body.bindings)) (map (λ a. a.name) body.attributes)
