-- What differs between the files of two lists that have some at their beginning and some at their end in common, but
-- for positions: by what lies between.
use Rattle.std.specs.Prelude.{◌≡◌, ◌≤◌, ℕ, ◌+◌, ◌-◌, List, ◌++◌, drop, flat_map, length, map, take}
use Rattle.pyc_interfaces.specs.BareInterfaces.{bare_interface}
use Rattle.pyc_interfaces.specs.ChangedLooks.{module_changes, order_changes}
use Rattle.pyc_names.specs.Interfaces.{Interface}
use Rattle.pyc_names.specs.Looks.{Look}

-- the last so many of a list
abbrev pub end_of : {A : Type 0} → ℕ → List A → List A
end_of back xs = drop (length xs - back) xs

-- a list without so many at its beginning and so many at its end
abbrev pub between : {A : Type 0} → ℕ → ℕ → List A → List A
between front back xs = drop front (take (length xs - back) xs)

-- two lists of files that have so many of the first and so many of the last in common
pub record HaveInCommon (front back : ℕ) (files others : List Interface) : Type 0 where
  pub fit : front + back ≤ length files
  pub fit_others : front + back ≤ length others
  pub first : map bare_interface (take front files) ≡ map bare_interface (take front others)
  pub last : map bare_interface (end_of back files) ≡ map bare_interface (end_of back others)

module _ (files others : List Interface) where
  -- what differs in the modules that some files name
  abbrev pub changes_of : List Interface → List Look
  changes_of walked = flat_map (λ file. module_changes files others file.name) walked

  -- what differs in the orders of the classes that some files declare
  abbrev pub orders_of : List Interface → List Look
  orders_of walked = flat_map (order_changes files others) walked

-- what differs in the modules that the files between name
abbrev pub modules_between : ℕ → ℕ → List Interface → List Interface → List Look
modules_between front back files others =
    changes_of files others (between front back files) ++ changes_of files others (between front back others)

-- what differs in the orders of the classes of the first list, and of the files between of the second
abbrev pub orders_between : ℕ → ℕ → List Interface → List Interface → List Look
orders_between front back files others =
    orders_of files others files ++ orders_of files others (between front back others)

unfoldable pub changed_between : ℕ → ℕ → List Interface → List Interface → List Look
changed_between front back files others =
    modules_between front back files others ++ orders_between front back files others
