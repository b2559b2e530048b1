-- Where names of the code are looked up.
use Rattle.std.specs.Prelude.{ℕ, List}
use Rattle.pyc_interfaces.specs.ChangedLooks.{name_look}
use Rattle.pyc_interfaces.specs.declared.home.Home.{Home}
use Rattle.pyc_interfaces.specs.declared.home.Home.TheVariants as home
use Rattle.pyc_names.specs.Looks.{Look, of_member}

-- what is looked at of a name
abbrev pub look_in : Home → List ℕ → Look
look_in (home.Module m) x = name_look m.now x
look_in (home.Class m c) x = of_member (record { module_path = m.now; name = c.now }) x
