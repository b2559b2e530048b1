use Rattle.std.proofs.Common.{◌≡◌, ◌++◌, map, flat_map, drop}
use Rattle.pyc_ast.specs.StatementView.{imported_of}
use Rattle.pyc_locals.specs.AssignedPlaces.{module_places}
use Rattle.pyc_locals.proofs.imports.push_modules.Given as goal

-- the places so far, with those of the modules that are left, are all
abbrev pub invariant-loop-imported : goal.invariant-loop-imported
invariant-loop-imported l =
    l.places.items ++ flat_map module_places (map imported_of (drop l.imported-index l.modules))
    ≡ l.fn.places.items ++ flat_map module_places (map imported_of l.modules)
