use Rattle.std.proofs.Common.{◌≡◌, ◌++◌, map, flat_map, drop}
use Rattle.pyc_ast.specs.StatementView.{imported_of}
use Rattle.pyc_bindings.specs.Bindings.{module_bindings}
use Rattle.pyc_bindings.specs.BindingView.{binding_of}
use Rattle.pyc_bindings.proofs.bindings.push_modules.Given as goal

-- the bindings so far, with those of the modules that are left, are all
abbrev pub invariant-loop-module_found : goal.invariant-loop-module_found
invariant-loop-module_found l =
    map binding_of l.found.items ++ flat_map (module_bindings l.place) (map imported_of (drop l.module_found-index l.modules))
    ≡ map binding_of l.fn.found.items ++ flat_map (module_bindings l.place) (map imported_of l.modules)
