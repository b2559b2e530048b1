use Rattle.std.proofs.Common.{◌≡◌, flat_map, map, drop}
use Rattle.pyc_ast.specs.StatementView.{imported_of}
use Rattle.pyc_imports.specs.LocalImports.{names_bound}
use Rattle.pyc_imports.specs.Names.{module_names}
use Rattle.pyc_locals.specs.Locals.{bound}
use Rattle.pyc_locals.specs.Views.{flow_state_in}
use Rattle.pyc_type_forms.specs.Types.{any}
use Rattle.pyc_imports.proofs.binding.bind_modules.Given as goal

-- to bind the names that are left comes to the same as to bind all
abbrev pub invariant-loop-imported : goal.invariant-loop-imported
invariant-loop-imported l =
    names_bound (bound any) (flat_map module_names (map imported_of (drop l.imported-index l.modules))) (flow_state_in l.flow_state)
    ≡ names_bound (bound any) (flat_map module_names (map imported_of l.modules)) (flow_state_in l.fn.flow_state)
