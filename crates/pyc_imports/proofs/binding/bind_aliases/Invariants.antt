use Rattle.std.proofs.Common.{◌≡◌, map, drop}
use Rattle.pyc_imports.specs.LocalImports.{names_bound}
use Rattle.pyc_imports.specs.Names.{alias_name}
use Rattle.pyc_locals.specs.Locals.{bound}
use Rattle.pyc_locals.specs.Views.{flow_state_in}
use Rattle.pyc_type_forms.specs.Types.{any}
use Rattle.pyc_imports.proofs.binding.bind_aliases.Given as goal

-- to bind the names that are left comes to the same as to bind all
abbrev pub invariant-loop-alias : goal.invariant-loop-alias
invariant-loop-alias l =
    names_bound (bound any) (map alias_name (drop l.alias-index l.aliases)) (flow_state_in l.flow_state)
    ≡ names_bound (bound any) (map alias_name l.aliases) (flow_state_in l.fn.flow_state)
