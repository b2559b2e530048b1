-- The plain scope that one of the code is.
use Rattle.std.specs.Prelude.{map, option_map}
use Rattle.pyc_names.specs.SourceFileView.{source_in}
use Rattle.pyc_scopes.specs.declared.scope.Local.{Local as LocalOf}
use Rattle.pyc_scopes.specs.declared.scope.Scope.{Scope as ScopeOf}
use Rattle.pyc_scopes.specs.Scopes.{Local, Scope}
use Rattle.pyc_type_forms.specs.TypeView.{ty_of}

abbrev pub local_in : LocalOf → Local
local_in l = record { name = l.name; ty = option_map ty_of l.ty }

abbrev pub scope_in : ScopeOf → Scope
scope_in scope = record { file = source_in scope.file.now; locals = map local_in scope.locals.now }
