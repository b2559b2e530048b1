use Rattle.std.proofs.Common.{◌≡◌, map, drop}
use Rattle.pyc_scopes.specs.Scopes.{local_of}
use Rattle.pyc_scopes.specs.ScopeView.{local_in}
use Rattle.pyc_scopes.proofs.scope.local_named.Given as goal

-- the local of this name is that of the locals that are left
abbrev pub invariant-loop-local : goal.invariant-loop-local
invariant-loop-local l = local_of (map local_in (drop l.local-index l.locals)) l.name ≡ local_of (map local_in l.locals) l.name
