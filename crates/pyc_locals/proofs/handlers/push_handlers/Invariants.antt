use Rattle.std.proofs.Common.{◌≡◌, ◌++◌, map, drop}
use Rattle.pyc_ast.specs.Statements.{handlers}
use Rattle.pyc_ast.specs.StatementView.{handler_of}
use Rattle.pyc_locals.specs.AssignedPlaces.{handlers_places}
use Rattle.pyc_locals.proofs.handlers.push_handlers.Given as goal

-- the places so far, with those of the handlers that are left, are all
abbrev pub invariant-loop-handler : goal.invariant-loop-handler
invariant-loop-handler l =
    l.places.items ++ handlers_places (handlers (map handler_of (drop l.handler-index l.row)))
    ≡ l.fn.places.items ++ handlers_places (handlers (map handler_of l.row))
