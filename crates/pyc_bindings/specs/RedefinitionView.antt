-- The plain redefinition that one of the code is.
use Rattle.pyc_bindings.specs.declared.defined_again.Redefinition.{Redefinition as RedefinitionOf}
use Rattle.pyc_bindings.specs.Redefinitions.{Redefinition}

abbrev pub redefinition_of : RedefinitionOf → Redefinition
redefinition_of found = record { at = found.at; name = found.name; line = found.line }
