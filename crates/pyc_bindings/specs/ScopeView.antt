-- The plain part of a scope that one of the code is.
use Rattle.pyc_ast.specs.StatementView.{stmt_of}
use Rattle.pyc_ast.specs.TargetView.{target_of}
use Rattle.pyc_bindings.specs.declared.scope.Part.{Part as PartOf}
use Rattle.pyc_bindings.specs.declared.scope.PartForm.{PartForm as PartFormOf}
use Rattle.pyc_bindings.specs.declared.scope.PartForm.TheVariants as f
use Rattle.pyc_bindings.specs.Scopes.{Part, PartForm, statement, target, caught}

abbrev pub part_form_of : PartFormOf → PartForm
part_form_of (f.Statement found) = statement (stmt_of found.now)
part_form_of (f.Target to) = target (target_of to.now)
part_form_of (f.Caught name) = caught name.now

-- the plain part that one of the code is
abbrev pub part_of : PartOf → Part
part_of part = record { place = part.place; form = part_form_of part.form }
