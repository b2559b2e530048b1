-- What an expression is there for.
use Rattle.std.specs.Prelude.{Bool, true, false}
use Rattle.pyc_lower_atom.specs.declared.role.Role.{Role}
use Rattle.pyc_lower_atom.specs.declared.role.Role.TheVariants.{Value, Annotation}

-- whether an expression is read as an annotation
abbrev pub is_annotation : Role → Bool
is_annotation Annotation = true
is_annotation Value = false
