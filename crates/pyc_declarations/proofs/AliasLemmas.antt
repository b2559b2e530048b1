-- Annotations that are no names are no aliases.
use Rattle.std.proofs.Common.{◌≡◌, false, List, [], refl, rules}
use Rattle.pyc_ast.specs.declared.position.Position.{Position}
use Rattle.pyc_declarations.specs.Kinds.{is_alias_type}
use Rattle.pyc_declarations.specs.Looks.{alias_type_looks}
use Rattle.pyc_names.specs.Interfaces.{Interface}
use Rattle.pyc_type_exprs.specs.declared.forms.ArgumentShape.TheFolds.{the_lemmas}
use Rattle.pyc_type_exprs.specs.declared.forms.DottedName.{DottedName}
use Rattle.pyc_type_exprs.specs.declared.forms.TypeExpr.{TypeExpr}
use Rattle.pyc_type_exprs.specs.declared.forms.TypeExpr.TheVariants as e
use Rattle.pyc_type_exprs.specs.TypeExprView.{type_expr_of}

module _ (files : List Interface) (file : Interface) where
  pub unnamed_is_no_alias : (x : TypeExpr) → ((at : Position) (name : DottedName) → ¬ (x ≡ e.Name at name)) → false ≡ is_alias_type files file (type_expr_of x)
  unnamed_is_no_alias (e.Name at name) unnamed = absurd (unnamed at name refl)
  unnamed_is_no_alias _ _ = search (rules, the_lemmas)

  pub unnamed_looks_at_none : (x : TypeExpr) → ((at : Position) (name : DottedName) → ¬ (x ≡ e.Name at name)) → [] ≡ alias_type_looks files file (type_expr_of x)
  unnamed_looks_at_none (e.Name at name) unnamed = absurd (unnamed at name refl)
  unnamed_looks_at_none _ _ = search (rules, the_lemmas)
