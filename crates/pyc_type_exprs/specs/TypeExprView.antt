-- The plain value that an annotation of the code is written as.
use Rattle.pyc_type_exprs.specs.declared.forms.ArgumentShape.{ArgumentShape as ArgumentShapeOf}
use Rattle.pyc_type_exprs.specs.declared.forms.DottedName.{DottedName as DottedNameOf}
use Rattle.pyc_type_exprs.specs.declared.forms.TypeArgument.{TypeArgument as TypeArgumentOf}
use Rattle.pyc_type_exprs.specs.declared.forms.ArgumentShape.TheFolds.{fold-ArgumentShape, fold-TypeExpr}
use Rattle.pyc_type_exprs.specs.declared.forms.ArgumentShape.TheFolds.{fold-TypeArgument}
use Rattle.pyc_type_exprs.specs.declared.forms.ArgumentShape.TheOpen.{ArgumentShape-F, TypeExpr-F, TypeArgument-F}
use Rattle.pyc_type_exprs.specs.declared.forms.ArgumentShape.TheOpen as layer
use Rattle.pyc_type_exprs.specs.declared.forms.TypeExpr.{TypeExpr as TypeExprOf}
use Rattle.pyc_type_exprs.specs.TypeExprs.{DottedName, TypeExpr, none_written, name_written, union_written}
use Rattle.pyc_type_exprs.specs.TypeExprs.{unions_written}
use Rattle.pyc_type_exprs.specs.TypeExprs.{subscript_written, wrong_written, TypeArgument, type_argument, ArgumentShape}
use Rattle.pyc_type_exprs.specs.TypeExprs.{ellipsis_shape, list_shape, other_shape, type_exprs, type_arguments}

abbrev pub dotted_name_of : DottedNameOf → DottedName
dotted_name_of name = record { at = name.at; names = name.names.items }

-- what one layer of the code is, over what its parts are
abbrev pub type_expr_step : TypeExpr-F ArgumentShape TypeExpr TypeArgument → TypeExpr
type_expr_step layer.None = none_written
type_expr_step (layer.Name at name) = name_written at (dotted_name_of name)
type_expr_step (layer.Union first between last) = union_written (unions_written first.value between.items) last.value
type_expr_step (layer.Subscript at name is_nested arguments) =
    subscript_written at (dotted_name_of name) is_nested (type_arguments arguments.items)
type_expr_step (layer.Wrong at) = wrong_written at

abbrev pub shape_step : ArgumentShape-F ArgumentShape TypeExpr TypeArgument → ArgumentShape
shape_step layer.Ellipsis = ellipsis_shape
shape_step (layer.List types) = list_shape (type_exprs types.items)
shape_step layer.Other = other_shape

abbrev pub type_argument_step : TypeArgument-F ArgumentShape TypeExpr TypeArgument → TypeArgument
type_argument_step argument = type_argument argument.written argument.shape

abbrev pub type_expr_of : TypeExprOf → TypeExpr
type_expr_of = fold-TypeExpr ArgumentShape TypeExpr TypeArgument shape_step type_expr_step type_argument_step

abbrev pub shape_in : ArgumentShapeOf → ArgumentShape
shape_in = fold-ArgumentShape ArgumentShape TypeExpr TypeArgument shape_step type_expr_step type_argument_step

abbrev pub type_argument_of : TypeArgumentOf → TypeArgument
type_argument_of = fold-TypeArgument ArgumentShape TypeExpr TypeArgument shape_step type_expr_step type_argument_step
