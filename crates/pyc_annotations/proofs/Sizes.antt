-- The arguments of an annotation are less deep than it, and so is what stands right of `|`.
use Rattle.std.proofs.Common.{Bool, ◌<◌, arith}
use Rattle.std.specs.declared.alloc.Global.{Global}
use Rattle.std.specs.declared.boxed.Box.{Box}
use Rattle.std.specs.declared.vec.Vec.{Vec}
use Rattle.pyc_ast.specs.declared.position.Position.{Position}
use Rattle.pyc_type_exprs.specs.declared.forms.ArgumentShape.TheViews.{sized-Subscript, sized-Union, size-TypeExpr, size-TypeArgument}
use Rattle.pyc_type_exprs.specs.declared.forms.DottedName.{DottedName}
use Rattle.pyc_type_exprs.specs.declared.forms.TypeArgument.{TypeArgument}
use Rattle.pyc_type_exprs.specs.declared.forms.TypeExpr.{TypeExpr}
use Rattle.pyc_type_exprs.specs.declared.forms.TypeExpr.TheVariants as e
use denote.Param.Weighed.{most}

pub arguments_below : (at : Position) (name : DottedName) (is_nested : Bool) (arguments : Vec TypeArgument Global)
    → most size-TypeArgument arguments.items < size-TypeExpr (e.Subscript at name is_nested arguments)
arguments_below at name is_nested arguments = omega (arith, sized-Subscript at name is_nested arguments)

pub union_below : (first : Box TypeExpr Global) (between : Vec TypeExpr Global) (last : Box TypeExpr Global)
    → most size-TypeExpr between.items < size-TypeExpr (e.Union first between last)
union_below first between last = omega (arith, sized-Union first between last)
