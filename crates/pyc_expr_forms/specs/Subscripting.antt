-- Subscripts (Python reference 3.13, "Subscriptions" and "Slicings").
use Rattle.std.specs.Prelude.{false, List, [], ◌∷◌, ◌++◌, None}
use Rattle.pyc_ast.specs.declared.position.Position.{Position}
use Rattle.pyc_ast.specs.Exprs.{Expr, OptionalExpr, absent, present, Index, index, IndexForm, item, slice, indices}
use Rattle.pyc_ast.specs.Exprs.{Indices, no_index, another_index}
use Rattle.pyc_displays.specs.Displays.{tuple_type}
use Rattle.pyc_expr_forms.specs.Contexts.{InferValue, type_in, infer_freely}
use Rattle.pyc_subscripts.specs.Subscripts.{subscript}
use Rattle.pyc_places.specs.States.{State}
use Rattle.pyc_reading.specs.Traces.{Step}
use Rattle.pyc_reading.specs.Readings.{Done, and_then}
use Rattle.pyc_type_forms.specs.Types.{Ty, any}

-- a part that may be absent
abbrev pub infer_optional : InferValue → State → OptionalExpr → Step (Unit {0})
infer_optional parts s absent = Done tt
infer_optional parts s (present x) = infer_freely parts s x

-- the bounds and the step of a slice, of which nothing is expected
unfoldable pub slice_type : InferValue → State → (lower upper step : OptionalExpr) → Step Ty
slice_type parts s lower upper step =
    and_then (infer_optional parts s lower) (λ u.
    and_then (infer_optional parts s upper) (λ v.
    and_then (infer_optional parts s step) (λ w. Done any)))

-- indices with commas are a tuple
abbrev pub indices_given : List Ty → Step Ty
indices_given types = Done (tuple_type false types)

abbrev mutual
  -- the type of what stands between the brackets
  pub index_type : InferValue → State → Index → Step Ty
  index_type parts s (index at form) = index_form_type parts s form

  pub index_form_type : InferValue → State → IndexForm → Step Ty
  index_form_type parts s (item x) = type_in parts s x None
  index_form_type parts s (slice lower upper step) = slice_type parts s lower upper step
  index_form_type parts s (indices items) = and_then (index_types parts s [] items) indices_given

  -- these types, and then those of indices, in turn
  pub index_types : InferValue → State → List Ty → Indices → Step (List Ty)
  index_types parts s types no_index = Done types
  index_types parts s types (another_index x xs) =
      and_then (index_type parts s x) (λ ty. index_types parts s (types ++ (ty ∷ [])) xs)

abbrev pub tuple_of_indices : InferValue → State → Indices → Step Ty
tuple_of_indices parts s items = and_then (index_types parts s [] items) indices_given

-- a subscript of a value of a type that was read
unfoldable pub subscript_of : InferValue → State → Position → Index → Ty → Step Ty
subscript_of parts s at brackets ty = and_then (index_type parts s brackets) (λ got. subscript at brackets got ty)

unfoldable pub subscript_type : InferValue → State → Position → Expr → Index → Step Ty
subscript_type parts s at x brackets = and_then (type_in parts s x None) (subscript_of parts s at brackets)
