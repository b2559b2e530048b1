-- Calls: what messages show of what is called, and calls of `reveal_type` and `cast` (Python reference 3.13, "Calls";
-- the library reference, `typing.reveal_type` and `typing.cast`).
use Rattle.std.specs.Prelude.{ℕ, ◌&&◌, if◌then◌else◌, List, [], ◌∷◌, Option, None, Some}
use Rattle.pyc_arguments.specs.Reporting.{CalleeName, shown_name, shown_member, shown_nameless, owner_name}
use Rattle.pyc_ast.specs.declared.position.Position.{Position}
use Rattle.pyc_ast.specs.Exprs.{Expr, expr, Form, name, attribute, Argument, argument}
use Rattle.pyc_calls.specs.Called.{call}
use Rattle.pyc_expr_forms.specs.Contexts.{Context, InferValue, type_in, infer_freely}
use Rattle.pyc_expr_forms.specs.Names.{attribute_of}
use Rattle.pyc_messages.specs.Calls as message
use Rattle.pyc_names.specs.declared.fixed.FixedName.TheVariants as fixed
use Rattle.pyc_narrowing.specs.Splitting.{is_positional}
use Rattle.pyc_obligations.specs.Values.{SpecialForm, Value, reveal_type_special_form, fixed_special_form}
use Rattle.pyc_places.specs.States.{State}
use Rattle.pyc_reading.specs.Traces.{Step}
use Rattle.pyc_reading.specs.Readings.{Done, Report, and_then}
use Rattle.pyc_type_forms.specs.Text.{text_of}
use Rattle.pyc_type_forms.specs.Types.{Ty, module_type}

-- ---- what messages show

abbrev pub shown_by : List ℕ → Option (List ℕ) → CalleeName
shown_by n (Some owner) = shown_member n owner
shown_by n None = shown_nameless

-- an attribute of what is no module
abbrev pub shown_of : List ℕ → Ty → CalleeName
shown_of n ty = shown_by n (owner_name ty)

-- an attribute of a value of a type: of a module it is a name
abbrev pub shown_attribute : List ℕ → Ty → CalleeName
shown_attribute n (module_type m) = shown_name n
shown_attribute n ty = shown_of n ty

-- ---- `reveal_type`

-- a type that is reported
abbrev pub type_reported : Position → Ty → Step Ty
type_reported at ty = Report (message.revealed_type at (text_of ty)) (Done ty)

unfoldable pub reveal_part : InferValue → State → Position → Expr → Step Ty
reveal_part parts s at x = and_then (type_in parts s x None) (type_reported at)

-- an argument that is revealed where it is given at its place
abbrev pub reveal_argument : InferValue → State → Position → Argument → Step Ty → Step Ty
reveal_argument parts s at (argument p kind x) otherwise =
    if is_positional kind then reveal_part parts s at x else otherwise

-- a call of `reveal_type`: with other arguments than one it is a call like others
abbrev pub infer_reveal_call : InferValue → State → Position → List Argument → Step Ty → Step Ty
infer_reveal_call parts s at (x ∷ []) otherwise = reveal_argument parts s at x otherwise
infer_reveal_call parts s at _ otherwise = otherwise

-- ---- `cast`

unfoldable pub cast_to : Context → InferValue → State → (annotation value : Expr) → Step Ty
cast_to context parts s x y = and_then (context.annotated x) (λ ty. and_then (infer_freely parts s y) (λ u. Done ty))

-- two arguments of a cast, where both are given at their places
abbrev pub two_cast : Context → InferValue → State → (first second : Argument) → Step Ty → Step Ty
two_cast context parts s (argument p kind x) (argument q other y) otherwise =
    if is_positional kind && is_positional other then cast_to context parts s x y else otherwise

-- a call of `cast`: with other arguments than two it is a call like others
abbrev pub cast_by : Context → InferValue → State → List Argument → Step Ty → Step Ty
cast_by context parts s (x ∷ y ∷ []) otherwise = two_cast context parts s x y otherwise
cast_by context parts s _ otherwise = otherwise

-- ---- the whole

-- a call, by which thing is called
abbrev pub by_special_form : Context → InferValue → State → Position → List Argument → Step Ty → SpecialForm → Step Ty
by_special_form context parts s at given otherwise reveal_type_special_form = infer_reveal_call parts s at given
    otherwise
by_special_form context parts s at given otherwise (fixed_special_form fixed.RevealType) = infer_reveal_call parts s
    at given otherwise
by_special_form context parts s at given otherwise (fixed_special_form fixed.Cast) = cast_by context parts s given
    otherwise
by_special_form context parts s at given otherwise _ = otherwise

-- a call of a value that was read, and that messages show so
abbrev pub infer_value_call : Context → InferValue → State → Position → List Argument → CalleeName → Value → Step Ty
infer_value_call context parts s at given shown found =
    by_special_form context parts s at given (call (type_in parts s) shown at given found.ty) found.special_form

-- a call of an attribute whose owner was read
unfoldable pub infer_member_call : Context → InferValue → State → Position → List Argument → Expr → Position → List ℕ
    → Value
    → Step Ty
infer_member_call context parts s at given callee inside n owner =
    and_then (attribute_of s callee inside n owner)
    (infer_value_call context parts s at given (shown_attribute n owner.ty))

unfoldable pub infer_attribute_call : Context → InferValue → State → Position → List Argument → Expr → Position → Expr
    → List ℕ
    → Step Ty
infer_attribute_call context parts s at given callee inside x n =
    and_then (parts s x None) (infer_member_call context parts s at given callee inside n)

-- a call of what is no attribute
unfoldable pub infer_plain_call : Context → InferValue → State → Position → List Argument → Expr → CalleeName → Step Ty
infer_plain_call context parts s at given callee shown =
    and_then (parts s callee None) (infer_value_call context parts s at given shown)

-- a call, by the form of what is called
abbrev pub callee_by_form : Context → InferValue → State → Position → List Argument → Expr → Position → Form → Step Ty
callee_by_form context parts s at given callee inside (attribute x n) =
    infer_attribute_call context parts s at given callee inside x n
callee_by_form context parts s at given callee inside (name n) =
    infer_plain_call context parts s at given callee (shown_name n)
callee_by_form context parts s at given callee inside _ = infer_plain_call context parts s at given callee
    shown_nameless

abbrev pub call_type : Context → InferValue → State → Position → Expr → List Argument → Step Ty
call_type context parts s at (expr begins inside form) given =
    callee_by_form context parts s at given (expr begins inside form) inside form
