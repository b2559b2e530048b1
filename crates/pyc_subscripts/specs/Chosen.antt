-- Which place of a tuple an index chooses (typing specification, "Tuples"): one digit, or `-1` for the last.
use Rattle.std.specs.Prelude.{ℕ, Bool, true, false, ◌-◌, ◌==◌, zero, suc, if◌then◌else◌, Option, None, Some}
use Rattle.pyc_ast.specs.declared.constant.Constant.{Constant}
use Rattle.pyc_ast.specs.declared.constant.Constant.TheVariants as constant
use Rattle.pyc_ast.specs.declared.operator.UnaryOperator.{UnaryOperator}
use Rattle.pyc_ast.specs.declared.operator.UnaryOperator.TheVariants as operator
use Rattle.pyc_ast.specs.declared.position.Position.{Position}
use Rattle.pyc_ast.specs.Exprs.{Expr, Form, Index, IndexForm, index, item, slice, form_in}
use Rattle.pyc_ast.specs.Exprs as form
use Rattle.pyc_subscripts.specs.declared.chosen.Chosen.{Chosen}
use Rattle.pyc_subscripts.specs.declared.chosen.Chosen.TheVariants as chosen
use Rattle.pyc_type_forms.specs.Types.{Ty, Tys, nil, cons}

-- where an index begins
abbrev pub at_of : Index → Position
at_of (index at form) = at

-- whether an index is a slice
abbrev pub is_slice_form : IndexForm → Bool
is_slice_form (slice lower upper step) = true
is_slice_form _ = false

abbrev pub is_slice : Index → Bool
is_slice (index at form) = is_slice_form form

-- the place of a digit
abbrev pub by_digit : Option ℕ → Option Chosen
by_digit (Some digit) = Some (chosen.Place digit)
by_digit None = None

abbrev pub by_literal : Constant → Option Chosen
by_literal (constant.Integer digit) = by_digit digit
by_literal _ = None

-- the last place, where the digit after the minus is 1
abbrev pub by_negated_digit : Option ℕ → Option Chosen
by_negated_digit (Some digit) = if digit == 1 then Some chosen.Last else None
by_negated_digit None = None

abbrev pub by_negated_literal : Constant → Option Chosen
by_negated_literal (constant.Integer digit) = by_negated_digit digit
by_negated_literal _ = None

abbrev pub by_negated : Form → Option Chosen
by_negated (form.constant found) = by_negated_literal found
by_negated _ = None

abbrev pub by_unary : UnaryOperator → Expr → Option Chosen
by_unary operator.USub operand = by_negated (form_in operand)
by_unary _ operand = None

abbrev pub by_form : Form → Option Chosen
by_form (form.constant found) = by_literal found
by_form (form.unary o operand) = by_unary o operand
by_form _ = None

abbrev pub by_index : IndexForm → Option Chosen
by_index (item e) = by_form (form_in e)
by_index _ = None

-- the place that an index chooses
abbrev pub chosen_by : Index → Option Chosen
chosen_by (index at form) = by_index form

-- how many types a row has
abbrev pub row_length : Tys → ℕ
row_length nil = 0
row_length (cons x xs) = suc (row_length xs)

-- the type at a place of a row
abbrev pub ty_at : Tys → ℕ → Option Ty
ty_at nil n = None
ty_at (cons x xs) zero = Some x
ty_at (cons x xs) (suc n) = ty_at xs n

-- the type at a place that is chosen
abbrev pub chosen_type : Chosen → Tys → Option Ty
chosen_type (chosen.Place n) xs = ty_at xs n
chosen_type chosen.Last xs = ty_at xs (row_length xs - 1)
