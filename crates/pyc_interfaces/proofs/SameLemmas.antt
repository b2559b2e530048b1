-- Where two interfaces are reported as one, they are one without positions.
use Rattle.std.proofs.Common.{◌≡◌, ℕ, Bool, true, false, not, ◌&&◌, ◌==◌, List, [], ◌∷◌, map, Option, None, Some, is_some, bytes_eq, if◌then◌else◌, refl, sym, ap, ap₂, ◌∙◌}
use Rattle.std.proofs.lemmas.Bool.{and_parts, eqb-true, false≢true}
use Rattle.std.proofs.lemmas.Slice.Eq.{bytes_eq-Decides, slice_eq-Decides}
use Rattle.std.specs.Bool.{beq}
use Rattle.std.specs.Cmp.Lexicographic.{pointwise}
use Rattle.std.specs.Prelude.{option_map}
use Rattle.pyc_ast.specs.declared.constant.Constant.{Constant}
use Rattle.pyc_ast.specs.declared.constant.Constant.TheVariants as constant
use Rattle.pyc_ast.specs.declared.expr.ArgumentKind.{ArgumentKind}
use Rattle.pyc_ast.specs.declared.expr.ArgumentKind.TheVariants as argument_kind
use Rattle.pyc_ast.specs.declared.operator.Operator.{Operator}
use Rattle.pyc_ast.specs.declared.operator.Operator.TheVariants as operator
use Rattle.pyc_ast.specs.declared.parameter.ParameterKind.{ParameterKind}
use Rattle.pyc_ast.specs.declared.parameter.ParameterKind.TheVariants as parameter
use Rattle.pyc_ast.specs.Exprs.{Expr, expr, Form, Element, element, Elements, no_element, another_element, Index, index, IndexForm, Indices, no_index, another_index, Argument, argument}
use Rattle.pyc_ast.specs.Exprs as plain
use Rattle.pyc_ast.specs.Statements.{ClassDefinition, FunctionDefinition, Parameter}
use Rattle.pyc_bindings.specs.Bindings.{Binding, BindingForm, import, import_from, function, class, annotated, assigned, other}
use Rattle.pyc_bindings.specs.Scopes.{placed}
use Rattle.pyc_interfaces.specs.BareExpressions.{nowhere, other_expr, other_form, bare, bare_form as bare_expr_form, bare_element, bare_elements, bare_index, bare_index_form, bare_indices, bare_argument, bare_constant, bare_value, bare_value_form}
use Rattle.pyc_interfaces.specs.BareInterfaces.{bare_parameter, bare_function, bare_class, bare_annotated, bare_form, bare_binding, bare_attribute_form, bare_attribute, bare_body, bare_declared, bare_interface}
use Rattle.pyc_interfaces.specs.SameExpressions.{constant_number, same_constant, same_expr, same_form as same_expr_form, same_element, same_elements, same_index, same_index_form, same_indices, same_optional, same_kind as same_argument_kind, same_argument, is_read, counts, same_value_form, same_value}
use Rattle.pyc_interfaces.specs.SameInterfaces.{same_kind, same_parameter, same_function, same_class, same_form, same_binding, same_attribute_form, same_attribute, same_body, same_declared, same_interface}
use Rattle.pyc_members.specs.Attributes.{AttributeForm, SelfAttribute}
use Rattle.pyc_members.specs.Attributes as attribute
use Rattle.pyc_members.specs.ClassBodies.{ClassBody}
use Rattle.pyc_members.specs.DeclaredClasses.{DeclaredClass}
use Rattle.pyc_names.specs.Interfaces.{Interface}
use Rattle.pyc_names.specs.ModuleName.{same_module}
use Rattle.pyc_type_exprs.specs.TypeExprs.{is_bit_or}

-- ---- tests

texts_are : (x y : List ℕ) → bytes_eq x y ≡ true → x ≡ y
texts_are x y same = (bytes_eq-Decides x y).0 same

paths_are : (x y : List (List ℕ)) → pointwise bytes_eq x y ≡ true → x ≡ y
paths_are x y same = (slice_eq-Decides bytes_eq-Decides x y (pointwise bytes_eq x y) refl).0 same

pub flags_are : (a b : Bool) → beq a b ≡ true → a ≡ b
flags_are true true same = refl
flags_are true false same = absurd (false≢true same)
flags_are false true same = absurd (false≢true same)
flags_are false false same = refl

constant_at : ℕ → Constant
constant_at n =
    if n == 0 then constant.None else if n == 1 then constant.True else if n == 2 then constant.False else if n == 3 then constant.Ellipsis
    else if n == 4 then constant.Integer None else if n == 5 then constant.Float else if n == 6 then constant.Imaginary else if n == 7 then constant.Str
    else if n == 8 then constant.FormattedStr else constant.Bytes

at_number : (c : Constant) → bare_constant c ≡ constant_at (constant_number c)
unfolding constant_at
at_number constant.None = refl
at_number constant.True = refl
at_number constant.False = refl
at_number constant.Ellipsis = refl
at_number (constant.Integer d) = refl
at_number constant.Float = refl
at_number constant.Imaginary = refl
at_number constant.Str = refl
at_number constant.FormattedStr = refl
at_number constant.Bytes = refl

constants_are : (c d : Constant) → same_constant c d ≡ true → bare_constant c ≡ bare_constant d
constants_are c d same = at_number c ∙ ap constant_at (eqb-true (constant_number c) (constant_number d) same) ∙ sym (at_number d)

is_or : (o : Operator) → is_bit_or o ≡ true → o ≡ operator.BitOr
is_or operator.Add same = absurd (false≢true same)
is_or operator.Sub same = absurd (false≢true same)
is_or operator.Mult same = absurd (false≢true same)
is_or operator.MatMult same = absurd (false≢true same)
is_or operator.Div same = absurd (false≢true same)
is_or operator.FloorDiv same = absurd (false≢true same)
is_or operator.Mod same = absurd (false≢true same)
is_or operator.Pow same = absurd (false≢true same)
is_or operator.LShift same = absurd (false≢true same)
is_or operator.RShift same = absurd (false≢true same)
is_or operator.BitOr same = refl
is_or operator.BitXor same = absurd (false≢true same)
is_or operator.BitAnd same = absurd (false≢true same)

-- rows whose items are one by one the same
pub rows_are : {X Y : Type 0} (same : X → X → Bool) (g : X → Y) → ((x y : X) → same x y ≡ true → g x ≡ g y) → (xs ys : List X) → pointwise same xs ys ≡ true → map g xs ≡ map g ys
rows_are same g are [] [] h = refl
rows_are same g are [] (y ∷ ys) h = absurd (false≢true h)
rows_are same g are (x ∷ xs) [] h = absurd (false≢true h)
rows_are same g are (x ∷ xs) (y ∷ ys) h =
    let parts = and_parts (same x y) (pointwise same xs ys) h in
    ap₂ (λ z zs. z ∷ zs) (are x y parts.0) (rows_are same g are xs ys parts.1)

-- ---- expressions

not_counted : (b : Bool) → not b ≡ true → false ≡ b
not_counted true h = absurd (false≢true h)
not_counted false h = refl

unread : (x : Form) → false ≡ is_read x → bare_expr_form x ≡ other_form
unread (plain.name x) h = absurd (false≢true h)
unread (plain.constant c) h = absurd (false≢true h)
unread (plain.string_annotation x) h = absurd (false≢true h)
unread (plain.tuple xs) h = absurd (false≢true h)
unread (plain.list xs) h = absurd (false≢true h)
unread (plain.set xs) h = refl
unread (plain.dict xs) h = refl
unread (plain.unchecked o) h = refl
unread (plain.attribute x n) h = absurd (false≢true h)
unread (plain.call x xs) h = refl
unread (plain.subscript x i) h = absurd (false≢true h)
unread (plain.unary o x) h = refl
unread (plain.binary o x y) h = absurd (false≢true h)
unread (plain.boolean o x y) h = refl
unread (plain.compare x xs) h = refl
unread (plain.conditional t x y) h = refl
unread (plain.await x) h = refl
unread (plain.yield x) h = refl
unread (plain.yield_from x) h = refl

mutual
  pub exprs_are : (a b : Expr) → same_expr a b ≡ true → bare a ≡ bare b
  exprs_are (expr at inside x) (expr there within y) same = ap (expr nowhere nowhere) (forms_are x y same)

  forms_are : (a b : Form) → same_expr_form a b ≡ true → bare_expr_form a ≡ bare_expr_form b
  forms_are (plain.name x) (plain.name x2) same = ap plain.name (texts_are x x2 same)
  forms_are (plain.name x) (plain.constant c2) same = absurd (false≢true same)
  forms_are (plain.name x) (plain.string_annotation x2) same = absurd (false≢true same)
  forms_are (plain.name x) (plain.tuple xs2) same = absurd (false≢true same)
  forms_are (plain.name x) (plain.list xs2) same = absurd (false≢true same)
  forms_are (plain.name x) (plain.set xs2) same = absurd (false≢true same)
  forms_are (plain.name x) (plain.dict xs2) same = absurd (false≢true same)
  forms_are (plain.name x) (plain.unchecked o2) same = absurd (false≢true same)
  forms_are (plain.name x) (plain.attribute x2 n2) same = absurd (false≢true same)
  forms_are (plain.name x) (plain.call x2 xs2) same = absurd (false≢true same)
  forms_are (plain.name x) (plain.subscript x2 i2) same = absurd (false≢true same)
  forms_are (plain.name x) (plain.unary o2 x2) same = absurd (false≢true same)
  forms_are (plain.name x) (plain.binary o2 x2 y2) same = absurd (false≢true same)
  forms_are (plain.name x) (plain.boolean o2 x2 y2) same = absurd (false≢true same)
  forms_are (plain.name x) (plain.compare x2 xs2) same = absurd (false≢true same)
  forms_are (plain.name x) (plain.conditional t2 x2 y2) same = absurd (false≢true same)
  forms_are (plain.name x) (plain.await x2) same = absurd (false≢true same)
  forms_are (plain.name x) (plain.yield x2) same = absurd (false≢true same)
  forms_are (plain.name x) (plain.yield_from x2) same = absurd (false≢true same)
  forms_are (plain.constant c) (plain.name x2) same = absurd (false≢true same)
  forms_are (plain.constant c) (plain.constant c2) same = ap plain.constant (constants_are c c2 same)
  forms_are (plain.constant c) (plain.string_annotation x2) same = absurd (false≢true same)
  forms_are (plain.constant c) (plain.tuple xs2) same = absurd (false≢true same)
  forms_are (plain.constant c) (plain.list xs2) same = absurd (false≢true same)
  forms_are (plain.constant c) (plain.set xs2) same = absurd (false≢true same)
  forms_are (plain.constant c) (plain.dict xs2) same = absurd (false≢true same)
  forms_are (plain.constant c) (plain.unchecked o2) same = absurd (false≢true same)
  forms_are (plain.constant c) (plain.attribute x2 n2) same = absurd (false≢true same)
  forms_are (plain.constant c) (plain.call x2 xs2) same = absurd (false≢true same)
  forms_are (plain.constant c) (plain.subscript x2 i2) same = absurd (false≢true same)
  forms_are (plain.constant c) (plain.unary o2 x2) same = absurd (false≢true same)
  forms_are (plain.constant c) (plain.binary o2 x2 y2) same = absurd (false≢true same)
  forms_are (plain.constant c) (plain.boolean o2 x2 y2) same = absurd (false≢true same)
  forms_are (plain.constant c) (plain.compare x2 xs2) same = absurd (false≢true same)
  forms_are (plain.constant c) (plain.conditional t2 x2 y2) same = absurd (false≢true same)
  forms_are (plain.constant c) (plain.await x2) same = absurd (false≢true same)
  forms_are (plain.constant c) (plain.yield x2) same = absurd (false≢true same)
  forms_are (plain.constant c) (plain.yield_from x2) same = absurd (false≢true same)
  forms_are (plain.string_annotation x) (plain.name x2) same = absurd (false≢true same)
  forms_are (plain.string_annotation x) (plain.constant c2) same = absurd (false≢true same)
  forms_are (plain.string_annotation x) (plain.string_annotation x2) same = ap plain.string_annotation (exprs_are x x2 same)
  forms_are (plain.string_annotation x) (plain.tuple xs2) same = absurd (false≢true same)
  forms_are (plain.string_annotation x) (plain.list xs2) same = absurd (false≢true same)
  forms_are (plain.string_annotation x) (plain.set xs2) same = absurd (false≢true same)
  forms_are (plain.string_annotation x) (plain.dict xs2) same = absurd (false≢true same)
  forms_are (plain.string_annotation x) (plain.unchecked o2) same = absurd (false≢true same)
  forms_are (plain.string_annotation x) (plain.attribute x2 n2) same = absurd (false≢true same)
  forms_are (plain.string_annotation x) (plain.call x2 xs2) same = absurd (false≢true same)
  forms_are (plain.string_annotation x) (plain.subscript x2 i2) same = absurd (false≢true same)
  forms_are (plain.string_annotation x) (plain.unary o2 x2) same = absurd (false≢true same)
  forms_are (plain.string_annotation x) (plain.binary o2 x2 y2) same = absurd (false≢true same)
  forms_are (plain.string_annotation x) (plain.boolean o2 x2 y2) same = absurd (false≢true same)
  forms_are (plain.string_annotation x) (plain.compare x2 xs2) same = absurd (false≢true same)
  forms_are (plain.string_annotation x) (plain.conditional t2 x2 y2) same = absurd (false≢true same)
  forms_are (plain.string_annotation x) (plain.await x2) same = absurd (false≢true same)
  forms_are (plain.string_annotation x) (plain.yield x2) same = absurd (false≢true same)
  forms_are (plain.string_annotation x) (plain.yield_from x2) same = absurd (false≢true same)
  forms_are (plain.tuple xs) (plain.name x2) same = absurd (false≢true same)
  forms_are (plain.tuple xs) (plain.constant c2) same = absurd (false≢true same)
  forms_are (plain.tuple xs) (plain.string_annotation x2) same = absurd (false≢true same)
  forms_are (plain.tuple xs) (plain.tuple xs2) same = ap plain.tuple (elements_are xs xs2 same)
  forms_are (plain.tuple xs) (plain.list xs2) same = absurd (false≢true same)
  forms_are (plain.tuple xs) (plain.set xs2) same = absurd (false≢true same)
  forms_are (plain.tuple xs) (plain.dict xs2) same = absurd (false≢true same)
  forms_are (plain.tuple xs) (plain.unchecked o2) same = absurd (false≢true same)
  forms_are (plain.tuple xs) (plain.attribute x2 n2) same = absurd (false≢true same)
  forms_are (plain.tuple xs) (plain.call x2 xs2) same = absurd (false≢true same)
  forms_are (plain.tuple xs) (plain.subscript x2 i2) same = absurd (false≢true same)
  forms_are (plain.tuple xs) (plain.unary o2 x2) same = absurd (false≢true same)
  forms_are (plain.tuple xs) (plain.binary o2 x2 y2) same = absurd (false≢true same)
  forms_are (plain.tuple xs) (plain.boolean o2 x2 y2) same = absurd (false≢true same)
  forms_are (plain.tuple xs) (plain.compare x2 xs2) same = absurd (false≢true same)
  forms_are (plain.tuple xs) (plain.conditional t2 x2 y2) same = absurd (false≢true same)
  forms_are (plain.tuple xs) (plain.await x2) same = absurd (false≢true same)
  forms_are (plain.tuple xs) (plain.yield x2) same = absurd (false≢true same)
  forms_are (plain.tuple xs) (plain.yield_from x2) same = absurd (false≢true same)
  forms_are (plain.list xs) (plain.name x2) same = absurd (false≢true same)
  forms_are (plain.list xs) (plain.constant c2) same = absurd (false≢true same)
  forms_are (plain.list xs) (plain.string_annotation x2) same = absurd (false≢true same)
  forms_are (plain.list xs) (plain.tuple xs2) same = absurd (false≢true same)
  forms_are (plain.list xs) (plain.list xs2) same = ap plain.list (elements_are xs xs2 same)
  forms_are (plain.list xs) (plain.set xs2) same = absurd (false≢true same)
  forms_are (plain.list xs) (plain.dict xs2) same = absurd (false≢true same)
  forms_are (plain.list xs) (plain.unchecked o2) same = absurd (false≢true same)
  forms_are (plain.list xs) (plain.attribute x2 n2) same = absurd (false≢true same)
  forms_are (plain.list xs) (plain.call x2 xs2) same = absurd (false≢true same)
  forms_are (plain.list xs) (plain.subscript x2 i2) same = absurd (false≢true same)
  forms_are (plain.list xs) (plain.unary o2 x2) same = absurd (false≢true same)
  forms_are (plain.list xs) (plain.binary o2 x2 y2) same = absurd (false≢true same)
  forms_are (plain.list xs) (plain.boolean o2 x2 y2) same = absurd (false≢true same)
  forms_are (plain.list xs) (plain.compare x2 xs2) same = absurd (false≢true same)
  forms_are (plain.list xs) (plain.conditional t2 x2 y2) same = absurd (false≢true same)
  forms_are (plain.list xs) (plain.await x2) same = absurd (false≢true same)
  forms_are (plain.list xs) (plain.yield x2) same = absurd (false≢true same)
  forms_are (plain.list xs) (plain.yield_from x2) same = absurd (false≢true same)
  forms_are (plain.set xs) v same = sym (unread v (not_counted (is_read v) same))
  forms_are (plain.dict xs) v same = sym (unread v (not_counted (is_read v) same))
  forms_are (plain.unchecked o) v same = sym (unread v (not_counted (is_read v) same))
  forms_are (plain.attribute x n) (plain.name x2) same = absurd (false≢true same)
  forms_are (plain.attribute x n) (plain.constant c2) same = absurd (false≢true same)
  forms_are (plain.attribute x n) (plain.string_annotation x2) same = absurd (false≢true same)
  forms_are (plain.attribute x n) (plain.tuple xs2) same = absurd (false≢true same)
  forms_are (plain.attribute x n) (plain.list xs2) same = absurd (false≢true same)
  forms_are (plain.attribute x n) (plain.set xs2) same = absurd (false≢true same)
  forms_are (plain.attribute x n) (plain.dict xs2) same = absurd (false≢true same)
  forms_are (plain.attribute x n) (plain.unchecked o2) same = absurd (false≢true same)
  forms_are (plain.attribute x n) (plain.attribute x2 n2) same = let parts = and_parts (same_expr x x2) (bytes_eq n n2) same in ap₂ plain.attribute (exprs_are x x2 parts.0) (texts_are n n2 parts.1)
  forms_are (plain.attribute x n) (plain.call x2 xs2) same = absurd (false≢true same)
  forms_are (plain.attribute x n) (plain.subscript x2 i2) same = absurd (false≢true same)
  forms_are (plain.attribute x n) (plain.unary o2 x2) same = absurd (false≢true same)
  forms_are (plain.attribute x n) (plain.binary o2 x2 y2) same = absurd (false≢true same)
  forms_are (plain.attribute x n) (plain.boolean o2 x2 y2) same = absurd (false≢true same)
  forms_are (plain.attribute x n) (plain.compare x2 xs2) same = absurd (false≢true same)
  forms_are (plain.attribute x n) (plain.conditional t2 x2 y2) same = absurd (false≢true same)
  forms_are (plain.attribute x n) (plain.await x2) same = absurd (false≢true same)
  forms_are (plain.attribute x n) (plain.yield x2) same = absurd (false≢true same)
  forms_are (plain.attribute x n) (plain.yield_from x2) same = absurd (false≢true same)
  forms_are (plain.call x xs) v same = sym (unread v (not_counted (is_read v) same))
  forms_are (plain.subscript x i) (plain.name x2) same = absurd (false≢true same)
  forms_are (plain.subscript x i) (plain.constant c2) same = absurd (false≢true same)
  forms_are (plain.subscript x i) (plain.string_annotation x2) same = absurd (false≢true same)
  forms_are (plain.subscript x i) (plain.tuple xs2) same = absurd (false≢true same)
  forms_are (plain.subscript x i) (plain.list xs2) same = absurd (false≢true same)
  forms_are (plain.subscript x i) (plain.set xs2) same = absurd (false≢true same)
  forms_are (plain.subscript x i) (plain.dict xs2) same = absurd (false≢true same)
  forms_are (plain.subscript x i) (plain.unchecked o2) same = absurd (false≢true same)
  forms_are (plain.subscript x i) (plain.attribute x2 n2) same = absurd (false≢true same)
  forms_are (plain.subscript x i) (plain.call x2 xs2) same = absurd (false≢true same)
  forms_are (plain.subscript x i) (plain.subscript x2 i2) same = let parts = and_parts (same_expr x x2) (same_index i i2) same in ap₂ plain.subscript (exprs_are x x2 parts.0) (index_is i i2 parts.1)
  forms_are (plain.subscript x i) (plain.unary o2 x2) same = absurd (false≢true same)
  forms_are (plain.subscript x i) (plain.binary o2 x2 y2) same = absurd (false≢true same)
  forms_are (plain.subscript x i) (plain.boolean o2 x2 y2) same = absurd (false≢true same)
  forms_are (plain.subscript x i) (plain.compare x2 xs2) same = absurd (false≢true same)
  forms_are (plain.subscript x i) (plain.conditional t2 x2 y2) same = absurd (false≢true same)
  forms_are (plain.subscript x i) (plain.await x2) same = absurd (false≢true same)
  forms_are (plain.subscript x i) (plain.yield x2) same = absurd (false≢true same)
  forms_are (plain.subscript x i) (plain.yield_from x2) same = absurd (false≢true same)
  forms_are (plain.unary o x) v same = sym (unread v (not_counted (is_read v) same))
  forms_are (plain.binary o x y) (plain.name x2) same = absurd (false≢true same)
  forms_are (plain.binary o x y) (plain.constant c2) same = absurd (false≢true same)
  forms_are (plain.binary o x y) (plain.string_annotation x2) same = absurd (false≢true same)
  forms_are (plain.binary o x y) (plain.tuple xs2) same = absurd (false≢true same)
  forms_are (plain.binary o x y) (plain.list xs2) same = absurd (false≢true same)
  forms_are (plain.binary o x y) (plain.set xs2) same = absurd (false≢true same)
  forms_are (plain.binary o x y) (plain.dict xs2) same = absurd (false≢true same)
  forms_are (plain.binary o x y) (plain.unchecked o2) same = absurd (false≢true same)
  forms_are (plain.binary o x y) (plain.attribute x2 n2) same = absurd (false≢true same)
  forms_are (plain.binary o x y) (plain.call x2 xs2) same = absurd (false≢true same)
  forms_are (plain.binary o x y) (plain.subscript x2 i2) same = absurd (false≢true same)
  forms_are (plain.binary o x y) (plain.unary o2 x2) same = absurd (false≢true same)
  forms_are (plain.binary o x y) (plain.binary o2 x2 y2) same = let parts = and_parts (is_bit_or o && is_bit_or o2) (same_expr x x2 && same_expr y y2) same in
      let ors = and_parts (is_bit_or o) (is_bit_or o2) parts.0 in
      let sides = and_parts (same_expr x x2) (same_expr y y2) parts.1 in
      ap (λ op. plain.binary op (bare x) (bare y)) (is_or o ors.0 ∙ sym (is_or o2 ors.1)) ∙ ap₂ (plain.binary o2) (exprs_are x x2 sides.0) (exprs_are y y2 sides.1)
  forms_are (plain.binary o x y) (plain.boolean o2 x2 y2) same = absurd (false≢true same)
  forms_are (plain.binary o x y) (plain.compare x2 xs2) same = absurd (false≢true same)
  forms_are (plain.binary o x y) (plain.conditional t2 x2 y2) same = absurd (false≢true same)
  forms_are (plain.binary o x y) (plain.await x2) same = absurd (false≢true same)
  forms_are (plain.binary o x y) (plain.yield x2) same = absurd (false≢true same)
  forms_are (plain.binary o x y) (plain.yield_from x2) same = absurd (false≢true same)
  forms_are (plain.boolean o x y) v same = sym (unread v (not_counted (is_read v) same))
  forms_are (plain.compare x xs) v same = sym (unread v (not_counted (is_read v) same))
  forms_are (plain.conditional t x y) v same = sym (unread v (not_counted (is_read v) same))
  forms_are (plain.await x) v same = sym (unread v (not_counted (is_read v) same))
  forms_are (plain.yield x) v same = sym (unread v (not_counted (is_read v) same))
  forms_are (plain.yield_from x) v same = sym (unread v (not_counted (is_read v) same))

  element_is : (a b : Element) → same_element a b ≡ true → bare_element a ≡ bare_element b
  element_is (element is_starred x) (element is_too y) same =
      let parts = and_parts (beq is_starred is_too) (same_expr x y) same in ap₂ element (flags_are is_starred is_too parts.0) (exprs_are x y parts.1)

  elements_are : (xs ys : Elements) → same_elements xs ys ≡ true → bare_elements xs ≡ bare_elements ys
  elements_are no_element no_element same = refl
  elements_are no_element (another_element y ys) same = absurd (false≢true same)
  elements_are (another_element x xs) no_element same = absurd (false≢true same)
  elements_are (another_element x xs) (another_element y ys) same =
      let parts = and_parts (same_element x y) (same_elements xs ys) same in ap₂ another_element (element_is x y parts.0) (elements_are xs ys parts.1)

  index_is : (a b : Index) → same_index a b ≡ true → bare_index a ≡ bare_index b
  index_is (index at x) (index there y) same = ap (index nowhere) (index_form_is x y same)

  index_form_is : (a b : IndexForm) → same_index_form a b ≡ true → bare_index_form a ≡ bare_index_form b
  index_form_is (plain.item x) (plain.item y) same = ap plain.item (exprs_are x y same)
  index_form_is (plain.item x) (plain.slice l u s) same = absurd (false≢true same)
  index_form_is (plain.item x) (plain.indices ys) same = absurd (false≢true same)
  index_form_is (plain.slice l u s) (plain.item y) same = absurd (false≢true same)
  index_form_is (plain.slice l u s) (plain.slice m v t) same = refl
  index_form_is (plain.slice l u s) (plain.indices ys) same = absurd (false≢true same)
  index_form_is (plain.indices xs) (plain.item y) same = absurd (false≢true same)
  index_form_is (plain.indices xs) (plain.slice l u s) same = absurd (false≢true same)
  index_form_is (plain.indices xs) (plain.indices ys) same = ap plain.indices (indices_are xs ys same)

  indices_are : (xs ys : Indices) → same_indices xs ys ≡ true → bare_indices xs ≡ bare_indices ys
  indices_are no_index no_index same = refl
  indices_are no_index (another_index y ys) same = absurd (false≢true same)
  indices_are (another_index x xs) no_index same = absurd (false≢true same)
  indices_are (another_index x xs) (another_index y ys) same =
      let parts = and_parts (same_index x y) (same_indices xs ys) same in ap₂ another_index (index_is x y parts.0) (indices_are xs ys parts.1)

optionals_are : (a b : Option Expr) → same_optional a b ≡ true → option_map bare a ≡ option_map bare b
optionals_are (Some x) (Some y) same = ap Some (exprs_are x y same)
optionals_are (Some x) None same = absurd (false≢true same)
optionals_are None (Some y) same = absurd (false≢true same)
optionals_are None None same = refl

-- ---- initial values

uncounted : (x : Form) → false ≡ counts x → bare_value_form x ≡ other_form
uncounted (plain.name x) h = absurd (false≢true h)
uncounted (plain.constant c) h = absurd (false≢true h)
uncounted (plain.string_annotation x) h = absurd (false≢true h)
uncounted (plain.tuple xs) h = refl
uncounted (plain.list xs) h = refl
uncounted (plain.set xs) h = refl
uncounted (plain.dict xs) h = refl
uncounted (plain.unchecked o) h = refl
uncounted (plain.attribute x n) h = refl
uncounted (plain.call x xs) h = refl
uncounted (plain.subscript x i) h = refl
uncounted (plain.unary o x) h = refl
uncounted (plain.binary o x y) h = refl
uncounted (plain.boolean o x y) h = refl
uncounted (plain.compare x xs) h = refl
uncounted (plain.conditional t x y) h = refl
uncounted (plain.await x) h = refl
uncounted (plain.yield x) h = refl
uncounted (plain.yield_from x) h = refl

value_forms_are : (x y : Form) → same_value_form x y ≡ true → bare_value_form x ≡ bare_value_form y
value_forms_are (plain.name x) (plain.name x2) same = ap plain.name (texts_are x x2 same)
value_forms_are (plain.name x) (plain.constant c2) same = absurd (false≢true same)
value_forms_are (plain.name x) (plain.string_annotation x2) same = absurd (false≢true same)
value_forms_are (plain.name x) (plain.tuple xs2) same = absurd (false≢true same)
value_forms_are (plain.name x) (plain.list xs2) same = absurd (false≢true same)
value_forms_are (plain.name x) (plain.set xs2) same = absurd (false≢true same)
value_forms_are (plain.name x) (plain.dict xs2) same = absurd (false≢true same)
value_forms_are (plain.name x) (plain.unchecked o2) same = absurd (false≢true same)
value_forms_are (plain.name x) (plain.attribute x2 n2) same = absurd (false≢true same)
value_forms_are (plain.name x) (plain.call x2 xs2) same = absurd (false≢true same)
value_forms_are (plain.name x) (plain.subscript x2 i2) same = absurd (false≢true same)
value_forms_are (plain.name x) (plain.unary o2 x2) same = absurd (false≢true same)
value_forms_are (plain.name x) (plain.binary o2 x2 y2) same = absurd (false≢true same)
value_forms_are (plain.name x) (plain.boolean o2 x2 y2) same = absurd (false≢true same)
value_forms_are (plain.name x) (plain.compare x2 xs2) same = absurd (false≢true same)
value_forms_are (plain.name x) (plain.conditional t2 x2 y2) same = absurd (false≢true same)
value_forms_are (plain.name x) (plain.await x2) same = absurd (false≢true same)
value_forms_are (plain.name x) (plain.yield x2) same = absurd (false≢true same)
value_forms_are (plain.name x) (plain.yield_from x2) same = absurd (false≢true same)
value_forms_are (plain.constant c) (plain.name x2) same = absurd (false≢true same)
value_forms_are (plain.constant c) (plain.constant c2) same = ap plain.constant (constants_are c c2 same)
value_forms_are (plain.constant c) (plain.string_annotation x2) same = absurd (false≢true same)
value_forms_are (plain.constant c) (plain.tuple xs2) same = absurd (false≢true same)
value_forms_are (plain.constant c) (plain.list xs2) same = absurd (false≢true same)
value_forms_are (plain.constant c) (plain.set xs2) same = absurd (false≢true same)
value_forms_are (plain.constant c) (plain.dict xs2) same = absurd (false≢true same)
value_forms_are (plain.constant c) (plain.unchecked o2) same = absurd (false≢true same)
value_forms_are (plain.constant c) (plain.attribute x2 n2) same = absurd (false≢true same)
value_forms_are (plain.constant c) (plain.call x2 xs2) same = absurd (false≢true same)
value_forms_are (plain.constant c) (plain.subscript x2 i2) same = absurd (false≢true same)
value_forms_are (plain.constant c) (plain.unary o2 x2) same = absurd (false≢true same)
value_forms_are (plain.constant c) (plain.binary o2 x2 y2) same = absurd (false≢true same)
value_forms_are (plain.constant c) (plain.boolean o2 x2 y2) same = absurd (false≢true same)
value_forms_are (plain.constant c) (plain.compare x2 xs2) same = absurd (false≢true same)
value_forms_are (plain.constant c) (plain.conditional t2 x2 y2) same = absurd (false≢true same)
value_forms_are (plain.constant c) (plain.await x2) same = absurd (false≢true same)
value_forms_are (plain.constant c) (plain.yield x2) same = absurd (false≢true same)
value_forms_are (plain.constant c) (plain.yield_from x2) same = absurd (false≢true same)
value_forms_are (plain.string_annotation x) (plain.name x2) same = absurd (false≢true same)
value_forms_are (plain.string_annotation x) (plain.constant c2) same = absurd (false≢true same)
value_forms_are (plain.string_annotation x) (plain.string_annotation x2) same = refl
value_forms_are (plain.string_annotation x) (plain.tuple xs2) same = absurd (false≢true same)
value_forms_are (plain.string_annotation x) (plain.list xs2) same = absurd (false≢true same)
value_forms_are (plain.string_annotation x) (plain.set xs2) same = absurd (false≢true same)
value_forms_are (plain.string_annotation x) (plain.dict xs2) same = absurd (false≢true same)
value_forms_are (plain.string_annotation x) (plain.unchecked o2) same = absurd (false≢true same)
value_forms_are (plain.string_annotation x) (plain.attribute x2 n2) same = absurd (false≢true same)
value_forms_are (plain.string_annotation x) (plain.call x2 xs2) same = absurd (false≢true same)
value_forms_are (plain.string_annotation x) (plain.subscript x2 i2) same = absurd (false≢true same)
value_forms_are (plain.string_annotation x) (plain.unary o2 x2) same = absurd (false≢true same)
value_forms_are (plain.string_annotation x) (plain.binary o2 x2 y2) same = absurd (false≢true same)
value_forms_are (plain.string_annotation x) (plain.boolean o2 x2 y2) same = absurd (false≢true same)
value_forms_are (plain.string_annotation x) (plain.compare x2 xs2) same = absurd (false≢true same)
value_forms_are (plain.string_annotation x) (plain.conditional t2 x2 y2) same = absurd (false≢true same)
value_forms_are (plain.string_annotation x) (plain.await x2) same = absurd (false≢true same)
value_forms_are (plain.string_annotation x) (plain.yield x2) same = absurd (false≢true same)
value_forms_are (plain.string_annotation x) (plain.yield_from x2) same = absurd (false≢true same)
value_forms_are (plain.tuple xs) v same = sym (uncounted v (not_counted (counts v) same))
value_forms_are (plain.list xs) v same = sym (uncounted v (not_counted (counts v) same))
value_forms_are (plain.set xs) v same = sym (uncounted v (not_counted (counts v) same))
value_forms_are (plain.dict xs) v same = sym (uncounted v (not_counted (counts v) same))
value_forms_are (plain.unchecked o) v same = sym (uncounted v (not_counted (counts v) same))
value_forms_are (plain.attribute x n) v same = sym (uncounted v (not_counted (counts v) same))
value_forms_are (plain.call x xs) v same = sym (uncounted v (not_counted (counts v) same))
value_forms_are (plain.subscript x i) v same = sym (uncounted v (not_counted (counts v) same))
value_forms_are (plain.unary o x) v same = sym (uncounted v (not_counted (counts v) same))
value_forms_are (plain.binary o x y) v same = sym (uncounted v (not_counted (counts v) same))
value_forms_are (plain.boolean o x y) v same = sym (uncounted v (not_counted (counts v) same))
value_forms_are (plain.compare x xs) v same = sym (uncounted v (not_counted (counts v) same))
value_forms_are (plain.conditional t x y) v same = sym (uncounted v (not_counted (counts v) same))
value_forms_are (plain.await x) v same = sym (uncounted v (not_counted (counts v) same))
value_forms_are (plain.yield x) v same = sym (uncounted v (not_counted (counts v) same))
value_forms_are (plain.yield_from x) v same = sym (uncounted v (not_counted (counts v) same))

values_are : (x y : Expr) → same_value x y ≡ true → bare_value x ≡ bare_value y
values_are (expr at inside x) (expr there within y) same = ap (expr nowhere nowhere) (value_forms_are x y same)

-- ---- heads

argument_kinds_are : (a b : ArgumentKind) → same_argument_kind a b ≡ true → a ≡ b
argument_kinds_are argument_kind.Positional argument_kind.Positional same = refl
argument_kinds_are argument_kind.Positional argument_kind.Starred same = absurd (false≢true same)
argument_kinds_are argument_kind.Positional (argument_kind.Keyword n) same = absurd (false≢true same)
argument_kinds_are argument_kind.Positional argument_kind.DoubleStarred same = absurd (false≢true same)
argument_kinds_are argument_kind.Starred argument_kind.Positional same = absurd (false≢true same)
argument_kinds_are argument_kind.Starred argument_kind.Starred same = refl
argument_kinds_are argument_kind.Starred (argument_kind.Keyword n) same = absurd (false≢true same)
argument_kinds_are argument_kind.Starred argument_kind.DoubleStarred same = absurd (false≢true same)
argument_kinds_are (argument_kind.Keyword m) argument_kind.Positional same = absurd (false≢true same)
argument_kinds_are (argument_kind.Keyword m) argument_kind.Starred same = absurd (false≢true same)
argument_kinds_are (argument_kind.Keyword m) (argument_kind.Keyword n) same = ap argument_kind.Keyword (texts_are m n same)
argument_kinds_are (argument_kind.Keyword m) argument_kind.DoubleStarred same = absurd (false≢true same)
argument_kinds_are argument_kind.DoubleStarred argument_kind.Positional same = absurd (false≢true same)
argument_kinds_are argument_kind.DoubleStarred argument_kind.Starred same = absurd (false≢true same)
argument_kinds_are argument_kind.DoubleStarred (argument_kind.Keyword n) same = absurd (false≢true same)
argument_kinds_are argument_kind.DoubleStarred argument_kind.DoubleStarred same = refl

pub arguments_are : (x y : Argument) → same_argument x y ≡ true → bare_argument x ≡ bare_argument y
arguments_are (argument at kind x) (argument there second y) same =
    let parts = and_parts (same_argument_kind kind second) (same_expr x y) same in ap₂ (argument nowhere) (argument_kinds_are kind second parts.0) (exprs_are x y parts.1)

kinds_are : (a b : ParameterKind) → same_kind a b ≡ true → a ≡ b
kinds_are parameter.Plain parameter.Plain same = refl
kinds_are parameter.Plain parameter.Star same = absurd (false≢true same)
kinds_are parameter.Plain parameter.KeywordOnly same = absurd (false≢true same)
kinds_are parameter.Plain parameter.DoubleStar same = absurd (false≢true same)
kinds_are parameter.Star parameter.Plain same = absurd (false≢true same)
kinds_are parameter.Star parameter.Star same = refl
kinds_are parameter.Star parameter.KeywordOnly same = absurd (false≢true same)
kinds_are parameter.Star parameter.DoubleStar same = absurd (false≢true same)
kinds_are parameter.KeywordOnly parameter.Plain same = absurd (false≢true same)
kinds_are parameter.KeywordOnly parameter.Star same = absurd (false≢true same)
kinds_are parameter.KeywordOnly parameter.KeywordOnly same = refl
kinds_are parameter.KeywordOnly parameter.DoubleStar same = absurd (false≢true same)
kinds_are parameter.DoubleStar parameter.Plain same = absurd (false≢true same)
kinds_are parameter.DoubleStar parameter.Star same = absurd (false≢true same)
kinds_are parameter.DoubleStar parameter.KeywordOnly same = absurd (false≢true same)
kinds_are parameter.DoubleStar parameter.DoubleStar same = refl

defaults_are : (a b : Option Expr) → beq (is_some a) (is_some b) ≡ true → option_map (λ x. other_expr) a ≡ option_map (λ x. other_expr) b
defaults_are (Some x) (Some y) same = refl
defaults_are (Some x) None same = absurd (false≢true same)
defaults_are None (Some y) same = absurd (false≢true same)
defaults_are None None same = refl

parameters_are : (p q : Parameter) → same_parameter p q ≡ true → bare_parameter p ≡ bare_parameter q
parameters_are p q same =
    let made : ParameterKind → List ℕ → Option Expr → Option Expr → Parameter =
    λ kind name annotation default. record { at = nowhere; kind = kind; name = name; annotation = annotation; default = default } in
    let a = and_parts ((same_kind p.kind q.kind && bytes_eq p.name q.name) && same_optional p.annotation q.annotation) (beq (is_some p.default) (is_some q.default)) same in
    let b = and_parts (same_kind p.kind q.kind && bytes_eq p.name q.name) (same_optional p.annotation q.annotation) a.0 in
    let c = and_parts (same_kind p.kind q.kind) (bytes_eq p.name q.name) b.0 in
    ap₂ (λ k n. made k n (option_map bare p.annotation) (option_map (λ x. other_expr) p.default)) (kinds_are p.kind q.kind c.0) (texts_are p.name q.name c.1)
    ∙ ap₂ (made q.kind q.name) (optionals_are p.annotation q.annotation b.1) (defaults_are p.default q.default a.1)

functions_are : (f g : FunctionDefinition) → same_function f g ≡ true → bare_function f ≡ bare_function g
functions_are f g same =
    let made : List Expr → Bool → List ℕ → List Parameter → Option Expr → FunctionDefinition =
    λ decorators is_async name parameters returns.
    record { decorators = decorators; is_async = is_async; name = name; parameters = parameters; returns = returns; suspends = false } in
    let a = and_parts (((pointwise same_expr f.decorators g.decorators && beq f.is_async g.is_async) && bytes_eq f.name g.name) && pointwise same_parameter f.parameters g.parameters) (same_optional f.returns g.returns) same in
    let b = and_parts ((pointwise same_expr f.decorators g.decorators && beq f.is_async g.is_async) && bytes_eq f.name g.name) (pointwise same_parameter f.parameters g.parameters) a.0 in
    let c = and_parts (pointwise same_expr f.decorators g.decorators && beq f.is_async g.is_async) (bytes_eq f.name g.name) b.0 in
    let d = and_parts (pointwise same_expr f.decorators g.decorators) (beq f.is_async g.is_async) c.0 in
    ap₂ (λ ds i. made ds i f.name (map bare_parameter f.parameters) (option_map bare f.returns)) (rows_are same_expr bare exprs_are f.decorators g.decorators d.0) (flags_are f.is_async g.is_async d.1)
    ∙ ap₂ (λ n ps. made (map bare g.decorators) g.is_async n ps (option_map bare f.returns)) (texts_are f.name g.name c.1) (rows_are same_parameter bare_parameter parameters_are f.parameters g.parameters b.1)
    ∙ ap (made (map bare g.decorators) g.is_async g.name (map bare_parameter g.parameters)) (optionals_are f.returns g.returns a.1)

classes_are : (c d : ClassDefinition) → same_class c d ≡ true → bare_class c ≡ bare_class d
classes_are c d same =
    let made : List Expr → List ℕ → List Argument → ClassDefinition =
    λ decorators name arguments. record { decorators = decorators; name = name; arguments = arguments; suspends = false } in
    let a = and_parts (pointwise same_expr c.decorators d.decorators && bytes_eq c.name d.name) (pointwise same_argument c.arguments d.arguments) same in
    let b = and_parts (pointwise same_expr c.decorators d.decorators) (bytes_eq c.name d.name) a.0 in
    ap₂ (λ ds n. made ds n (map bare_argument c.arguments)) (rows_are same_expr bare exprs_are c.decorators d.decorators b.0) (texts_are c.name d.name b.1)
    ∙ ap (made (map bare d.decorators) d.name) (rows_are same_argument bare_argument arguments_are c.arguments d.arguments a.1)

-- ---- bindings

binding_forms_are : (x y : BindingForm) → same_form x y ≡ true → bare_form x ≡ bare_form y
binding_forms_are (import p) (import q) same = ap import (sym (paths_are q p same))
binding_forms_are (import p) (import_from j q m) same = absurd (false≢true same)
binding_forms_are (import p) (function g) same = absurd (false≢true same)
binding_forms_are (import p) (class d) same = absurd (false≢true same)
binding_forms_are (import p) (annotated more) same = absurd (false≢true same)
binding_forms_are (import p) (assigned y) same = absurd (false≢true same)
binding_forms_are (import p) other same = absurd (false≢true same)
binding_forms_are (import_from i p n) (import q) same = absurd (false≢true same)
binding_forms_are (import_from i p n) (import_from j q m) same =
    let a = and_parts (i == j && pointwise bytes_eq p q) (bytes_eq n m) same in
    let b = and_parts (i == j) (pointwise bytes_eq p q) a.0 in
    ap₂ (λ k l. import_from k l n) (eqb-true i j b.0) (paths_are p q b.1) ∙ ap (import_from j q) (texts_are n m a.1)
binding_forms_are (import_from i p n) (function g) same = absurd (false≢true same)
binding_forms_are (import_from i p n) (class d) same = absurd (false≢true same)
binding_forms_are (import_from i p n) (annotated more) same = absurd (false≢true same)
binding_forms_are (import_from i p n) (assigned y) same = absurd (false≢true same)
binding_forms_are (import_from i p n) other same = absurd (false≢true same)
binding_forms_are (function f) (import q) same = absurd (false≢true same)
binding_forms_are (function f) (import_from j q m) same = absurd (false≢true same)
binding_forms_are (function f) (function g) same = ap function (functions_are f g same)
binding_forms_are (function f) (class d) same = absurd (false≢true same)
binding_forms_are (function f) (annotated more) same = absurd (false≢true same)
binding_forms_are (function f) (assigned y) same = absurd (false≢true same)
binding_forms_are (function f) other same = absurd (false≢true same)
binding_forms_are (class c) (import q) same = absurd (false≢true same)
binding_forms_are (class c) (import_from j q m) same = absurd (false≢true same)
binding_forms_are (class c) (function g) same = absurd (false≢true same)
binding_forms_are (class c) (class d) same = ap class (classes_are c d same)
binding_forms_are (class c) (annotated more) same = absurd (false≢true same)
binding_forms_are (class c) (assigned y) same = absurd (false≢true same)
binding_forms_are (class c) other same = absurd (false≢true same)
binding_forms_are (annotated found) (import q) same = absurd (false≢true same)
binding_forms_are (annotated found) (import_from j q m) same = absurd (false≢true same)
binding_forms_are (annotated found) (function g) same = absurd (false≢true same)
binding_forms_are (annotated found) (class d) same = absurd (false≢true same)
binding_forms_are (annotated found) (annotated more) same = ap (λ e. annotated (record { target = (bare_annotated found).target; annotation = e; value = None })) (exprs_are found.annotation more.annotation same)
binding_forms_are (annotated found) (assigned y) same = absurd (false≢true same)
binding_forms_are (annotated found) other same = absurd (false≢true same)
binding_forms_are (assigned x) (import q) same = absurd (false≢true same)
binding_forms_are (assigned x) (import_from j q m) same = absurd (false≢true same)
binding_forms_are (assigned x) (function g) same = absurd (false≢true same)
binding_forms_are (assigned x) (class d) same = absurd (false≢true same)
binding_forms_are (assigned x) (annotated more) same = absurd (false≢true same)
binding_forms_are (assigned x) (assigned y) same = ap assigned (values_are x y same)
binding_forms_are (assigned x) other same = absurd (false≢true same)
binding_forms_are other (import q) same = absurd (false≢true same)
binding_forms_are other (import_from j q m) same = absurd (false≢true same)
binding_forms_are other (function g) same = absurd (false≢true same)
binding_forms_are other (class d) same = absurd (false≢true same)
binding_forms_are other (annotated more) same = absurd (false≢true same)
binding_forms_are other (assigned y) same = absurd (false≢true same)
binding_forms_are other other same = refl

pub bindings_are : (b c : Binding) → same_binding b c ≡ true → bare_binding b ≡ bare_binding c
bindings_are b c same =
    let made : List ℕ → Bool → BindingForm → Binding =
    λ name is_passed_on form. record { name = name; place = placed nowhere false; is_passed_on = is_passed_on; form = form } in
    let p = and_parts (bytes_eq b.name c.name && beq b.is_passed_on c.is_passed_on) (same_form b.form c.form) same in
    let q = and_parts (bytes_eq b.name c.name) (beq b.is_passed_on c.is_passed_on) p.0 in
    ap₂ (λ n passed_on. made n passed_on (bare_form b.form)) (texts_are b.name c.name q.0) (flags_are b.is_passed_on c.is_passed_on q.1)
    ∙ ap (made c.name c.is_passed_on) (binding_forms_are b.form c.form p.1)

-- ---- classes

attribute_forms_are : (x y : AttributeForm) → same_attribute_form x y ≡ true → bare_attribute_form x ≡ bare_attribute_form y
attribute_forms_are (attribute.annotated found) (attribute.annotated more) same = ap (λ e. attribute.annotated (record { target = (bare_annotated found).target; annotation = e; value = None })) (exprs_are found.annotation more.annotation same)
attribute_forms_are (attribute.annotated found) (attribute.assigned y) same = absurd (false≢true same)
attribute_forms_are (attribute.annotated found) attribute.other same = absurd (false≢true same)
attribute_forms_are (attribute.assigned x) (attribute.annotated more) same = absurd (false≢true same)
attribute_forms_are (attribute.assigned x) (attribute.assigned y) same = ap attribute.assigned (values_are x y same)
attribute_forms_are (attribute.assigned x) attribute.other same = absurd (false≢true same)
attribute_forms_are attribute.other (attribute.annotated more) same = absurd (false≢true same)
attribute_forms_are attribute.other (attribute.assigned y) same = absurd (false≢true same)
attribute_forms_are attribute.other attribute.other same = refl

pub attributes_are : (a b : SelfAttribute) → same_attribute a b ≡ true → bare_attribute a ≡ bare_attribute b
attributes_are a b same =
    let made : List ℕ → AttributeForm → FunctionDefinition → SelfAttribute = λ name form method. record { name = name; at = nowhere; form = form; method = method } in
    let p = and_parts (bytes_eq a.name b.name && same_attribute_form a.form b.form) (same_function a.method b.method) same in
    let q = and_parts (bytes_eq a.name b.name) (same_attribute_form a.form b.form) p.0 in
    ap₂ (λ n f. made n f (bare_function a.method)) (texts_are a.name b.name q.0) (attribute_forms_are a.form b.form q.1)
    ∙ ap (made b.name (bare_attribute_form b.form)) (functions_are a.method b.method p.1)

bodies_are : (b c : ClassBody) → same_body b c ≡ true → bare_body b ≡ bare_body c
bodies_are b c same =
    let made : List Binding → List SelfAttribute → ClassBody = λ bindings attributes. record { bindings = bindings; attributes = attributes } in
    let parts = and_parts (pointwise same_binding b.bindings c.bindings) (pointwise same_attribute b.attributes c.attributes) same in
    ap₂ made (rows_are same_binding bare_binding bindings_are b.bindings c.bindings parts.0) (rows_are same_attribute bare_attribute attributes_are b.attributes c.attributes parts.1)

declared_are : (c d : DeclaredClass) → same_declared c d ≡ true → bare_declared c ≡ bare_declared d
declared_are c d same =
    let made : List ℕ → ClassDefinition → ClassBody → DeclaredClass = λ name head body. record { name = name; at = nowhere; head = head; body = body } in
    let p = and_parts (bytes_eq c.name d.name && same_class c.head d.head) (same_body c.body d.body) same in
    let q = and_parts (bytes_eq c.name d.name) (same_class c.head d.head) p.0 in
    ap₂ (λ n h. made n h (bare_body c.body)) (texts_are c.name d.name q.0) (classes_are c.head d.head q.1) ∙ ap (made d.name (bare_class d.head)) (bodies_are c.body d.body p.1)

-- interfaces that are reported as one are one without positions
pub interfaces_are : (i j : Interface) → same_interface i j ≡ true → bare_interface i ≡ bare_interface j
unfolding same_interface
interfaces_are i j same =
    let made : List (List ℕ) → Bool → Bool → Bool → List Binding → List DeclaredClass → Interface =
    λ name is_package is_stub has_fault bindings classes.
    record { name = name; is_package = is_package; is_stub = is_stub; has_fault = has_fault; bindings = bindings; classes = classes } in
    let a = and_parts ((((same_module i.name j.name && beq i.is_package j.is_package) && beq i.is_stub j.is_stub) && beq i.has_fault j.has_fault) && pointwise same_binding i.bindings j.bindings) (pointwise same_declared i.classes j.classes) same in
    let b = and_parts (((same_module i.name j.name && beq i.is_package j.is_package) && beq i.is_stub j.is_stub) && beq i.has_fault j.has_fault) (pointwise same_binding i.bindings j.bindings) a.0 in
    let c = and_parts ((same_module i.name j.name && beq i.is_package j.is_package) && beq i.is_stub j.is_stub) (beq i.has_fault j.has_fault) b.0 in
    let d = and_parts (same_module i.name j.name && beq i.is_package j.is_package) (beq i.is_stub j.is_stub) c.0 in
    let e = and_parts (same_module i.name j.name) (beq i.is_package j.is_package) d.0 in
    ap₂ (λ n p. made n p i.is_stub i.has_fault (map bare_binding i.bindings) (map bare_declared i.classes)) (paths_are i.name j.name e.0) (flags_are i.is_package j.is_package e.1)
    ∙ ap₂ (λ s f. made j.name j.is_package s f (map bare_binding i.bindings) (map bare_declared i.classes)) (flags_are i.is_stub j.is_stub d.1) (flags_are i.has_fault j.has_fault c.1)
    ∙ ap₂ (made j.name j.is_package j.is_stub j.has_fault) (rows_are same_binding bare_binding bindings_are i.bindings j.bindings b.1) (rows_are same_declared bare_declared declared_are i.classes j.classes a.1)
