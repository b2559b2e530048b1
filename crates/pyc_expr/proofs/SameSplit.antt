-- What a condition says depends on its parts alone.
use Rattle.std.proofs.Common.{◌≡◌, ◌≤◌, ℕ, Bool, true, false, ◌&&◌, List, [], ◌∷◌, ◌++◌, Option, None, Some, refl, ap, arith}
use Rattle.pyc_ast.specs.declared.operator.BooleanOperator.{BooleanOperator}
use Rattle.pyc_ast.specs.declared.operator.BooleanOperator.TheVariants as joins
use Rattle.pyc_ast.specs.declared.operator.UnaryOperator.{UnaryOperator}
use Rattle.pyc_ast.specs.declared.operator.UnaryOperator.TheVariants as changes
use Rattle.pyc_ast.specs.declared.position.Position.{Position}
use Rattle.pyc_ast.specs.Exprs.{Expr, expr, Form, Elements, no_element, another_element, element, Argument, Arguments, no_argument, another_argument, argument}
use Rattle.pyc_ast.specs.Exprs.{Comparison, comparison, Comparisons, no_comparison, another_comparison}
use Rattle.pyc_ast.specs.Exprs as form
use Rattle.pyc_class_ids.specs.Class.{Id}
use Rattle.pyc_expr.proofs.Same.{Agree, then_same, if_same}
use Rattle.pyc_expr_forms.specs.Contexts.{InferValue, looked_by}
use Rattle.pyc_expr.specs.Heights.{height, elements_height, argument_height, arguments_height}
use Rattle.pyc_narrowing.specs.Splitting.{Splits, look_quietly, class_at, if_class, more_classes, one_class, classes_at, isinstance_rule, call_result, callee_rule}
use Rattle.pyc_narrowing.specs.Splitting.{pair_rule, is_positional, two_arguments, call_rule, sense_of, is_none_literal, none_rule, sense_rule, compared_with_none, one_comparison}
use Rattle.pyc_narrowing.specs.Splitting.{comparison_rule, truth_rule, place_rule, not_rule, unary_rule, and_right, or_right, right_rule, boolean_rule, split, form_rule}
use Rattle.pyc_narrowing.specs.SplitStates.{SplitStates}
use Rattle.pyc_obligations.specs.Quiet.{quiet}
use Rattle.pyc_obligations.specs.Values.{SpecialForm, plain_special_form, fixed_special_form, reveal_type_special_form, isinstance_special_form}
use Rattle.pyc_places.specs.Places.{Place, place_of}
use Rattle.pyc_places.specs.States.{State, unreachable, reachable}
use Rattle.pyc_reading.specs.Traces.{Step}
use Rattle.pyc_reading.specs.Readings.{Done, and_then}

looked_same : (n : ℕ) (p q : InferValue) → Agree n p q → (s : State) (x : Expr) → height x ≤ n → look_quietly (looked_by p) s x ≡ look_quietly (looked_by q) s x
unfolding look_quietly
looked_same n p q same s x low = ap (λ (r : Step _). and_then (quiet r) (λ heard. Done heard.result)) (same s x None low)

-- ---- isinstance

class_same : (n : ℕ) (p q : InferValue) → Agree n p q → (s : State) (x : Expr) → height x ≤ n → class_at (looked_by p) s x ≡ class_at (looked_by q) s x
unfolding class_at
class_same n p q same s x low = then_same _ _ _ _ (looked_same n p q same s x low) (λ found. refl)

if_class_same : (class : Option Id) (f g : Id → Step (Option (List Id))) → ((c : Id) → f c ≡ g c) → if_class class f ≡ if_class class g
if_class_same (Some c) f g each = each c
if_class_same None f g each = refl

classes_same : (n : ℕ) (p q : InferValue) → Agree n p q → (s : State) (found : List Id) (xs : Elements) → elements_height xs ≤ n
    → more_classes (looked_by p) s found xs ≡ more_classes (looked_by q) s found xs
unfolding more_classes
classes_same n p q same s found no_element low = refl
classes_same n p q same s found (another_element (element true x) xs) low =
    then_same _ _ _ _ refl (λ class. if_class_same class _ _ (λ c. classes_same n p q same s (found ++ (c ∷ [])) xs (omega (arith, low))))
classes_same n p q same s found (another_element (element false x) xs) low =
    then_same _ _ _ _ (class_same n p q same s x (omega (arith, low)))
    (λ class. if_class_same class _ _ (λ c. classes_same n p q same s (found ++ (c ∷ [])) xs (omega (arith, low))))

one_class_same : (n : ℕ) (p q : InferValue) → Agree n p q → (s : State) (x : Expr) → height x ≤ n → one_class (looked_by p) s x ≡ one_class (looked_by q) s x
unfolding one_class
one_class_same n p q same s x low = then_same _ _ _ _ (class_same n p q same s x low) (λ class. refl)

classes_at_same : (n : ℕ) (p q : InferValue) → Agree n p q → (s : State) (x : Expr) → height x ≤ n → classes_at (looked_by p) s x ≡ classes_at (looked_by q) s x
classes_at_same n p q same s (expr at inside (form.tuple items)) low = classes_same n p q same s [] items (omega (arith, low))
classes_at_same n p q same s (expr at inside (form.name x)) low = one_class_same n p q same s _ low
classes_at_same n p q same s (expr at inside (form.constant x)) low = one_class_same n p q same s _ low
classes_at_same n p q same s (expr at inside (form.string_annotation x)) low = one_class_same n p q same s _ low
classes_at_same n p q same s (expr at inside (form.list x)) low = one_class_same n p q same s _ low
classes_at_same n p q same s (expr at inside (form.set x)) low = one_class_same n p q same s _ low
classes_at_same n p q same s (expr at inside (form.dict x)) low = one_class_same n p q same s _ low
classes_at_same n p q same s (expr at inside (form.unchecked x)) low = one_class_same n p q same s _ low
classes_at_same n p q same s (expr at inside (form.attribute x y)) low = one_class_same n p q same s _ low
classes_at_same n p q same s (expr at inside (form.call x y)) low = one_class_same n p q same s _ low
classes_at_same n p q same s (expr at inside (form.subscript x y)) low = one_class_same n p q same s _ low
classes_at_same n p q same s (expr at inside (form.unary x y)) low = one_class_same n p q same s _ low
classes_at_same n p q same s (expr at inside (form.binary x y z)) low = one_class_same n p q same s _ low
classes_at_same n p q same s (expr at inside (form.boolean x y z)) low = one_class_same n p q same s _ low
classes_at_same n p q same s (expr at inside (form.compare x y)) low = one_class_same n p q same s _ low
classes_at_same n p q same s (expr at inside (form.conditional x y z)) low = one_class_same n p q same s _ low
classes_at_same n p q same s (expr at inside (form.await x)) low = one_class_same n p q same s _ low
classes_at_same n p q same s (expr at inside (form.yield x)) low = one_class_same n p q same s _ low
classes_at_same n p q same s (expr at inside (form.yield_from x)) low = one_class_same n p q same s _ low

isinstance_same : (n : ℕ) (p q : InferValue) → Agree n p q → (s : State) (place : Place) (x y : Expr) → height x ≤ n → height y ≤ n
    → isinstance_rule (looked_by p) s place x y ≡ isinstance_rule (looked_by q) s place x y
unfolding isinstance_rule
isinstance_same n p q same s place x y low other =
    then_same _ _ _ _ (looked_same n p q same s x low) (λ found. then_same _ _ _ _ (classes_at_same n p q same s y other) (λ classes. refl))

called_same : (n : ℕ) (p q : InferValue) → Agree n p q → (s : State) (place : Place) (x y : Expr) (special_form : SpecialForm) → height x ≤ n → height y ≤ n
    → call_result (looked_by p) s place x y special_form ≡ call_result (looked_by q) s place x y special_form
called_same n p q same s place x y isinstance_special_form low other = isinstance_same n p q same s place x y low other
called_same n p q same s place x y plain_special_form low other = refl
called_same n p q same s place x y (fixed_special_form found) low other = refl
called_same n p q same s place x y reveal_type_special_form low other = refl

callee_same : (n : ℕ) (p q : InferValue) → Agree n p q → (s : State) (place : Place) (f x y : Expr) → height f ≤ n → height x ≤ n → height y ≤ n
    → callee_rule (looked_by p) s place f x y ≡ callee_rule (looked_by q) s place f x y
unfolding callee_rule
callee_same n p q same s place f x y least low other =
    then_same _ _ _ _ (looked_same n p q same s f least) (λ found. called_same n p q same s place x y found.special_form low other)

pair_same : (n : ℕ) (p q : InferValue) → Agree n p q → (s : State) (f x y : Expr) (place : Option Place) → height f ≤ n → height x ≤ n → height y ≤ n
    → pair_rule (looked_by p) s f x y place ≡ pair_rule (looked_by q) s f x y place
pair_same n p q same s f x y (Some place) least low other = callee_same n p q same s place f x y least low other
pair_same n p q same s f x y None least low other = refl

two_same : (n : ℕ) (p q : InferValue) → Agree n p q → (s : State) (f : Expr) (a b : Argument) → height f ≤ n → argument_height a ≤ n → argument_height b ≤ n
    → two_arguments (looked_by p) s f a b ≡ two_arguments (looked_by q) s f a b
two_same n p q same s f (argument at kind x) (argument other more y) least low next =
    if_same (is_positional kind && is_positional more) _ _ _ _ (pair_same n p q same s f x y (place_of x) least low next) refl

call_same : (n : ℕ) (p q : InferValue) → Agree n p q → (s : State) (f : Expr) (given : Arguments) → height f ≤ n → arguments_height given ≤ n
    → call_rule (looked_by p) s f given ≡ call_rule (looked_by q) s f given
call_same n p q same s f no_argument least low = refl
call_same n p q same s f (another_argument a no_argument) least low = refl
call_same n p q same s f (another_argument a (another_argument b no_argument)) least low = two_same n p q same s f a b least (omega (arith, low)) (omega (arith, low))
call_same n p q same s f (another_argument a (another_argument b (another_argument c rest))) least low = refl

-- ---- comparisons with None

none_same : (n : ℕ) (p q : InferValue) → Agree n p q → (s : State) (sense : Bool) (place : Place) (x : Expr) → height x ≤ n
    → none_rule (looked_by p) s sense place x ≡ none_rule (looked_by q) s sense place x
unfolding none_rule
none_same n p q same s sense place x low = then_same _ _ _ _ (looked_same n p q same s x low) (λ found. refl)

sense_same : (n : ℕ) (p q : InferValue) → Agree n p q → (s : State) (sense : Bool) (x : Expr) (place : Option Place) → height x ≤ n
    → sense_rule (looked_by p) s sense x place ≡ sense_rule (looked_by q) s sense x place
sense_same n p q same s sense x (Some place) low = none_same n p q same s sense place x low
sense_same n p q same s sense x None low = refl

compared_same : (n : ℕ) (p q : InferValue) → Agree n p q → (s : State) (x : Expr) (sense : Option Bool) → height x ≤ n
    → compared_with_none (looked_by p) s x sense ≡ compared_with_none (looked_by q) s x sense
compared_same n p q same s x (Some sense) low = sense_same n p q same s sense x (place_of x) low
compared_same n p q same s x None low = refl

one_same : (n : ℕ) (p q : InferValue) → Agree n p q → (s : State) (x : Expr) (c : Comparison) → height x ≤ n
    → one_comparison (looked_by p) s x c ≡ one_comparison (looked_by q) s x c
one_same n p q same s x (comparison operator y) low = if_same (is_none_literal y) _ _ _ _ (compared_same n p q same s x (sense_of operator) low) refl

comparisons_same : (n : ℕ) (p q : InferValue) → Agree n p q → (s : State) (x : Expr) (rest : Comparisons) → height x ≤ n
    → comparison_rule (looked_by p) s x rest ≡ comparison_rule (looked_by q) s x rest
comparisons_same n p q same s x no_comparison low = refl
comparisons_same n p q same s x (another_comparison c no_comparison) low = one_same n p q same s x c low
comparisons_same n p q same s x (another_comparison c (another_comparison d rest)) low = refl

-- ---- places

truth_same : (n : ℕ) (p q : InferValue) → Agree n p q → (s : State) (place : Place) (x : Expr) → height x ≤ n → truth_rule (looked_by p) s place x ≡ truth_rule (looked_by q) s place x
unfolding truth_rule
truth_same n p q same s place x low = then_same _ _ _ _ (looked_same n p q same s x low) (λ found. refl)

place_same : (n : ℕ) (p q : InferValue) → Agree n p q → (s : State) (x : Expr) (place : Option Place) → height x ≤ n → place_rule (looked_by p) s x place ≡ place_rule (looked_by q) s x place
place_same n p q same s x (Some place) low = truth_same n p q same s place x low
place_same n p q same s x None low = refl

-- ---- conditions of conditions

unary_same : (operator : UnaryOperator) (f g : Splits) (s : State) → ((t : State) → f t ≡ g t) → unary_rule operator f s ≡ unary_rule operator g s
unfolding not_rule
unary_same changes.Not f g s each = then_same _ _ _ _ (each s) (λ found. refl)
unary_same changes.UAdd f g s each = refl
unary_same changes.USub f g s each = refl
unary_same changes.Invert f g s each = refl

right_same : (operator : BooleanOperator) (f g : Splits) (first : SplitStates) → ((t : State) → f t ≡ g t) → right_rule operator f first ≡ right_rule operator g first
unfolding and_right or_right
right_same joins.And f g first each = then_same _ _ _ _ (each first.if_true) (λ second. refl)
right_same joins.Or f g first each = then_same _ _ _ _ (each first.if_false) (λ second. refl)

boolean_same : (operator : BooleanOperator) (f g h k : Splits) (s : State) → ((t : State) → f t ≡ h t) → ((t : State) → g t ≡ k t) → boolean_rule operator f g s ≡ boolean_rule operator h k s
unfolding boolean_rule
boolean_same operator f g h k s left right = then_same _ _ _ _ (left s) (λ first. right_same operator g k first right)

mutual
  pub split_same : (n : ℕ) (p q : InferValue) → Agree n p q → (s : State) (x : Expr) → height x ≤ n → split (looked_by p) s x ≡ split (looked_by q) s x
  split_same n p q same unreachable (expr at inside found) low = refl
  split_same n p q same (reachable narrowings) (expr at inside found) low = form_same n p q same (reachable narrowings) at inside found low

  form_same : (n : ℕ) (p q : InferValue) → Agree n p q → (s : State) (at inside : Position) (found : Form) → height (expr at inside found) ≤ n
      → form_rule (looked_by p) s (expr at inside found) found ≡ form_rule (looked_by q) s (expr at inside found) found
  form_same n p q same s at inside (form.constant x) low = refl
  form_same n p q same s at inside (form.unary operator x) low = unary_same operator _ _ s (λ t. split_same n p q same t x (omega (arith, low)))
  form_same n p q same s at inside (form.boolean operator x y) low =
      boolean_same operator _ _ _ _ s (λ t. split_same n p q same t x (omega (arith, low))) (λ t. split_same n p q same t y (omega (arith, low)))
  form_same n p q same s at inside (form.call f given) low = call_same n p q same s f given (omega (arith, low)) (omega (arith, low))
  form_same n p q same s at inside (form.compare x rest) low = comparisons_same n p q same s x rest (omega (arith, low))
  form_same n p q same s at inside (form.name x) low = place_same n p q same s _ _ low
  form_same n p q same s at inside (form.string_annotation x) low = place_same n p q same s _ _ low
  form_same n p q same s at inside (form.tuple x) low = place_same n p q same s _ _ low
  form_same n p q same s at inside (form.list x) low = place_same n p q same s _ _ low
  form_same n p q same s at inside (form.set x) low = place_same n p q same s _ _ low
  form_same n p q same s at inside (form.dict x) low = place_same n p q same s _ _ low
  form_same n p q same s at inside (form.unchecked x) low = place_same n p q same s _ _ low
  form_same n p q same s at inside (form.attribute x y) low = place_same n p q same s _ _ low
  form_same n p q same s at inside (form.subscript x y) low = place_same n p q same s _ _ low
  form_same n p q same s at inside (form.binary x y z) low = place_same n p q same s _ _ low
  form_same n p q same s at inside (form.conditional x y z) low = place_same n p q same s _ _ low
  form_same n p q same s at inside (form.await x) low = place_same n p q same s _ _ low
  form_same n p q same s at inside (form.yield x) low = place_same n p q same s _ _ low
  form_same n p q same s at inside (form.yield_from x) low = place_same n p q same s _ _ low
