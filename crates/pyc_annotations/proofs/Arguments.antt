-- How arguments of the code are read, by how many there are.
use Rattle.std.proofs.Common.{◌≡◌, ◌<◌, ◌≤◌, true, false, cond, List, [], ◌∷◌, length, map, get_or, refl, ap, sym, ◌∙◌, arith, rules}
use Rattle.pyc_annotations.specs.Annotations.{ArgumentReading, argument_readings, argument_reading, shape_reading, read_type}
use Rattle.pyc_annotations.specs.Annotations.{tuple_rule, callable_rule, callable_of, built_rule, form_rule, wrong_count, invalid, takes}
use Rattle.pyc_annotations.specs.Annotations.{subscripted_rule, form_subscripted}
use Rattle.pyc_annotations.specs.declared.type_form.TypeForm.{TypeForm}
use Rattle.pyc_annotations.specs.declared.type_form.TypeForm.TheVariants as type_form
use Rattle.pyc_ast.specs.declared.position.Position.{Position}
use Rattle.pyc_names.specs.Interfaces.{Interface}
use Rattle.pyc_type_exprs.specs.declared.forms.ArgumentShape.TheFolds.{the_lemmas}
use Rattle.pyc_type_exprs.specs.declared.forms.TypeArgument.{TypeArgument}
use Rattle.pyc_type_exprs.specs.TypeExprs.{DottedName, type_arguments, type_argument}
use Rattle.pyc_type_exprs.specs.TypeExprView.{type_argument_of, type_expr_of, shape_in}

-- how arguments of the code are read
abbrev pub readings_of : Interface → List TypeArgument → List ArgumentReading
readings_of file xs = argument_readings file (type_arguments (map type_argument_of xs))

abbrev pub reading_of : Interface → TypeArgument → ArgumentReading
reading_of file x = record { read = read_type file (type_expr_of x.written); shape = shape_reading file (shape_in x.shape) }

view_argument : (x : TypeArgument) → type_argument_of x ≡ type_argument (type_expr_of x.written) (shape_in x.shape)
view_argument x = search (rules, the_lemmas)

-- one is read as its parts are
pub one_reading : (file : Interface) (x : TypeArgument) → argument_reading file (type_argument_of x) ≡ reading_of file x
one_reading file x = ap (argument_reading file) (view_argument x)

-- as many are read as there are
pub length_readings : (file : Interface) (xs : List TypeArgument) → length (readings_of file xs) ≡ length xs
length_readings file [] = refl
length_readings file (x ∷ xs) = omega (arith, length_readings file xs)

-- two arguments
pub two_readings : (file : Interface) (xs : List TypeArgument) (a b : TypeArgument) → 2 ≤ length xs → length xs < 3
    → a ≡ get_or xs 0 a → b ≡ get_or xs 1 b → readings_of file xs ≡ reading_of file a ∷ reading_of file b ∷ []
two_readings file [] a b long short is next = absurd (omega arith)
two_readings file (x ∷ []) a b long short is next = absurd (omega arith)
two_readings file (x ∷ y ∷ []) a b long short is next =
    let first : argument_reading file (type_argument_of x) ≡ reading_of file a = one_reading file x ∙ ap (reading_of file) (sym is) in
    let second : argument_reading file (type_argument_of y) ≡ reading_of file b = one_reading file y ∙ ap (reading_of file) (sym next) in
    cc (first, second)
two_readings file (x ∷ y ∷ z ∷ xs) a b long short is next = absurd (omega arith)

-- a tuple of other than two arguments
pub tuple_other : (xs : List ArgumentReading) → (length xs ≡ 2 → ⊥) → tuple_rule xs ≡ built_rule type_form.Tuple xs
tuple_other [] other = refl
tuple_other (x ∷ []) other = refl
tuple_other (x ∷ y ∷ []) other = absurd (other refl)
tuple_other (x ∷ y ∷ z ∷ xs) other = refl

-- a callable of other than two arguments, and of two
pub callable_other : (at : Position) (xs : List ArgumentReading) → (length xs ≡ 2 → ⊥) → callable_rule at xs ≡ invalid at
callable_other at [] other = refl
callable_other at (x ∷ []) other = refl
callable_other at (x ∷ y ∷ []) other = absurd (other refl)
callable_other at (x ∷ y ∷ z ∷ xs) other = refl

pub callable_two : (file : Interface) (at : Position) (xs : List TypeArgument) (a b : TypeArgument) → 2 ≤ length xs → length xs < 3
    → a ≡ get_or xs 0 a → b ≡ get_or xs 1 b
    → callable_rule at (readings_of file xs) ≡ callable_of at (shape_reading file (shape_in a.shape)) (read_type file (type_expr_of b.written))
callable_two file at xs a b long short is next = ap (callable_rule at) (two_readings file xs a b long short is next)

-- a form with as many arguments as it takes, and with another number
pub form_taken : (at : Position) (name : DottedName) (xs : List ArgumentReading) (form : TypeForm) → takes form (length xs) ≡ true
    → subscripted_rule at name xs (form_subscripted form) ≡ form_rule at form xs
unfolding subscripted_rule
form_taken at name xs form is = ap (λ b. cond b (form_rule at form xs) (wrong_count at form)) is

pub form_not_taken : (at : Position) (name : DottedName) (xs : List ArgumentReading) (form : TypeForm) → takes form (length xs) ≡ false
    → subscripted_rule at name xs (form_subscripted form) ≡ wrong_count at form
unfolding subscripted_rule
form_not_taken at name xs form is = ap (λ b. cond b (form_rule at form xs) (wrong_count at form)) is
