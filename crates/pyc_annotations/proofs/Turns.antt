-- One turn of the loops that perform readings in turn.
use Rattle.std.proofs.Common.{◌≡◌, ℕ, ◌+◌, ◌<◌, List, [], ◌∷◌, ◌++◌, length, map, drop, get_or, Option, refl, ap, sym, ◌∙◌}
use Rattle.pyc_annotations.specs.Annotations.{Annotation, ArgumentReading, annotation_of_type, more_types, more_unions, read_type, type_readings, union_rule}
use Rattle.pyc_annotations.specs.Bases.{Base, base_of_argument, more_bases, with_base}
use Rattle.pyc_annotations.proofs.Arguments.{readings_of, one_reading}
use Rattle.pyc_ast.specs.declared.expr.Argument.{Argument}
use Rattle.pyc_ast.specs.ExprView.{argument_of}
use Rattle.pyc_names.specs.Interfaces.{Interface}
use Rattle.pyc_reading.proofs.RunLemmas.{one_turn, run_then}
use Rattle.pyc_reading.specs.Traces.{Step, Trace, run}
use Rattle.pyc_reading.specs.Readings.{Done, and_then}
use Rattle.pyc_type_exprs.specs.declared.forms.TypeArgument.{TypeArgument}
use Rattle.pyc_type_exprs.specs.declared.forms.TypeExpr.{TypeExpr}
use Rattle.pyc_type_exprs.specs.TypeExprs.{TypeExpr as Written, type_exprs, union_written, unions_written}
use Rattle.pyc_type_exprs.specs.TypeExprView.{type_expr_of}
use Rattle.pyc_type_forms.specs.Types.{Ty}
use Rattle.pyc_type_forms.specs.Unions.{union_of}

-- the types of arguments
abbrev pub arguments_left : Interface → List TypeArgument → List (Step Annotation)
arguments_left file xs = map (λ a. a.read) (readings_of file xs)

abbrev pub types_left : Interface → List TypeExpr → List (Step Annotation)
types_left file xs = type_readings file (type_exprs (map type_expr_of xs))

more_argument : (file : Interface) (tys : List Ty) (x : TypeArgument) (xs : List TypeArgument)
    → more_types tys (arguments_left file (x ∷ xs))
    ≡ and_then (read_type file (type_expr_of x.written)) (λ found. more_types (tys ++ (found.ty ∷ [])) (arguments_left file xs))
unfolding more_types
more_argument file tys x xs =
    ap (λ (r : ArgumentReading). and_then r.read (λ found. more_types (tys ++ (found.ty ∷ [])) (arguments_left file xs))) (one_reading file x)

pub argument_turn : (file : Interface) (tys more : List Ty) (xs : List TypeArgument) (i : ℕ) (x : TypeArgument) (found : Annotation) (trace middle : Trace)
    → i < length xs → x ≡ get_or xs i x → run (read_type file (type_expr_of x.written)) trace ≡ (found, middle)
    → more ≡ tys ++ (found.ty ∷ [])
    → run (more_types more (arguments_left file (drop (i + 1) xs))) middle ≡ run (more_types tys (arguments_left file (drop i xs))) trace
argument_turn file tys more xs i x found trace middle within is first pushed =
    ap (λ l. run (more_types l (arguments_left file (drop (i + 1) xs))) middle) pushed
    ∙ sym (one_turn (λ l. more_types tys (arguments_left file l)) (λ y. read_type file (type_expr_of y.written))
    (λ a l. more_types (tys ++ (a.ty ∷ [])) (arguments_left file l)) (more_argument file tys) xs i x trace middle found within is first)

-- the types in a list
more_type : (file : Interface) (tys : List Ty) (x : TypeExpr) (xs : List TypeExpr)
    → more_types tys (types_left file (x ∷ xs))
    ≡ and_then (read_type file (type_expr_of x)) (λ found. more_types (tys ++ (found.ty ∷ [])) (types_left file xs))
unfolding more_types
more_type file tys x xs = refl

pub type_turn : (file : Interface) (tys more : List Ty) (xs : List TypeExpr) (i : ℕ) (x : TypeExpr) (found : Annotation) (trace middle : Trace)
    → i < length xs → x ≡ get_or xs i x → run (read_type file (type_expr_of x)) trace ≡ (found, middle)
    → more ≡ tys ++ (found.ty ∷ [])
    → run (more_types more (types_left file (drop (i + 1) xs))) middle ≡ run (more_types tys (types_left file (drop i xs))) trace
type_turn file tys more xs i x found trace middle within is first pushed =
    ap (λ l. run (more_types l (types_left file (drop (i + 1) xs))) middle) pushed
    ∙ sym (one_turn (λ l. more_types tys (types_left file l)) (λ y. read_type file (type_expr_of y))
    (λ a l. more_types (tys ++ (a.ty ∷ [])) (types_left file l)) (more_type file tys) xs i x trace middle found within is first)

-- what stands right of `|`
abbrev joined_right : Annotation → Step Annotation → Step Annotation
joined_right left read = and_then read (λ right. Done (annotation_of_type (union_of (left.ty ∷ right.ty ∷ []))))

more_union : (file : Interface) (left : Annotation) (x : TypeExpr) (xs : List TypeExpr)
    → more_unions left (types_left file (x ∷ xs))
    ≡ and_then (joined_right left (read_type file (type_expr_of x))) (λ joined. more_unions joined (types_left file xs))
unfolding more_unions
more_union file left x xs = refl

pub union_turn : (file : Interface) (left more : Annotation) (xs : List TypeExpr) (i : ℕ) (x : TypeExpr) (trace middle : Trace)
    → i < length xs → x ≡ get_or xs i x
    → run (and_then (read_type file (type_expr_of x)) (λ right. Done (annotation_of_type (union_of (left.ty ∷ right.ty ∷ []))))) trace ≡ (more, middle)
    → run (more_unions more (types_left file (drop (i + 1) xs))) middle ≡ run (more_unions left (types_left file (drop i xs))) trace
union_turn file left more xs i x trace middle within is first =
    sym (one_turn (λ l. more_unions left (types_left file l)) (λ y. joined_right left (read_type file (type_expr_of y)))
    (λ a l. more_unions a (types_left file l)) (more_union file left) xs i x trace middle more within is first)

-- a union is read from its first on
pub union_readings : (file : Interface) (first : Written) (rest : List TypeExpr) (trace : Trace)
    → run (read_type file (unions_written first (map type_expr_of rest))) trace
    ≡ run (and_then (read_type file first) (λ left. more_unions left (types_left file rest))) trace
unfolding more_unions union_rule
union_readings file first [] trace = sym (run_then (read_type file first) (λ left. more_unions left []) trace)
union_readings file first (x ∷ rest) trace =
    let left = read_type file first in
    let right = read_type file (type_expr_of x) in
    let more : Annotation → Step Annotation = λ joined. more_unions joined (types_left file rest) in
    let found = run left trace in
    union_readings file (union_written first (type_expr_of x)) rest trace
    ∙ run_then (union_rule left right) more trace
    ∙ ap (λ (joined : Annotation × Trace). run (more joined.0) joined.1) (run_then left (λ l. joined_right l right) trace)
    ∙ sym (run_then left (λ l. and_then (joined_right l right) more) trace ∙ run_then (joined_right found.0 right) more found.1)

-- the bases of a class
more_base : (file : Interface) (bases : List Base) (x : Argument) (xs : List Argument)
    → more_bases file bases (map argument_of (x ∷ xs))
    ≡ and_then (base_of_argument file (argument_of x)) (λ more. more_bases file (with_base bases more) (map argument_of xs))
unfolding more_bases
more_base file bases x xs = refl

pub base_turn : (file : Interface) (bases more : List Base) (xs : List Argument) (i : ℕ) (x : Argument) (found : Option Base) (trace middle : Trace)
    → i < length xs → x ≡ get_or xs i x → run (base_of_argument file (argument_of x)) trace ≡ (found, middle)
    → more ≡ with_base bases found
    → run (more_bases file more (map argument_of (drop (i + 1) xs))) middle ≡ run (more_bases file bases (map argument_of (drop i xs))) trace
base_turn file bases more xs i x found trace middle within is first pushed =
    ap (λ l. run (more_bases file l (map argument_of (drop (i + 1) xs))) middle) pushed
    ∙ sym (one_turn (λ l. more_bases file bases (map argument_of l)) (λ y. base_of_argument file (argument_of y))
    (λ a l. more_bases file (with_base bases a) (map argument_of l)) (more_base file bases) xs i x trace middle found within is first)
