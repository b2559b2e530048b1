-- What heads, decorators, bases and values come to does not depend on their positions.
use Rattle.std.proofs.Common.{◌≡◌, ℕ, Bool, true, false, ◌||◌, List, [], ◌∷◌, ◌++◌, map, Option, None, Some, is_some, if◌then◌else◌, cond, bytes_eq, refl, sym, ap, ap₂, ◌∙◌}
use Rattle.std.specs.List.{find, list_any}
use Rattle.std.specs.Prelude.{option_map}
use Rattle.pyc_annotations.specs.Annotations.{read_type}
use Rattle.pyc_annotations.specs.Bases.{Base, invalid_base, unnamed, base_of_meaning, written_base, names_at, base, argument_base, base_of_argument, with_base, more_bases, bases}
use Rattle.pyc_annotations.specs.Meanings.{Meaning, class_meant, any_meant, type_meant, fixed_meant, module_meant, variable_meant, function_meant, nothing_meant}
use Rattle.pyc_annotations.specs.Annotations.{dotted_meaning}
use Rattle.pyc_annotations.specs.declared.meaning.Role.TheVariants as role
use Rattle.pyc_ast.specs.declared.constant.Constant.{Constant}
use Rattle.pyc_ast.specs.declared.constant.Constant.TheVariants as constant
use Rattle.pyc_ast.specs.declared.expr.ArgumentKind.{ArgumentKind}
use Rattle.pyc_ast.specs.declared.expr.ArgumentKind.TheVariants as argument_kind
use Rattle.pyc_ast.specs.declared.position.Position.{Position}
use Rattle.pyc_ast.specs.Exprs.{Expr, expr, at_of, Argument, argument}
use Rattle.pyc_ast.specs.Exprs as plain
use Rattle.pyc_ast.specs.Statements.{FunctionDefinition, Parameter}
use Rattle.pyc_bindings.specs.Bindings.{Binding, BindingForm, import, import_from, function, class, annotated, assigned, other}
use Rattle.pyc_bindings.specs.Decorators.{decorator_of, attribute_decorator, is_other, is_setter, has_other, has_setter}
use Rattle.pyc_bindings.specs.Redefinitions.{declaration, is_decorated}
use Rattle.pyc_declarations.specs.DeclaredTypes.{constant_type, literal_type, initialiser, type_or_any, initialiser_type}
use Rattle.pyc_interfaces.specs.BareExpressions.{nowhere, other_expr, bare, bare_argument, bare_constant, bare_value}
use Rattle.pyc_interfaces.specs.BareInterfaces.{bare_parameter, bare_function, bare_form, bare_binding}
use Rattle.pyc_interfaces.proofs.ReadingLemmas.{Same, SameNames, came, same_done, same_then, dotted_meaning-same, read_type-same}
use Rattle.pyc_interfaces.proofs.TypeLemmas.{names-bare, type_expr-bare}
use Rattle.pyc_members.specs.declared.method.MethodKind.TheVariants as method
use Rattle.pyc_members.specs.Methods.{is_property, is_static, is_class, has_property, has_static, has_class, method_kind}
use Rattle.pyc_names.specs.Interfaces.{Interface}
use Rattle.pyc_reading.specs.Answers.{Answer}
use Rattle.pyc_reading.specs.Keys.{Key}
use Rattle.pyc_reading.specs.Readings.{Done, and_then}
use Rattle.pyc_report.specs.NameTexts.{joined_names}
use Rattle.pyc_signatures.specs.Signatures.{kind_of, param_of_type, annotated_or, first_type, parameter_reading, more_params, parameters_reading, function_type_of, function_type}
use Rattle.pyc_type_exprs.specs.TypeExprs.{type_expr, dotted_names, innermost}
use Rattle.pyc_type_forms.specs.Types.{Ty, any}
use Rattle.pyc_type_forms.specs.TypeView.{ParamView}

-- ---- lists

pub find-map : {X : Type 0} (t : X → Bool) (g : X → X) → ((x : X) → t (g x) ≡ t x) → (xs : List X) → find t (map g xs) ≡ option_map g (find t xs)
find-map t g alike [] = refl
find-map t g alike (x ∷ xs) = ap (λ b. cond b (Some (g x)) (find t (map g xs))) (alike x) ∙ ap (cond (t x) (Some (g x))) (find-map t g alike xs) ∙ by (t x)
  where
    by : (b : Bool) → cond b (Some (g x)) (option_map g (find t xs)) ≡ option_map g (cond b (Some x) (find t xs))
    by true = refl
    by false = refl

pub any-map : {X : Type 0} (t : X → Bool) (g : X → X) → ((x : X) → t (g x) ≡ t x) → (xs : List X) → list_any t (map g xs) ≡ list_any t xs
any-map t g alike [] = refl
any-map t g alike (x ∷ xs) = ap₂ (λ a b. a || b) (alike x) (any-map t g alike xs)

pub is_some-map : {X Y : Type 0} (g : X → Y) (o : Option X) → is_some (option_map g o) ≡ is_some o
is_some-map g (Some x) = refl
is_some-map g None = refl

-- ---- decorators

attribute_decorator-bare : (e : Expr) (k : List ℕ) → attribute_decorator (bare e) k ≡ attribute_decorator e k
attribute_decorator-bare (expr at inside (plain.name x)) k = refl
attribute_decorator-bare (expr at inside (plain.constant c)) k = refl
attribute_decorator-bare (expr at inside (plain.string_annotation x)) k = refl
attribute_decorator-bare (expr at inside (plain.tuple xs)) k = refl
attribute_decorator-bare (expr at inside (plain.list xs)) k = refl
attribute_decorator-bare (expr at inside (plain.set xs)) k = refl
attribute_decorator-bare (expr at inside (plain.dict xs)) k = refl
attribute_decorator-bare (expr at inside (plain.unchecked o)) k = refl
attribute_decorator-bare (expr at inside (plain.attribute x n)) k = refl
attribute_decorator-bare (expr at inside (plain.call x xs)) k = refl
attribute_decorator-bare (expr at inside (plain.subscript x i)) k = refl
attribute_decorator-bare (expr at inside (plain.unary o x)) k = refl
attribute_decorator-bare (expr at inside (plain.binary o x y)) k = refl
attribute_decorator-bare (expr at inside (plain.boolean o x y)) k = refl
attribute_decorator-bare (expr at inside (plain.compare x xs)) k = refl
attribute_decorator-bare (expr at inside (plain.conditional t x y)) k = refl
attribute_decorator-bare (expr at inside (plain.await x)) k = refl
attribute_decorator-bare (expr at inside (plain.yield x)) k = refl
attribute_decorator-bare (expr at inside (plain.yield_from x)) k = refl

decorator-bare : (e : Expr) → decorator_of (bare e) ≡ decorator_of e
unfolding decorator_of
decorator-bare (expr at inside (plain.name x)) = refl
decorator-bare (expr at inside (plain.constant c)) = refl
decorator-bare (expr at inside (plain.string_annotation x)) = refl
decorator-bare (expr at inside (plain.tuple xs)) = refl
decorator-bare (expr at inside (plain.list xs)) = refl
decorator-bare (expr at inside (plain.set xs)) = refl
decorator-bare (expr at inside (plain.dict xs)) = refl
decorator-bare (expr at inside (plain.unchecked o)) = refl
decorator-bare (expr at inside (plain.attribute x n)) = attribute_decorator-bare x n
decorator-bare (expr at inside (plain.call x xs)) = refl
decorator-bare (expr at inside (plain.subscript x i)) = refl
decorator-bare (expr at inside (plain.unary o x)) = refl
decorator-bare (expr at inside (plain.binary o x y)) = refl
decorator-bare (expr at inside (plain.boolean o x y)) = refl
decorator-bare (expr at inside (plain.compare x xs)) = refl
decorator-bare (expr at inside (plain.conditional t x y)) = refl
decorator-bare (expr at inside (plain.await x)) = refl
decorator-bare (expr at inside (plain.yield x)) = refl
decorator-bare (expr at inside (plain.yield_from x)) = refl

pub has_other-bare : (ds : List Expr) → has_other (map bare ds) ≡ has_other ds
has_other-bare ds = any-map (λ x. is_other (decorator_of x)) bare (λ x. ap is_other (decorator-bare x)) ds

pub has_setter-bare : (ds : List Expr) → has_setter (map bare ds) ≡ has_setter ds
has_setter-bare ds = any-map (λ x. is_setter (decorator_of x)) bare (λ x. ap is_setter (decorator-bare x)) ds

pub method_kind-bare : (ds : List Expr) → method_kind (map bare ds) ≡ method_kind ds
unfolding method_kind
method_kind-bare ds =
    ap (λ b. if b then method.Property else if has_static (map bare ds) then method.Static else if has_class (map bare ds) then method.Class else method.Plain)
    (any-map (λ x. is_property (decorator_of x)) bare (λ x. ap is_property (decorator-bare x)) ds)
    ∙ ap (λ b. if has_property ds then method.Property else if b then method.Static else if has_class (map bare ds) then method.Class else method.Plain)
    (any-map (λ x. is_static (decorator_of x)) bare (λ x. ap is_static (decorator-bare x)) ds)
    ∙ ap (λ b. if has_property ds then method.Property else if has_static ds then method.Static else if b then method.Class else method.Plain)
    (any-map (λ x. is_class (decorator_of x)) bare (λ x. ap is_class (decorator-bare x)) ds)

-- ---- bindings

pub is_decorated-bare : (form : BindingForm) → is_decorated (bare_form form) ≡ is_decorated form
is_decorated-bare (import path) = refl
is_decorated-bare (import_from dots path n) = refl
is_decorated-bare (function head) = has_other-bare head.decorators
is_decorated-bare (class head) = has_other-bare head.decorators
is_decorated-bare (annotated found) = refl
is_decorated-bare (assigned value) = refl
is_decorated-bare other = refl

pub declaration-bare : (bindings : List Binding) (n : List ℕ) → declaration (map bare_binding bindings) n ≡ option_map bare_binding (declaration bindings n)
declaration-bare bindings n = find-map (λ b. bytes_eq b.name n) bare_binding (λ b. refl) bindings

pub is_bound-bare : (bindings : List Binding) (n : List ℕ) → is_some (declaration (map bare_binding bindings) n) ≡ is_some (declaration bindings n)
is_bound-bare bindings n = ap is_some (declaration-bare bindings n) ∙ is_some-map bare_binding (declaration bindings n)

-- ---- values

constant_type-bare : (c : Constant) → constant_type (bare_constant c) ≡ constant_type c
constant_type-bare constant.None = refl
constant_type-bare constant.True = refl
constant_type-bare constant.False = refl
constant_type-bare constant.Ellipsis = refl
constant_type-bare (constant.Integer d) = refl
constant_type-bare constant.Float = refl
constant_type-bare constant.Imaginary = refl
constant_type-bare constant.Str = refl
constant_type-bare constant.FormattedStr = refl
constant_type-bare constant.Bytes = refl

literal_type-bare : (e : Expr) → literal_type (bare_value e) ≡ literal_type e
literal_type-bare (expr at inside (plain.name x)) = refl
literal_type-bare (expr at inside (plain.constant c)) = constant_type-bare c
literal_type-bare (expr at inside (plain.string_annotation x)) = refl
literal_type-bare (expr at inside (plain.tuple xs)) = refl
literal_type-bare (expr at inside (plain.list xs)) = refl
literal_type-bare (expr at inside (plain.set xs)) = refl
literal_type-bare (expr at inside (plain.dict xs)) = refl
literal_type-bare (expr at inside (plain.unchecked o)) = refl
literal_type-bare (expr at inside (plain.attribute x n)) = refl
literal_type-bare (expr at inside (plain.call x xs)) = refl
literal_type-bare (expr at inside (plain.subscript x i)) = refl
literal_type-bare (expr at inside (plain.unary o x)) = refl
literal_type-bare (expr at inside (plain.binary o x y)) = refl
literal_type-bare (expr at inside (plain.boolean o x y)) = refl
literal_type-bare (expr at inside (plain.compare x xs)) = refl
literal_type-bare (expr at inside (plain.conditional t x y)) = refl
literal_type-bare (expr at inside (plain.await x)) = refl
literal_type-bare (expr at inside (plain.yield x)) = refl
literal_type-bare (expr at inside (plain.yield_from x)) = refl

pub initialiser_type-bare : (e : Expr) → initialiser_type (bare_value e) ≡ initialiser_type e
initialiser_type-bare e = ap (λ o. type_or_any (initialiser o)) (literal_type-bare e)

-- ---- readings

module _ (f : Key → Answer) (file twin : Interface) (one : SameNames file twin) where
  pub annotation-same : (e : Expr) → Same f (read_type file (type_expr e)) (read_type twin (type_expr (bare e)))
  annotation-same e = read_type-same f file twin one (type_expr e) ∙ ap (λ t. came f (read_type twin t)) (sym (type_expr-bare e))

  annotated_or-same : (ty : Ty) (o : Option Expr) → Same f (annotated_or file ty o) (annotated_or twin ty (option_map bare o))
  annotated_or-same ty None = refl
  annotated_or-same ty (Some e) =
      same_then f (read_type file (type_expr e)) (read_type twin (type_expr (bare e))) (λ found. Done found.ty) (λ found. Done found.ty) (annotation-same e) (λ found. refl)

  param-bare : (p : Parameter) (ty : Ty) → param_of_type p ty ≡ param_of_type (bare_parameter p) ty
  param-bare p ty =
      let made : Bool → ParamView = λ b. record { slot = record { kind = kind_of p.kind p.name; is_optional = b }; ty = ty } in
      ap made (sym (is_some-map (λ x. other_expr) p.default))

  parameter-same : (receiver : Ty) (p : Parameter) → Same f (parameter_reading file receiver p) (parameter_reading twin receiver (bare_parameter p))
  unfolding parameter_reading
  parameter-same receiver p =
      same_then f (annotated_or file (first_type receiver p.kind) p.annotation) (annotated_or twin (first_type receiver p.kind) (option_map bare p.annotation))
      (λ ty. Done (param_of_type p ty)) (λ ty. Done (param_of_type (bare_parameter p) ty)) (annotated_or-same (first_type receiver p.kind) p.annotation) (λ ty. same_done f (param_of_type p ty) (param_of_type (bare_parameter p) ty) (param-bare p ty))

  more_params-same : (found : List ParamView) (ps : List Parameter) → Same f (more_params file found ps) (more_params twin found (map bare_parameter ps))
  unfolding more_params
  more_params-same found [] = refl
  more_params-same found (p ∷ ps) =
      same_then f (parameter_reading file any p) (parameter_reading twin any (bare_parameter p))
      (λ param. more_params file (found ++ (param ∷ [])) ps) (λ param. more_params twin (found ++ (param ∷ [])) (map bare_parameter ps))
      (parameter-same any p) (λ param. more_params-same (found ++ (param ∷ [])) ps)

  parameters-same : (receiver : Ty) (ps : List Parameter) → Same f (parameters_reading file receiver ps) (parameters_reading twin receiver (map bare_parameter ps))
  parameters-same receiver [] = refl
  parameters-same receiver (p ∷ ps) =
      same_then f (parameter_reading file receiver p) (parameter_reading twin receiver (bare_parameter p))
      (λ param. more_params file (param ∷ []) ps) (λ param. more_params twin (param ∷ []) (map bare_parameter ps))
      (parameter-same receiver p) (λ param. more_params-same (param ∷ []) ps)

  pub function_type-same : (receiver : Ty) (head : FunctionDefinition) → Same f (function_type file receiver head) (function_type twin receiver (bare_function head))
  unfolding function_type
  function_type-same receiver head =
      same_then f (parameters_reading file receiver head.parameters) (parameters_reading twin receiver (map bare_parameter head.parameters))
      (λ params. and_then (annotated_or file any head.returns) (λ result. Done (function_type_of head.is_async params result)))
      (λ params. and_then (annotated_or twin any (option_map bare head.returns)) (λ result. Done (function_type_of head.is_async params result)))
      (parameters-same receiver head.parameters)
      (λ params. same_then f (annotated_or file any head.returns) (annotated_or twin any (option_map bare head.returns))
      (λ result. Done (function_type_of head.is_async params result)) (λ result. Done (function_type_of head.is_async params result)) (annotated_or-same any head.returns) (λ result. refl))

  -- ---- bases

  invalid_base-same : (at there : Position) (shown : List ℕ) → Same f (invalid_base at shown) (invalid_base there shown)
  unfolding invalid_base
  invalid_base-same at there shown = refl

  base_of_meaning-same : (at there : Position) (names : List ℕ) (m : Meaning) → Same f (base_of_meaning at names m) (base_of_meaning there names m)
  unfolding base_of_meaning
  base_of_meaning-same at there names (class_meant c) = refl
  base_of_meaning-same at there names any_meant = refl
  base_of_meaning-same at there names type_meant = refl
  base_of_meaning-same at there names (fixed_meant found) = refl
  base_of_meaning-same at there names (variable_meant true) = refl
  base_of_meaning-same at there names (function_meant true) = refl
  base_of_meaning-same at there names (module_meant m) = invalid_base-same at there names
  base_of_meaning-same at there names (variable_meant false) = invalid_base-same at there names
  base_of_meaning-same at there names (function_meant false) = invalid_base-same at there names
  base_of_meaning-same at there names nothing_meant = invalid_base-same at there names

  written_base-same : (at inside there within : Position) (names : Option (List (List ℕ))) → Same f (written_base file at inside names) (written_base twin there within names)
  written_base-same at inside there within (Some names) =
      same_then f (dotted_meaning role.Base file inside names) (dotted_meaning role.Base twin within names) (base_of_meaning at (joined_names names)) (base_of_meaning there (joined_names names))
      (dotted_meaning-same f role.Base file twin one inside within names) (base_of_meaning-same at there (joined_names names))
  written_base-same at inside there within None = invalid_base-same at there unnamed

  base-same : (e : Expr) → Same f (base file e) (base twin (bare e))
  unfolding base
  base-same e =
      written_base-same (at_of e) (names_at e) (at_of (bare e)) (names_at (bare e)) (dotted_names (innermost e))
      ∙ ap (λ n. came f (written_base twin (at_of (bare e)) (names_at (bare e)) n)) (sym (names-bare e))

  argument_base-same : (at there : Position) (kind : ArgumentKind) (e : Expr) → Same f (argument_base file at kind e) (argument_base twin there kind (bare e))
  argument_base-same at there argument_kind.Positional e = same_then f (base file e) (base twin (bare e)) (λ found. Done (Some found)) (λ found. Done (Some found)) (base-same e) (λ found. refl)
  argument_base-same at there argument_kind.Starred e =
      same_then f (invalid_base at unnamed) (invalid_base there unnamed) (λ found. Done (Some found)) (λ found. Done (Some found)) (invalid_base-same at there unnamed) (λ found. refl)
  argument_base-same at there (argument_kind.Keyword n) e = refl
  argument_base-same at there argument_kind.DoubleStarred e = refl

  base_of_argument-same : (x : Argument) → Same f (base_of_argument file x) (base_of_argument twin (bare_argument x))
  unfolding base_of_argument
  base_of_argument-same (argument at kind e) = argument_base-same at nowhere kind e

  more_bases-same : (found : List Base) (xs : List Argument) → Same f (more_bases file found xs) (more_bases twin found (map bare_argument xs))
  unfolding more_bases
  more_bases-same found [] = refl
  more_bases-same found (x ∷ xs) =
      same_then f (base_of_argument file x) (base_of_argument twin (bare_argument x)) (λ more. more_bases file (with_base found more) xs) (λ more. more_bases twin (with_base found more) (map bare_argument xs))
      (base_of_argument-same x) (λ more. more_bases-same (with_base found more) xs)

  pub bases-same : (xs : List Argument) → Same f (bases file xs) (bases twin (map bare_argument xs))
  bases-same xs = more_bases-same [] xs
