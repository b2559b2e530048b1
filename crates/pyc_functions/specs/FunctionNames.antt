-- The names that a function binds (Python reference 3.13, "Naming and binding" and "The global statement").
use Rattle.std.specs.Prelude.{ℕ, Bool, false, not, bytes_eq, List, [], ◌∷◌, ◌++◌, filter, flat_map, map}
use Rattle.std.specs.List.{list_any}
use Rattle.pyc_ast.specs.Statements.{Parameter, StmtForm, Stmts}
use Rattle.pyc_ast.specs.Statements as plain
use Rattle.pyc_bindings.specs.Bindings.{Binding, bindings_of, bound, form_of, other}
use Rattle.pyc_bindings.specs.Scopes.{Part, PartForm, parts_of, placed}
use Rattle.pyc_bindings.specs.Scopes as part
use Rattle.pyc_functions.specs.Parameters.{ParameterType}
use Rattle.pyc_locals.specs.Locals.{Locals, declared, locals_of_names, with_local}

-- ---- names of the module

-- the names that a statement says to be the module's
abbrev pub form_globals : StmtForm → List (List ℕ)
form_globals (plain.global names) = names
form_globals _ = []

abbrev pub part_globals : PartForm → List (List ℕ)
part_globals (part.statement found) = form_globals (form_of found)
part_globals _ = []

abbrev pub global_names : Stmts → List (List ℕ)
global_names statements = flat_map (λ (found : Part). part_globals found.form) (parts_of statements false)

-- ---- bindings

-- a parameter as a binding
abbrev pub parameter_binding : Parameter → Binding
parameter_binding p = bound (placed p.at false) p.name other

abbrev pub is_among : List (List ℕ) → List ℕ → Bool
is_among names x = list_any (λ name. bytes_eq name x) names

-- whether a binding of a function, in which these names are the module's, binds a name of the function
abbrev pub is_own : List (List ℕ) → Binding → Bool
is_own globals b = not (is_among globals b.name)

-- the bindings of a function: those of its parameters and then those of its statements, without the names that are the
-- module's
unfoldable pub function_bindings : List Parameter → Stmts → List Binding
function_bindings parameters statements =
    filter (is_own (global_names statements)) (map parameter_binding parameters ++ bindings_of statements)

-- ---- locals

-- locals of which these parameters are declared; the first of a name stays
abbrev pub with_parameters : List ParameterType → Locals → Locals
with_parameters [] locals = locals
with_parameters (p ∷ rest) locals = with_parameters rest (with_local p.name (declared p.ty) locals)

-- each name that is bound is a local, and its parameters are declared
unfoldable pub function_locals : List ParameterType → List Binding → Locals
function_locals parameters bindings =
    with_parameters parameters (locals_of_names (map (λ (b : Binding). b.name) bindings))
