-- The declaration of a name, and the bindings that define it again (Python reference 3.13, "Binding of names"; mypy's
-- documentation, "Check that each name is defined once").
use Rattle.std.specs.Prelude.{ℕ, Bool, true, false, not, ◌&&◌, bytes_eq, List, [], ◌∷◌, ◌++◌, Option, None, Some}
use Rattle.std.specs.Prelude.{if◌then◌else◌}
use Rattle.std.specs.List.{find}
use Rattle.pyc_ast.specs.declared.position.Position.{Position}
use Rattle.pyc_bindings.specs.Bindings.{Binding, BindingForm, function, class, annotated}
use Rattle.pyc_bindings.specs.Decorators.{has_other, has_setter}

-- the declaration of a name: its first binding
abbrev pub declaration : List Binding → List ℕ → Option Binding
declaration bindings name = find (λ b. bytes_eq b.name name) bindings

-- whether a binding stands under a decorator of which nothing is known
abbrev pub is_decorated : BindingForm → Bool
is_decorated (function head) = has_other head.decorators
is_decorated (class head) = has_other head.decorators
is_decorated _ = false

-- whether a binding defines its name: an annotated assignment does, and so do a class and a function, but for the
-- setter of a property and what stands under a decorator of which nothing is known
abbrev pub defines : BindingForm → Bool
defines (function head) = not (has_setter head.decorators) && not (has_other head.decorators)
defines (class head) = not (has_other head.decorators)
defines (annotated found) = true
defines _ = false

-- a name that is defined again: where, its name, and the line of its declaration
pub record Redefinition : Type 0 where
  pub at : Position
  pub name : List ℕ
  pub line : ℕ

-- whether a binding defines its name again, whose declaration is this one: not where it is guarded, or the declaration
-- stands under a decorator of which nothing is known
abbrev pub is_redefinition : Binding → Binding → Bool
is_redefinition first b = (defines b.form && not b.place.is_guarded) && not (is_decorated first.form)

abbrev pub redefinition : Option Binding → Binding → List Redefinition
redefinition None b = []
redefinition (Some first) b =
    if is_redefinition first b
    then record { at = b.place.at; name = b.name; line = first.place.at.line } ∷ []
    else []

-- the names that these bindings define again after earlier ones
abbrev pub redefinitions_after : List Binding → List Binding → List Redefinition
redefinitions_after earlier [] = []
redefinitions_after earlier (b ∷ later) =
    redefinition (declaration earlier b.name) b ++ redefinitions_after (earlier ++ (b ∷ [])) later

-- the names that the bindings of a scope define again, in text order
unfoldable pub redefinitions : List Binding → List Redefinition
redefinitions bindings = redefinitions_after [] bindings
