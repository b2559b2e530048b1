-- Where names are bound first (Python reference 3.13, "Binding of names").
use Rattle.std.specs.Prelude.{ℕ, bytes_eq, List, Option}
use Rattle.std.specs.List.{position_from}
use Rattle.pyc_bindings.specs.Bindings.{Binding}

-- the place of a name's declaration, its first binding, among bindings
abbrev pub declaration_place : List Binding → List ℕ → Option ℕ
declaration_place bindings name = position_from (λ b. bytes_eq b.name name) 0 bindings
