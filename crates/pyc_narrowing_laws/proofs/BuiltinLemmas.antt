-- The instances of builtin classes.
use Rattle.std.proofs.Common.{◌≡◌, Bool, true, false, ◌||◌, List, [], ◌∷◌, map, inl, inr, refl, ap, ◌∙◌, subst}
use Rattle.std.specs.List.{list_any}
use Rattle.std.proofs.lemmas.Bool.{false≢true, or_cases, or_left, or_right}
use Rattle.pyc_builtins.specs.MroTable.{builtin_order, builtin_orders}
use Rattle.pyc_class_ids.specs.declared.builtin_class.BuiltinClass.{BuiltinClass}
use Rattle.pyc_class_ids.specs.declared.builtin_class.BuiltinClass.TheVariants as class
use Rattle.pyc_class_ids.specs.Class.{Id, builtin, same_class}
use Rattle.pyc_class_ids.specs.Mro.{leads}
use Rattle.pyc_class_table.proofs.BuiltinLemmas.{same_class-is}
use Rattle.pyc_narrowing_laws.specs.TypeLaws.{BuiltinValuesMeetThePremises, RulesLoseValues}

-- each class of a row has the rest of the row as its order, itself at the front
abbrev IsChain : List BuiltinClass → Type 0
IsChain [] = Unit
IsChain (c ∷ rest) = (builtin_order c ≡ c ∷ rest) × IsChain rest

-- whether a class stands in a row
abbrev stands : List BuiltinClass → Id → Bool
stands row d = list_any (λ other. same_class other d) (map builtin row)

led : (c : BuiltinClass) (rest : List BuiltinClass) (d e : Id) → builtin_order c ≡ c ∷ rest → same_class (builtin c) d ≡ true
    → stands (c ∷ rest) e ≡ true → leads builtin_orders d e ≡ true
led c rest d e is same there =
    subst (λ x. leads builtin_orders x e ≡ true) (same_class-is (builtin c) d same) (ap (λ row. stands row e) is ∙ there)

in_chain : (row : List BuiltinClass) → IsChain row → (d e : Id) → stands row d ≡ true → stands row e ≡ true
    → leads builtin_orders d e || leads builtin_orders e d ≡ true
in_chain [] chain d e one other = absurd (false≢true one)
in_chain (c ∷ rest) chain d e one other = elim (or_cases (same_class (builtin c) d) (stands rest d) one) [
  | inl same ↦ or_left (leads builtin_orders d e) (leads builtin_orders e d) (led c rest d e chain.0 same other)
  | inr later ↦ elim (or_cases (same_class (builtin c) e) (stands rest e) other) [
    | inl same ↦ or_right (leads builtin_orders d e) (leads builtin_orders e d) (led c rest e d chain.0 same one)
    | inr there ↦ in_chain rest chain.1 d e later there
  ]
]

chain : (c : BuiltinClass) → IsChain (builtin_order c)
chain class.Object = (refl, tt)
chain class.Int = (refl, (refl, tt))
chain class.Float = (refl, (refl, tt))
chain class.Str = (refl, (refl, tt))
chain class.Bytes = (refl, (refl, tt))
chain class.List = (refl, (refl, tt))
chain class.Dict = (refl, (refl, tt))
chain class.Tuple = (refl, (refl, tt))
chain class.BaseException = (refl, (refl, tt))
chain class.Bool = (refl, (refl, (refl, tt)))
chain class.Exception = (refl, (refl, (refl, tt)))
chain class.LookupError = (refl, (refl, (refl, (refl, tt))))
chain class.ArithmeticError = (refl, (refl, (refl, (refl, tt))))
chain class.ValueError = (refl, (refl, (refl, (refl, tt))))
chain class.TypeError = (refl, (refl, (refl, (refl, tt))))
chain class.RuntimeError = (refl, (refl, (refl, (refl, tt))))
chain class.AssertionError = (refl, (refl, (refl, (refl, tt))))
chain class.KeyError = (refl, (refl, (refl, (refl, (refl, tt)))))
chain class.IndexError = (refl, (refl, (refl, (refl, (refl, tt)))))
chain class.ZeroDivisionError = (refl, (refl, (refl, (refl, (refl, tt)))))
chain class.OverflowError = (refl, (refl, (refl, (refl, (refl, tt)))))
chain class.NotImplementedError = (refl, (refl, (refl, (refl, (refl, tt)))))
chain class.RecursionError = (refl, (refl, (refl, (refl, (refl, tt)))))

pub builtin_values_meet_the_premises : BuiltinValuesMeetThePremises
builtin_values_meet_the_premises c fits = (in_chain (builtin_order c) (chain c), refl)

pub rules_lose_values : RulesLoseValues
rules_lose_values fits = ((refl, refl, refl), (refl, refl, refl), (refl, refl, refl))
