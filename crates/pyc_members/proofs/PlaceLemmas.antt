-- The positions at which names are bound first, one binding more.
use Rattle.std.proofs.Common.{◌≡◌, ℕ, suc, ◌-◌, ◌<◌, ◌≤◌, Bool, true, false, cond, bytes_eq, refl, sym, ap, ◌∙◌, arith}
use Rattle.std.proofs.Common.{List, ◌∷◌, map, drop, drop-cons, length, get_or, Option, Some, option_map}
use Rattle.std.specs.HashMap.{HashMap}
use Rattle.pyc_ast.specs.declared.position.Position.{Position}
use Rattle.pyc_bindings.specs.declared.binding.Binding.{Binding as BindingOf}
use Rattle.pyc_bindings.specs.BindingView.{binding_of}
use Rattle.pyc_members.specs.DeclaredClasses.{first_place}
use Rattle.pyc_members.specs.DeclaredClassView.{places_in}

-- a choice of two that are mapped is the choice, mapped
option_map-cond : {X Y : Type 0} (f : X → Y) (b : Bool) (x : X) (r : Option X)
    → cond b (Some (f x)) (option_map f r) ≡ option_map f (cond b (Some x) r)
option_map-cond f true x r = refl
option_map-cond f false x r = refl

module _ {S : Type 0} (all : List BindingOf) (left : ℕ) (b : BindingOf) (old new : HashMap (List ℕ) Position S) where
  -- where the bindings from one on are placed, and the one before them is put in, those from that one on are placed
  pub first_place-more : 0 < left → left ≤ length all → b ≡ get_or all (left - 1) b
      → ((n : List ℕ) → places_in new n ≡ cond (bytes_eq b.name n) (Some b.place.at) (places_in old n))
      → places_in old ≡ first_place (map binding_of (drop left all))
      → places_in new ≡ first_place (map binding_of (drop (left - 1) all))
  first_place-more some within is put before =
      let below : left - 1 < length all = omega arith in
      let next : suc (left - 1) ≡ left = omega arith in
      let first : drop (left - 1) all ≡ b ∷ drop left all =
      drop-cons all (left - 1) b below ∙ ap (λ x. x ∷ drop (suc (left - 1)) all) (sym is)
      ∙ ap (λ n. b ∷ drop n all) next in
      let each : (n : List ℕ) → places_in new n ≡ first_place (map binding_of (b ∷ drop left all)) n =
      λ n. put n ∙ ap (λ f. cond (bytes_eq b.name n) (Some b.place.at) (f n)) before
      ∙ option_map-cond (λ x. x.place.at) (bytes_eq b.name n) (binding_of b) _ in
      (λ i n. each n i) ∙ ap (λ l. first_place (map binding_of l)) (sym first)
