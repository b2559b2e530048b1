-- The names that bindings define again, one binding more.
use Rattle.std.proofs.Common.{◌≡◌, ℕ, suc, ◌+◌, ◌<◌, List, [], ◌∷◌, ◌++◌, map, take, drop, length, get_or, Option}
use Rattle.std.proofs.Common.{sym, ap, ◌∙◌, arith, append_assoc, drop-cons}
use Rattle.std.proofs.lemmas.List.{map_more, take-map}
use Rattle.pyc_bindings.specs.Bindings.{Binding}
use Rattle.pyc_bindings.specs.BindingView.{binding_of}
use Rattle.pyc_bindings.specs.Redefinitions.{Redefinition, declaration, redefinition, redefinitions_after}
use Rattle.pyc_bindings.specs.declared.binding.Binding.{Binding as BindingOf}

-- where what was found so far, with what the bindings from one on define again, is all, so it is with that one found
pub again_more : (bindings : List BindingOf) (i : ℕ) (b : BindingOf) (first : Option Binding) (all old new : List Redefinition)
    → i < length bindings → b ≡ get_or bindings i b
    → first ≡ declaration (take i (map binding_of bindings)) b.name → new ≡ old ++ redefinition first (binding_of b)
    → old ++ redefinitions_after (map binding_of (take i bindings)) (map binding_of (drop i bindings)) ≡ all
    → new ++ redefinitions_after (map binding_of (take (i + 1) bindings)) (map binding_of (drop (i + 1) bindings)) ≡ all
again_more bindings i b first all old new within is declared put before =
    let earlier : List Binding = map binding_of (take i bindings) in
    let later : List Binding = map binding_of (drop (i + 1) bindings) in
    let here : first ≡ declaration earlier b.name =
    declared ∙ ap (λ l. declaration l b.name) (take-map binding_of i bindings) in
    let more : map binding_of (take (i + 1) bindings) ≡ earlier ++ binding_of b ∷ [] =
    map_more binding_of bindings i b within ∙ ap (λ x. earlier ++ binding_of x ∷ []) (sym is) in
    let next : suc i ≡ i + 1 = omega arith in
    let onward : drop i bindings ≡ b ∷ drop (i + 1) bindings =
    drop-cons bindings i b within ∙ ap (λ x. x ∷ drop (suc i) bindings) (sym is) ∙ ap (λ n. b ∷ drop n bindings) next in
    ap (λ l. l ++ redefinitions_after (map binding_of (take (i + 1) bindings)) later) put
    ∙ ap (λ l. (old ++ redefinition first (binding_of b)) ++ redefinitions_after l later) more
    ∙ append_assoc old (redefinition first (binding_of b)) (redefinitions_after (earlier ++ binding_of b ∷ []) later)
    ∙ ap (λ f. old ++ (redefinition f (binding_of b) ++ redefinitions_after (earlier ++ binding_of b ∷ []) later)) here
    ∙ ap (λ l. old ++ redefinitions_after earlier (map binding_of l)) (sym onward) ∙ before
