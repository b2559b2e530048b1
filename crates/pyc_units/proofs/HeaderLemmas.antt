-- Bindings of a file, one more.
use Rattle.std.proofs.Common.{◌≡◌, ℕ, suc, ◌+◌, ◌<◌, map, take, drop, length, get_or, add-one, drop-cons, List, [], ◌∷◌, ◌++◌, sym, ap, ◌∙◌}
use Rattle.std.proofs.lemmas.List.{take_more, map-append}
use Rattle.pyc_bindings.specs.Bindings.{Binding}
use Rattle.pyc_bindings.specs.BindingView.{binding_of}
use Rattle.pyc_bindings.specs.declared.binding.Binding.{Binding as BindingOf}
use Rattle.pyc_units.specs.Header.{binding_reading, cycles_after}
use Rattle.pyc_names.specs.SourceFiles.{SourceFile}
use Rattle.pyc_reading.proofs.RunLemmas.{run_then}
use Rattle.pyc_reading.specs.Traces.{Trace, run}

-- what is left to do from a binding on comes to what is left from the next on, at the trace after the binding
pub cycles_turn : (file : SourceFile) (bs : List BindingOf) (earlier : List Binding) (i : ℕ) (b : BindingOf) (trace middle : Trace) (u : Unit {0}) → i < length bs → b ≡ get_or bs i b
    → earlier ≡ map binding_of (take i bs) → run (binding_reading file earlier (binding_of b)) trace ≡ (u, middle)
    → run (cycles_after file (map binding_of (take i bs)) (map binding_of (drop i bs))) trace
    ≡ run (cycles_after file (map binding_of (take (i + 1) bs)) (map binding_of (drop (i + 1) bs))) middle
cycles_turn file bs earlier i b trace middle u within is before first =
    let left : drop i bs ≡ b ∷ drop (i + 1) bs = rw add-one (drop-cons bs i b within ∙ ap (λ x. x ∷ drop (suc i) bs) (sym is)) in
    let done : take (i + 1) bs ≡ take i bs ++ b ∷ [] = take_more bs i b within ∙ ap (λ x. take i bs ++ x ∷ []) (sym is) in
    let mapped : map binding_of (take (i + 1) bs) ≡ map binding_of (take i bs) ++ (binding_of b ∷ []) = ap (map binding_of) done ∙ map-append binding_of (take i bs) (b ∷ []) in
    let later = map binding_of (drop (i + 1) bs) in
    let rest = cycles_after file (map binding_of (take i bs) ++ (binding_of b ∷ [])) later in
    ap (λ l. run (cycles_after file (map binding_of (take i bs)) (map binding_of l)) trace) left
    ∙ run_then (binding_reading file (map binding_of (take i bs)) (binding_of b)) (λ v. rest) trace
    ∙ ap (λ (found : Unit {0} × Trace). run rest found.1) (ap (λ l. run (binding_reading file l (binding_of b)) trace) (sym before) ∙ first)
    ∙ ap (λ l. run (cycles_after file l later) middle) (sym mapped)
