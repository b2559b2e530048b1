-- The parts of the module that a path names.
use Rattle.std.proofs.Common.{◌≡◌, ℕ, ◌-◌, ◌+◌, Bool, true, false, List, [], ◌∷◌, ◌++◌, ◌≤◌, not, length, take, map, unwrap_or, subst, Bor, Option, Some, None, MatchOption, nat_eq, bytes_eq, codes, refl, sym, ap, ◌∙◌, arith, append_assoc}
use Rattle.std.proofs.Math.Seq.{take-append_seam}
use Rattle.std.proofs.lemmas.Bool.Decides.{nat_tests}
use Rattle.std.proofs.lemmas.List.{map-append, length-append}
use Rattle.std.proofs.lemmas.Slice.Eq.{ends_is}
use Rattle.std.proofs.lemmas.Str.Pattern.{ends_text, strip_suffix_char}
use Rattle.std.specs.Str.Pattern.{FindsCharSuffix, FindsTextSuffix, StripsSuffix}
use Rattle.pyc_names.specs.ModuleName.{stem, file_part, spelled_parts, is_stub_path}

-- the last name of a path gives its part, and those before it stay
pub spelled_parts-push : (folders : List (List ℕ)) (name : List ℕ) → spelled_parts (folders ++ name ∷ []) ≡ folders ++ file_part name
spelled_parts-push [] name = refl
spelled_parts-push (x ∷ []) name = refl
spelled_parts-push (x ∷ y ∷ folders) name = ap (λ l. x ∷ l) (spelled_parts-push (y ∷ folders) name)

-- no names give no parts
pub spelled_parts-none : (names : List (List ℕ)) (all left : List (Bor (List ℕ))) → map (λ x. x.now) all ≡ names → length all ≡ 0 → length left ≡ 0 → map (λ x. x.now) left ≡ spelled_parts names
spelled_parts-none names [] [] e none none' = rw (← e)
spelled_parts-none names [] (y ∷ left) e none none' = absurd (omega arith)
spelled_parts-none names (x ∷ all) left e none none' = absurd (omega arith)

-- the last name of a path gives its part, and the folders are those before it
pub spelled_parts-last : (names : List (List ℕ)) (all folders : List (Bor (List ℕ))) (name : Bor (List ℕ)) → map (λ x. x.now) all ≡ names → all ≡ folders ++ name ∷ []
    → spelled_parts names ≡ map (λ x. x.now) folders ++ file_part name.now
spelled_parts-last names all folders name e is = rw (← e, is, map-append (λ (x : Bor (List ℕ)). x.now) folders (name ∷ [])) (spelled_parts-push (map (λ x. x.now) folders) name.now)

is_true : (b : Bool) → false ≡ not b → b ≡ true
is_true true e = refl
is_true false e = cc

is_false : (b : Bool) → true ≡ not b → b ≡ false
is_false true e = cc
is_false false e = refl

-- a file that is not `__init__.py` gives its name's stem
pub file_part_module : (name : List ℕ) → true ≡ not (bytes_eq name (codes "__init__.py")) → file_part name ≡ stem name ∷ []
file_part_module name other = rw (is_false _ other)

-- `__init__.py` gives nothing
pub file_part_folder : (name : List ℕ) → false ≡ not (bytes_eq name (codes "__init__.py")) → file_part name ≡ []
file_part_folder name same = rw (is_true _ same)

-- what is left of a name without its suffix, where it has one
pub stem_is : (name : Bor (List ℕ)) (r : Option (Bor (List ℕ))) → MatchOption r (FindsTextSuffix (codes ".py") name.now None) (λ x. StripsSuffix (FindsTextSuffix (codes ".py")) name.now x.now)
    → (unwrap_or r name).now ≡ stem name.now
stem_is name None h = rw (← ends_text false (codes ".py") name.now h)
stem_is name (Some x) h =
    let cut = subst (λ k. name.now ≡ take (length name.now - k) name.now ++ codes ".py") h.1.0 h.1.1 in
    let within : 3 ≤ length name.now = omega (arith, h.1.0, h.3) in
    h.2 ∙ rw (h.1.0, ← ends_text true (codes ".py") name.now (3, (refl, cut, h.1.2), within, h.1.2))

nat_decides : (a b : ℕ) → (nat_eq a b ≡ true → a ≡ b) × (a ≡ b → nat_eq a b ≡ true)
nat_decides a b = (λ e. grind (arith, nat_tests), λ e. grind (arith, nat_tests))

-- the path that a stub stands beside is what is left of its own without the last `i`
pub beside_is : (path : Bor (List ℕ)) (r : Option (Bor (List ℕ))) → MatchOption r (FindsCharSuffix 105 path.now None) (λ x. StripsSuffix (FindsCharSuffix 105) path.now x.now)
    → is_stub_path path.now ≡ true → (unwrap_or r path).now ≡ take (length path.now - 1) path.now
beside_is path None h stub =
    let front = take (length path.now - 4) path.now in
    let split : path.now ≡ front ++ codes ".pyi" = (ends_is nat_decides path.now (codes ".pyi") (is_stub_path path.now) refl).0 stub in
    absurd (strip_suffix_char 105 path.now None h (omega arith) (front ++ codes ".py") (split ∙ sym (append_assoc front (codes ".py") (105 ∷ []))))
beside_is path (Some x) h stub =
    let whole : path.now ≡ x.now ++ (105 ∷ []) = strip_suffix_char 105 path.now (Some x) h (omega arith) in
    let size : length path.now ≡ length x.now + 1 = ap length whole ∙ length-append x.now (105 ∷ []) in
    let one_less : length path.now - 1 ≡ length x.now = omega (arith, size) in
    sym (ap (λ k. take k path.now) one_less ∙ ap (take (length x.now)) whole ∙ take-append_seam x.now (105 ∷ []))
