-- The units of a file with their numbers, one more.
use Rattle.std.proofs.Common.{◌≡◌, ℕ, suc, ◌+◌, ◌<◌, List, [], ◌∷◌, ◌++◌, map, take, length, get_or, refl, sym, ap, ◌∙◌, arith}
use Rattle.std.proofs.lemmas.List.{map-append, take_more}
use Rattle.pyc_body.specs.FileUnits.{FileUnit, number_units}
use Rattle.pyc_names.specs.SourceFiles.{SourceFile}
use Rattle.pyc_units.specs.declared.unit.Unit.{Unit as UnitOf}
use Rattle.pyc_units.specs.UnitView.{unit_of}
use Rattle.pyc_units.specs.Units.{Unit}

unit_at : SourceFile → ℕ → Unit → FileUnit
unit_at file index unit = record { file = file; index = index; unit = unit }

length-number_units : (file : SourceFile) (from : ℕ) (us : List Unit) → length (number_units file from us) ≡ length us
length-number_units file from [] = refl
length-number_units file from (u ∷ us) = ap suc (length-number_units file (from + 1) us)

number_units-push : (file : SourceFile) (from : ℕ) (us : List Unit) (u : Unit) → number_units file from (us ++ u ∷ []) ≡ number_units file from us ++ unit_at file (from + length us) u ∷ []
unfolding unit_at
number_units-push file from [] u = let same : from ≡ from + 0 = omega arith in ap (λ i. unit_at file i u ∷ []) same
number_units-push file from (v ∷ us) u =
    let same : from + 1 + length us ≡ from + suc (length us) = omega arith in
    ap (λ l. unit_at file from v ∷ l) (number_units-push file (from + 1) us u ∙ ap (λ i. number_units file (from + 1) us ++ unit_at file i u ∷ []) same)

-- one unit more, whose number is how many there are
pub numbered_more : (file : SourceFile) (units : List UnitOf) (i : ℕ) (unit : UnitOf) (all : List FileUnit) (index : ℕ) → i < length units → unit ≡ get_or units i unit → index ≡ length all
    → all ≡ number_units file 0 (map unit_of (take i units)) → all ++ record { file = file; index = index; unit = unit_of unit } ∷ [] ≡ number_units file 0 (map unit_of (take (i + 1) units))
unfolding unit_at
numbered_more file units i unit all index within is counted same =
    let before = map unit_of (take i units) in
    let counted_all : index ≡ length before = counted ∙ ap length same ∙ length-number_units file 0 before in
    let many : index ≡ 0 + length before = omega (arith, counted_all) in
    let later = ap (map unit_of) (take_more units i unit within ∙ ap (λ x. take i units ++ x ∷ []) (sym is)) ∙ map-append unit_of (take i units) (unit ∷ []) in
    (λ j. same j ++ unit_at file (many j) (unit_of unit) ∷ [])
    ∙ sym (number_units-push file 0 before (unit_of unit))
    ∙ ap (number_units file 0) (sym later)
