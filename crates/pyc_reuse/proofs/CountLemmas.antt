-- How many units files have.
use Rattle.std.proofs.Common.{◌≡◌, ℕ, zero, suc, ◌+◌, ◌<◌, List, ◌∷◌, drop, length, get_or, ap, sym, ◌∙◌, refl, add-one, arith, drop-cons}
use Rattle.std.proofs.lemmas.List.{length-append}
use Rattle.std.specs.declared.alloc.Global.{Global}
use Rattle.std.specs.declared.rc.Rc.{Rc}
use Rattle.pyc_lower.specs.Reading.{read_of}
use Rattle.pyc_units.specs.Units.{unit_count}
use Rattle.pyc_workspace.specs.declared.file.File.{File as FileOf}
use Rattle.pyc_workspace.specs.Files.{file_in, files_in}
use Rattle.pyc_workspace.specs.Fresh.{file_units, number_units, units_of}

length-of-number_units : (path : List ℕ) (from n : ℕ) → length (number_units path from n) ≡ n
unfolding number_units
length-of-number_units path from zero = refl
length-of-number_units path from (suc n) = ap suc (length-of-number_units path (from + 1) n)

-- the units of a file, counted, and those of the files after it
pub counted_more : (files : List (Rc FileOf Global)) (i : ℕ) (file : Rc FileOf Global) (at : FileOf) (count more both total : ℕ) → i < length files → file ≡ get_or files i file → at ≡ file.value
    → more ≡ unit_count (read_of (file_in at).bytes) → both ≡ count + more → count + length (units_of (files_in (drop i files))) ≡ total → both + length (units_of (files_in (drop (i + 1) files))) ≡ total
counted_more files i file at count more both total within is same many sum before =
    let left : drop i files ≡ file ∷ drop (i + 1) files = rw add-one (drop-cons files i file within ∙ ap (λ f. f ∷ drop (suc i) files) (sym is)) in
    let own : length (file_units (file_in file.value)) ≡ more = length-of-number_units (file_in file.value).path 0 (unit_count (read_of (file_in file.value).bytes)) ∙ sym (many ∙ ap (λ f. unit_count (read_of (file_in f).bytes)) same) in
    let all : length (units_of (files_in (drop i files))) ≡ length (file_units (file_in file.value)) + length (units_of (files_in (drop (i + 1) files))) =
    ap (λ fs. length (units_of (files_in fs))) left ∙ length-append (file_units (file_in file.value)) (units_of (files_in (drop (i + 1) files))) in
    omega (arith, own, all, sum, before)
