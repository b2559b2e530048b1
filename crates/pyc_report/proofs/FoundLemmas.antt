-- The paths with an error among the first files, at a loop's step, and the report from its parts.
use Rattle.std.proofs.Common.{◌≡◌, ℕ, ◌+◌, ◌<◌, true, false, List, [], ◌∷◌, ◌++◌, map, filter, take, Bool, ◌==◌, length, get_or, refl, sym, ◌∙◌, ap, append-nil}
use Rattle.std.proofs.lemmas.List.{map-append}
use Rattle.std.proofs.lemmas.List.Elements.{filter-append}
use Rattle.pyc_report.specs.declared.checked.Found.{Found as DeclaredFound}
use Rattle.std.specs.List.{concat}
use Rattle.pyc_report.specs.Report.{Found, found_in, has_error, report_of, printed_lines, error_lines, paths_with_error, summary}
use Rattle.pyc_report.proofs.RepeatLemmas.{map-take_more}

-- the paths of the files with an error, one for each file
abbrev pub error_paths : List DeclaredFound → List (List ℕ)
error_paths founds = map (λ (found : Found). found.path) (filter has_error (map found_in founds))

module _ (founds : List DeclaredFound) (i : ℕ) (found : DeclaredFound) (within : i < length founds) (is : found ≡ get_or founds i found) where
  -- one more file, as plain values
  first : map found_in (take (i + 1) founds) ≡ map found_in (take i founds) ++ found_in found ∷ []
  first = map-take_more found_in founds i found within ∙ ap (λ f. map found_in (take i founds) ++ found_in f ∷ []) (sym is)

  -- a file with an error adds its path
  pub error_paths-more : has_error (found_in found) ≡ true → error_paths (take (i + 1) founds) ≡ error_paths (take i founds) ++ found.path.now ∷ []
  error_paths-more has = rw (first, filter-append, has, map-append) refl

  -- a file with none adds nothing
  pub error_paths-same : has_error (found_in found) ≡ false → error_paths (take (i + 1) founds) ≡ error_paths (take i founds)
  error_paths-same has = rw (first, filter-append, has, append-nil) refl

-- the report is made of the lines, the numbers of errors and of files, the text and the answer whether it is clean
pub report_from_parts : (founds : List Found) (errors files checked : ℕ) (text : List ℕ) (clean : Bool)
    → errors ≡ length (error_lines founds) → files ≡ length (paths_with_error founds) → checked ≡ length founds
    → text ≡ concat (printed_lines founds) ++ summary errors files checked → clean ≡ (errors == 0)
    → record { text = text; clean = clean } ≡ report_of founds
unfolding report_of
report_from_parts founds errors files checked text clean is_errors is_files is_checked is_text is_clean =
    rw (is_text, is_clean, is_errors, is_files, is_checked) refl
