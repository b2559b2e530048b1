-- The files of a check, one more.
use Rattle.std.proofs.Common.{◌≡◌, ℕ, ◌+◌, ◌<◌, List, [], ◌∷◌, ◌++◌, map, flat_map, take, length, get_or, sym, ap, subst, ◌∙◌, append_assoc, append-nil}
use Rattle.std.proofs.lemmas.List.{get_or-map, length-map, map-append, take_more}
use Rattle.std.specs.declared.alloc.Global.{Global}
use Rattle.std.specs.declared.rc.Rc.{Rc}
use Rattle.pyc_body.specs.FileUnits.{UnitId}
use Rattle.pyc_iface.specs.declared.options.Options.{Options}
use Rattle.pyc_keys.specs.Numbering.{Extends, Numbering}
use Rattle.pyc_reading.specs.Keys.{Key}
use Rattle.pyc_reuse.proofs.HoldLemmas.{file_results_still}
use Rattle.pyc_reuse.proofs.ListLemmas.{flat_map_append}
use Rattle.pyc_reuse.specs.declared.file_result.FileResult.{FileResult as FileResultOf}
use Rattle.pyc_reuse.specs.declared.file_status.FileStatus.{FileStatus as FileStatusOf}
use Rattle.pyc_reuse.specs.Examined.{examined_in}
use Rattle.pyc_reuse.specs.Revision.{file_result_among}
use Rattle.pyc_reuse.specs.Places.{file_at}
use Rattle.pyc_reuse.specs.FileResultView.{file_result_in, file_results_in}
use Rattle.pyc_reuse.specs.FileStatuses.{FileStatus, file_status_in, file_status_of}
use Rattle.pyc_workspace.specs.Workspace.{File}

no_file : File
no_file = record { path = []; bytes = [] }

-- the files so far, one more
so_far : (files : List File) (i : ℕ) → i < length files → take (i + 1) files ≡ take i files ++ file_at files i ∷ []
unfolding no_file
so_far files i within = take_more files i no_file within

module _ (options : Options) (last present : List File) (i : ℕ) where
  -- the work for the file at a place
  pub work_there : (file_statuses : List FileStatusOf) (file_status : FileStatusOf) → map file_status_in file_statuses ≡ map (file_status_of options last present) present → i < length present → file_status ≡ get_or file_statuses i file_status
      → file_status_in file_status ≡ file_status_of options last present (file_at present i)
  unfolding no_file
  work_there file_statuses file_status are within is =
      let many : i < length file_statuses = subst (λ n. i < n) (sym (length-map present (file_status_of options last present)) ∙ ap length (sym are) ∙ length-map file_statuses file_status_in) within in
      let none : FileStatus = file_status_in file_status in
      ap file_status_in is ∙ sym (get_or-map file_status_in file_statuses i file_status none many) ∙ ap (λ l. get_or l i none) are
      ∙ get_or-map (file_status_of options last present) present i no_file none within

  -- its row, after those so far
  pub file_results_more : (old held : Numbering Key) (file_results new : List (Rc FileResultOf Global)) (file_result : Rc FileResultOf Global) (file : File) → Extends old held → i < length present → file ≡ file_at present i
      → file_results_in old file_results ≡ map (file_result_among options present) (take i present) → file_result_in held file_result.value ≡ file_result_among options present file → new ≡ file_results ++ file_result ∷ []
      → file_results_in held new ≡ map (file_result_among options present) (take (i + 1) present)
  file_results_more old held file_results new file_result file more within at before here is =
      let this : file_result_in held file_result.value ≡ file_result_among options present (file_at present i) = here ∙ ap (file_result_among options present) at in
      let still = file_results_still options present old held more file_results (take i present) before in
      ap (file_results_in held) is ∙ map-append (λ (r : Rc FileResultOf Global). file_result_in held r.value) file_results (file_result ∷ [])
      ∙ (λ t. still t ++ this t ∷ [])
      ∙ sym (map-append (file_result_among options present) (take i present) (file_at present i ∷ []))
      ∙ ap (map (file_result_among options present)) (sym (so_far present i within))

  -- what is examined of it, after what is of those so far
  pub ids_more : (old before new : List UnitId) (file : File) → i < length present → file ≡ file_at present i
      → before ≡ old ++ flat_map (examined_in options last present) (take i present) → new ≡ before ++ examined_in options last present file
      → new ≡ old ++ flat_map (examined_in options last present) (take (i + 1) present)
  ids_more old before new file within at made more =
      let f = examined_in options last present in
      let one = file_at present i in
      let all : flat_map f (take (i + 1) present) ≡ flat_map f (take i present) ++ f one =
      ap (flat_map f) (so_far present i within) ∙ flat_map_append f (take i present) (one ∷ []) ∙ ap (λ l. flat_map f (take i present) ++ l) (append-nil (f one)) in
      more ∙ (λ t. made t ++ f (at t)) ∙ append_assoc old (flat_map f (take i present)) (f one) ∙ ap (λ l. old ++ l) (sym all)
