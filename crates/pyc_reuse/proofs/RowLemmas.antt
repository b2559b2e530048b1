-- What comes of files, by what comes of their units.
use Rattle.std.proofs.Common.{◌≡◌, ℕ, ◌<◌, Bool, false, List, ◌++◌, ◌∷◌, [], Some, map, filter, flat_map, length, get_or, refl, sym, ap, subst, ◌∙◌}
use Rattle.std.proofs.Math.Logic.{∥∥₁_elim}
use Rattle.std.proofs.Props.{props}
use Rattle.std.proofs.lemmas.List.{get_or-map, length-map}
use Rattle.std.specs.declared.alloc.Global.{Global}
use Rattle.std.specs.declared.rc.Rc.{Rc}
use Rattle.pyc_body.specs.FileUnits.{FileUnit, UnitId, file_units, id_of}
use Rattle.pyc_body.specs.FoundMessages as body
use Rattle.pyc_body.specs.FoundMessages.{without_ignored}
use Rattle.pyc_recorder.specs.CheckedView.{Checked, messages_of}
use Rattle.pyc_recorder.specs.declared.checked.Checked.{Checked as CheckedOf}
use Rattle.pyc_iface.specs.declared.options.Options.{Options}
use Rattle.pyc_keys.specs.Numbering.{Numbering}
use Rattle.pyc_lower.specs.Reading.{read_of}
use Rattle.pyc_names.specs.SourceFiles.{SourceFile}
use Rattle.pyc_reading.specs.Keys.{Key}
use Rattle.pyc_report.specs.Message.{Message}
use Rattle.pyc_report.specs.Report.{Found, Report, report_of}
use Rattle.pyc_reuse.proofs.ListLemmas.{any_flag}
use Rattle.pyc_reuse.proofs.PlaceLemmas.{stands}
use Rattle.pyc_reuse.proofs.UnitLemmas.{kept_checks}
use Rattle.pyc_reuse.specs.declared.file_result.FileResult.{FileResult as FileResultOf}
use Rattle.pyc_reuse.specs.Examined.{reads_anew}
use Rattle.pyc_reuse.specs.Revision.{FileResult, file_result_among, file_results_among}
use Rattle.pyc_reuse.specs.Places.{file_at, place_in}
use Rattle.pyc_reuse.specs.FileResultView.{file_result_in, file_results_in, reported_in}
use Rattle.pyc_reuse.specs.SharedChecks.{checks_of, found_of}
use Rattle.pyc_reuse.specs.Reports.{reported_by}
use Rattle.pyc_reuse.specs.FileStatuses.{flags_of, is_any}
use Rattle.pyc_workspace.proofs.FreshLemmas.{found_by_checks, reported_of_file}
use Rattle.pyc_workspace.specs.Fresh.{source_of}
use Rattle.pyc_workspace.specs.Fresh as fresh
use Rattle.pyc_workspace.specs.Workspace.{File}

-- the row of a file by what came of its units
abbrev pub file_result_by : File → List Checked → FileResult
file_result_by file checks = record { checks = checks; messages = without_ignored (read_of file.bytes) (flat_map (λ (c : Checked). c.messages) checks) }

flat_found : (checks : List Checked) → flat_map (λ (c : Checked). c.messages) checks ≡ flat_map (λ (messages : List Message). messages) (map (λ (c : Checked). c.messages) checks)
flat_found [] = refl
flat_found (c ∷ cs) = ap (λ l. c.messages ++ l) (flat_found cs)

-- what was found in shared checks
pub found_in_checks : (held : Numbering Key) (checks : List (Rc CheckedOf Global)) → found_of checks ≡ flat_map (λ (c : Checked). c.messages) (checks_of held checks)
found_in_checks held [] = refl
found_in_checks held (c ∷ cs) = ap (λ l. messages_of c.value ++ l) (found_in_checks held cs)

module _ (options : Options) (files : List File) where
  -- what comes of the units of a file
  abbrev pub checks_in : File → List Checked
  checks_in file = map (body.checked options (map source_of files)) (file_units (source_of file))

  pub by_checks : (file : File) → file_result_by file (checks_in file) ≡ file_result_among options files file
  by_checks file =
      let sources = map source_of files in
      let found = flat_found (checks_in file) ∙ ap (flat_map (λ (messages : List Message). messages)) (found_by_checks options sources (file_units (source_of file))) in
      let reported = ap (without_ignored (read_of file.bytes)) found ∙ ap (λ (f : Found). f.messages) (reported_of_file options sources file) in
      (λ t. record { checks = checks_in file; messages = reported t })

  -- over the source that a file is known to have
  pub file_result_is : (file : File) (checks : List Checked) (messages : List Message) (units : List FileUnit) (source : SourceFile)
      → checks ≡ map (body.checked options (map source_of files)) units → units ≡ file_units source → ∥ source ≡ source_of file ∥₁
      → messages ≡ without_ignored (read_of file.bytes) (flat_map (λ (c : Checked). c.messages) checks)
      → record { checks = checks; messages = messages } ≡ file_result_among options files file
  file_result_is file checks messages units source made all is reported =
      let whole : checks ≡ checks_in file =
      ∥∥₁_elim is (Prim.hlevel props) (λ same. made ∙ ap (map (body.checked options (map source_of files))) (all ∙ ap file_units same)) in
      (λ t. record { checks = checks; messages = reported t }) ∙ ap (file_result_by file) whole ∙ by_checks file

  -- what is reported of files by their rows
  pub reported_file_results : (them : List File) → reported_by them (map (λ (r : FileResult). r.messages) (map (file_result_among options files) them)) ≡ map (fresh.checked options (map source_of files)) them
  reported_file_results [] = refl
  reported_file_results (file ∷ them) = ap (λ l. record { path = file.path; messages = body.unsuppressed options (map source_of files) (source_of file) } ∷ l) (reported_file_results them)

-- the units of a file over the source that it is known to have
pub ids_are : (file : File) (old new : List UnitId) (units : List FileUnit) (source : SourceFile) → new ≡ old ++ map id_of units → units ≡ file_units source
    → ∥ source ≡ source_of file ∥₁ → new ≡ old ++ map id_of (file_units (source_of file))
ids_are file old new units source made all is =
    ∥∥₁_elim is (Prim.hlevel props) (λ same. made ∙ ap (λ us. old ++ map id_of us) (all ∙ ap file_units same))

pub kept_ids_are : (p : FileUnit → Bool) (file : File) (old new : List UnitId) (units : List FileUnit) (source : SourceFile) → new ≡ old ++ map id_of (filter p units) → units ≡ file_units source
    → ∥ source ≡ source_of file ∥₁ → new ≡ old ++ map id_of (filter p (file_units (source_of file)))
kept_ids_are p file old new units source made all is =
    ∥∥₁_elim is (Prim.hlevel props) (λ same. made ∙ ap (λ us. old ++ map id_of (filter p us)) (all ∙ ap file_units same))

-- ---- rows at places

module _ (held : Numbering Key) (options : Options) (files : List File) (file_results : List (Rc FileResultOf Global)) where
  abbrev value_of : Rc FileResultOf Global → FileResult
  value_of file_result = file_result_in held file_result.value

  -- a row stands at each place of a file
  pub file_result_within : (i : ℕ) → ∥ file_results_in held file_results ≡ file_results_among options files ∥₁ → i < length files → i < length file_results
  unfolding file_results_among
  file_result_within i are within =
      ∥∥₁_elim are (Prim.hlevel props) (λ e.
      subst (λ n. i < n) (sym (length-map files (file_result_among options files)) ∙ ap length (sym e) ∙ length-map file_results value_of) within)

  -- the row at a place is that of the file there
  pub file_result_at : (i : ℕ) (x : Rc FileResultOf Global) (at : FileResultOf) → ∥ file_results_in held file_results ≡ file_results_among options files ∥₁ → i < length files → x ≡ get_or file_results i x → at ≡ x.value
      → ∥ file_result_in held at ≡ file_result_among options files (file_at files i) ∥₁
  unfolding file_results_among
  file_result_at i x at are within is same =
      let none : FileResult = record { checks = []; messages = [] } in
      let no_file : File = record { path = []; bytes = [] } in
      let many : i < length file_results = file_result_within i are within in
      ∥∥₁_elim are squash₁ (λ e.
      ∣ ap (file_result_in held) same ∙ ap value_of is ∙ sym (get_or-map value_of file_results i x none many) ∙ ap (λ rs. get_or rs i none) e
      ∙ get_or-map (file_result_among options files) files i no_file none within ∣₁)

-- the row of a file none of whose units is flagged stays
pub kept_file_result : (options : Options) (last present : List File) (file : File) → is_any (flags_of options last present file) ≡ false
    → file_result_among options last file ≡ file_result_among options present file
kept_file_result options last present file none =
    let units = file_units (source_of file) in
    sym (by_checks options last file)
    ∙ ap (file_result_by file) (kept_checks options last present units (sym (any_flag (reads_anew options last present) units) ∙ none))
    ∙ by_checks options present file

-- the row at the place where a file stands is its own
pub file_result_there : (held : Numbering Key) (options : Options) (last : List File) (file : File) (file_results : List (Rc FileResultOf Global)) (place : ℕ) (x : Rc FileResultOf Global) (at : FileResultOf)
    → ∥ file_results_in held file_results ≡ file_results_among options last ∥₁ → place_in last file ≡ Some place → x ≡ get_or file_results place x → at ≡ x.value
    → file_result_in held at ≡ file_result_among options last file
file_result_there held options last file file_results place x at are here is same =
    let found = stands last file place here in
    ∥∥₁_elim (file_result_at held options last file_results place x at are found.within is same) (Prim.hlevel props) (λ e. e ∙ ap (file_result_among options last) found.there)

-- the messages of shared rows
reported_in_file_results : (held : Numbering Key) (file_results : List (Rc FileResultOf Global)) → map (λ (r : Rc FileResultOf Global). reported_in r.value) file_results ≡ map (λ (r : FileResult). r.messages) (file_results_in held file_results)
reported_in_file_results held [] = refl
reported_in_file_results held (r ∷ file_results) = ap (λ l. reported_in r.value ∷ l) (reported_in_file_results held file_results)

-- the report on files by their rows is the fresh one
pub report_is : (held : Numbering Key) (options : Options) (present files : List File) (file_results : List (Rc FileResultOf Global)) (report : Report)
    → report ≡ report_of (reported_by files (map (λ (r : Rc FileResultOf Global). reported_in r.value) file_results)) → files ≡ present
    → file_results_in held file_results ≡ file_results_among options present → report ≡ fresh.fresh options present
unfolding file_results_among fresh.fresh
report_is held options present files file_results report made same are =
    made ∙ (λ t. report_of (reported_by (same t) ((reported_in_file_results held file_results ∙ ap (map (λ (r : FileResult). r.messages)) are) t)))
    ∙ ap report_of (reported_file_results options present present)
