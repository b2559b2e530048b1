-- What is reported of a file, from the parts of what the code finds.
use Rattle.std.proofs.Common.{◌≡◌, ℕ, zero, suc, ◌+◌, ◌<◌, List, [], ◌∷◌, ◌++◌, map, flat_map, take, drop, length, get_or, ap, sym, ◌∙◌, refl, add-one, append_assoc, arith, drop-cons, take_all}
use Rattle.std.proofs.lemmas.List.{drop_all, take_more, take-map, drop-map, map-append, length-map, take-append-le, drop-append-le}
use Rattle.std.specs.declared.alloc.Global.{Global}
use Rattle.std.specs.declared.rc.Rc.{Rc}
use Rattle.std.proofs.Math.Logic.{∥∥₁_elim}
use Rattle.std.proofs.Props.{props}
use Rattle.pyc_ast.specs.Modules.{Outcome, tree, fault}
use Rattle.pyc_body.specs.FileUnits as parts
use Rattle.pyc_body.specs.FoundMessages as body
use Rattle.pyc_body.specs.FoundMessages.{unsuppressed, without_ignored}
use Rattle.pyc_recorder.specs.CheckedView.{Checked, messages_of}
use Rattle.pyc_recorder.specs.declared.checked.Checked.{Checked as CheckedOf}
use Rattle.pyc_iface.specs.declared.options.Options.{Options}
use Rattle.pyc_lower.specs.Reading.{read_of}
use Rattle.pyc_names.specs.SourceFiles.{SourceFile, source_file}
use Rattle.pyc_units.specs.Units as units
use Rattle.pyc_units.specs.Units.{unit_count}
use Rattle.pyc_workspace.proofs.FileLemmas.{outcome_is, path_is}
use Rattle.pyc_workspace.specs.FreshLaws.{ReportIsFresh}
use Rattle.pyc_workspace.specs.Fresh.{source_of, checked, fresh, number_units, reported_by, reported_of, units_of}
use Rattle.pyc_report.specs.Message.{Message}
use Rattle.pyc_report.specs.Report.{Found, report_of}
use Rattle.pyc_names.specs.declared.interface.Interface.{Interface as InterfaceOf}
use Rattle.pyc_names.specs.declared.source_file.SourceFile.{SourceFile as SourceFileOf}
use Rattle.pyc_names.specs.Interfaces.{interface_of}
use Rattle.pyc_names.specs.InterfaceView.{interface_in, interfaces_in}
use Rattle.pyc_names.specs.SourceFileView.{source_in}
use Rattle.pyc_workspace.specs.declared.file.File.{File as FileOf}
use Rattle.pyc_workspace.specs.Files.{file_in, files_in}
use Rattle.pyc_workspace.specs.Workspace.{File, Unit}

-- the messages of a file by the source that it is known to have
pub messages_from : (path bytes : List ℕ) (found messages : List Message) (source : SourceFile) → messages ≡ without_ignored source.outcome found
    → ∥ source ≡ source_file path (read_of bytes) ∥₁ → messages ≡ without_ignored (read_of bytes) found
messages_from path bytes found messages source reported is =
    ∥∥₁_elim is (Prim.hlevel props) (λ same. reported ∙ ap (λ outcome. without_ignored outcome found) (outcome_is path bytes source (read_of bytes) same refl))

-- ---- the units of a file

-- what is found in a unit
abbrev found_at : Options → List SourceFile → parts.FileUnit → List Message
found_at options sources unit = body.found options sources unit.file unit.unit

found_in_numbered : (options : Options) (sources : List SourceFile) (source : SourceFile) (from : ℕ) (us : List units.Unit)
    → flat_map (λ (found : List Message). found) (map (found_at options sources) (parts.number_units source from us)) ≡ flat_map (body.found options sources source) us
found_in_numbered options sources source from [] = refl
found_in_numbered options sources source from (unit ∷ more) =
    ap (λ l. body.found options sources source unit ++ l) (found_in_numbered options sources source (from + 1) more)

length-number_units : (source : SourceFile) (from : ℕ) (us : List units.Unit) → length (parts.number_units source from us) ≡ length us
length-number_units source from [] = refl
length-number_units source from (unit ∷ more) = ap suc (length-number_units source (from + 1) more)

unit_count-is : (outcome : Outcome) → length (units.file_units outcome) ≡ unit_count outcome
unit_count-is (tree m) = omega arith
unit_count-is (fault line text) = refl

module _ (file : File) where
  pub outcome-of : (source_of file).outcome ≡ read_of file.bytes
  outcome-of = outcome_is file.path file.bytes (source_of file) (read_of file.bytes) refl refl

  pub path-of : (source_of file).path ≡ file.path
  path-of = path_is file.path file.bytes (source_of file) (read_of file.bytes) refl refl

  pub count-of : length (parts.file_units (source_of file)) ≡ unit_count (read_of file.bytes)
  count-of = length-number_units (source_of file) 0 (units.file_units (source_of file).outcome) ∙ unit_count-is (source_of file).outcome ∙ ap unit_count outcome-of

-- ---- the report

module _ (options : Options) (sources : List SourceFile) where
  -- what is found in units
  abbrev founds : List parts.FileUnit → List (List Message)
  founds us = map (found_at options sources) us

  pub found_by_checks : (us : List parts.FileUnit) → map (λ (c : Checked). c.messages) (map (body.checked options sources) us) ≡ founds us
  found_by_checks [] = refl
  found_by_checks (u ∷ us) = ap (λ l. found_at options sources u ∷ l) (found_by_checks us)

  pub reported_of_file : (file : File) → reported_of file (founds (parts.file_units (source_of file))) ≡ checked options sources file
  unfolding unsuppressed
  reported_of_file file =
      let all = found_in_numbered options sources (source_of file) 0 (units.file_units (source_of file).outcome) in
      (λ i. record { path = file.path; messages = without_ignored (sym (outcome-of file) i) (all i) })

  reported_by_files : (files : List File) → reported_by files (founds (parts.units_of (map source_of files))) ≡ map (checked options sources) files
  reported_by_files [] = refl
  reported_by_files (file ∷ files) =
      let own = founds (parts.file_units (source_of file)) in
      let others = founds (parts.units_of (map source_of files)) in
      let count = unit_count (read_of file.bytes) in
      let many : length own ≡ count = length-map (parts.file_units (source_of file)) (found_at options sources) ∙ count-of file in
      let taken : take count (own ++ others) ≡ own = take-append-le count own others (omega (arith, many)) ∙ take_all count own (omega (arith, many)) in
      let left : drop count (own ++ others) ≡ others = drop-append-le count own others (omega (arith, many)) ∙ ap (λ l. l ++ others) (drop_all count own (omega (arith, many))) in
      let whole = map-append (found_at options sources) (parts.file_units (source_of file)) (parts.units_of (map source_of files)) in
      (λ i. reported_of file (take count (whole i)) ∷ reported_by files (drop count (whole i)))
      ∙ (λ i. reported_of file (taken i) ∷ reported_by files (left i))
      ∙ (λ i. reported_of_file file i ∷ reported_by_files files i)

-- the report on what was found
pub report_is_fresh : ReportIsFresh
unfolding fresh
report_is_fresh options files =
    ap (λ f. report_of (reported_by files f)) (found_by_checks options (map source_of files) (parts.units_of (map source_of files)))
    ∙ ap report_of (reported_by_files options (map source_of files) files)

pub all_messages : (checks : List CheckedOf) → flat_map messages_of checks ≡ flat_map (λ (messages : List Message). messages) (map messages_of checks)
all_messages [] = refl
all_messages (c ∷ cs) = ap (λ l. messages_of c ++ l) (all_messages cs)

-- what is reported of one file more
pub reported_more : (files : List (Rc FileOf Global)) (i : ℕ) (file : Rc FileOf Global) (at : FileOf) (count : ℕ) (all : List Found) (found : Found) (checks own others : List CheckedOf) (whole : List Found)
    → i < length files → file ≡ get_or files i file → at ≡ file.value → count ≡ unit_count (read_of (file_in at).bytes) → own ≡ take count checks → others ≡ drop count checks
    → found ≡ reported_of (file_in at) (map messages_of own) → all ++ reported_by (files_in (drop i files)) (map messages_of checks) ≡ whole
    → (all ++ found ∷ []) ++ reported_by (files_in (drop (i + 1) files)) (map messages_of others) ≡ whole
reported_more files i file at count all found checks own others whole within is same many first rest reported before =
    let left : drop i files ≡ file ∷ drop (i + 1) files = rw add-one (drop-cons files i file within ∙ ap (λ f. f ∷ drop (suc i) files) (sym is)) in
    let n : count ≡ unit_count (read_of (file_in file.value).bytes) = many ∙ ap (λ f. unit_count (read_of (file_in f).bytes)) same in
    let mine : found ≡ reported_of (file_in file.value) (take (unit_count (read_of (file_in file.value).bytes)) (map messages_of checks)) =
    reported ∙ (λ j. reported_of (file_in (same j)) (map messages_of (first j))) ∙ ap (reported_of (file_in file.value)) (sym (take-map messages_of count checks) ∙ ap (λ k. take k (map messages_of checks)) n) in
    let later : map messages_of others ≡ drop (unit_count (read_of (file_in file.value).bytes)) (map messages_of checks) =
    ap (map messages_of) rest ∙ sym (drop-map messages_of count checks) ∙ ap (λ k. drop k (map messages_of checks)) n in
    append_assoc all (found ∷ []) (reported_by (files_in (drop (i + 1) files)) (map messages_of others))
    ∙ (λ j. all ++ mine j ∷ reported_by (files_in (drop (i + 1) files)) (later j))
    ∙ ap (λ fs. all ++ reported_by (files_in fs) (map messages_of checks)) (sym left)
    ∙ before

-- one file more, with its interface
pub interfaces_more : (files : List (Rc FileOf Global)) (i : ℕ) (file : Rc FileOf Global) (at : FileOf) (interfaces : List (Rc InterfaceOf Global)) (interface : Rc InterfaceOf Global)
    (shared : InterfaceOf) (source : SourceFileOf) → i < length files → file ≡ get_or files i file → at ≡ file.value → interface.value ≡ shared
    → interface_in shared ≡ interface_of (source_in source) → ∥ interfaces_in interfaces ≡ map interface_of (map source_of (files_in (take i files))) ∥₁
    → ∥ source_in source ≡ source_of (file_in at) ∥₁ → ∥ interfaces_in (interfaces ++ interface ∷ []) ≡ map interface_of (map source_of (files_in (take (i + 1) files))) ∥₁
interfaces_more files i file at interfaces interface shared source within is same kept reported first last =
    let later = take_more files i file within ∙ ap (λ x. take i files ++ x ∷ []) (sym is) in
    let before = files_in (take i files) in
    let whole = ap (λ l. map interface_of (map source_of (files_in l))) later
    ∙ ap (λ l. map interface_of (map source_of l)) (map-append (λ (f : Rc FileOf Global). file_in f.value) (take i files) (file ∷ []))
    ∙ ap (map interface_of) (map-append source_of before (file_in file.value ∷ []))
    ∙ map-append interface_of (map source_of before) (source_of (file_in file.value) ∷ []) in
    ∥∥₁_elim first squash₁ (λ f. ∥∥₁_elim last squash₁ (λ l. ∣ map-append (λ (x : Rc InterfaceOf Global). interface_in x.value) interfaces (interface ∷ [])
    ∙ ap (λ zs. zs ++ interface_in interface.value ∷ []) f
    ∙ ap (λ z. map interface_of (map source_of before) ++ z ∷ []) (ap interface_in kept ∙ reported ∙ ap interface_of (l ∙ ap (λ x. source_of (file_in x)) same)) ∙ sym whole ∣₁))

unit_at : List ℕ → ℕ → Unit
unit_at path index = record { path = path; index = index }

-- one unit more
pub number_units-more : (path : List ℕ) (from n : ℕ) → number_units path from (n + 1) ≡ number_units path from n ++ record { path = path; index = from + n } ∷ []
unfolding number_units unit_at
number_units-more path from zero = let same : from ≡ from + 0 = omega arith in ap (λ i. unit_at path i ∷ []) same
number_units-more path from (suc n) =
    let same : from + 1 + n ≡ from + suc n = omega arith in
    let more : suc n + 1 ≡ suc (n + 1) = omega arith in
    ap (number_units path from) more
    ∙ ap (λ us. unit_at path from ∷ us) (number_units-more path (from + 1) n ∙ ap (λ i. number_units path (from + 1) n ++ unit_at path i ∷ []) same)

pub number_units-next : (path : List ℕ) (n : ℕ) → number_units path 0 (n + 1) ≡ number_units path 0 n ++ record { path = path; index = n } ∷ []
unfolding unit_at
number_units-next path n = let same : 0 + n ≡ n = omega arith in number_units-more path 0 n ∙ ap (λ i. number_units path 0 n ++ unit_at path i ∷ []) same
