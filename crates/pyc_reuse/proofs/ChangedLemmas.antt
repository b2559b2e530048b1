-- The units of a file of which some are examined again, one by one.
use Rattle.std.proofs.Common.{◌≡◌, ℕ, ◌+◌, ◌<◌, Bool, true, false, List, ◌++◌, ◌∷◌, [], map, filter, take, length, get_or, if◌then◌else◌, refl, sym, ap, subst, ◌∙◌, append_assoc}
use Rattle.std.proofs.Math.Logic.{∥∥₁_elim}
use Rattle.std.proofs.Props.{props}
use Rattle.std.proofs.lemmas.List.{get_or-map, length-map, map-append, take_more}
use Rattle.std.specs.declared.alloc.Global.{Global}
use Rattle.std.specs.declared.rc.Rc.{Rc}
use Rattle.pyc_body.specs.declared.numbering.FileUnit.{FileUnit as FileUnitOf}
use Rattle.pyc_body.specs.FileUnits.{FileUnit, UnitId, file_units, id_of}
use Rattle.pyc_body.specs.FileUnitView.{file_unit_in}
use Rattle.pyc_body.proofs.CheckLemmas.{one_check_more}
use Rattle.pyc_body.specs.FoundMessages.{checked, found, reads}
use Rattle.pyc_recorder.specs.CheckedView.{checked_in}
use Rattle.pyc_recorder.specs.declared.checked.Checked.{Checked as CheckedOf}
use Rattle.pyc_iface.specs.declared.options.Options.{Options}
use Rattle.pyc_keys.specs.Numbering.{Extends, Numbering}
use Rattle.pyc_names.specs.SourceFiles.{SourceFile}
use Rattle.pyc_reading.specs.Keys.{Key}
use Rattle.pyc_reuse.proofs.ListLemmas.{filter_append}
use Rattle.pyc_reuse.specs.Examined.{reads_anew}
use Rattle.pyc_reuse.specs.SharedChecks.{checks_of}
use Rattle.pyc_reuse.specs.FileStatuses.{flags_of}
use Rattle.pyc_workspace.specs.Fresh.{source_of}
use Rattle.pyc_workspace.specs.Workspace.{File}

module _ (options : Options) (last present : List File) (file : File) (source : SourceFile) (units : List FileUnitOf) (i : ℕ) where
  -- the units of the source that a file is known to have are those of the file
  units_are : map file_unit_in units ≡ file_units source → ∥ source ≡ source_of file ∥₁ → ∥ map file_unit_in units ≡ file_units (source_of file) ∥₁
  units_are all is = ∥∥₁_elim is squash₁ (λ same. ∣ all ∙ ap file_units same ∣₁)

  -- as many things as the file has units
  count_is : {A : Type 0} (xs : List A) → length xs ≡ length (file_units (source_of file)) → map file_unit_in units ≡ file_units source → ∥ source ≡ source_of file ∥₁
      → i < length units → i < length xs
  count_is xs many all is within =
      ∥∥₁_elim (units_are all is) (Prim.hlevel props) (λ e. subst (λ n. i < n) (sym (length-map units file_unit_in) ∙ ap length e ∙ sym many) within)

  pub flag_within : (flags : List Bool) → flags ≡ flags_of options last present file → map file_unit_in units ≡ file_units source → ∥ source ≡ source_of file ∥₁
      → i < length units → i < length flags
  flag_within flags are = count_is flags (ap length are ∙ length-map (file_units (source_of file)) (reads_anew options last present))

  pub check_within : (held : Numbering Key) (checks : List (Rc CheckedOf Global)) → checks_of held checks ≡ map (checked options (map source_of last)) (file_units (source_of file))
      → map file_unit_in units ≡ file_units source → ∥ source ≡ source_of file ∥₁ → i < length units → i < length checks
  check_within held checks are =
      count_is checks (sym (length-map checks (λ (c : Rc CheckedOf Global). checked_in held c.value)) ∙ ap length are ∙ length-map (file_units (source_of file)) (checked options (map source_of last)))

  -- the unit at a place
  unit_at : {B : Type 0} (f : FileUnit → B) (xs : List B) (x d : B) (unit : FileUnitOf) → i < length units → unit ≡ get_or units i unit → x ≡ get_or xs i d
      → xs ≡ map f (file_units (source_of file)) → map file_unit_in units ≡ file_units (source_of file) → x ≡ f (file_unit_in unit)
  unit_at f xs x d unit within is here are all =
      let none = file_unit_in unit in
      let many : i < length (map file_unit_in units) = subst (λ n. i < n) (sym (length-map units file_unit_in)) within in
      here ∙ ap (λ l. get_or l i d) (are ∙ ap (map f) (sym all)) ∙ get_or-map f (map file_unit_in units) i none d many
      ∙ ap f (get_or-map file_unit_in units i unit none within ∙ ap file_unit_in (sym is))

  pub flag_at : (flags : List Bool) (unit : FileUnitOf) → flags ≡ flags_of options last present file → map file_unit_in units ≡ file_units source → ∥ source ≡ source_of file ∥₁
      → i < length units → unit ≡ get_or units i unit → get_or flags i false ≡ reads_anew options last present (file_unit_in unit)
  flag_at flags unit are all is within at =
      ∥∥₁_elim (units_are all is) (Prim.hlevel props) (λ e. unit_at (reads_anew options last present) flags (get_or flags i false) false unit within at refl are e)

  pub check_at : (held : Numbering Key) (checks : List (Rc CheckedOf Global)) (check : Rc CheckedOf Global) (unit : FileUnitOf)
      → checks_of held checks ≡ map (checked options (map source_of last)) (file_units (source_of file)) → map file_unit_in units ≡ file_units source → ∥ source ≡ source_of file ∥₁
      → i < length units → unit ≡ get_or units i unit → check ≡ get_or checks i check → checked_in held check.value ≡ checked options (map source_of last) (file_unit_in unit)
  check_at held checks check unit are all is within at here =
      let here_too : checked_in held check.value ≡ get_or (checks_of held checks) i (checked_in held check.value) =
      ap (λ (c : Rc CheckedOf Global). checked_in held c.value) here
      ∙ sym (get_or-map (λ (c : Rc CheckedOf Global). checked_in held c.value) checks i check (checked_in held check.value) (check_within held checks are all is within)) in
      ∥∥₁_elim (units_are all is) (Prim.hlevel props)
      (λ e. unit_at (checked options (map source_of last)) (checks_of held checks) (checked_in held check.value) (checked_in held check.value) unit within at here_too are e)

module _ (units : List FileUnitOf) (i : ℕ) (unit : FileUnitOf) where
  -- the units so far, one more
  so_far : i < length units → unit ≡ get_or units i unit → map file_unit_in (take (i + 1) units) ≡ map file_unit_in (take i units) ++ file_unit_in unit ∷ []
  so_far within at =
      ap (map file_unit_in) (take_more units i unit within) ∙ map-append file_unit_in (take i units) (get_or units i unit ∷ [])
      ∙ ap (λ u. map file_unit_in (take i units) ++ file_unit_in u ∷ []) (sym at)

  pub checks_more : (old held : Numbering Key) (options : Options) (sources : List SourceFile) (checks new : List (Rc CheckedOf Global)) (check : Rc CheckedOf Global) → Extends old held
      → i < length units → unit ≡ get_or units i unit → checks_of old checks ≡ map (checked options sources) (map file_unit_in (take i units))
      → checked_in held check.value ≡ checked options sources (file_unit_in unit) → new ≡ checks ++ check ∷ []
      → checks_of held new ≡ map (checked options sources) (map file_unit_in (take (i + 1) units))
  checks_more old held options sources checks new check more within at before here is =
      ap (checks_of held) is
      ∙ one_check_more old held more (λ (c : Rc CheckedOf Global). c.value) (λ (u : FileUnit). reads options sources u.file u.unit) (λ (u : FileUnit). found options sources u.file u.unit)
      checks (map file_unit_in (take i units)) check (file_unit_in unit) before here
      ∙ ap (map (checked options sources)) (sym (so_far within at))

  one_id : (p : FileUnit → Bool) (b : Bool) → p (file_unit_in unit) ≡ b → map id_of (filter p (file_unit_in unit ∷ [])) ≡ (if b then id_of (file_unit_in unit) ∷ [] else [])
  one_id p true e = ap (λ b. map id_of (if b then file_unit_in unit ∷ [] else [])) e
  one_id p false e = ap (λ b. map id_of (if b then file_unit_in unit ∷ [] else [])) e

  pub ids_more : (p : FileUnit → Bool) (old before new : List UnitId) (flag : Bool) → i < length units → unit ≡ get_or units i unit → flag ≡ p (file_unit_in unit)
      → before ≡ old ++ map id_of (filter p (map file_unit_in (take i units))) → new ≡ before ++ (if flag then id_of (file_unit_in unit) ∷ [] else [])
      → new ≡ old ++ map id_of (filter p (map file_unit_in (take (i + 1) units)))
  ids_more p old before new flag within at is made more =
      let so = map file_unit_in (take i units) in
      let one = file_unit_in unit ∷ [] in
      let own : map id_of (filter p one) ≡ (if flag then id_of (file_unit_in unit) ∷ [] else []) = one_id p flag (sym is) in
      let all : map id_of (filter p (map file_unit_in (take (i + 1) units))) ≡ map id_of (filter p so) ++ map id_of (filter p one) =
      ap (λ l. map id_of (filter p l)) (so_far within at) ∙ ap (map id_of) (filter_append p so one) ∙ map-append id_of (filter p so) (filter p one) in
      more ∙ (λ t. made t ++ sym own t) ∙ append_assoc old (map id_of (filter p so)) (map id_of (filter p one)) ∙ ap (λ l. old ++ l) (sym all)

  -- one unit more, which is counted
  pub id_more : (old before new : List UnitId) → i < length units → unit ≡ get_or units i unit → before ≡ old ++ map id_of (map file_unit_in (take i units))
      → new ≡ before ++ id_of (file_unit_in unit) ∷ [] → new ≡ old ++ map id_of (map file_unit_in (take (i + 1) units))
  id_more old before new within at made more =
      more ∙ ap (λ us. us ++ id_of (file_unit_in unit) ∷ []) made
      ∙ append_assoc old (map id_of (map file_unit_in (take i units))) (id_of (file_unit_in unit) ∷ [])
      ∙ ap (λ us. old ++ us) (sym (map-append id_of (map file_unit_in (take i units)) (file_unit_in unit ∷ [])) ∙ ap (map id_of) (sym (so_far within at)))
