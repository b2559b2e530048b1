-- Flags of checks, one more.
use Rattle.std.proofs.Common.{◌≡◌, ℕ, zero, suc, ◌+◌, ◌<◌, ◌&&◌, ◌||◌, Bool, true, false, not, Some, is_some, true≢false, arith, List, [], ◌∷◌, ◌++◌, map, take, length, get_or, refl, sym, ap, ◌∙◌}
use Rattle.std.proofs.Math.Logic.{∥∥₁_elim}
use Rattle.std.proofs.Props.{props}
use Rattle.std.proofs.lemmas.List.{map-append, take_more}
use Rattle.std.specs.declared.alloc.Global.{Global}
use Rattle.std.specs.declared.rc.Rc.{Rc}
use Rattle.std.proofs.lemmas.Bool.{and_parts}
use Rattle.std.specs.List.{list_all, list_any}
use Rattle.pyc_body.specs.FileUnits.{FileUnit, file_units}
use Rattle.pyc_body.specs.FoundMessages.{checked}
use Rattle.pyc_recorder.specs.CheckedView.{Checked, checked_in, numbers_in}
use Rattle.pyc_recorder.specs.declared.checked.Checked.{Checked as CheckedOf}
use Rattle.pyc_iface.specs.Answers.{answer_by}
use Rattle.pyc_iface.specs.declared.options.Options.{Options}
use Rattle.pyc_keys.specs.Numbering.{Numbering}
use Rattle.pyc_names.specs.Interfaces.{Interface}
use Rattle.pyc_reading.specs.Answers.{Answer}
use Rattle.pyc_reading.specs.Keys.{Key}
use Rattle.pyc_reuse.proofs.InterfaceLemmas.{answer_as}
use Rattle.pyc_reuse.specs.Answering.{StandFor}
use Rattle.pyc_reuse.specs.Examined.{answers_of, reads_among, reads_anew}
use Rattle.pyc_reuse.specs.SharedChecks.{checks_of}
use Rattle.pyc_reuse.specs.FileStatuses.{flags_of}
use Rattle.pyc_known_answers.specs.SameAnswers.{same_answer}
use Rattle.pyc_known_answers.specs.Changes.{has_changed, is_changed}
use Rattle.pyc_workspace.specs.Fresh.{source_of}
use Rattle.pyc_workspace.specs.Workspace.{File}

pub flags_more : (held : Numbering Key) (p : Checked → Bool) (checks : List (Rc CheckedOf Global)) (i : ℕ) (x : Rc CheckedOf Global) (at : CheckedOf) (flags : List Bool) (flag : Bool)
    → i < length checks → x ≡ get_or checks i x → at ≡ x.value → flag ≡ p (checked_in held at) → flags ≡ map p (checks_of held (take i checks))
    → flags ++ flag ∷ [] ≡ map p (checks_of held (take (i + 1) checks))
flags_more held p checks i x at flags flag within is same here before =
    let more = take_more checks i x within ∙ ap (λ y. take i checks ++ y ∷ []) (sym is) in
    (λ t. before t ++ (here ∙ ap (λ (k : CheckedOf). p (checked_in held k)) same) t ∷ [])
    ∙ sym (map-append p (checks_of held (take i checks)) (checked_in held x.value ∷ []))
    ∙ ap (map p) (sym (map-append (λ (k : Rc CheckedOf Global). checked_in held k.value) (take i checks) (x ∷ [])))
    ∙ ap (λ ks. map p (checks_of held ks)) (sym more)

-- of keys that are held
any_held : (before now : Key → Answer) (keys : List Key) → list_any (has_changed before now) (map (λ key. Some key) keys) ≡ list_any (is_changed before now) keys
any_held before now [] = refl
any_held before now (key ∷ keys) = ap (λ b. is_changed before now key || b) (any_held before now keys)

module _ (options : Options) (last present : List File) (first second : List Interface) where
  -- whether a check read a key that has another answer in the second interfaces than in the first
  abbrev pub is_flagged : Checked → Bool
  is_flagged check = list_any (has_changed (answer_by first) (answer_by second)) check.reads

  flags_from : ((key : Key) → answer_by first key ≡ answers_of last key) → ((key : Key) → answer_by second key ≡ answers_of present key) → (units : List FileUnit)
      → map is_flagged (map (checked options (map source_of last)) units) ≡ map (reads_anew options last present) units
  flags_from before now [] = refl
  flags_from before now (unit ∷ units) =
      let keys = reads_among options last unit in
      let one : is_flagged (checked options (map source_of last) unit) ≡ reads_anew options last present unit =
      any_held (answer_by first) (answer_by second) keys ∙ (λ t. list_any (λ key. not (same_answer (before key t) (now key t))) keys) in
      (λ t. one t ∷ flags_from before now units t)

  -- over interfaces that answer as the files do, the flags of a file's checks are those of its units
  pub flags_are : (file : File) (checks : List Checked) → StandFor first last → StandFor second present
      → ∥ checks ≡ map (checked options (map source_of last)) (file_units (source_of file)) ∥₁ → map is_flagged checks ≡ flags_of options last present file
  flags_are file checks before now are =
      ∥∥₁_elim (answer_as first last before) (Prim.hlevel props) (λ b. ∥∥₁_elim (answer_as second present now) (Prim.hlevel props) (λ n. ∥∥₁_elim are (Prim.hlevel props) (λ e.
      ap (map is_flagged) e ∙ flags_from b n (file_units (source_of file)))))

-- ---- keys that are held

both_true : (a b : Bool) → a ≡ true → b ≡ true → a && b ≡ true
both_true true b h k = k
both_true false b h k = absurd (true≢false (sym h))

some_all : (keys : List Key) → list_all is_some (map (λ (key : Key). Some key) keys) ≡ true
some_all [] = refl
some_all (key ∷ keys) = some_all keys

units_held : (options : Options) (files : List File) (units : List FileUnit)
    → list_all (λ (check : Checked). list_all is_some check.reads) (map (checked options (map source_of files)) units) ≡ true
units_held options files [] = refl
units_held options files (unit ∷ units) = both_true _ _ (some_all (reads_among options files unit)) (units_held options files units)

-- the keys that the checks of a file have read are held
pub checks_held : (options : Options) (files : List File) (file : File) (checks : List Checked) → ∥ checks ≡ map (checked options (map source_of files)) (file_units (source_of file)) ∥₁
    → list_all (λ (check : Checked). list_all is_some check.reads) checks ≡ true
checks_held options files file checks are =
    ∥∥₁_elim are (Prim.hlevel props) (λ e. ap (list_all (λ (check : Checked). list_all is_some check.reads)) e ∙ units_held options files (file_units (source_of file)))

-- those of a check among them
pub check_held_at : (held : Numbering Key) (checks : List (Rc CheckedOf Global)) (i : ℕ) (x : Rc CheckedOf Global) (at : CheckedOf) (numbers : List ℕ)
    → i < length checks → x ≡ get_or checks i x → at ≡ x.value → numbers ≡ numbers_in at
    → list_all (λ (check : Checked). list_all is_some check.reads) (checks_of held checks) ≡ true → list_all is_some (map held numbers) ≡ true
check_held_at held checks i x at numbers within is same reads all =
    ap (λ ns. list_all is_some (map held ns)) (reads ∙ ap numbers_in (same ∙ ap (λ (c : Rc CheckedOf Global). c.value) is)) ∙ there checks i within all
  where
    there : (cs : List (Rc CheckedOf Global)) (i : ℕ) → i < length cs → list_all (λ (check : Checked). list_all is_some check.reads) (checks_of held cs) ≡ true
        → list_all is_some (map held (numbers_in (get_or cs i x).value)) ≡ true
    there [] i l h = absurd (omega (arith, l))
    there (c ∷ cs) zero l h = (and_parts _ _ h).0
    there (c ∷ cs) (suc i) l h = there cs i (omega (arith, l)) (and_parts _ _ h).1
