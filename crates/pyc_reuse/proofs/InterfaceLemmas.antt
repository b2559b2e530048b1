-- Interfaces of files that are present, and of those at the last check.
use Rattle.std.proofs.Common.{◌≡◌, ℕ, ◌+◌, ◌-◌, ◌<◌, ◌≤◌, List, [], ◌∷◌, ◌++◌, map, take, drop, length, get_or, refl, sym, ap, ◌∙◌, subst, arith}
use Rattle.std.proofs.Math.Logic.{∥∥₁_elim}
use Rattle.std.proofs.lemmas.List.{drop-map, drop_all, drop_more, get_or-map, length-map, map-append, take-map, take_more}
use Rattle.std.specs.declared.alloc.Global.{Global}
use Rattle.std.specs.declared.rc.Rc.{Rc}
use Rattle.pyc_iface.specs.Answers.{answer_by}
use Rattle.pyc_interfaces.proofs.WorldLemmas.{positions_change_no_answer}
use Rattle.pyc_interfaces.specs.BareInterfaces.{bare_interface}
use Rattle.pyc_interfaces.specs.ChangedBetween.{HaveInCommon}
use Rattle.pyc_names.specs.declared.interface.Interface.{Interface as InterfaceOf}
use Rattle.pyc_names.specs.declared.source_file.SourceFile.{SourceFile as SourceFileOf}
use Rattle.pyc_names.specs.Interfaces.{Interface, interface_of}
use Rattle.pyc_names.specs.InterfaceView.{interface_in}
use Rattle.pyc_names.specs.SourceFileView.{source_in}
use Rattle.pyc_reuse.specs.Answering.{AreAlike, AreAlikeFirst, AreAlikeLast, StandFor}
use Rattle.pyc_reading.specs.Keys.{Key}
use Rattle.pyc_reuse.specs.Examined.{answers_of}
use Rattle.pyc_reuse.specs.Places.{bare_of, file_at}
use Rattle.pyc_workspace.specs.declared.file.File.{File as FileOf}
use Rattle.pyc_workspace.specs.Files.{file_in, files_in}
use Rattle.pyc_workspace.specs.Fresh.{source_of}
use Rattle.pyc_workspace.specs.Workspace.{File}

-- the file at a place, as the code has it
pub file_is : (files : List (Rc FileOf Global)) (i : ℕ) (x : Rc FileOf Global) (at : FileOf) (all : List File) → i < length all → files_in files ≡ all
    → x ≡ get_or files i x → at ≡ x.value → file_in at ≡ file_at all i
file_is files i x at all within are is same =
    let many : i < length files = subst (λ n. i < n) (ap length (sym are) ∙ length-map files (λ (f : Rc FileOf Global). file_in f.value)) within in
    ap file_in same ∙ ap (λ (f : Rc FileOf Global). file_in f.value) is
    ∙ sym (get_or-map (λ (f : Rc FileOf Global). file_in f.value) files i x (record { path = []; bytes = [] }) many)
    ∙ ap (λ fs. file_at fs i) are

-- files whose interfaces the code finds the same have the same
pub bare_alike : (a b : InterfaceOf) (x y : SourceFileOf) (f g : File) → interface_in a ≡ interface_of (source_in x) → interface_in b ≡ interface_of (source_in y)
    → ∥ source_in x ≡ source_of f ∥₁ → ∥ source_in y ≡ source_of g ∥₁ → bare_interface (interface_in a) ≡ bare_interface (interface_in b) → ∥ bare_of f ≡ bare_of g ∥₁
bare_alike a b x y f g of_x of_y first second h =
    ∥∥₁_elim first squash₁ (λ e. ∥∥₁_elim second squash₁ (λ d.
    ∣ ap bare_interface (ap interface_of (sym e) ∙ sym of_x) ∙ h ∙ ap bare_interface (of_y ∙ ap interface_of d) ∣₁))

-- one file more
pub bare_more : (xs ys : List File) (i : ℕ) → i < length xs → i < length ys → ∥ map bare_of (take i xs) ≡ map bare_of (take i ys) ∥₁
    → ∥ bare_of (file_at xs i) ≡ bare_of (file_at ys i) ∥₁ → ∥ map bare_of (take (i + 1) xs) ≡ map bare_of (take (i + 1) ys) ∥₁
bare_more xs ys i first second before here =
    let none : File = record { path = []; bytes = [] } in
    let left : (zs : List File) → i < length zs → map bare_of (take (i + 1) zs) ≡ map bare_of (take i zs) ++ bare_of (file_at zs i) ∷ [] =
    λ zs within. ap (map bare_of) (take_more zs i none within) ∙ map-append bare_of (take i zs) (file_at zs i ∷ []) in
    ∥∥₁_elim before squash₁ (λ e. ∥∥₁_elim here squash₁ (λ d. ∣ left xs first ∙ (λ t. e t ++ d t ∷ []) ∙ sym (left ys second) ∣₁))

-- ---- what stands for files

bare_map : (files : List File) → map bare_interface (map interface_of (map source_of files)) ≡ map bare_of files
bare_map [] = refl
bare_map (file ∷ files) = ap (λ l. bare_of file ∷ l) (bare_map files)

-- what stood for the last files stands for those that are present
pub as_present : (interfaces : List Interface) (last present : List File) → StandFor interfaces last → AreAlike last present → StandFor interfaces present
as_present interfaces last present before same = ∥∥₁_elim before squash₁ (λ b. ∥∥₁_elim same squash₁ (λ s. ∣ b ∙ s ∣₁))

-- the interfaces of files stand for them
pub as_files : (interfaces : List Interface) (files : List File) → ∥ interfaces ≡ map interface_of (map source_of files) ∥₁ → StandFor interfaces files
as_files interfaces files are = ∥∥₁_elim are squash₁ (λ e. ∣ ap (map bare_interface) e ∙ bare_map files ∣₁)

-- ---- answers

bare_answers : (interfaces : List Interface) (files : List File) → map bare_interface interfaces ≡ map bare_of files → (key : Key)
    → answer_by interfaces key ≡ answers_of files key
unfolding answers_of
bare_answers interfaces files same key =
    sym (positions_change_no_answer interfaces key)
    ∙ ap (λ (l : List Interface). answer_by l key) (same ∙ sym (bare_map files))
    ∙ positions_change_no_answer (map interface_of (map source_of files)) key

-- they answer as the files do
pub answer_as : (interfaces : List Interface) (files : List File) → StandFor interfaces files
    → ∥ ((key : Key) → answer_by interfaces key ≡ answers_of files key) ∥₁
answer_as interfaces files stand = ∥∥₁_elim stand squash₁ (λ same. ∣ bare_answers interfaces files same ∣₁)

-- the files that are present answer as the last ones did
pub answer_alike : (last present : List File) → AreAlike last present → ∥ ((key : Key) → answers_of last key ≡ answers_of present key) ∥₁
unfolding answers_of
answer_alike last present same =
    ∥∥₁_elim same squash₁ (λ e. ∣ (λ key. bare_answers (map interface_of (map source_of last)) present (bare_map last ∙ e) key) ∣₁)

-- ---- files in common

-- one more of the last files
pub last_more : (xs ys : List File) (count : ℕ) → count < length xs → count < length ys → AreAlikeLast count xs ys
    → ∥ bare_of (file_at xs (length xs - 1 - count)) ≡ bare_of (file_at ys (length ys - 1 - count)) ∥₁ → AreAlikeLast (count + 1) xs ys
last_more xs ys count first second before here =
    let none : File = record { path = []; bytes = [] } in
    let left : (zs : List File) → count < length zs
    → map bare_of (drop (length zs - (count + 1)) zs) ≡ bare_of (file_at zs (length zs - 1 - count)) ∷ map bare_of (drop (length zs - count) zs) =
    λ zs within.
    let at : length zs - (count + 1) ≡ length zs - 1 - count = omega (arith, within) in
    let below : length zs - 1 - count < length zs = omega (arith, within) in
    let next : length zs - 1 - count + 1 ≡ length zs - count = omega (arith, within) in
    ap (λ n. map bare_of (drop n zs)) at ∙ ap (map bare_of) (drop_more zs (length zs - 1 - count) none below)
    ∙ ap (λ n. bare_of (file_at zs (length zs - 1 - count)) ∷ map bare_of (drop n zs)) next in
    ∥∥₁_elim before squash₁ (λ e. ∥∥₁_elim here squash₁ (λ d. ∣ left xs first ∙ (λ t. d t ∷ e t) ∙ sym (left ys second) ∣₁))

-- none of the last files
pub none_last : (xs ys : List File) → AreAlikeLast 0 xs ys
none_last xs ys = ∣ ap (map bare_of) (none_left xs) ∙ sym (ap (map bare_of) (none_left ys)) ∣₁
  where
    none_left : (zs : List File) → drop (length zs - 0) zs ≡ []
    none_left zs = drop_all (length zs - 0) zs (omega arith)

-- worlds that stand for files that have so many in common
pub in_common : (old new : List Interface) (last present : List File) (front back : ℕ) → StandFor old last → StandFor new present
    → front + back ≤ length last → front + back ≤ length present → AreAlikeFirst front last present → AreAlikeLast back last present
    → ∥ HaveInCommon front back old new ∥₁
in_common old new last present front back before after fit fit_others first end =
    ∥∥₁_elim before squash₁ (λ b. ∥∥₁_elim after squash₁ (λ a. ∥∥₁_elim first squash₁ (λ f. ∥∥₁_elim end squash₁ (λ e. ∣ record {
      fit = subst (λ n. front + back ≤ n) (sym (many old last b)) fit;
      fit_others = subst (λ n. front + back ≤ n) (sym (many new present a)) fit_others;
      first = front_of old last b ∙ f ∙ sym (front_of new present a);
      last = back_of old last b ∙ e ∙ sym (back_of new present a);
    } ∣₁))))
  where
    many : (is : List Interface) (fs : List File) → map bare_interface is ≡ map bare_of fs → length is ≡ length fs
    many is fs same = sym (length-map is bare_interface) ∙ ap length same ∙ length-map fs bare_of

    front_of : (is : List Interface) (fs : List File) → map bare_interface is ≡ map bare_of fs → map bare_interface (take front is) ≡ map bare_of (take front fs)
    front_of is fs same = sym (take-map bare_interface front is) ∙ ap (take front) same ∙ take-map bare_of front fs

    back_of : (is : List Interface) (fs : List File) → map bare_interface is ≡ map bare_of fs
        → map bare_interface (drop (length is - back) is) ≡ map bare_of (drop (length fs - back) fs)
    back_of is fs same =
        sym (drop-map bare_interface (length is - back) is)
        ∙ (λ t. drop (many is fs same t - back) (same t))
        ∙ drop-map bare_of (length fs - back) fs
