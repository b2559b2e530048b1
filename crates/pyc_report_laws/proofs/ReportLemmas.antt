-- What a report says, by the messages that were found.
use Rattle.std.proofs.Common.{◌≡◌, ℕ, ◌==◌, Bool, true, false, not, cond, List, [], ◌∷◌, ◌++◌, map, filter, flat_map, length, Ordering, Less, Equal, Greater, is_gt, inl, inr, refl, sym, ap, subst, ◌∙◌, arith, bytes_eq}
use Rattle.std.specs.List.{All, AllByRecursion, concat}
use Rattle.std.specs.List.Sorted.{IsStrictlySortedBy}
use Rattle.std.proofs.lemmas.Bool.{eqb-true, not_from_false, false≢true}
use Rattle.std.proofs.lemmas.Cmp.{tied_itself}
use Rattle.std.proofs.lemmas.List.Elements.{All-cons, All-nil}
use Rattle.std.proofs.lemmas.List.Kept.{IsStrictlySortedBy-filter}
use Rattle.std.proofs.lemmas.Slice.Eq.{bytes_eq-Decides}
use Rattle.pyc_report.specs.declared.message.Code.{Code}
use Rattle.pyc_report.specs.declared.message.Code.TheVariants as code
use Rattle.pyc_report.specs.declared.message.ObligationKind.{ObligationKind}
use Rattle.pyc_report.specs.declared.message.ObligationKind.TheVariants as duty
use Rattle.pyc_report.specs.declared.message.MessageKind.{MessageKind}
use Rattle.pyc_report.specs.declared.message.MessageKind.TheVariants.{Error, FailedObligation, Note}
use Rattle.pyc_report.specs.Message.{Message, code_name, obligation_code, code_of}
use Rattle.pyc_report.specs.Report.{Found, Located, located, located_messages, message_cmp, messages_in_order, is_error, printed_line, without_repeats, printed_lines, error_lines, has_error, paths_with_error, summary, report_of}
use Rattle.pyc_report.specs.Sort.{sorted}
use Rattle.pyc_report.proofs.ListLemmas.{map-filter}
use Rattle.pyc_report.proofs.OrderLemmas.{message_cmp_total, same_message}
use Rattle.pyc_report.proofs.SortLemmas.{IsAscending, IsAscending-sorted, IsBelow}
use Rattle.pyc_report_laws.specs.Reports.{HasNoRepeats, Counts, IsError, IsReported, PrintsError, HasError, ArePrinted, HasFound, ReportsFound}
use Rattle.pyc_report_laws.proofs.InLemmas.{In, first, after, in-none, in-cases, in-contains, contains-in, in-filter, from-filter, any-in, in-sorted, from-sorted, in-map, from-map, in-flat, from-flat, any-from, in-without, from-without, no_repeats}

-- ---- the first message of each line

-- whether the second message prints another line
abbrev is_other : Located → Located → Bool
is_other m n = not (bytes_eq (printed_line m) (printed_line n))

abbrev firsts : List Located → List Located
firsts [] = []
firsts (m ∷ ms) = m ∷ filter (is_other m) (firsts ms)

firsts-lines : (ms : List Located) → map printed_line (firsts ms) ≡ without_repeats (map printed_line ms)
firsts-lines [] = refl
firsts-lines (m ∷ ms) =
    let other : List ℕ → Bool = λ line. not (bytes_eq (printed_line m) line) in
    ap (λ l. printed_line m ∷ l) (map-filter printed_line other (firsts ms) ∙ ap (filter other) (firsts-lines ms))

from-firsts : (x : Located) (ms : List Located) → In x (firsts ms) → In x ms
from-firsts x [] s = elim s [ ]
from-firsts x (m ∷ ms) s = elim (in-cases x m (filter (is_other m) (firsts ms)) s) [
  | inl is ↦ first is
  | inr later ↦ after (from-firsts x ms (from-filter x (is_other m) (firsts ms) later).0)
]

-- ---- their order

below-at : (m x : Located) (ms : List Located) → IsBelow message_cmp m ms → In x ms → is_gt (message_cmp m x) ≡ false
below-at m x [] below s = elim s [ ]
below-at m x (y ∷ ms) below (first is) = subst (λ z. is_gt (message_cmp m z) ≡ false) is below.0
below-at m x (y ∷ ms) below (after s) = below-at m x ms below.1 s

below-filter : (p : Located → Bool) (m : Located) (ms : List Located) → IsBelow message_cmp m ms → IsBelow message_cmp m (filter p ms)
below-filter p m [] below = tt
below-filter p m (n ∷ ms) below = elim (p n) as (λ b. IsBelow message_cmp m (cond b (n ∷ filter p ms) (filter p ms))) [
  | true ↦ (below.0, below-filter p m ms below.1)
  | false ↦ below-filter p m ms below.1
]

below-firsts : (m : Located) (ms : List Located) → IsBelow message_cmp m ms → IsBelow message_cmp m (firsts ms)
below-firsts m [] below = tt
below-firsts m (n ∷ ms) below = (below.0, below-filter (is_other n) m (firsts ms) (below-firsts m ms below.1))

less : (m n : Located) → is_gt (message_cmp m n) ≡ false → bytes_eq (printed_line m) (printed_line n) ≡ false → message_cmp m n ≡ Less
less m n below other = by (message_cmp m n) refl
  where
    by : (o : Ordering) → message_cmp m n ≡ o → message_cmp m n ≡ Less
    by Less e = e
    by Equal e =
        absurd (false≢true (sym other ∙ (bytes_eq-Decides (printed_line m) (printed_line n)).1 (ap printed_line (same_message m n e))))
    by Greater e = absurd (false≢true (sym below ∙ ap is_gt e))

less-others : (m : Located) (ms : List Located) → IsBelow message_cmp m ms
    → AllByRecursion (λ n. message_cmp m n ≡ Less) (filter (is_other m) ms)
less-others m [] below = tt
less-others m (n ∷ ms) below =
    elim (bytes_eq (printed_line m) (printed_line n)) as (λ b. bytes_eq (printed_line m) (printed_line n) ≡ b
    → AllByRecursion (λ n. message_cmp m n ≡ Less) (cond (not b) (n ∷ filter (is_other m) ms) (filter (is_other m) ms))) [
      | true ↦ λ e. less-others m ms below.1
      | false ↦ λ e. (less m n below.0 e, less-others m ms below.1)
    ] refl

strictly : (ms : List Located) → IsAscending message_cmp ms → IsStrictlySortedBy message_cmp (firsts ms)
unfolding IsStrictlySortedBy
strictly [] up = tt
strictly (m ∷ ms) up = (
  less-others m (firsts ms) (below-firsts m ms up.0),
  IsStrictlySortedBy-filter message_cmp (is_other m) (firsts ms) (strictly ms up.1),
)

-- one of some messages prints the line of a message, and does not stand after it
abbrev HasFirst : List Located → Located → Type 0
HasFirst ms x = (printed : Located) × In printed ms × (printed_line printed ≡ printed_line x) × (is_gt (message_cmp printed x) ≡ false)

has-first : (ms : List Located) → IsAscending message_cmp ms → (x : Located) → In x ms → HasFirst (firsts ms) x
has-first [] up x s = elim s [ ]
has-first (m ∷ ms) up x (first is) =
    (m, first refl, ap printed_line is, subst (λ y. is_gt (message_cmp m y) ≡ false) is (ap is_gt (tied_itself message_cmp_total m)))
has-first (m ∷ ms) up x (after s) =
    let found = has-first ms up.1 x s in
    elim (bytes_eq (printed_line m) (printed_line found.0)) as (λ b. bytes_eq (printed_line m) (printed_line found.0) ≡ b
    → HasFirst (m ∷ filter (is_other m) (firsts ms)) x) [
      | true ↦ λ e. (m, first refl, (bytes_eq-Decides (printed_line m) (printed_line found.0)).0 e ∙ found.2, below-at m x ms up.0 s)
      | false ↦ λ e. (
        found.0,
        after (in-filter found.0 (is_other m) (firsts ms) found.1 (not_from_false (bytes_eq (printed_line m) (printed_line found.0)) e)),
        found.2,
        found.3,
      )
    ] refl

-- ---- errors

coded : (found : Code) → not (length (code_name found) == 0) ≡ true
coded code.AttrDefined = refl
coded code.CallArg = refl
coded code.ImportNotFound = refl
coded code.Index = refl
coded code.Misc = refl
coded code.NameDefined = refl
coded code.NoRedef = refl
coded code.Operator = refl
coded code.Syntax = refl
coded code.UnionAttr = refl
coded code.ValidType = refl

obligation-coded : (found : ObligationKind) → not (length (obligation_code found) == 0) ≡ true
obligation-coded duty.Argument = refl
obligation-coded duty.Assignment = refl
obligation-coded duty.Default = refl
obligation-coded duty.DictEntry = refl
obligation-coded duty.Index = refl
obligation-coded duty.ListItem = refl
obligation-coded duty.MissingReturn = refl
obligation-coded duty.Override = refl
obligation-coded duty.Return = refl
obligation-coded duty.VariableOverride = refl

kind-coded : (kind : MessageKind) → (kind ≡ Note → ⊥) → not (length (code_of kind) == 0) ≡ true
kind-coded (Error found) apart = coded found
kind-coded (FailedObligation found) apart = obligation-coded found
kind-coded Note apart = absurd (apart refl)

-- an error has a code, and what has one is an error
error-coded : (path : List ℕ) (message : Message) → IsError message → is_error (located path message) ≡ true
error-coded path message apart = kind-coded message.kind apart

coded-error : (path : List ℕ) (message : Message) → is_error (located path message) ≡ true → IsError message
coded-error path message has note = false≢true (sym (ap (λ kind. not (length (code_of kind) == 0)) note) ∙ has)

-- ---- what was found

all-in : {X : Type 0} (P : X → Type 0) (xs : List X) → ((x : X) → In x xs → P x) → All P xs
all-in P [] each = All-nil P
all-in P (x ∷ xs) each = All-cons P x xs (each x (first refl)) (all-in P xs (λ y s. each y (after s)))

no-error : (texts : List (List ℕ)) → (length texts == 0) ≡ true → (text : List ℕ) → In text texts → ⊥
no-error [] none text s = in-none text s
no-error (x ∷ texts) none text s =
    let long : length (x ∷ texts) ≡ 0 = eqb-true (length (x ∷ texts)) 0 none in
    absurd (omega (arith, long))

module _ (founds : List Found) where
  -- the messages in order
  abbrev ordered : List Located
  ordered = sorted message_cmp (flat_map located_messages founds)

  abbrev Reported : Located → Type 0
  Reported = IsReported (HasFound founds)

  from-ordered : (x : Located) → In x ordered → Reported x
  from-ordered x s =
      let file = from-flat located_messages x founds (from-sorted x message_cmp (flat_map located_messages founds) s) in
      let own = from-map (located file.0.path) x file.0.messages file.2 in
      record {
        path = file.0.path;
        own = own.0;
        has = (file.0, contains-in file.0 founds file.1, refl, contains-in own.0 file.0.messages own.1);
        is = sym own.2;
      }

  in-ordered : (path : List ℕ) (message : Message) → HasFound founds path message → In (located path message) ordered
  in-ordered path message (file, is_file, is_path, is_own) =
      let own = in-map (located file.path) message file.messages (in-contains message file.messages is_own) in
      in-sorted (located path message) message_cmp (flat_map located_messages founds)
      (in-flat located_messages (located path message) file founds (in-contains file founds is_file)
      (subst (λ x. In x (map (located file.path) file.messages)) (ap (λ p. located p message) is_path) own))

  ascending : IsAscending message_cmp ordered
  ascending = IsAscending-sorted message_cmp message_cmp_total (flat_map located_messages founds)

  -- ---- the messages that are printed

  first-of : (x : Located) → Reported x → HasFirst (firsts ordered) x
  first-of x r = has-first ordered ascending x (subst (λ y. In y ordered) (sym r.is) (in-ordered r.path r.own r.has))

  are-printed : ArePrinted (HasFound founds) (firsts ordered)
  are-printed = record {
    reported = all-in Reported (firsts ordered) (λ x s. from-ordered x (from-firsts x ordered s));
    in_order = strictly ordered ascending;
    once = subst HasNoRepeats (sym (firsts-lines ordered)) (no_repeats (map printed_line ordered));
    first = λ x r. let found = first-of x r in (found.0, contains-in found.0 (firsts ordered) found.1, found.2, found.3);
    just = λ line. (
      λ among.
          let x = from-map printed_line line (firsts ordered) (in-contains line (map printed_line (firsts ordered)) among) in
          let r = from-ordered x.0 (from-firsts x.0 ordered x.1) in
          (r.path, r.own, r.has, ap printed_line (sym r.is) ∙ x.2),
      λ prints.
          let r : Reported (located prints.0 prints.1) = record { path = prints.0; own = prints.1; has = prints.2; is = refl } in
          let found = first-of (located prints.0 prints.1) r in
          contains-in line (map printed_line (firsts ordered))
          (subst (λ l. In l (map printed_line (firsts ordered))) (found.2 ∙ prints.3) (in-map printed_line found.0 (firsts ordered) found.1)),
    );
  }

  -- ---- the numbers

  -- the lines that errors print
  abbrev of_errors : List (List ℕ)
  of_errors = without_repeats (map printed_line (filter is_error ordered))

  from-errors : (line : List ℕ) → In line of_errors → PrintsError (HasFound founds) line
  from-errors line s =
      let x = from-map printed_line line (filter is_error ordered) (from-without line (map printed_line (filter is_error ordered)) s) in
      let kept = from-filter x.0 is_error ordered x.1 in
      let r = from-ordered x.0 kept.0 in
      (r.path, r.own, r.has, coded-error r.path r.own (ap is_error (sym r.is) ∙ kept.1), ap printed_line (sym r.is) ∙ x.2)

  in-errors : (line : List ℕ) → PrintsError (HasFound founds) line → In line of_errors
  in-errors line (path, message, has, error, is) =
      let x = located path message in
      let kept = in-filter x is_error ordered (in-ordered path message has) (error-coded path message error) in
      in-without line (map printed_line (filter is_error ordered))
      (subst (λ l. In l (map printed_line (filter is_error ordered))) is (in-map printed_line x (filter is_error ordered) kept))

  are-errors : Counts (PrintsError (HasFound founds)) (length of_errors)
  are-errors = record {
    texts = of_errors;
    once = no_repeats (map printed_line (filter is_error ordered));
    just = λ line. (λ among. from-errors line (in-contains line of_errors among), λ prints. contains-in line of_errors (in-errors line prints));
    are = refl;
  }

  -- the paths of the files with an error
  abbrev path_of : Found → List ℕ
  path_of found = found.path

  abbrev of_files : List (List ℕ)
  of_files = without_repeats (map path_of (filter has_error founds))

  from-files : (path : List ℕ) → In path of_files → HasError (HasFound founds) path
  from-files path s =
      let file = from-map path_of path (filter has_error founds) (from-without path (map path_of (filter has_error founds)) s) in
      let kept = from-filter file.0 has_error founds file.1 in
      let x = any-from is_error (located_messages file.0) kept.1 in
      let own = from-map (located file.0.path) x.0 file.0.messages x.1 in (
        own.0,
        (file.0, contains-in file.0 founds kept.0, file.2, contains-in own.0 file.0.messages own.1),
        coded-error file.0.path own.0 (ap is_error own.2 ∙ x.2),
      )

  in-files : (path : List ℕ) → HasError (HasFound founds) path → In path of_files
  in-files path (message, (file, is_file, is_path, is_own), error) =
      let own = in-map (located file.path) message file.messages (in-contains message file.messages is_own) in
      let has : has_error file ≡ true = any-in (located file.path message) is_error (located_messages file) own (error-coded file.path message error) in
      let kept = in-filter file has_error founds (in-contains file founds is_file) has in
      in-without path (map path_of (filter has_error founds))
      (subst (λ p. In p (map path_of (filter has_error founds))) is_path (in-map path_of file (filter has_error founds) kept))

  are-files : Counts (HasError (HasFound founds)) (length of_files)
  are-files = record {
    texts = of_files;
    once = no_repeats (map path_of (filter has_error founds));
    just = λ path. (λ among. from-files path (in-contains path of_files among), λ has. contains-in path of_files (in-files path has));
    are = refl;
  }

  -- ---- whether it is clean

  -- no file has an error
  abbrev HasNone : Type 0
  HasNone = (path : List ℕ) (message : Message) → HasFound founds path message → IsError message → ⊥

  none-where : (length of_errors == 0) ≡ true → HasNone
  none-where clean path message has error =
      no-error of_errors clean (printed_line (located path message)) (in-errors (printed_line (located path message)) (path, message, has, error, refl))

  clean-where : HasNone → (length of_errors == 0) ≡ true
  clean-where none = by of_errors (λ line s. let p = from-errors line s in none p.0 p.1 p.2 p.3)
    where
      by : (texts : List (List ℕ)) → ((text : List ℕ) → In text texts → ⊥) → (length texts == 0) ≡ true
      by [] out = refl
      by (text ∷ texts) out = absurd (out text (first refl))

-- ---- the law

pub reports_found : ReportsFound
unfolding report_of printed_lines error_lines paths_with_error messages_in_order
reports_found founds = record {
  messages = firsts (ordered founds);
  printed = are-printed founds;
  errors = length (of_errors founds);
  are_errors = are-errors founds;
  files = length (of_files founds);
  are_files = are-files founds;
  text =
      ap (λ lines. concat lines ++ summary (length (of_errors founds)) (length (of_files founds)) (length founds))
      (sym (firsts-lines (ordered founds)));
  clean = (none-where founds, clean-where founds);
}
