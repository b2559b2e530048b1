-- Asking where answers are kept.
use Rattle.std.proofs.Common.{◌≡◌, ◌∙◌, ap, ap₂, subst, sym, refl, true≢false, Bool, true, false, cond, ◌||◌, if◌then◌else◌}
use Rattle.std.proofs.Common.{append-nil, List, [], ◌∷◌, ◌++◌, map, Some, None, is_some, unwrap_or, Result, Ok, Err, IfOk}
use Rattle.std.proofs.Math.Logic.{∥∥₁_elim}
use Rattle.std.specs.List.{list_any}
use Rattle.std.specs.Map.{lookup, keys_of, values_of}
use Rattle.std.specs.declared.alloc.AllocError.{AllocError}
use Rattle.std.specs.declared.alloc.Global.{Global}
use Rattle.std.specs.declared.rc.Rc.{Rc}
use Rattle.indexmap.specs.IndexMap.{insert_entry}
use Rattle.pyc_iface.specs.Answers.{answer_by}
use Rattle.pyc_known_answers.proofs.KnownLemmas.{one_list}
use Rattle.pyc_known_answers.specs.LookedAnswers.{LookedAnswer, IsAnswerOf, AreAnswersOf}
use Rattle.pyc_known_answers.specs.LookedAnswerView.{looked_in}
use Rattle.pyc_known_answers.specs.declared.looked_answer.LookedAnswer.{LookedAnswer as LookedAnswerOf}
use Rattle.pyc_names.specs.Interfaces.{Interface}
use Rattle.pyc_recorder.proofs.AnswerSets.{one_proof}
use Rattle.pyc_recorder.specs.KeptAnswers.{AreAnswers}
use Rattle.pyc_keys.specs.KeyEquality.{is_asked, keys_are}
use Rattle.pyc_reading.specs.AnswerView.{answer_in}
use Rattle.pyc_reading.specs.Answers.{Answer}
use Rattle.pyc_reading.specs.Traces.{Trace, Performs, asking, with_key}
use Rattle.pyc_reading.specs.Keys.{Key}
use Rattle.pyc_reading.specs.declared.answer.Answer.{Answer as AnswerOf}
use Rattle.pyc_report.specs.Message.{Message}

none_some : {A : Type 0} {x : A} → None ≡ Some x → ⊥
none_some e = true≢false (sym (ap is_some e))

same_some : {A : Type 0} {x y : A} → Some x ≡ Some y → x ≡ y
same_some {A} {x} e = ap (λ r. unwrap_or r x) e

module _ {V : Type 0} (t : Key → Bool) where
  -- a key whose answer is kept is among the keys
  among : (es : List (Key × V)) (a : V) → lookup t es ≡ Some a → list_any t (keys_of es) ≡ true
  among [] a h = absurd (none_some h)
  among (e ∷ es) a h = by (t e.0) refl (among es a)
    where
      by : (b : Bool) → t e.0 ≡ b → (lookup t es ≡ Some a → list_any t (keys_of es) ≡ true)
          → list_any t (keys_of (e ∷ es)) ≡ true
      by true p rest = ap (λ c. c || list_any t (keys_of es)) p
      by false p rest =
          ap (λ c. c || list_any t (keys_of es)) p
          ∙ rest (sym (ap (λ c. cond c (Some e.1) (lookup t es)) p) ∙ h)

  -- a key without an answer is not among them
  apart : (es : List (Key × V)) → lookup t es ≡ None → list_any t (keys_of es) ≡ false
  apart [] h = refl
  apart (e ∷ es) h = by (t e.0) refl (apart es)
    where
      by : (b : Bool) → t e.0 ≡ b → (lookup t es ≡ None → list_any t (keys_of es) ≡ false)
          → list_any t (keys_of (e ∷ es)) ≡ false
      by true p rest = absurd (none_some (sym h ∙ ap (λ c. cond c (Some e.1) (lookup t es)) p))
      by false p rest =
          ap (λ c. c || list_any t (keys_of es)) p
          ∙ rest (sym (ap (λ c. cond c (Some e.1) (lookup t es)) p) ∙ h)

-- a new key goes last
last : {V : Type 0} (k : Key) (a : V) (es : List (Key × V)) → lookup (is_asked k) es ≡ None
    → keys_of (insert_entry is_asked es k a) ≡ keys_of es ++ (k ∷ [])
last k a [] h = refl
last k a (e ∷ es) h = by (is_asked k e.0) refl (last k a es)
  where
    by : (b : Bool) → is_asked k e.0 ≡ b
        → (lookup (is_asked k) es ≡ None → keys_of (insert_entry is_asked es k a) ≡ keys_of es ++ (k ∷ []))
        → keys_of (insert_entry is_asked (e ∷ es) k a) ≡ keys_of (e ∷ es) ++ (k ∷ [])
    by true p rest = absurd (none_some (sym h ∙ ap (λ c. cond c (Some e.1) (lookup (is_asked k) es)) p))
    by false p rest =
        ap (λ c. keys_of (if c then (e.0, a) ∷ es else e ∷ insert_entry is_asked es k a)) p
        ∙ ap (λ ks. e.0 ∷ ks) (rest (sym (ap (λ c. cond c (Some e.1) (lookup (is_asked k) es)) p) ∙ h))

-- ---- answers to their keys

abbrev Kept : Type 0
Kept = Key × Rc LookedAnswerOf Global

-- an answer of files that are these, to this key
pub asked_answer : (world files : List Interface) (k asked : Key) (x : LookedAnswer) → world ≡ files → k ≡ asked → IsAnswerOf world k x
    → IsAnswerOf files asked x
asked_answer world files k asked x same is answer =
    subst (λ key. IsAnswerOf files key x) is (subst (λ interfaces. IsAnswerOf interfaces k x) same answer)

module _ (interfaces : List Interface) where
  -- the answer to a key that is kept
  kept_answer : (k : Key) (a : Rc LookedAnswerOf Global) (es : List Kept) → AreAnswers interfaces es → lookup (is_asked k) es ≡ Some a
      → IsAnswerOf interfaces k (looked_in a.value)
  kept_answer k a [] are found = absurd (none_some found)
  kept_answer k a (e ∷ es) are found = by (is_asked k e.0) refl (kept_answer k a es are.1)
    where
      by : (c : Bool) → is_asked k e.0 ≡ c → (lookup (is_asked k) es ≡ Some a → IsAnswerOf interfaces k (looked_in a.value)) → IsAnswerOf interfaces k (looked_in a.value)
      by true p rest =
          let kept : Some e.1 ≡ Some a = sym (ap (λ c. cond c (Some e.1) (lookup (is_asked k) es)) p) ∙ found in
          subst (λ (s : Rc LookedAnswerOf Global). IsAnswerOf interfaces k (looked_in s.value)) (same_some kept)
          (subst (λ key. IsAnswerOf interfaces key (looked_in e.1.value)) (keys_are e.0 k p) are.0)
      by false p rest = rest (sym (ap (λ c. cond c (Some e.1) (lookup (is_asked k) es)) p) ∙ found)

  -- the answers that are kept stay the ones to their keys where one more such is kept
  pub still_answers : (k : Key) (a : Rc LookedAnswerOf Global) (es : List Kept) → IsAnswerOf interfaces k (looked_in a.value) → AreAnswers interfaces es
      → AreAnswers interfaces (insert_entry is_asked es k a)
  still_answers k a [] is are = (is, tt)
  still_answers k a (e ∷ es) is are = by (is_asked k e.0) refl (still_answers k a es is are.1)
    where
      by : (c : Bool) → is_asked k e.0 ≡ c → AreAnswers interfaces (insert_entry is_asked es k a)
          → AreAnswers interfaces (insert_entry is_asked (e ∷ es) k a)
      by true p rest =
          subst (λ c. AreAnswers interfaces (if c then (e.0, a) ∷ es else e ∷ insert_entry is_asked es k a)) (sym p)
          (subst (λ key. IsAnswerOf interfaces key (looked_in a.value)) (sym (keys_are e.0 k p)) is, are.1)
      by false p rest =
          subst (λ c. AreAnswers interfaces (if c then (e.0, a) ∷ es else e ∷ insert_entry is_asked es k a)) (sym p) (are.0, rest)

  -- answers and keys that were listed
  pub listed_answers : (es : List Kept) (answers_in_order : List (Rc LookedAnswerOf Global)) (asked : List Key) → ∥ AreAnswers interfaces es ∥₁
      → map (λ answer. looked_in answer.value) answers_in_order ≡ map (λ answer. looked_in answer.value) (values_of es) → asked ≡ keys_of es
      → AreAnswersOf interfaces asked (map (λ answer. looked_in answer.value) answers_in_order)
  listed_answers es answers_in_order asked are all keys =
      subst (λ ks. AreAnswersOf interfaces ks (map (λ answer. looked_in answer.value) answers_in_order)) (sym keys)
      (subst (AreAnswersOf interfaces (keys_of es)) (sym all)
      (∥∥₁_elim are (one_list interfaces (keys_of es) (map (λ answer. looked_in answer.value) (values_of es))) (λ own. own)))

-- what is kept answers as the world does whose files these are
pub kept_to : (world files : List Interface) (k : Key) (a : Rc LookedAnswerOf Global) (es : List Kept) → ∥ world ≡ files ∥₁ → ∥ AreAnswers files es ∥₁
    → lookup (is_asked k) es ≡ Some a → (looked_in a.value).answer ≡ answer_by world k
kept_to world files k a es same are found =
    ∥∥₁_elim same (one_proof _ _)
    (λ w. ∥∥₁_elim are (one_proof _ _) (λ all. (kept_answer files k a es all found).answers ∙ ap (λ (l : List Interface). answer_by l k) (sym w)))

module _ (answers : Key → Answer) (messages : List Message) where
  abbrev pub trace_with : List Key → Trace
  trace_with keys = record { answers = answers; keys = keys; messages = messages }

  -- an answer that is kept is handed out, and nothing is taken down
  pub handed_out : (es : List Kept) (k : Key) (a : Rc LookedAnswerOf Global) (result : Result AnswerOf AllocError)
      → (looked_in a.value).answer ≡ answers k → lookup (is_asked k) es ≡ Some a → IfOk result (λ copy. answer_in copy ≡ (looked_in a.value).answer)
      → Performs answer_in (asking k) (trace_with (keys_of es)) result (trace_with (keys_of es))
  handed_out es k a (Ok copy) is found same =
      let stay : with_key (keys_of es) k ≡ keys_of es =
      ap (λ c. if c then keys_of es else keys_of es ++ (k ∷ [])) (among (is_asked k) es a found)
      in
      record {
        done = λ j. (sym (same ∙ is) j, trace_with (stay j));
        grown = record { answers = refl; more = []; keys = sym (append-nil (keys_of es)) };
      }
  handed_out es k a (Err e) is found same =
      record { done = tt; grown = record { answers = refl; more = []; keys = sym (append-nil (keys_of es)) } }

  -- a new answer is handed out, and its key taken down
  pub newly_kept : (es fs : List Kept) (k : Key) (a : Rc LookedAnswerOf Global) (copy : AnswerOf)
      → lookup (is_asked k) es ≡ None → (looked_in a.value).answer ≡ answers k → answer_in copy ≡ (looked_in a.value).answer
      → fs ≡ insert_entry is_asked es k a
      → Performs answer_in (asking k) (trace_with (keys_of es)) (Ok copy) (trace_with (keys_of fs))
  newly_kept es fs k a copy none is same kept =
      let keys : keys_of fs ≡ keys_of es ++ (k ∷ []) = ap keys_of kept ∙ last k a es none in
      let taken : with_key (keys_of es) k ≡ keys_of es ++ (k ∷ []) =
      ap (λ c. if c then keys_of es else keys_of es ++ (k ∷ [])) (apart (is_asked k) es none)
      in
      record {
        done = λ j. (sym (same ∙ is) j, trace_with ((taken ∙ sym keys) j));
        grown = record { answers = refl; more = k ∷ []; keys = keys };
      }
