-- Messages whose flags are set: of some and of those after them, those of one check more, and by a test.
use Rattle.std.proofs.Common.{◌≡◌, ℕ, ◌+◌, ◌<◌, Bool, true, false, not, cond, List, [], ◌∷◌, ◌++◌, drop, filter, get_or, length, map, refl, sym, ap, ◌∙◌, append_assoc}
use Rattle.std.proofs.lemmas.List.{drop_more, length-map}
use Rattle.std.specs.declared.alloc.Global.{Global}
use Rattle.std.specs.declared.rc.Rc.{Rc}
use Rattle.pyc_ast.specs.Modules.{Outcome, tree, fault}
use Rattle.pyc_body.specs.FoundMessages.{without_ignored}
use Rattle.pyc_recorder.specs.CheckedView.{messages_of}
use Rattle.pyc_recorder.specs.declared.checked.Checked.{Checked as CheckedOf}
use Rattle.pyc_report.specs.Message.{Message, message_in}
use Rattle.pyc_report.specs.declared.message.Message.{Message as MessageOf}
use Rattle.pyc_reuse.specs.SharedChecks.{found_of}
use Rattle.pyc_reuse.specs.Shown.{flagged, is_shown}

-- none is flagged where there is no flag
pub flagged-none : (messages : List Message) → flagged messages [] ≡ []
flagged-none [] = refl
flagged-none (message ∷ messages) = refl

-- those of some messages, and then those of the rest by the flags after them
pub flagged-append : (messages more : List Message) (flags : List Bool) → flagged (messages ++ more) flags ≡ flagged messages flags ++ flagged more (drop (length messages) flags)
flagged-append [] more flags = refl
flagged-append (message ∷ messages) more [] = sym (flagged-none more)
flagged-append (message ∷ messages) more (flag ∷ flags) =
    elim flag as (λ b. cond b (message ∷ flagged (messages ++ more) flags) (flagged (messages ++ more) flags)
    ≡ cond b (message ∷ flagged messages flags) (flagged messages flags) ++ flagged more (drop (length messages) flags)) [
      | true ↦ ap (λ ms. message ∷ ms) (flagged-append messages more flags)
      | false ↦ flagged-append messages more flags
    ]

-- at a check, whose messages have the first flags of those that are left
pub flagged-check : (checks : List (Rc CheckedOf Global)) (i : ℕ) (check : Rc CheckedOf Global) → i < length checks → check ≡ get_or checks i check
    → (messages : List MessageOf) → map message_in messages ≡ messages_of check.value → (seen seen' all : List Message) (flags flags' : List Bool)
    → seen' ≡ seen ++ flagged (map message_in messages) flags → flags' ≡ drop (length messages) flags → seen ++ flagged (found_of (drop i checks)) flags ≡ all
    → seen' ++ flagged (found_of (drop (i + 1) checks)) flags' ≡ all
flagged-check checks i check within is messages own seen seen' all flags flags' added after are =
    let rest = found_of (drop (i + 1) checks) in
    let mine = map message_in messages in
    let ahead : mine ++ rest ≡ found_of (drop i checks) =
    ap (λ ms. ms ++ rest) own ∙ ap (λ one. messages_of one.value ++ rest) is ∙ sym (ap found_of (drop_more checks i check within)) in
    ap (λ ms. ms ++ flagged rest flags') added
    ∙ append_assoc seen (flagged mine flags) (flagged rest flags')
    ∙ ap (λ fs. seen ++ (flagged mine flags ++ flagged rest fs)) (after ∙ ap (λ n. drop n flags) (sym (length-map messages message_in)))
    ∙ ap (λ ms. seen ++ ms) (sym (flagged-append mine rest flags)) ∙ ap (λ ms. seen ++ flagged ms flags) ahead ∙ are

-- by the flags of a test, those that pass it
pub flagged-by : (test : Message → Bool) (messages : List Message) → flagged messages (map test messages) ≡ filter test messages
flagged-by test [] = refl
flagged-by test (message ∷ messages) = ap (λ ms. cond (test message) (message ∷ ms) ms) (flagged-by test messages)

all_stay : (messages : List Message) → filter (λ message. true) messages ≡ messages
all_stay [] = refl
all_stay (message ∷ messages) = ap (λ ms. message ∷ ms) (all_stay messages)

-- and those are the messages that no ignore comment suppresses
pub shown_are : (outcome : Outcome) (messages : List Message) → flagged messages (map (is_shown outcome) messages) ≡ without_ignored outcome messages
shown_are (tree m) messages = flagged-by (is_shown (tree m)) messages
shown_are (fault line text) messages = flagged-by (λ message. true) messages ∙ all_stay messages
