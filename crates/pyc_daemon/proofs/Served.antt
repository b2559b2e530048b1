-- One command at the front of an input, served.
use Rattle.std.proofs.Common.{◌≡◌, ℕ, ◌+◌, ◌-◌, ◌<◌, ◌≤◌, Bool, true, false, true≢false, if◌then◌else◌, ◌==◌, ◌&&◌, min, not, nat_lt, nat_le, List, [], ◌∷◌, ◌++◌, length, take, Some, slice_index, refl, sym, ap, subst, ◌∙◌, arith, append_assoc, length-append}
use Rattle.std.proofs.lemmas.List.{length-take}
use Rattle.std.proofs.lemmas.Bool.Decides.{nat_tests}
use native.Mathlib.Numerals.{unary_clauses}
use Rattle.pyc_session.specs.Command.{unknown, bytes_after, spelled}
use Rattle.pyc_session.specs.Input.{has_line_feed, first_line, after_line, command_line}
use Rattle.pyc_daemon.specs.Replies.{IsObeyed, Serves}
use Rattle.pyc_daemon.specs.Runs.{IsLast}
use Rattle.pyc_session.specs.Event.{Event}
use Rattle.pyc_session.specs.Session.{turn, act, has_command}
use Rattle.pyc_session.specs.State.{State}
use Rattle.pyc_daemon.specs.declared.reply.Answer.{Answer}
use Rattle.pyc_daemon.proofs.Moving.{append_nil, take_whole}
use Rattle.pyc_session.proofs.Turns.{first_line-fed, after_line-fed, has_line_feed-fed, first_line-last, after_line-last, no_bytes}

spelled_long : (line : List ℕ) → 512 < length line → spelled line ≡ unknown
unfolding spelled
spelled_long line long = let h : nat_lt 512 (length line) ≡ true = grind (arith, nat_tests) in rw h refl

command_line-length : (raw : List ℕ) (fed : Bool) → length raw ≤ length (command_line raw fed) + 1
command_line-length raw fed =
    elim (fed && (slice_index raw (length raw - 1) == 13)) as (λ t. length raw ≤ length (if t then take (length raw - 1) raw else raw) + 1) [
      | true ↦ omega (arith, length-take (length raw - 1) raw)
      | false ↦ omega arith
    ]

-- a line of more than 514 bytes spells nothing, cut or whole
pub spelled_cut : (raw : List ℕ) (fed : Bool) → spelled (command_line (take 514 raw) fed) ≡ spelled (command_line raw fed)
spelled_cut raw fed =
    elim (nat_le (length raw) 514) as (λ b. nat_le (length raw) 514 ≡ b → spelled (command_line (take 514 raw) fed) ≡ spelled (command_line raw fed)) [
      | true ↦ λ e. let short : length raw ≤ 514 = grind (arith, nat_tests) in rw (take_whole 514 raw short) refl
      | false ↦ λ e.
          let long : 514 < length raw = grind (arith, nat_tests) in
          let cut = command_line-length (take 514 raw) fed in
          let whole = command_line-length raw fed in
          let kept = length-take 514 raw in
          let left : 512 < length (command_line (take 514 raw) fed) = omega (arith, cut, kept) in
          let right : 512 < length (command_line raw fed) = omega (arith, whole) in
          spelled_long (command_line (take 514 raw) fed) left ∙ sym (spelled_long (command_line raw fed) right)
    ] refl

-- what a line and what it asks for are used for
abbrev pub Obeys : State → State → List ℕ → Bool → List ℕ → Event → Bool → Answer → Type 0
Obeys s s' line fed bytes event ended answer = IsObeyed s s' (spelled (command_line line fed)) bytes event ended answer

turn-is : (s : State) (input : List ℕ) (event : Event) → 0 < length input → turn s input event ≡ act s (spelled (command_line (first_line input) (has_line_feed input))) event (after_line input)
unfolding turn
turn-is s [] event some = absurd (omega (arith, some))
turn-is s (b ∷ bs) event some = refl

turn-fed : (s : State) (raw tail : List ℕ) (event : Event) → has_line_feed raw ≡ false
    → turn s (raw ++ 10 ∷ tail) event ≡ act s (spelled (command_line raw true)) event tail
turn-fed s raw tail event none =
    turn-is s (raw ++ 10 ∷ tail) event (omega (arith, length-append raw (10 ∷ tail)))
    ∙ rw (first_line-fed raw tail none, has_line_feed-fed raw tail, after_line-fed raw tail none) refl

turn-last : (s : State) (raw : List ℕ) (event : Event) → has_line_feed raw ≡ false → (length raw ≡ 0 → ⊥)
    → turn s raw event ≡ act s (spelled (command_line raw false)) event []
turn-last s raw event none some =
    turn-is s raw event (omega (arith, some)) ∙ rw (first_line-last raw none, none, after_line-last raw none) refl

-- a command whose line a line feed ended
served_fed : (s s' : State) (answer : Answer) (raw bytes line : List ℕ) (event : Event) (ended : Bool) → has_line_feed raw ≡ false → line ≡ take 514 raw
    → Obeys s s' line true bytes event ended answer → Serves s s' ((raw ++ 10 ∷ []) ++ bytes) event ended (Some answer)
served_fed s s' answer raw bytes line event ended none kept obeys = λ rest last.
    let joined : ((raw ++ 10 ∷ []) ++ bytes) ++ rest ≡ raw ++ 10 ∷ (bytes ++ rest) =
    append_assoc (raw ++ 10 ∷ []) bytes rest ∙ append_assoc raw (10 ∷ []) (bytes ++ rest) in
    ap (λ input. turn s input event) joined ∙ turn-fed s raw (bytes ++ rest) event none
    ∙ ap (λ said. act s said event (bytes ++ rest)) (sym (ap (λ l. spelled (command_line l true)) kept ∙ spelled_cut raw true))
    ∙ obeys rest last

-- a command whose line the end of the input ended
served_last : (s s' : State) (answer : Answer) (raw bytes line : List ℕ) (event : Event) (ended : Bool) → has_line_feed raw ≡ false → line ≡ take 514 raw
    → (length line ≡ 0 → ⊥) → (bytes ≡ []) × (ended ≡ true)
    → Obeys s s' line false bytes event ended answer → Serves s s' ((raw ++ []) ++ bytes) event ended (Some answer)
served_last s s' answer raw bytes line event ended none kept some over obeys =
    let filled : (length (take 514 raw) ≡ 0 → ⊥) = subst (λ l. length l ≡ 0 → ⊥) kept some in
    let long : (length raw ≡ 0 → ⊥) = λ e. filled (omega (arith, length-take 514 raw)) in
    λ rest last.
    let nothing : rest ≡ [] = last over.1 in
    let joined : ((raw ++ []) ++ bytes) ++ rest ≡ raw = rw (nothing, over.0) (append_nil ((raw ++ []) ++ []) ∙ append_nil (raw ++ []) ∙ append_nil raw) in
    let left : bytes ++ rest ≡ [] = rw (over.0, nothing) refl in
    ap (λ input. turn s input event) joined ∙ turn-last s raw event none long
    ∙ ap (λ said. act s said event []) (sym (ap (λ l. spelled (command_line l false)) kept ∙ spelled_cut raw false))
    ∙ ap (λ tail. act s (spelled (command_line line false)) event tail) (sym left)
    ∙ obeys rest last

-- either
pub served : (s s' : State) (answer : Answer) (raw bytes line : List ℕ) (fed : Bool) (event : Event) (ended : Bool) → has_line_feed raw ≡ false → line ≡ take 514 raw
    → (fed ≡ false → (length line ≡ 0 → ⊥) × ((bytes ≡ []) × (ended ≡ true)))
    → Obeys s s' line fed bytes event ended answer → Serves s s' ((raw ++ (if fed then 10 ∷ [] else [])) ++ bytes) event ended (Some answer)
served s s' answer raw bytes line true event ended none kept over obeys = served_fed s s' answer raw bytes line event ended none kept obeys
served s s' answer raw bytes line false event ended none kept over obeys =
    let h = over refl in served_last s s' answer raw bytes line event ended none kept h.0 h.1 obeys

-- a line whose bytes did not all come is no whole command
pub less_than_command : (raw line part : List ℕ) (fed ended : Bool) → has_line_feed raw ≡ false → line ≡ take 514 raw
    → (fed ≡ false → ended ≡ true) → ended ≡ false → length part < bytes_after (spelled (command_line line fed))
    → has_command ((raw ++ (if fed then 10 ∷ [] else [])) ++ part) ≡ false
less_than_command raw line part true ended none kept last unended few =
    let same : spelled (command_line line true) ≡ spelled (command_line raw true) = ap (λ l. spelled (command_line l true)) kept ∙ spelled_cut raw true in
    ap has_command (append_assoc raw (10 ∷ []) part) ∙ no_bytes raw part none (subst (λ said. length part < bytes_after said) same few)
less_than_command raw line part false ended none kept last unended few = absurd (true≢false (sym (last refl) ∙ unended))

some_kept : (n m : ℕ) → m ≡ 0 → m ≡ min 514 (n + 1) → ⊥
some_kept n m none e = omega arith

-- a line that is no end
pub some_line : (line : List ℕ) (fed : Bool) → (not fed && (length line == 0)) ≡ false → fed ≡ false → length line ≡ 0 → ⊥
some_line line true e f z = cc
some_line line false e f z = let h : (length line == 0) ≡ true = grind (arith, nat_tests) in cc

-- a line that is one
pub end_line : (raw line : List ℕ) (fed : Bool) → line ≡ take 514 raw → (not fed && (length line == 0)) ≡ true
    → (raw ++ (if fed then 10 ∷ [] else []) ≡ []) × (fed ≡ false)
end_line raw line true kept e = cc
end_line [] line false kept e = (refl, refl)
end_line (b ∷ raw) line false kept e =
    let none : length line ≡ 0 = grind (arith, nat_tests) in
    let same : length line ≡ length (take 514 (b ∷ raw)) = ap length kept in
    absurd (some_kept (length raw) (length line) none (same ∙ length-take 514 (b ∷ raw) ∙ simp unary_clauses))
