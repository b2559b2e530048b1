-- How readings of an input follow one another.
use Rattle.std.proofs.Common.{◌≡◌, ℕ, ◌+◌, ◌-◌, ◌<◌, ◌≤◌, List, [], ◌∷◌, ◌++◌, length, take, drop, min, Option, None, Some, Ok, Err, true, false, true≢false, Bool, refl, sym, ap, if◌then◌else◌, subst, ◌==◌, ◌∙◌, append_assoc, arith, length-append}
use Rattle.std.proofs.lemmas.Bool.Decides.{nat_tests}
use Rattle.std.proofs.lemmas.List.{take-append-le, take-append-drop, length-take, length-drop, drop-take, drop-drop}
use Rattle.std.proofs.Math.ListN.{drop_of_length-le}
use native.Mathlib.Numerals.{unary_clauses}
use Rattle.std.specs.Io.KnownBytes.{Consumes}
use Rattle.pyc_daemon.specs.Counted.{IsSound, FailsOnce, at_fault, at_empty, one_more, calls_of}
use Rattle.pyc_daemon.specs.ReadBuffer.{ended_of}
use Rattle.pyc_daemon.specs.declared.read_buffer.ReadBuffer.{ReadBuffer}
use Rattle.pyc_daemon.specs.Runs.{ComesOfServing}
use Rattle.pyc_daemon.specs.declared.counted.Counted.{Counted}
use Rattle.pyc_daemon.specs.Reading.{Advances, IsReading, ReadsOn, ComesOfReading, work_left}
use Rattle.pyc_session.specs.declared.ending.RunFault.{RunFault}
use Rattle.pyc_session.specs.declared.ending.RunFault.TheVariants.{Read, Write, TooManyTurns, Memory}
use Rattle.pyc_session.specs.Input.{has_line_feed}

pub append_nil : (xs : List ℕ) → xs ++ [] ≡ xs
append_nil [] = refl
append_nil (x ∷ xs) = ap (λ ys. x ∷ ys) (append_nil xs)

pub consumes_none : (left : Option (List ℕ)) → Consumes left left []
consumes_none None = tt
consumes_none (Some xs) = refl

consumes_trans : (a b c : Option (List ℕ)) (xs ys : List ℕ) → Consumes a b xs → Consumes b c ys → Consumes a c (xs ++ ys)
consumes_trans None b c xs ys p q = tt
consumes_trans (Some xs') None c xs ys p q = absurd p
consumes_trans (Some xs') (Some ys') None xs ys p q = q
consumes_trans (Some xs') (Some ys') (Some zs') xs ys p q = p ∙ ap (λ zs. xs ++ zs) q ∙ sym (append_assoc xs ys zs')

-- nothing was read or used
pub advances_none : (left : Option (List ℕ)) (held : List ℕ) → Advances left held left held []
advances_none left held = record { got = []; consumes = consumes_none left; seam = append_nil held }

-- some of what is held is used
pub advances_on : (left left' : Option (List ℕ)) (held held' held'' used more : List ℕ)
    → Advances left held left' held' used → held' ≡ more ++ held'' → Advances left held left' held'' (used ++ more)
advances_on left left' held held' held'' used more a e = record {
  got = a.got;
  consumes = a.consumes;
  seam = a.seam ∙ ap (λ zs. used ++ zs) e ∙ sym (append_assoc used more held'');
}

-- one reading after another
pub advances_trans : (left left' left'' : Option (List ℕ)) (held held' held'' used more : List ℕ)
    → Advances left held left' held' used → Advances left' held' left'' held'' more → Advances left held left'' held'' (used ++ more)
advances_trans left left' left'' held held' held'' used more a b = record {
  got = a.got ++ b.got;
  consumes = consumes_trans left left' left'' a.got b.got a.consumes b.consumes;
  seam = sym (append_assoc held a.got b.got) ∙ ap (λ zs. zs ++ b.got) a.seam ∙ append_assoc used held' b.got ∙ ap (λ zs. used ++ zs) b.seam ∙ sym (append_assoc used more held'');
}

-- bytes are read when none is held
pub advances_read : (left left' left'' : Option (List ℕ)) (held held' held'' used : List ℕ)
    → Advances left held left' held' used → held' ≡ [] → Advances left' [] left'' held'' [] → Advances left held left'' held'' used
advances_read left left' left'' held held' held'' used a e b =
    subst (λ zs. Advances left held left'' held'' zs) (append_nil used)
    (advances_trans left left' left'' held held' held'' used [] a (subst (λ zs. Advances left' zs left'' held'' []) (sym e) b))

-- a byte that is no line feed goes on with the line
pub line_goes_on : (raw : List ℕ) (b : ℕ) → has_line_feed raw ≡ false → (b == 10) ≡ false → has_line_feed (raw ++ b ∷ []) ≡ false
line_goes_on [] b none other = rw other refl
line_goes_on (x ∷ xs) b none other =
    elim (x == 10) as (λ t. (if t then true else has_line_feed xs) ≡ false → (if t then true else has_line_feed (xs ++ b ∷ [])) ≡ false) [
      | true ↦ λ e. e
      | false ↦ λ e. line_goes_on xs b e other
    ] none

pub take_whole : (n : ℕ) (xs : List ℕ) → length xs ≤ n → take n xs ≡ xs
take_whole n xs short = sym (append_nil (take n xs)) ∙ ap (λ zs. take n xs ++ zs) (sym (drop_of_length-le xs short)) ∙ take-append-drop n xs

-- what is kept of a line, with room for one more
pub kept_more : (n : ℕ) (raw : List ℕ) (b : ℕ) → length (take n raw) < n → take n raw ++ b ∷ [] ≡ take n (raw ++ b ∷ [])
kept_more n raw b room =
    let small : length raw < n = omega (arith, length-take n raw) in
    let longer : length (raw ++ b ∷ []) ≤ n = omega (arith, length-append raw (b ∷ [])) in
    rw (take_whole n raw (omega arith), take_whole n (raw ++ b ∷ []) longer) refl

-- and with none
pub kept_all : (n : ℕ) (raw : List ℕ) (b : ℕ) → n ≤ length (take n raw) → take n raw ≡ take n (raw ++ b ∷ [])
kept_all n raw b full =
    let long : n ≤ length raw = omega (arith, length-take n raw) in sym (take-append-le n raw (b ∷ []) long)

-- What was read of a line that goes on: `kept` are its first 514 bytes.
pub record LineSoFar (left : Option (List ℕ)) (held : List ℕ) (left' : Option (List ℕ)) (held' kept : List ℕ) : Type 0 where
  pub raw : List ℕ
  pub moved : Advances left held left' held' raw
  pub open_line : has_line_feed raw ≡ false
  pub kept_is : kept ≡ take 514 raw

pub line_begun : (left : Option (List ℕ)) (held kept : List ℕ) → kept ≡ [] → LineSoFar left held left held kept
line_begun left held kept e = record { raw = []; moved = advances_none left held; open_line = refl; kept_is = e }

other_byte : (b : ℕ) → (b ≡ 10 → ⊥) → (b == 10) ≡ false
other_byte b h = grind (arith, nat_tests)

pub line_byte_kept : (left left' : Option (List ℕ)) (held held' held'' kept kept' : List ℕ) (b : ℕ)
    → LineSoFar left held left' held' kept → held' ≡ b ∷ held'' → (b ≡ 10 → ⊥) → length kept < 514 → kept' ≡ kept ++ b ∷ []
    → LineSoFar left held left' held'' kept'
line_byte_kept left left' held held' held'' kept kept' b s e other room k = record {
  raw = s.raw ++ b ∷ [];
  moved = advances_on left left' held held' held'' s.raw (b ∷ []) s.moved e;
  open_line = line_goes_on s.raw b s.open_line (other_byte b other);
  kept_is = k ∙ ap (λ zs. zs ++ b ∷ []) s.kept_is ∙ kept_more 514 s.raw b (subst (λ zs. length zs < 514) s.kept_is room);
}

pub line_byte_left : (left left' : Option (List ℕ)) (held held' held'' kept : List ℕ) (b : ℕ)
    → LineSoFar left held left' held' kept → held' ≡ b ∷ held'' → (b ≡ 10 → ⊥) → 514 ≤ length kept
    → LineSoFar left held left' held'' kept
line_byte_left left left' held held' held'' kept b s e other full = record {
  raw = s.raw ++ b ∷ [];
  moved = advances_on left left' held held' held'' s.raw (b ∷ []) s.moved e;
  open_line = line_goes_on s.raw b s.open_line (other_byte b other);
  kept_is = s.kept_is ∙ kept_all 514 s.raw b (subst (λ zs. 514 ≤ length zs) s.kept_is full);
}

pub line_refilled : (left left' left'' : Option (List ℕ)) (held held' held'' kept : List ℕ)
    → LineSoFar left held left' held' kept → held' ≡ [] → Advances left' [] left'' held'' [] → LineSoFar left held left'' held'' kept
line_refilled left left' left'' held held' held'' kept s e a = record {
  raw = s.raw;
  moved = advances_read left left' left'' held held' held'' s.raw s.moved e a;
  open_line = s.open_line;
  kept_is = s.kept_is;
}

-- a byte that is used lowers what is left to do
pub work_byte : (ended ended' : Bool) (held held' : List ℕ) (b calls turns : ℕ) → ended' ≡ ended → held ≡ b ∷ held'
    → work_left ended' (length held') calls turns ≤ work_left ended (length held) calls turns
work_byte true ended' held held' b calls turns e h = rw e (omega arith)
work_byte false ended' held held' b calls turns e h = rw (e, h) (omega arith)

-- as does a read, where nothing was held
pub work_read : (ended : Bool) (held : List ℕ) (calls turns now : ℕ) → ended ≡ false → held ≡ [] → now < work_left false 0 calls turns
    → now ≤ work_left ended (length held) calls turns
work_read ended held calls turns now e h less = rw (e, h) (omega arith)

-- What was read of the bytes that an `add` announces: `rest` are still to come.
pub record BodySoFar (left : Option (List ℕ)) (held : List ℕ) (left' : Option (List ℕ)) (held' items : List ℕ) (kept wanted over over' : Bool) (size rest : ℕ) : Type 0 where
  pub used : List ℕ
  pub moved : Advances left held left' held' used
  pub counted : length used + rest ≡ size
  pub kept_is : kept ≡ true → (items ≡ used) × (wanted ≡ true)
  pub idle : over ≡ true → (used ≡ []) × (over' ≡ true)

part_of_some : (most n m : ℕ) → 0 < most → n ≡ 0 → n ≡ min most (m + 1) → ⊥
part_of_some most n m some none e = omega arith

-- a part of no byte, of at least one, is a part of nothing
pub part_of_none : (most : ℕ) (part held : List ℕ) → 0 < most → length part ≡ 0 → length part ≡ min most (length held) → held ≡ []
part_of_none most part [] some none e = refl
part_of_none most part (x ∷ xs) some none e = absurd (part_of_some most (length part) (length xs) some none (e ∙ simp unary_clauses))

still_open : {P : Type 0} (over : Bool) → over ≡ false → over ≡ true → P
still_open over e f = cc

-- the bytes are read on when none is held
pub body_refilled : (left left' left'' : Option (List ℕ)) (held held' held'' items : List ℕ) (kept wanted over over' over'' : Bool) (size rest : ℕ)
    → BodySoFar left held left' held' items kept wanted over over' size rest → over' ≡ false → held' ≡ [] → Advances left' [] left'' held'' []
    → BodySoFar left held left'' held'' items kept wanted over over'' size rest
body_refilled left left' left'' held held' held'' items kept wanted over over' over'' size rest s o e a = record {
  used = s.used;
  moved = advances_read left left' left'' held held' held'' s.used s.moved e a;
  counted = s.counted;
  kept_is = s.kept_is;
  idle = λ ended. still_open over' o (s.idle ended).1;
}

-- a part of what is held is used; where it is kept it follows what is kept
pub body_on : (left left' : Option (List ℕ)) (held held' held'' items items' part : List ℕ) (kept kept' wanted over over' over'' : Bool) (size rest count : ℕ)
    → BodySoFar left held left' held' items kept wanted over over' size rest → over' ≡ false → part ≡ take (length part) held' → length part ≡ min rest (length held')
    → length part ≡ count → held'' ≡ drop count held'
    → (kept' ≡ true → (kept ≡ true) × (items' ≡ items ++ part))
    → BodySoFar left held left' held'' items' kept' wanted over over'' size (rest - count)
body_on left left' held held' held'' items items' part kept kept' wanted over over' over'' size rest count s o e m n h k =
    let front : part ≡ take count held' = subst (λ k. part ≡ take k held') n e in
    let whole : part ++ held'' ≡ held' = rw (front, h) (take-append-drop count held') in
    record {
      used = s.used ++ part;
      moved = advances_on left left' held held' held'' s.used part s.moved (sym whole);
      counted = omega (arith, length-append s.used part, s.counted);
      kept_is = λ yes. let p = k yes in let q = s.kept_is p.0 in (p.1 ∙ ap (λ zs. zs ++ part) q.0, q.1);
      idle = λ ended. still_open over' o (s.idle ended).1;
    }

-- a window whose start moves up
pub held_past : (start end count : ℕ) (bytes : List ℕ) → start ≤ end → count ≤ length (take (end - start) (drop start bytes))
    → take (end - (start + count)) (drop (start + count) bytes) ≡ drop count (take (end - start) (drop start bytes))
held_past start end count bytes up fits =
    let within : count ≤ end - start = omega (arith, length-take (end - start) (drop start bytes)) in
    let parts : end - start ≡ count + (end - (start + count)) = omega arith in
    rw (parts, drop-take count (end - (start + count)) (drop start bytes), drop-drop count start bytes) refl

-- bytes that are left out lower what is left to do
pub work_skip : (ended ended' : Bool) (held held' : List ℕ) (count calls turns : ℕ) → ended ≡ false → ended' ≡ ended → held' ≡ drop count held
    → (count ≡ 0 → ⊥) → count ≤ length held → work_left ended' (length held') calls turns < work_left ended (length held) calls turns
work_skip ended ended' held held' count calls turns e f h some fits = rw (f, e, h) (omega (arith, length-drop count held))

-- one call after another, none of which failed
pub sound_trans : {T : Type 0} (a b c : Counted T) → IsSound a b → IsSound b c → IsSound a c
sound_trans a b c p q = record { faults = q.faults ∙ p.faults; zeros = q.zeros ∙ p.zeros }

-- where nothing was called
pub sound_none : {T : Type 0} (a : Counted T) → IsSound a a
sound_none a = record { faults = refl; zeros = refl }

-- a fault after calls that did not fail
pub fault_after : {R : Type 0} (a b c : Counted R) (why : RunFault) (turns : ℕ) → IsSound a b → ComesOfReading why b c turns → ComesOfReading why a c turns
fault_after a b c Read turns sound e = e ∙ ap one_more sound.faults
fault_after a b c Write turns sound e = e
fault_after a b c TooManyTurns turns sound e = (sound_trans a b c sound e.0, e.1)
fault_after a b c Memory turns sound e = e

-- nothing is read on where a line feed is held
pub unread_byte : {P : Type 0} (held held' : List ℕ) (b : ℕ) → P × (has_line_feed held ≡ true) → held ≡ b ∷ held' → (b ≡ 10 → ⊥) → P × (has_line_feed held' ≡ true)
unread_byte held held' b p e other =
    let found : has_line_feed (b ∷ held') ≡ true = ap has_line_feed (sym e) ∙ p.1 in
    let no : (b == 10) ≡ false = other_byte b other in
    (p.0, rw no at found)

pub held_line_feed : {P : Type 0} (held : List ℕ) → held ≡ [] → has_line_feed held ≡ true → P
held_line_feed held none e = let no : has_line_feed held ≡ false = rw none refl in absurd (true≢false (sym e ∙ no))

-- reading that goes on had not ended before
pub not_begun_over : (over over' : Bool) → over' ≡ false → (over ≡ true → over' ≡ true) → over ≡ false
not_begun_over true over' open_end idle = absurd (true≢false (sym (idle refl) ∙ open_end))
not_begun_over false over' open_end idle = refl

-- a fault of reading is one of the run, where no write failed
pub read_fault : {R W : Type 0} (reader reader' : Counted R) (writer writer' : Counted W) (why : RunFault) (turns : ℕ) → ComesOfReading why reader reader' turns → IsSound writer writer'
    → ComesOfServing (Err why) reader reader' writer writer' turns
read_fault reader reader' writer writer' Read turns e sound = (e, sound)
read_fault reader reader' writer writer' Write turns e sound = absurd e
read_fault reader reader' writer writer' TooManyTurns turns e sound = (e.0, sound, e.1)
read_fault reader reader' writer writer' Memory turns e sound = absurd e

-- a write that fails after writes that did not
pub write_fault : {W : Type 0} (a b c : Counted W) → IsSound a b → FailsOnce b c → FailsOnce a c
write_fault a b c sound (at_fault faults zeros) = at_fault (faults ∙ ap one_more sound.faults) (zeros ∙ sound.zeros)
write_fault a b c sound (at_empty faults zeros) = at_empty (faults ∙ sound.faults) (zeros ∙ ap one_more sound.zeros)

-- an answer for which nothing was read
pub reads_nothing : {R T : Type 0} (left : Option (List ℕ)) (buffer : ReadBuffer) (reader : Counted R) (turns : ℕ) (answer : T) → IsReading left (ended_of buffer) (calls_of reader) turns
    → ReadsOn left buffer buffer reader reader turns (Ok answer)
reads_nothing left buffer reader turns answer reading =
    record { reading = reading; buffers = refl; work = omega arith; sound = sound_none reader; fault = tt; unended = tt; empty = tt }
