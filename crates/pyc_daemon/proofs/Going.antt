-- A run of a session, command by command.
use Rattle.std.proofs.Common.{◌≡◌, ℕ, Bool, true, false, List, [], ◌∷◌, ◌++◌, length, drop, get_or, ◌+◌, ◌-◌, ◌≤◌, Option, None, Some, IsTrue, ◌<◌, refl, sym, ap, add-one, arith, subst, ◌∙◌, append_assoc, length-append}
use Rattle.std.specs.Prelude.{OnErr, IfOk, IfSome, Result, Ok, Err}
use Rattle.std.specs.Io.KnownBytes.{Appends}
use Rattle.std.specs.Io.KnownBytes.{IsAtEnd}
use Rattle.pyc_iface.specs.declared.options.Options.{Options}
use Rattle.pyc_session.specs.Entry.{Entry}
use Rattle.pyc_session.specs.Event.{Event, FetchStep, Links}
use Rattle.pyc_daemon.specs.Reading.{Advances, ComesOfReading}
use Rattle.pyc_daemon.specs.declared.counted.Counted.{Counted}
use Rattle.std.proofs.Math.Seq.{drop-cons}
use Rattle.std.proofs.Math.ListN.{drop_of_length-le}
use denote.Ref.{Bor}
use Rattle.pyc_daemon.specs.Replies.{joined, WritesPart, Serves, turn_of, turn_after, reply_bytes}
use Rattle.pyc_daemon.specs.Runs.{Runs, Work, Reports, AwaitsCommand, IsLast, streams}
use Rattle.pyc_session.specs.Session.{Session, Turn, goes_on, ends, has_command, turn, progress, session_from, session_of}
use Rattle.pyc_daemon.specs.ReadBuffer.{held_of, ended_of}
use Rattle.pyc_session.specs.State.{State, start}
use Rattle.pyc_session.specs.declared.ending.End.{End}
use Rattle.pyc_session.specs.declared.ending.End.TheVariants.{EndOfInput}
use Rattle.pyc_session.specs.declared.ending.RunFault.{RunFault}
use Rattle.pyc_session.specs.declared.ending.RunFault.TheVariants as fault
use Rattle.pyc_daemon.specs.declared.reply.Answer.{Answer}
use Rattle.pyc_daemon.specs.declared.read_buffer.ReadBuffer.{ReadBuffer}
use Rattle.pyc_session.proofs.Turns.{progress_on, session_over, session_ended, commands_first, turn_first}
use Rattle.pyc_daemon.proofs.Moving.{append_nil, consumes_none, advances_none, advances_trans}

pub appends_none : (reported : Option (List ℕ)) → Appends reported reported []
appends_none None = tt
appends_none (Some xs) = sym (append_nil xs)

pub appends_trans : (a b c : Option (List ℕ)) (xs ys : List ℕ) → Appends a b xs → Appends b c ys → Appends a c (xs ++ ys)
appends_trans None b c xs ys p q = tt
appends_trans (Some xs') None c xs ys p q = absurd p
appends_trans (Some xs') (Some ys') None xs ys p q = q
appends_trans (Some xs') (Some ys') (Some zs') xs ys p q = q ∙ ap (λ zs. zs ++ ys) p ∙ append_assoc xs' xs ys

-- some of the bytes are written, and the rest is to be
pub record WrittenSoFar (reported reported' : Option (List ℕ)) (bytes rest : List ℕ) : Type 0 where
  pub written : List ℕ
  pub appends : Appends reported reported' written
  pub seam : bytes ≡ written ++ rest

pub written_none : (reported : Option (List ℕ)) (bytes : List ℕ) → WrittenSoFar reported reported bytes bytes
written_none reported bytes = record { written = []; appends = appends_none reported; seam = refl }

pub written_on : (reported reported' reported'' : Option (List ℕ)) (bytes rest rest' part : List ℕ) → WrittenSoFar reported reported' bytes rest
    → Appends reported' reported'' part → rest ≡ part ++ rest' → WrittenSoFar reported reported'' bytes rest'
written_on reported reported' reported'' bytes rest rest' part w a e = record {
  written = w.written ++ part;
  appends = appends_trans reported reported' reported'' w.written part w.appends a;
  seam = w.seam ∙ ap (λ zs. w.written ++ zs) e ∙ sym (append_assoc w.written part rest');
}

pub written_part : (reported reported' reported'' : Option (List ℕ)) (bytes rest : List ℕ) → WrittenSoFar reported reported' bytes rest
    → Appends reported' reported'' [] → 0 < length rest → WritesPart reported reported'' bytes
written_part reported reported' reported'' bytes rest w a is_left = record {
  written = w.written;
  later = rest;
  appends = subst (λ zs. Appends reported reported'' zs) (append_nil w.written) (appends_trans reported reported' reported'' w.written [] w.appends a);
  seam = w.seam;
  is_left = is_left;
}

pub written_all : (reported reported' : Option (List ℕ)) (bytes rest : List ℕ) → WrittenSoFar reported reported' bytes rest → rest ≡ [] → Appends reported reported' bytes
written_all reported reported' bytes rest w e =
    subst (λ zs. Appends reported reported' zs) (sym (w.seam ∙ ap (λ zs. w.written ++ zs) e ∙ append_nil w.written)) w.appends

-- a part of a reply's second half
pub part_after : (reported reported' reported'' : Option (List ℕ)) (xs ys : List ℕ) → Appends reported reported' xs → WritesPart reported' reported'' ys → WritesPart reported reported'' (xs ++ ys)
part_after reported reported' reported'' xs ys a p = record {
  written = xs ++ p.written;
  later = p.later;
  appends = appends_trans reported reported' reported'' xs p.written a p.appends;
  seam = ap (λ zs. xs ++ zs) p.seam ∙ sym (append_assoc xs p.written p.later);
  is_left = p.is_left;
}

-- a part of its first half
pub part_before : (reported reported' : Option (List ℕ)) (xs ys : List ℕ) → WritesPart reported reported' xs → WritesPart reported reported' (xs ++ ys)
part_before reported reported' xs ys p = record {
  written = p.written;
  later = p.later ++ ys;
  appends = p.appends;
  seam = ap (λ zs. zs ++ ys) p.seam ∙ append_assoc p.written p.later ys;
  is_left = omega (arith, p.is_left, length-append p.later ys);
}

-- the first of some texts are written
pub record JoinedSoFar (reported reported' : Option (List ℕ)) (texts : List (Bor (List ℕ))) (count : ℕ) : Type 0 where
  pub written : List ℕ
  pub appends : Appends reported reported' written
  pub seam : joined texts ≡ written ++ joined (drop count texts)

pub joined_none : (reported : Option (List ℕ)) (texts : List (Bor (List ℕ))) → JoinedSoFar reported reported texts 0
joined_none reported texts = record { written = []; appends = appends_none reported; seam = refl }

joined_at : (texts : List (Bor (List ℕ))) (count : ℕ) (d : Bor (List ℕ)) → count < length texts
    → joined (drop count texts) ≡ (get_or texts count d).now ++ joined (drop (count + 1) texts)
joined_at texts count d within = rw (add-one, drop-cons texts count d within) refl

pub joined_on : (reported reported' reported'' : Option (List ℕ)) (texts : List (Bor (List ℕ))) (count : ℕ) (d : Bor (List ℕ)) (part : List ℕ)
    → JoinedSoFar reported reported' texts count → count < length texts → part ≡ (get_or texts count d).now → Appends reported' reported'' part
    → JoinedSoFar reported reported'' texts (count + 1)
joined_on reported reported' reported'' texts count d part w within e a = record {
  written = w.written ++ part;
  appends = appends_trans reported reported' reported'' w.written part w.appends a;
  seam = w.seam ∙ ap (λ zs. w.written ++ zs) (joined_at texts count d within) ∙ rw e (sym (append_assoc w.written (get_or texts count d).now (joined (drop (count + 1) texts))));
}

pub joined_part : (reported reported' reported'' : Option (List ℕ)) (texts : List (Bor (List ℕ))) (count : ℕ) (d : Bor (List ℕ)) (part : List ℕ)
    → JoinedSoFar reported reported' texts count → count < length texts → part ≡ (get_or texts count d).now → WritesPart reported' reported'' part
    → WritesPart reported reported'' (joined texts)
joined_part reported reported' reported'' texts count d part w within e p = record {
  written = w.written ++ p.written;
  later = p.later ++ joined (drop (count + 1) texts);
  appends = appends_trans reported reported' reported'' w.written p.written w.appends p.appends;
  seam = w.seam ∙ ap (λ zs. w.written ++ zs) (joined_at texts count d within ∙ ap (λ zs. zs ++ joined (drop (count + 1) texts)) (sym e ∙ p.seam)) ∙ simp append_assoc;
  is_left = omega (arith, p.is_left, length-append p.later (joined (drop (count + 1) texts)));
}

pub joined_all : (reported reported' : Option (List ℕ)) (texts : List (Bor (List ℕ))) (count : ℕ) → JoinedSoFar reported reported' texts count → length texts ≤ count
    → Appends reported reported' (joined texts)
joined_all reported reported' texts count w over =
    subst (λ zs. Appends reported reported' zs) (sym (w.seam ∙ ap (λ ts. w.written ++ joined ts) (drop_of_length-le texts over) ∙ append_nil w.written)) w.appends

-- what holds at a fault
pub at_fault : {T E : Type 0} (r : Result T E) (P Q : Type 0) → (P → Q) → OnErr r P → OnErr r Q
at_fault (Ok x) P Q f p = tt
at_fault (Err e) P Q f p = f p

pub events_nil : (events : List Event) → events ++ [] ≡ events
events_nil [] = refl
events_nil (event ∷ events) = ap (λ es. event ∷ es) (events_nil events)

-- one more fetch
pub links_push : {S : Type 0} (step : S → List ℕ → Entry → S → Type 0) (before between after : S) (events : List Event) → Links step before events between
    → (event : Event) → FetchStep step between event.fetched after → Links step before (events ++ event ∷ []) after
links_push step before between after [] same event fetched = (after, subst (λ x. FetchStep step x event.fetched after) same fetched, refl)
links_push step before between after (first ∷ events) links event fetched =
    (links.0, links.1, links_push step links.0 between after events links.2 event fetched)

-- A session that is going on: what was taken, met and written so far comes before what the rest of the input brings.
pub record Going {S : Type 0} (step : S → List ℕ → Entry → S → Type 0) (options : Options) (source source' : S) (left left' : Option (List ℕ)) (held' : List ℕ) (reported reported' : Option (List ℕ)) (s : State) (ended : Bool) : Type 0 where
  pub taken : List ℕ
  pub events : List Event
  pub written : List ℕ
  pub moved : Advances left [] left' held' taken
  pub appends : Appends reported reported' written
  pub links : Links step source events source'
  pub onward : (rest : List ℕ) → IsLast ended rest
      → progress (start options) (taken ++ rest) events ≡ Some (record { text = written; state = s; rest = rest })

pub going_none : {S : Type 0} (step : S → List ℕ → Entry → S → Type 0) (options : Options) (source : S) (left reported : Option (List ℕ)) (held : List ℕ) (s : State) (ended : Bool) → held ≡ [] → s ≡ start options → Going step options source source left left held reported reported s ended
going_none step options source left reported held s ended e f = record {
  taken = [];
  events = [];
  written = [];
  moved = subst (λ zs. Advances left [] left zs []) (sym e) (advances_none left []);
  appends = appends_none reported;
  links = refl;
  onward = λ rest last. rw f refl;
}

-- a window whose reader reported its end holds nothing
pub held_none : (w : ReadBuffer) → ended_of w ≡ true → held_of w ≡ []
held_none w e = let same : w.end - w.start ≡ 0 = omega (arith, w.at_end e) in rw same refl

-- where nothing comes after, nothing comes after what is held
last_held : (ended : Bool) (held rest : List ℕ) → (IsTrue ended → held ≡ []) → IsLast ended rest → IsLast ended (held ++ rest)
last_held ended held rest none last = λ reported. rw (none reported, last reported) refl

still_going : {ended : Bool} {P : Type 0} → ended ≡ false → IsTrue ended → P
still_going {ended} e t = cc

-- an input as what was taken before, by the last command, and what is left
parted : (taken bytes held rest all : List ℕ) → all ≡ (taken ++ bytes) ++ held → all ++ rest ≡ taken ++ (bytes ++ (held ++ rest))
parted taken bytes held rest all seam =
    ap (λ zs. zs ++ rest) seam ∙ append_assoc (taken ++ bytes) held rest ∙ append_assoc taken bytes (held ++ rest)

-- the reply of an answer is that of its turn
reply_is : (end : Option End) (s : State) (rest reply : List ℕ) → (turn_after reply end s rest).reply ≡ reply
reply_is None s rest reply = refl
reply_is (Some end) s rest reply = refl

module _ {S : Type 0} (step : S → List ℕ → Entry → S → Type 0) (options : Options) (source source' source'' : S) (left left' left'' reported reported' reported'' : Option (List ℕ)) (held' held'' : List ℕ) (s : State) (ended : Bool)
    (g : Going step options source source' left left' held' reported reported' s ended) (unended : ended ≡ false) (bytes : List ℕ) (moved : Advances left' held' left'' held'' bytes) where
  -- where the commands before the next one came to
  before_next : (rest : List ℕ) → progress (start options) (g.taken ++ rest) g.events ≡ Some (record { text = g.written; state = s; rest = rest })
  before_next rest = g.onward rest (still_going unended)

  pub all_moved : Advances left [] left'' held'' (g.taken ++ bytes)
  all_moved = advances_trans left left' left'' [] held' held'' g.taken bytes g.moved moved

  -- the reader fails
  pub awaits_command : has_command bytes ≡ false → held'' ≡ []
      → (rest : List ℕ) → progress (start options) (all_moved.got ++ rest) g.events ≡ Some (record { text = g.written; state = s; rest = bytes ++ rest })
  awaits_command less none rest =
      ap (λ input. progress (start options) input g.events) (parted g.taken bytes held'' rest all_moved.got all_moved.seam)
      ∙ before_next (bytes ++ (held'' ++ rest)) ∙ rw none refl

  first_before : (rest : List ℕ) (more : List Event) (session : Session) → session_of options (all_moved.got ++ rest) (g.events ++ more) ≡ Some session
      → (later : List ℕ) × (session.text ≡ g.written ++ later)
  first_before rest more session e =
      commands_first (start options) (g.taken ++ (bytes ++ (held'' ++ rest))) g.events more
      (record { text = g.written; state = s; rest = bytes ++ (held'' ++ rest) }) session
      (before_next (bytes ++ (held'' ++ rest)))
      (ap (λ input. session_from (start options) input (g.events ++ more)) (sym (parted g.taken bytes held'' rest all_moved.got all_moved.seam)) ∙ e)

  pub runs_unread : has_command bytes ≡ false → held'' ≡ [] → (why : RunFault) → ((work : Work) → AwaitsCommand options work → Reports options work (Err why)) → source'' ≡ source'
      → Runs step options (streams source left reported) (streams source'' left'' reported') (Err why)
  runs_unread less none why reports kept =
      let work : Work = record { taken = all_moved.got; ended = false; events = g.events; written = g.written } in
      record {
        work = work;
        consumes = all_moved.consumes;
        at_end = λ never. cc;
        appends = g.appends;
        links = subst (λ x. Links step source g.events x) (sym kept) g.links;
        reports = reports work (record { state = s; part = bytes; less = less; replied = awaits_command less none });
        first = λ rest more session last e. first_before rest more session e;
      }

  module _ (s' : State) (ended' : Bool) (event : Event) (answer : Answer) (serves : Serves s s' bytes event ended' (Some answer)) (fetched : FetchStep step source' event.fetched source'') where
    -- the last command's turn
    last_turned : (rest : List ℕ) → IsLast ended' rest → turn s (bytes ++ rest) event ≡ Some (turn_of answer s' rest)
    last_turned rest last = serves rest last

    linked : Links step source (g.events ++ event ∷ []) source''
    linked = links_push step source source' source'' g.events g.links event fetched

    -- a reply is written, and the session goes on
    pub going_on : answer.end ≡ None → Appends reported' reported'' (reply_bytes answer.reply)
        → Going step options source source'' left left'' held'' reported reported'' s' ended'
    going_on end appends = record {
      taken = g.taken ++ bytes;
      events = g.events ++ event ∷ [];
      written = g.written ++ reply_bytes answer.reply;
      moved = all_moved;
      appends = appends_trans reported reported' reported'' g.written (reply_bytes answer.reply) g.appends appends;
      links = linked;
      onward = λ rest last.
          let on : (turn_of answer s' rest) ≡ record { reply = reply_bytes answer.reply; state = s'; onward = goes_on; rest = rest } = rw end refl in
          ap (λ input. progress (start options) input (g.events ++ event ∷ [])) (append_assoc g.taken bytes rest)
          ∙ progress_on (start options) (g.taken ++ (bytes ++ rest)) g.events event (record { text = g.written; state = s; rest = bytes ++ rest })
          (record { reply = reply_bytes answer.reply; state = s'; onward = goes_on; rest = rest })
          (before_next (bytes ++ rest)) (last_turned rest last ∙ ap Some on) refl;
    }

    input_is : (rest : List ℕ) → all_moved.got ++ rest ≡ g.taken ++ (bytes ++ (held'' ++ rest))
    input_is rest = parted g.taken bytes held'' rest all_moved.got all_moved.seam

    -- what was written of the last reply comes first in the session
    first_with : (part later : List ℕ) → reply_bytes answer.reply ≡ part ++ later → (IsTrue ended' → held'' ≡ []) → (rest : List ℕ) (more : List Event) (session : Session) → IsLast ended' rest
        → session_of options (all_moved.got ++ rest) ((g.events ++ event ∷ []) ++ more) ≡ Some session → (tail : List ℕ) × (session.text ≡ (g.written ++ part) ++ tail)
    first_with part later parts none rest more session last e =
        let found = turn_first (start options) (g.taken ++ (bytes ++ (held'' ++ rest))) g.events event more
        (record { text = g.written; state = s; rest = bytes ++ (held'' ++ rest) }) (turn_of answer s' (held'' ++ rest)) session
        (before_next (bytes ++ (held'' ++ rest))) (last_turned (held'' ++ rest) (last_held ended' held'' rest none last))
        (ap (λ input. session_from (start options) input ((g.events ++ event ∷ []) ++ more)) (sym (input_is rest)) ∙ e) in
        (later ++ found.0, found.1 ∙ ap (λ zs. (g.written ++ zs) ++ found.0) (reply_is answer.end s' (held'' ++ rest) (reply_bytes answer.reply) ∙ parts) ∙ simp append_assoc)

    -- the session ends after a reply
    pub runs_last : (end : End) → answer.end ≡ Some end → Appends reported' reported'' (reply_bytes answer.reply) → (IsTrue ended' → IsAtEnd left'') → (IsTrue ended' → held'' ≡ [])
        → Runs step options (streams source left reported) (streams source'' left'' reported'') (Ok end)
    runs_last end is appends at_end none = record {
      work = record { taken = all_moved.got; ended = ended'; events = g.events ++ event ∷ []; written = g.written ++ reply_bytes answer.reply };
      consumes = all_moved.consumes;
      at_end = at_end;
      appends = appends_trans reported reported' reported'' g.written (reply_bytes answer.reply) g.appends appends;
      links = linked;
      reports = λ rest last.
          let t : Turn = record { reply = reply_bytes answer.reply; state = s'; onward = ends end; rest = [] } in
          let on : turn_of answer s' (held'' ++ rest) ≡ t = rw is refl in
          ap (λ input. session_from (start options) input (g.events ++ event ∷ [])) (input_is rest)
          ∙ session_over (start options) (g.taken ++ (bytes ++ (held'' ++ rest))) g.events event (record { text = g.written; state = s; rest = bytes ++ (held'' ++ rest) }) t end
          (before_next (bytes ++ (held'' ++ rest))) (last_turned (held'' ++ rest) (last_held ended' held'' rest none last) ∙ ap Some on) refl;
      first = λ rest more session last e. first_with (reply_bytes answer.reply) [] (sym (append_nil (reply_bytes answer.reply))) none rest more session last e;
    }

    -- the writer fails
    pub runs_unwritten : WritesPart reported' reported'' (reply_bytes answer.reply) → (IsTrue ended' → IsAtEnd left'') → (IsTrue ended' → held'' ≡ [])
        → Runs step options (streams source left reported) (streams source'' left'' reported'') (Err fault.Write)
    runs_unwritten part at_end none = record {
      work = record { taken = all_moved.got; ended = ended'; events = g.events ++ event ∷ []; written = g.written ++ part.written };
      consumes = all_moved.consumes;
      at_end = at_end;
      appends = appends_trans reported reported' reported'' g.written part.written g.appends part.appends;
      links = linked;
      reports = record {
        events = g.events;
        event = event;
        replies = g.written;
        part = part.written;
        met = refl;
        wrote = refl;
        begins = λ rest last. record {
          before = record { text = g.written; state = s; rest = bytes ++ (held'' ++ rest) };
          last = turn_of answer s' (held'' ++ rest);
          later = part.later;
          is_left = part.is_left;
          replied = ap (λ input. progress (start options) input g.events) (input_is rest) ∙ before_next (bytes ++ (held'' ++ rest));
          text = refl;
          turn = last_turned (held'' ++ rest) (last_held ended' held'' rest none last);
          reply = reply_is answer.end s' (held'' ++ rest) (reply_bytes answer.reply) ∙ part.seam;
        };
      };
      first = λ rest more session last e. first_with part.written part.later part.seam none rest more session last e;
    }

-- a fault of reading
pub runs_unread_by : {R S : Type 0} (step : S → List ℕ → Entry → S → Type 0) (options : Options) (source source' source'' : S) (left left' left'' reported reported' : Option (List ℕ)) (held' held'' : List ℕ) (s : State) (ended : Bool)
    (g : Going step options source source' left left' held' reported reported' s ended) → ended ≡ false → (bytes : List ℕ) → Advances left' held' left'' held'' bytes
    → has_command bytes ≡ false → held'' ≡ [] → source'' ≡ source' → (why : RunFault) (reader reader' : Counted R) (turns : ℕ) → ComesOfReading why reader reader' turns
    → Runs step options (streams source left reported) (streams source'' left'' reported') (Err why)
runs_unread_by step options source source' source'' left left' left'' reported reported' held' held'' s ended g unended bytes moved less none kept fault.Read reader reader' turns e =
    runs_unread step options source source' source'' left left' left'' reported reported' reported' held' held'' s ended g unended bytes moved less none fault.Read (λ work is. is) kept
runs_unread_by step options source source' source'' left left' left'' reported reported' held' held'' s ended g unended bytes moved less none kept fault.TooManyTurns reader reader' turns e =
    runs_unread step options source source' source'' left left' left'' reported reported' reported' held' held'' s ended g unended bytes moved less none fault.TooManyTurns (λ work is. is) kept
runs_unread_by step options source source' source'' left left' left'' reported reported' held' held'' s ended g unended bytes moved less none kept fault.Write reader reader' turns e = absurd e
runs_unread_by step options source source' source'' left left' left'' reported reported' held' held'' s ended g unended bytes moved less none kept fault.Memory reader reader' turns e = absurd e

-- the input ends where no command begins
pub going_last : {S : Type 0} (step : S → List ℕ → Entry → S → Type 0) (options : Options) (source source' source'' : S) (left left' left'' reported reported' : Option (List ℕ)) (held' held'' : List ℕ) (s s' : State) (ended ended' : Bool) (bytes : List ℕ)
    → Going step options source source' left left' held' reported reported' s ended → ended ≡ false → Advances left' held' left'' held'' bytes → bytes ≡ [] → s' ≡ s → source'' ≡ source'
    → Going step options source source'' left left'' held'' reported reported' s' ended'
going_last step options source source' source'' left left' left'' reported reported' held' held'' s s' ended ended' bytes g unended moved none same kept = record {
  taken = g.taken ++ bytes;
  events = g.events;
  written = g.written;
  moved = advances_trans left left' left'' [] held' held'' g.taken bytes g.moved moved;
  appends = g.appends;
  links = subst (λ x. Links step source g.events x) (sym kept) g.links;
  onward = λ rest last. rw (none, append_nil g.taken, same) (g.onward rest (still_going unended));
}

-- the input ends before another command
pub runs_ended : {S : Type 0} (step : S → List ℕ → Entry → S → Type 0) (options : Options) (source source' : S) (left left' reported reported' : Option (List ℕ)) (held' : List ℕ) (s : State) (ended : Bool)
    → Going step options source source' left left' held' reported reported' s ended → ended ≡ true → (IsTrue ended → IsAtEnd left') → held' ≡ []
    → Runs step options (streams source left reported) (streams source' left' reported') (Ok EndOfInput)
runs_ended step options source source' left left' reported reported' held' s ended g over at_end none =
    let input_is : (rest : List ℕ) → g.moved.got ++ rest ≡ g.taken ++ (held' ++ rest) = λ rest. ap (λ zs. zs ++ rest) g.moved.seam ∙ append_assoc g.taken held' rest in
    let known : (rest : List ℕ) → IsLast ended rest → progress (start options) (g.moved.got ++ rest) g.events ≡ Some (record { text = g.written; state = s; rest = held' ++ rest }) =
    λ rest last. ap (λ input. progress (start options) input g.events) (input_is rest) ∙ g.onward (held' ++ rest) (last_held ended held' rest (λ _. none) last) in
    record {
      work = record { taken = g.moved.got; ended = ended; events = g.events; written = g.written };
      consumes = g.moved.consumes;
      at_end = at_end;
      appends = g.appends;
      links = g.links;
      reports = λ rest last.
          let nothing : rest ≡ [] = last over in
          session_ended (start options) (g.moved.got ++ rest) g.events (record { text = g.written; state = s; rest = held' ++ rest }) (known rest last) (rw (none, nothing) refl);
      first = λ rest more session last e.
          commands_first (start options) (g.moved.got ++ rest) g.events more (record { text = g.written; state = s; rest = held' ++ rest }) session (known rest last) e;
    }

-- nothing was done
pub runs_none : {S : Type 0} (step : S → List ℕ → Entry → S → Type 0) (options : Options) (source : S) (left reported : Option (List ℕ))
    → Runs step options (streams source left reported) (streams source left reported) (Err fault.Memory)
runs_none step options source left reported = record {
  work = record { taken = []; ended = false; events = []; written = [] };
  consumes = consumes_none left;
  at_end = λ never. cc;
  appends = appends_none reported;
  links = refl;
  reports = (refl, refl, refl);
  first = λ rest more session last e. (session.text, refl);
}

-- what a run that ended wrote is the session of the whole input
abbrev pub Replies : {S : Type 0} (step : S → List ℕ → Entry → S → Type 0) → Options → S → S → Option (List ℕ) → Option (List ℕ) → Option (List ℕ) → End → Type 0
Replies step options source source' left reported reported' end =
    IfSome left (λ input. (events : List Event) × (session : Session) × Links step source events source' × (session_of options input events ≡ Some session)
    × Appends reported reported' session.text × (session.ending ≡ end))

pub replies : {S : Type 0} (step : S → List ℕ → Entry → S → Type 0) (options : Options) (source source' : S) (left left' reported reported' : Option (List ℕ)) (end : End)
    → Runs step options (streams source left reported) (streams source' left' reported') (Ok end) → Replies step options source source' left reported reported' end
replies step options source source' None left' reported reported' end r = tt
replies step options source source' (Some input) None reported reported' end r = absurd r.consumes
replies step options source source' (Some input) (Some ys) reported reported' end r = (
  r.work.events,
  record { text = r.work.written; ending = end },
  r.links,
  ap (λ zs. session_from (start options) zs r.work.events) r.consumes ∙ r.reports ys r.at_end,
  r.appends,
  refl,
)

pub replies_ok : {S : Type 0} (step : S → List ℕ → Entry → S → Type 0) (options : Options) (source source' : S) (left left' reported reported' : Option (List ℕ)) (result : Result End RunFault)
    → Runs step options (streams source left reported) (streams source' left' reported') result → IfOk result (λ end. Replies step options source source' left reported reported' end)
replies_ok step options source source' left left' reported reported' (Ok end) r = replies step options source source' left left' reported reported' end r
replies_ok step options source source' left left' reported reported' (Err why) r = tt
