-- What holds of messages in order, and what an insertion does.
use Rattle.std.proofs.Common.{◌≡◌, Bool, true, false, cond, ◌||◌, ◌&&◌, List, [], ◌∷◌, ◌++◌, Ordering, Less, Equal, Greater, is_gt, refl, sym, ◌∙◌, ap, subst, append-nil, append_assoc, nat_eq, bytes_eq}
use Rattle.std.specs.Cmp.{IsTotalOrder}
use Rattle.std.specs.Ordering.{ordering_then}
use Rattle.std.specs.List.{All, AllByRecursion, Contains, list_any}
use Rattle.std.specs.List.Sorted.{IsStrictlySortedBy}
use Rattle.std.proofs.lemmas.Bool.{false≢true}
use Rattle.std.proofs.lemmas.Cmp.{nat_cmp_total, nat_eq_equiv, nat_list_cmp_total, on_total, then_total}
use Rattle.std.proofs.lemmas.List.Elements.{All-contains, All-contains_itself, All-from_recursion, recursion_from_All}
use Rattle.std.proofs.lemmas.Map.Lookups.{exact_bytes, exact_unsigned}
use Rattle.std.proofs.lemmas.Slice.Eq.{bytes_eq-Decides}
use Rattle.pyc_report.specs.FoundLaws.{AreFoundWhereReported, AreInOrder, AreOnce, AreReported, EachOnce}
use Rattle.pyc_report.specs.FoundOrder.{in_order, is_alike, place_cmp, with_message, with_messages}
use Rattle.pyc_report.specs.PrintedMessages.{is_alike_equiv}
use Rattle.pyc_report.proofs.SortLemmas.{IsAscending, IsAscending-sorted, IsBelow}
use Rattle.pyc_report.specs.Message.{Message, code_of}
use Rattle.pyc_report.specs.Sort.{inserted, sorted}

-- messages are in a total order
pub place_cmp_total : IsTotalOrder place_cmp
place_cmp_total =
    then_total (on_total (λ (m : Message). m.line) nat_cmp_total)
    (then_total (on_total (λ (m : Message). m.column) nat_cmp_total)
    (then_total (on_total (λ (m : Message). code_of m.kind) nat_list_cmp_total) (on_total (λ (m : Message). m.text) nat_list_cmp_total)))

-- ---- tests of messages

or-false : (b : Bool) → b || false ≡ b
or-false true = refl
or-false false = refl

or-assoc : (a b c : Bool) → (a || b) || c ≡ a || (b || c)
or-assoc true b c = refl
or-assoc false b c = refl

module _ (test : Message → Bool) where
  any-push : (messages : List Message) (message : Message) → list_any test (messages ++ message ∷ []) ≡ list_any test messages || test message
  any-push [] message = or-false (test message)
  any-push (first ∷ rest) message = ap (λ b. test first || b) (any-push rest message) ∙ sym (or-assoc (test first) (list_any test rest) (test message))

  any-inserted : (message : Message) (messages : List Message) → list_any test (inserted place_cmp message messages) ≡ test message || list_any test messages
  any-inserted message [] = refl
  any-inserted message (first ∷ rest) = by (is_gt (place_cmp message first)) (any-inserted message rest)
    where
      swapped : (a b c : Bool) → a || (b || c) ≡ b || (a || c)
      swapped true true c = refl
      swapped true false c = refl
      swapped false b c = refl

      by : (b : Bool) → list_any test (inserted place_cmp message rest) ≡ test message || list_any test rest
          → list_any test (cond b (first ∷ inserted place_cmp message rest) (message ∷ first ∷ rest)) ≡ test message || (test first || list_any test rest)
      by true more = ap (λ b. test first || b) more ∙ swapped (test first) (test message) (list_any test rest)
      by false more = refl

  any-sorted : (messages : List Message) → list_any test (sorted place_cmp messages) ≡ list_any test messages
  any-sorted [] = refl
  any-sorted (message ∷ rest) = any-inserted message (sorted place_cmp rest) ∙ ap (λ b. test message || b) (any-sorted rest)

-- ---- where a line, code and text is found

any-alike : (a b : Message) (messages : List Message) → is_alike a b ≡ true → list_any (is_alike a) messages ≡ list_any (is_alike b) messages
any-alike a b [] same = refl
any-alike a b (first ∷ rest) same = λ i. is_alike_equiv.congr a b first same i || any-alike a b rest same i

any-with : (z message : Message) (messages : List Message) → list_any (is_alike z) (with_message messages message) ≡ list_any (is_alike z) messages || is_alike z message
any-with z message messages = by (list_any (is_alike message) messages) refl
  where
    all : Bool
    all = list_any (is_alike z) messages

    held : (b : Bool) → is_alike z message ≡ b → list_any (is_alike message) messages ≡ true → all ≡ all || b
    held true same among = let is : all ≡ true = any-alike z message messages same ∙ among in rw is refl
    held false other among = sym (or-false all)

    by : (b : Bool) → list_any (is_alike message) messages ≡ b
        → list_any (is_alike z) (cond b messages (messages ++ message ∷ [])) ≡ all || is_alike z message
    by true among = held (is_alike z message) refl among
    by false among = any-push (is_alike z) messages message

any-with_all : (z : Message) (messages more : List Message) → list_any (is_alike z) (with_messages messages more) ≡ list_any (is_alike z) messages || list_any (is_alike z) more
any-with_all z messages [] = sym (or-false (list_any (is_alike z) messages))
any-with_all z messages (message ∷ more) =
    any-with_all z (with_message messages message) more
    ∙ ap (λ b. b || list_any (is_alike z) more) (any-with z message messages)
    ∙ or-assoc (list_any (is_alike z) messages) (is_alike z message) (list_any (is_alike z) more)

pub are_found_where_reported : AreFoundWhereReported
unfolding in_order
are_found_where_reported reported message = any-with_all message [] (sorted place_cmp reported) ∙ any-sorted (is_alike message) reported

-- ---- what is found was reported

module _ (P : Message → Type 0) where
  all-inserted : (message : Message) (messages : List Message) → P message → AllByRecursion P messages → AllByRecursion P (inserted place_cmp message messages)
  all-inserted message [] one all = (one, tt)
  all-inserted message (first ∷ rest) one all = by (is_gt (place_cmp message first)) (all-inserted message rest one all.1)
    where
      by : (b : Bool) → AllByRecursion P (inserted place_cmp message rest) → AllByRecursion P (cond b (first ∷ inserted place_cmp message rest) (message ∷ first ∷ rest))
      by true more = (all.0, more)
      by false more = (one, all)

  all-sorted : (messages : List Message) → AllByRecursion P messages → AllByRecursion P (sorted place_cmp messages)
  all-sorted [] all = tt
  all-sorted (message ∷ rest) all = all-inserted message (sorted place_cmp rest) all.0 (all-sorted rest all.1)

  all-push : (messages : List Message) (message : Message) → AllByRecursion P messages → P message → AllByRecursion P (messages ++ message ∷ [])
  all-push [] message all one = (one, tt)
  all-push (first ∷ rest) message all one = (all.0, all-push rest message all.1 one)

  all-with_all : (messages more : List Message) → AllByRecursion P messages → AllByRecursion P more → AllByRecursion P (with_messages messages more)
  all-with_all messages [] all others = all
  all-with_all messages (message ∷ more) all others = all-with_all (with_message messages message) more (by (list_any (is_alike message) messages)) others.1
    where
      by : (b : Bool) → AllByRecursion P (cond b messages (messages ++ message ∷ []))
      by true = all
      by false = all-push messages message all others.0

  all-in_order : (reported : List Message) → AllByRecursion P reported → AllByRecursion P (in_order reported)
  unfolding in_order
  all-in_order reported all = all-with_all [] (sorted place_cmp reported) tt (all-sorted reported all)

pub are_reported : AreReported
are_reported reported message found =
    All-contains (Contains reported) (in_order reported) message
    (All-from_recursion (Contains reported) (in_order reported) (all-in_order (Contains reported) reported (recursion_from_All (Contains reported) reported (All-contains_itself reported)))) found

-- ---- each once

neither : (a b : Bool) → a || b ≡ false → (a ≡ false) × (b ≡ false)
neither true b h = cc
neither false b h = (refl, h)

once-push : (messages : List Message) (message : Message) → EachOnce messages → list_any (is_alike message) messages ≡ false → EachOnce (messages ++ message ∷ [])
once-push [] message once none = (refl, tt)
once-push (first ∷ rest) message once none =
    let others = neither (is_alike message first) (list_any (is_alike message) rest) none in
    let apart : is_alike first message ≡ false = is_alike_equiv.symm first message ∙ others.0 in
    (any-push (is_alike first) rest message ∙ rw (once.0, apart) refl, once-push rest message once.1 others.1)

once-with_all : (messages more : List Message) → EachOnce messages → EachOnce (with_messages messages more)
once-with_all messages [] once = once
once-with_all messages (message ∷ more) once = once-with_all (with_message messages message) more (by (list_any (is_alike message) messages) refl)
  where
    by : (b : Bool) → list_any (is_alike message) messages ≡ b → EachOnce (cond b messages (messages ++ message ∷ []))
    by true among = once
    by false none = once-push messages message once none

pub have_no_repeats : AreOnce
unfolding in_order
have_no_repeats reported = once-with_all [] (sorted place_cmp reported) tt

-- ---- in order

below-without : (first : Message) (messages : List Message) (message : Message) (more : List Message) → IsBelow place_cmp first (messages ++ message ∷ more) → IsBelow place_cmp first (messages ++ more)
below-without first [] message more below = below.1
below-without first (next ∷ rest) message more below = (below.0, below-without first rest message more below.1)

ascending-without : (messages : List Message) (message : Message) (more : List Message) → IsAscending place_cmp (messages ++ message ∷ more) → IsAscending place_cmp (messages ++ more)
ascending-without [] message more up = up.1
ascending-without (first ∷ rest) message more up = (below-without first rest message more up.0, ascending-without rest message more up.1)

ascending-with_all : (messages more : List Message) → IsAscending place_cmp (messages ++ more) → IsAscending place_cmp (with_messages messages more)
ascending-with_all messages [] up = subst (IsAscending place_cmp) (append-nil messages) up
ascending-with_all messages (message ∷ more) up = ascending-with_all (with_message messages message) more (by (list_any (is_alike message) messages))
  where
    by : (b : Bool) → IsAscending place_cmp (cond b messages (messages ++ message ∷ []) ++ more)
    by true = ascending-without messages message more up
    by false = subst (IsAscending place_cmp) (sym (append_assoc messages (message ∷ []) more)) up

-- a comparison by two parts ties where both do
both_tie : (o p : Ordering) → ordering_then o p ≡ Equal → (o ≡ Equal) × (p ≡ Equal)
both_tie Less p e = cc
both_tie Equal p e = (refl, e)
both_tie Greater p e = cc

-- messages that tie have the same line, code and text
alike_where : (a b : Message) → place_cmp a b ≡ Equal → is_alike a b ≡ true
alike_where a b e =
    let at_line = both_tie _ _ e in
    let at_column = both_tie _ _ at_line.1 in
    let at_code = both_tie _ _ at_column.1 in
    let line : nat_eq a.line b.line ≡ true = ap (nat_eq a.line) (sym (exact_unsigned a.line b.line at_line.0)) ∙ nat_eq_equiv.refl a.line in
    let code : bytes_eq (code_of a.kind) (code_of b.kind) ≡ true = (bytes_eq-Decides (code_of a.kind) (code_of b.kind)).1 (exact_bytes (code_of a.kind) (code_of b.kind) at_code.0) in
    let text : bytes_eq a.text b.text ≡ true = (bytes_eq-Decides a.text b.text).1 (exact_bytes a.text b.text at_code.1) in
    rw (line, code, text) refl

all_less : (message : Message) (messages : List Message) → IsBelow place_cmp message messages → list_any (is_alike message) messages ≡ false → AllByRecursion (λ other. place_cmp message other ≡ Less) messages
all_less message [] below none = tt
all_less message (first ∷ rest) below none =
    let others = neither (is_alike message first) (list_any (is_alike message) rest) none in
    (by (place_cmp message first) refl others.0, all_less message rest below.1 others.1)
  where
    by : (o : Ordering) → place_cmp message first ≡ o → is_alike message first ≡ false → place_cmp message first ≡ Less
    by Less e apart = e
    by Equal e apart = absurd (false≢true (sym apart ∙ alike_where message first e))
    by Greater e apart = let above : is_gt (place_cmp message first) ≡ false = below.0 in let wrong : true ≡ false = rw e at above in cc

strictly : (messages : List Message) → IsAscending place_cmp messages → EachOnce messages → IsStrictlySortedBy place_cmp messages
unfolding IsStrictlySortedBy
strictly [] up once = tt
strictly (message ∷ rest) up once = (all_less message rest up.0 once.0, strictly rest up.1 once.1)

ascending : (reported : List Message) → IsAscending place_cmp (in_order reported)
unfolding in_order
ascending reported = ascending-with_all [] (sorted place_cmp reported) (IsAscending-sorted place_cmp place_cmp_total reported)

pub are_in_order : AreInOrder
are_in_order reported = strictly (in_order reported) (ascending reported) (have_no_repeats reported)
