use Rattle.std.proofs.Common.{length, chars, sym, ◌∙◌, arith}
use Rattle.std.proofs.lemmas.Iterator.{YieldsList-from_chars}
use Rattle.std.proofs.lemmas.Iterator.Consumers.{YieldsList-turn, YieldsList-end}
use Rattle.std.proofs.lemmas.List.{length_push}
use Rattle.pyc_token.proofs.NameLemmas.{name_len-front, front_len-within, front_len-drop, front_len-at_end}
use Rattle.pyc_token.proofs.names.character_name_len.Goals as goal

pub returns-then-not-is_xid_continue : goal.returns-then-not-is_xid_continue
returns-then-not-is_xid_continue c =
    let t = YieldsList-turn (YieldsList-from_chars c.args.text.now c.utf8.text cc) c.loop-character.yielded _ c.loop-character.yielded_by _ _ c.in-Some.character c.in-Some.is c.next.ensures.steps in
    let e = front_len-drop _ _ _ t in
    let all = name_len-front c.args.text.now in
    let stops = sym c.is_xid_continue.ensures.value ∙ c.if-not-is_xid_continue.true in
    omega (arith, rw stops at e, all, c.loop-character.invariant.value)

pub overflow_add-len : goal.overflow_add-len
overflow_add-len c =
    let t = YieldsList-turn (YieldsList-from_chars c.args.text.now c.utf8.text cc) c.loop-character.yielded _ c.loop-character.yielded_by _ _ c.in-Some.character c.in-Some.is c.next.ensures.steps in
    let e = front_len-drop _ _ _ t in
    let most = front_len-within c.args.text.now c.utf8.text in
    let goes = sym c.is_xid_continue.ensures.value ∙ c.if-not-is_xid_continue.false in
    omega (arith, rw goes at e, most, c.loop-character.invariant.value, c.len_utf8-len.ensures.value)

pub loop-character-preserved : goal.loop-character-preserved
loop-character-preserved c =
    let t = YieldsList-turn (YieldsList-from_chars c.args.text.now c.utf8.text cc) c.loop-character.yielded _ c.loop-character.yielded_by _ _ c.in-Some.character c.in-Some.is c.next.ensures.steps in
    let e = front_len-drop _ _ _ t in
    let n = length_push c.loop-character.yielded c.in-Some.character in
    let goes = sym c.is_xid_continue.ensures.value ∙ c.if-not-is_xid_continue.false in
    record { value = rw n (omega (arith, rw goes at e, c.loop-character.invariant.value, c.len_utf8-len.ensures.value)) }

pub returns : goal.returns
returns c =
    let t = YieldsList-end (YieldsList-from_chars c.args.text.now c.utf8.text cc) c.loop-character.yielded _ c.loop-character.yielded_by _ _ c.in-None.is c.next.ensures.steps in
    omega (arith, front_len-at_end (chars c.args.text.now) (length c.loop-character.yielded) (omega (arith, t.1)), name_len-front c.args.text.now, c.loop-character.invariant.value)
