-- Messages with the same line, code and text as one: that is an equivalence, and they feed a hasher the same.
use Rattle.std.specs.Prelude.{IsTrue, ◌≡◌, ◌++◌, ◌&&◌, nat_eq, bytes_eq}
use Rattle.std.specs.Cmp.{IsEquivalence}
use Rattle.std.specs.Hash as fed
use Rattle.std.proofs.Common.{ap₂, eqb-true}
use Rattle.std.proofs.lemmas.Bool.{and_parts}
use Rattle.std.proofs.lemmas.Cmp.{and_equiv, nat_eq_equiv, nat_list_eq_equiv, on_equiv}
use Rattle.std.proofs.lemmas.Slice.Eq.{bytes_eq-Decides}
use Rattle.pyc_report.specs.FoundOrder.{is_alike}
use Rattle.pyc_report.specs.Message.{Message, code_of}

-- to have the same line, code and text is an equivalence
pub is_alike_equiv : IsEquivalence is_alike
is_alike_equiv =
    and_equiv (on_equiv (λ (m : Message). m.line) nat_eq_equiv)
    (and_equiv (on_equiv (λ (m : Message). code_of m.kind) nat_list_eq_equiv)
    (on_equiv (λ (m : Message). m.text) nat_list_eq_equiv))

-- the line and the text of a message
abbrev pub printed_input : Message → fed.HashWrites
printed_input message = fed.usize message.line ++ fed.str message.text

-- messages with the same line, code and text feed the same
pub alike_fed : (a b : Message) → IsTrue (is_alike a b) → printed_input a ≡ printed_input b
alike_fed a b same =
    let coded = bytes_eq (code_of a.kind) (code_of b.kind) in
    let parts = and_parts (nat_eq a.line b.line) (coded && bytes_eq a.text b.text) same in
    let later = and_parts coded (bytes_eq a.text b.text) parts.1 in
    ap₂ (λ line text. fed.usize line ++ fed.str text) (eqb-true a.line b.line parts.0)
    ((bytes_eq-Decides a.text b.text).0 later.1)
