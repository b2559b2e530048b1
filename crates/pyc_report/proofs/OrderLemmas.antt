-- `message_cmp` is a total order, and messages that tie are equal.
use Rattle.std.proofs.Common.{◌≡◌, ℕ, List, Ordering, Less, Equal, Greater, refl}
use Rattle.std.specs.Ordering.{ordering_then}
use Rattle.std.specs.Cmp.{IsTotalOrder}
use Rattle.std.proofs.lemmas.Cmp.{then_total, on_total, nat_cmp_total, nat_list_cmp_total}
use Rattle.std.proofs.lemmas.Map.Lookups.{exact_unsigned, exact_bytes}
use Rattle.pyc_report.specs.Report.{Located, message_cmp}

-- the laws of the order, from those of its parts
pub message_cmp_total : IsTotalOrder message_cmp
message_cmp_total =
    then_total (on_total (λ (e : Located). e.path) nat_list_cmp_total)
    (then_total (on_total (λ (e : Located). e.line) nat_cmp_total)
    (then_total (on_total (λ (e : Located). e.column) nat_cmp_total)
    (then_total (on_total (λ (e : Located). e.code) nat_list_cmp_total) (on_total (λ (e : Located). e.text) nat_list_cmp_total))))

-- a comparison by two parts ties where both do
both_tie : (o p : Ordering) → ordering_then o p ≡ Equal → (o ≡ Equal) × (p ≡ Equal)
both_tie Less p e = cc
both_tie Equal p e = (refl, e)
both_tie Greater p e = cc

-- messages that tie in each part are one
pub same_message : (a b : Located) → message_cmp a b ≡ Equal → a ≡ b
same_message a b e =
    let at_path = both_tie _ _ e in
    let at_line = both_tie _ _ at_path.1 in
    let at_column = both_tie _ _ at_line.1 in
    let at_code = both_tie _ _ at_column.1 in
    let path : a.path ≡ b.path = exact_bytes a.path b.path at_path.0 in
    let line : a.line ≡ b.line = exact_unsigned a.line b.line at_line.0 in
    let column : a.column ≡ b.column = exact_unsigned a.column b.column at_column.0 in
    let code : a.code ≡ b.code = exact_bytes a.code b.code at_code.0 in
    let text : a.text ≡ b.text = exact_bytes a.text b.text at_code.1 in
    let made : (p : List ℕ) → a.path ≡ p → (m : ℕ) → a.line ≡ m → (n : ℕ) → a.column ≡ n → (c : List ℕ) → a.code ≡ c → (t : List ℕ) → a.text ≡ t
    → a ≡ record { path = p; line = m; column = n; code = c; text = t } = λ p pp m mm n nn c cc' t tt'. rw (← pp, ← mm, ← nn, ← cc', ← tt') refl in
    made b.path path b.line line b.column column b.code code b.text text
