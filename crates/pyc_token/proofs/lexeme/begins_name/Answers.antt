use Rattle.std.proofs.Common.{◌≡◌, ◌<◌, ◌||◌, ◌==◌, eqb, true, false, get_or, slice_index, ◌∙◌, ap, sym, arith}
use Rattle.std.specs.Char.{is_ascii, is_ascii_alphabetic}
use Rattle.std.proofs.lemmas.Bool.Decides.{nat_tests}
use Rattle.pyc_token.proofs.NameLemmas.{is_name_start-ascii}
use Rattle.pyc_token.proofs.lexeme.begins_name.Goals as goal

pub returns-then-is_ascii_alphabetic : goal.returns-then-is_ascii_alphabetic
returns-then-is_ascii_alphabetic c =
    let text = c.args.text.now in
    let ascii : is_ascii (slice_index text 0) ≡ true = ap (λ z. is_ascii (slice_index z 0)) (sym c.as_bytes.ensures.value) ∙ sym c.is_ascii.ensures ∙ c.if-is_ascii.true in
    let low : slice_index text 0 < 128 = grind (arith, nat_tests, ascii) in
    let letter : is_ascii_alphabetic (slice_index text 0) ≡ true =
    ap (λ z. is_ascii_alphabetic (slice_index z 0)) (sym c.as_bytes.ensures.value) ∙ sym c.is_ascii_alphabetic.ensures.value ∙ c.if-is_ascii_alphabetic.true in
    c.if-is_ascii_alphabetic.true ∙ sym (is_name_start-ascii text c.utf8.text c.requires low ∙ ap (λ b. b || slice_index text 0 == 95) letter)

pub returns-else-is_ascii_alphabetic : goal.returns-else-is_ascii_alphabetic
returns-else-is_ascii_alphabetic c =
    let text = c.args.text.now in
    let ascii : is_ascii (slice_index text 0) ≡ true = ap (λ z. is_ascii (slice_index z 0)) (sym c.as_bytes.ensures.value) ∙ sym c.is_ascii.ensures ∙ c.if-is_ascii.true in
    let low : slice_index text 0 < 128 = grind (arith, nat_tests, ascii) in
    let letter : is_ascii_alphabetic (slice_index text 0) ≡ false =
    ap (λ z. is_ascii_alphabetic (slice_index z 0)) (sym c.as_bytes.ensures.value) ∙ sym c.is_ascii_alphabetic.ensures.value ∙ c.if-is_ascii_alphabetic.false in
    ap (λ z. eqb (get_or z 0 0) 95) c.as_bytes.ensures.value ∙ sym (is_name_start-ascii text c.utf8.text c.requires low ∙ ap (λ b. b || slice_index text 0 == 95) letter)
