use Rattle.std.proofs.Common.{◌<◌, drop, slice_index, chars, sym, ap, ◌∙◌, arith}
use Rattle.std.specs.List.{prefix_len}
use Rattle.std.proofs.lemmas.Bool.Decides.{nat_tests}
use Rattle.pyc_token.specs.Names.{is_ascii_name_byte}
use Rattle.pyc_token.proofs.BoundaryLemmas.{boundary_past_prefix}
use Rattle.pyc_token.proofs.NameLemmas.{front_len, name_byte_low, name_len-front, front_len-within, name_len-ascii, name_len-at_ascii}
use Rattle.pyc_token.proofs.names.name_len.Goals as goal

pub returns-then-is_ascii-clause-value : goal.returns-then-is_ascii-clause-value
returns-then-is_ascii-clause-value c =
    let len = c.ascii_name_len-len.ensures.value ∙ ap (prefix_len is_ascii_name_byte) c.as_bytes-bytes.ensures.value in
    let low : c.byte_at.result < 128 = grind (arith, nat_tests, sym c.is_ascii.ensures ∙ c.if-is_ascii.true) in
    let at = c.byte_at.ensures ∙ ap (λ z. slice_index z c.ascii_name_len-len.result) c.as_bytes-bytes.ensures.value ∙ ap (slice_index c.args.text.now) len in
    len ∙ sym (name_len-at_ascii c.args.text.now c.utf8.text (rw at at low))

pub split_at-requires : goal.split_at-requires
split_at-requires c =
    let len = c.ascii_name_len-len.ensures.value ∙ ap (prefix_len is_ascii_name_byte) c.as_bytes-bytes.ensures.value in
    rw len (boundary_past_prefix is_ascii_name_byte name_byte_low c.args.text.now c.utf8.text)

pub overflow_add-result : goal.overflow_add-result
overflow_add-result c =
    let len = c.ascii_name_len-len.ensures.value ∙ ap (prefix_len is_ascii_name_byte) c.as_bytes-bytes.ensures.value in
    let rest = c.character_name_len.ensures ∙ name_len-front c.split_at.result.1.now ∙ ap (λ z. front_len (chars z)) (c.split_at.ensures.back ∙ ap (λ n. drop n c.args.text.now) len) in
    omega (arith, len, rest, name_len-ascii c.args.text.now c.utf8.text, front_len-within c.args.text.now c.utf8.text)

pub returns-clause-value : goal.returns-clause-value
returns-clause-value c =
    let len = c.ascii_name_len-len.ensures.value ∙ ap (prefix_len is_ascii_name_byte) c.as_bytes-bytes.ensures.value in
    let rest = c.character_name_len.ensures ∙ name_len-front c.split_at.result.1.now ∙ ap (λ z. front_len (chars z)) (c.split_at.ensures.back ∙ ap (λ n. drop n c.args.text.now) len) in
    omega (arith, len, rest, name_len-ascii c.args.text.now c.utf8.text, name_len-front c.args.text.now)

pub returns-clause-within : goal.returns-clause-within
returns-clause-within c =
    let len = c.ascii_name_len-len.ensures.value ∙ ap (prefix_len is_ascii_name_byte) c.as_bytes-bytes.ensures.value in
    let rest = c.character_name_len.ensures ∙ name_len-front c.split_at.result.1.now ∙ ap (λ z. front_len (chars z)) (c.split_at.ensures.back ∙ ap (λ n. drop n c.args.text.now) len) in
    omega (arith, len, rest, name_len-ascii c.args.text.now c.utf8.text, front_len-within c.args.text.now c.utf8.text)
