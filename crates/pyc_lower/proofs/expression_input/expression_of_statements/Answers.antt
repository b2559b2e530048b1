use Rattle.std.proofs.Common.{◌≡◌, ◌==◌, ℕ, length, ap, sym, ◌∙◌, arith}
use Rattle.std.specs.Vec.{vec_len}
use Rattle.pyc_lower.proofs.InputLemmas.{statements_more}
use Rattle.pyc_lower.proofs.expression_input.expression_of_statements.Goals as goal

pub returns-then-not-is_empty : goal.returns-then-not-is_empty
returns-then-not-is_empty c =
    let each = c.args.statements.now.each in
    let len : vec_len each ≡ length each.items = omega (arith, each.ok.0) in
    statements_more c.args.statements.now
    (ap (λ (n : ℕ). n == 0) (sym len) ∙ sym c.is_empty.ensures ∙ c.if-not-is_empty.true)
