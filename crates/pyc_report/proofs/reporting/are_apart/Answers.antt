use Rattle.std.proofs.Common.{◌∙◌, ℕ, List, Bor, length, rules, eqb-true, arith}
use Rattle.pyc_report.proofs.ApartLemmas.{front_is, back_is, once_more, once_from_count}
use Rattle.pyc_report.proofs.reporting.are_apart.Goals as goal

pub loop-length-preserved : goal.loop-length-preserved
loop-length-preserved c = (
  search rules,
  λ pieces text_is lengths_are.
      let i = c.loop-length.length-index in
      let lengths = c.args.lengths.now in
      let before = c.loop-length.invariant.1 pieces text_is lengths_are in
      let front = c.in-Some.ensures.front ∙ front_is pieces lengths i _ lengths_are c.loop-length-test.true c.loop-length.rest.now before.1 in
      let back = c.in-Some.ensures.back ∙ back_is pieces lengths i _ lengths_are c.loop-length-test.true c.loop-length.rest.now before.1 in (
        once_more pieces lengths i 0 lengths_are c.loop-length-test.true (λ (piece : Bor (List ℕ)). piece.now) c.loop-length.pieces.keys c.insert.new.self.keys c.in-Some.piece
            c.in_ok-insert.ensures.keys front before.0,
        back,
      ),
)

pub returns : goal.returns
returns c = λ same pieces text_is lengths_are.
    let many = c.len.ensures.len in
    let counted = eqb-true c.len.result (length c.args.lengths.now) same in
    once_from_count (λ (piece : Bor (List ℕ)). piece.now) c.loop-length.pieces.keys pieces c.args.lengths.now c.loop-length.length-index lengths_are (omega arith)
    (c.loop-length.invariant.1 pieces text_is lengths_are).0 (omega (arith, many, counted))
