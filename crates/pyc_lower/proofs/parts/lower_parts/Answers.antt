use Rattle.std.proofs.Common.{◌≡◌, ◌∙◌, ◌∷◌, List, length, map, ap, sym, subst, rules, arith}
use Rattle.std.proofs.lemmas.Grind.{common_steps}
use Rattle.std.specs.Global.{Vec}
use Rattle.std.specs.Vec.Iter.{into_iter_items}
use Rattle.pyc_lex.specs.declared.logical_lines.LogicalLine.{LogicalLine}
use Rattle.pyc_lex.specs.View.{line_in}
use Rattle.pyc_lower.specs.Parts.{part_in, lowered_of}
use Rattle.pyc_lower.proofs.PartLemmas.{IsParted, parted_first, parted_as, parted_pushed, parted_added, parted_bad, parted_last, adds_some, adds_none, answers_part}
use Rattle.pyc_lower_atom.specs.OriginView.{origin_of}
use Rattle.pyc_parse.proofs.ModuleLemmas.{no_line_left}
use Rattle.pyc_lower.proofs.parts.lower_parts.Goals.{then-begins_part+in_ok-next+in_ok-fault+in_default, else-begins_part}
use Rattle.pyc_lower.proofs.parts.lower_parts.Goals as goal

pub loop-line-init : goal.loop-line-init
loop-line-init g c =
    let s = g.Q.Quotes.spelled in
    let o = origin_of c.args.lowering.now.origin in
    let all = map line_in c.args.lines.items in
    let gives = c.into_iter-line-iterator.ensures.into_iter_gives in
    let first = parted_as s o all all c.in_ok-part.ensures.items c.nothing-found.ensures (parted_first s o all) in (
      subst (λ (ls : List LogicalLine). IsParted s o all (map line_in c.in_ok-part.part.items) (map line_in ls) (lowered_of c.nothing-found.result)) (sym gives.0) first,
      first_of (grind (arith, common_steps), search rules),
    )

pub returns-in-Some-2 : goal.returns-in-Some-2
returns-in-Some-2 g c =
    let s = g.Q.Quotes.spelled in
    let o = origin_of c.args.lowering.now.origin in
    let all = map line_in c.args.lines.items in
    let part = map line_in c.loop-line.part.items in
    let bad = ap (λ (v : Vec LogicalLine). part_in s o (map line_in v.items)) (sym c.replace-whole.ensures.value)
    ∙ adds_some (part_in s o (map line_in c.replace-whole.result.items)) (lowered_of c.loop-line.found) (lowered_of c.add_part.new.found) c.in_ok-fault.field-0
    c.in-Some-2.fault c.in_ok-fault.ensures c.in-Some-2.is in
    answers_part (part_in s o all) c.in-Some-2.fault c.parts_of_fault.result c.parts_of_fault.ensures
    (parted_bad s o all part (map line_in (into_iter_items c.loop-line.line-iterator)) (lowered_of c.loop-line.found) c.in-Some-2.fault c.loop-line.invariant.0 bad)

pub loop-line-preserved : goal.loop-line-preserved
loop-line-preserved g c =
    let s = g.Q.Quotes.spelled in
    let o = origin_of c.args.lowering.now.origin in
    let all = map line_in c.args.lines.items in
    let part = map line_in c.loop-line.part.items in
    let before = into_iter_items c.loop-line.line-iterator in
    let after = into_iter_items c.next.new.self in
    let next : before ≡ c.in-Some.line ∷ after = c.in-Some.ensures.steps.0 in
    let parted : IsParted s o all (map line_in c.if-begins_part.part.items) (map line_in before) (lowered_of c.if-begins_part.found) =
    elim c.if-begins_part.branch [
      | then-begins_part+in_ok-next+in_ok-fault+in_default w ↦
          let good = ap (λ (v : Vec LogicalLine). Rattle.pyc_lower.specs.Parts.added (lowered_of c.loop-line.found) (part_in s o (map line_in v.items))) (sym w.replace-whole.ensures.value)
          ∙ adds_none (part_in s o (map line_in w.replace-whole.result.items)) (lowered_of c.loop-line.found) (lowered_of w.add_part.new.found) w.in_ok-fault.field-0
          w.in_ok-fault.ensures w.in_default.is in
          parted_as s o all (map line_in before) (ap (λ (v : Vec LogicalLine). v.items) (w.part-is ∙ w.replace-whole.ensures.after) ∙ w.in_ok-next.ensures.items)
          (ap lowered_of w.found-is)
          (parted_added s o all part (map line_in before) (lowered_of c.loop-line.found) (lowered_of w.add_part.new.found) c.loop-line.invariant.0 good)
      | else-begins_part w ↦
          parted_as s o all (map line_in before) (ap (λ (v : Vec LogicalLine). v.items) w.part-is) (ap lowered_of w.found-is) c.loop-line.invariant.0
    ] in (
      parted_pushed s o all c.if-begins_part.part.items before after c.push.new.self.items c.in-Some.line (lowered_of c.if-begins_part.found) parted next c.in_ok-push.ensures.items,
      let was = c.loop-line.invariant.1 in
          let gone = c.in-Some.ensures.steps.1 in
          let short = ap (λ (ls : List LogicalLine). length ls) next in
          omega arith,
    )

pub returns-in-Some-3 : goal.returns-in-Some-3
returns-in-Some-3 g c =
    let s = g.Q.Quotes.spelled in
    let o = origin_of c.args.lowering.now.origin in
    let all = map line_in c.args.lines.items in
    let part = map line_in c.loop-line.part.items in
    let bad = adds_some (part_in s o part) (lowered_of c.loop-line.found) (lowered_of c.add_part-2.new.found) c.in_ok-fault-2.field-0
    c.in-Some-3.fault c.in_ok-fault-2.ensures c.in-Some-3.is in
    answers_part (part_in s o all) c.in-Some-3.fault c.parts_of_fault-in-Some-3.result c.parts_of_fault-in-Some-3.ensures
    (parted_bad s o all part (map line_in (into_iter_items c.loop-line.line-iterator)) (lowered_of c.loop-line.found) c.in-Some-3.fault c.loop-line.invariant.0 bad)

pub returns-in-None-2 : goal.returns-in-None-2
returns-in-None-2 g c =
    let s = g.Q.Quotes.spelled in
    let o = origin_of c.args.lowering.now.origin in
    let all = map line_in c.args.lines.items in
    let part = map line_in c.loop-line.part.items in
    let none = no_line_left (into_iter_items c.loop-line.line-iterator) (sym c.loop-line.invariant.1 ∙ c.in-None.ensures.steps.0) in
    parted_last s o all part (lowered_of c.loop-line.found) (lowered_of c.add_part-2.new.found)
    (subst (λ (ls : List LogicalLine). IsParted s o all part (map line_in ls) (lowered_of c.loop-line.found)) none c.loop-line.invariant.0)
    (adds_none (part_in s o part) (lowered_of c.loop-line.found) (lowered_of c.add_part-2.new.found) c.in_ok-fault-2.field-0 c.in_ok-fault-2.ensures c.in-None-2.is)
