use Rattle.std.proofs.lemmas.Grind.{common_steps}
use Rattle.std.proofs.Common.{arith, ap, ◌∙◌, rules}
use Rattle.pyc_names.specs.InterfaceView.{interface_in}
use Rattle.pyc_names.proofs.PlaceLemmas.{place_more}
use Rattle.pyc_names.proofs.table.places_of.Goals as goal

pub loop-left-preserved : goal.loop-left-preserved
loop-left-preserved c =
    record {
      within = omega arith;
      placed = λ m. place_more m c.args.files.now c.loop-left.left c.index-files-left.result _ _ c.name-in-loop-left.inside.parts c.loop-left-test.true c.loop-left.invariant.within c.index-files-left.is
          (c.name-in-loop-left.view_is ∙ c.in_ok-name.ensures.cases ∙ c.name.ensures ∙ ap (λ f. (interface_in f).name) c.deref.ensures) c.in_ok-insert.ensures.entries (c.loop-left.invariant.placed m);
    }

pub loop-left-init : goal.loop-left-init
loop-left-init c = first_of (grind (arith, common_steps), search rules)

pub returns : goal.returns
returns c = first_of (grind (arith, common_steps), search rules)

pub returns-in_err-insert : goal.returns-in_err-insert
returns-in_err-insert c = first_of (grind (arith, common_steps), search rules)

pub returns-in_err-name : goal.returns-in_err-name
returns-in_err-name c = first_of (grind (arith, common_steps), search rules)
