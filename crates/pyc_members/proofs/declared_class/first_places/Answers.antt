use Rattle.std.proofs.lemmas.Grind.{common_steps}
use Rattle.std.proofs.Common.{◌∙◌, ap, arith, bytes_eq, cond, List, ℕ, Option, Some, rules}
use Rattle.pyc_ast.specs.declared.position.Position.{Position}
use Rattle.pyc_members.specs.DeclaredClassView.{places_in}
use Rattle.pyc_members.proofs.PlaceLemmas.{first_place-more}
use Rattle.pyc_members.proofs.declared_class.first_places.Goals as goal

-- the binding before those that are placed is put in
pub loop-left-preserved : goal.loop-left-preserved
loop-left-preserved c =
    let at = c.index-bindings-left.result.place.at in
    let chosen : List ℕ → List ℕ → Option Position =
    λ k n. cond (bytes_eq k n) (Some at) (places_in c.loop-left.places n) in
    record {
      within = omega arith;
      placed = first_place-more c.args.bindings.now c.loop-left.left c.index-bindings-left.result c.loop-left.places
          c.insert.new.self c.loop-left-test.true c.loop-left.invariant.within c.index-bindings-left.is
          (λ n. c.in_ok-insert.ensures.updates.0 n ∙ ap (λ k. chosen k n) c.in_ok-clone.ensures.cases)
          c.loop-left.invariant.placed;
    }

pub loop-left-init : goal.loop-left-init
loop-left-init c = first_of (grind (arith, common_steps), search rules)

pub returns : goal.returns
returns c = first_of (grind (arith, common_steps), search rules)

pub returns-in_err-clone : goal.returns-in_err-clone
returns-in_err-clone c = first_of (grind (arith, common_steps), search rules)

pub returns-in_err-insert : goal.returns-in_err-insert
returns-in_err-insert c = first_of (grind (arith, common_steps), search rules)
