use Rattle.std.proofs.Common.{◌≡◌, ◌∷◌, suc, ◌+◌, drop, add-one, drop-cons, refl, sym, ap, ◌∙◌}
use Rattle.pyc_declarations.specs.Kinds.{attribute_referent, attributes_referent}
use Rattle.pyc_declarations.specs.KindsView.{kinds_in}
use Rattle.pyc_declarations.specs.Looks.{attribute_looks, attributes_looks}
use Rattle.pyc_names.specs.FollowingView.{referent_of}
use Rattle.pyc_names.specs.NotedLooks.{with_looks}
use Rattle.pyc_names.specs.NotedLooksView.{noted_in}
use Rattle.pyc_declarations.proofs.NotedLemmas.{noted_turn, noted_all}
use Rattle.pyc_declarations.proofs.kinds.Kinds.attributes_referent.Goals as goal

pub loop-name-preserved : goal.loop-name-preserved
loop-name-preserved c =
    let files = kinds_in c.args.self.now in
    let found = referent_of c.loop-name.end in
    let x = c.name-item.result in
    let rest = drop (c.loop-name.name-index + 1) c.args.names.now in
    let left : drop c.loop-name.name-index c.args.names.now ≡ x ∷ rest =
    rw add-one (drop-cons c.args.names.now c.loop-name.name-index x c.loop-name-test.true ∙ ap (λ y. y ∷ drop (suc c.loop-name.name-index) c.args.names.now) (sym c.name-item.is)) in
    let next : referent_of c.in_ok-end.end ≡ attribute_referent files found x = c.in_ok-end.ensures.found in
    record {
      rest = ap (λ r. attributes_referent files r rest) next ∙ sym (ap (attributes_referent files found) left) ∙ c.loop-name.invariant.rest;
      noted = ap (λ r. with_looks (noted_in c.attribute_referent.new.looks) (attributes_looks files r rest)) next
          ∙ noted_turn (attributes_looks files found) (attribute_looks files found x) (attributes_looks files (attribute_referent files found x) rest) c.args.names.now c.loop-name.name-index x _ _
          c.loop-name-test.true c.name-item.is refl c.in_ok-end.ensures.looks
          ∙ c.loop-name.invariant.noted;
    }

pub returns-clause-looks : goal.returns-clause-looks
returns-clause-looks c =
    noted_all (attributes_looks (kinds_in c.args.self.now) (referent_of c.loop-name.end)) c.args.names.now c.loop-name.name-index _ c.loop-name-test.false refl ∙ c.loop-name.invariant.noted
