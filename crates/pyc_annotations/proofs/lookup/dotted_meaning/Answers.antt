use Rattle.pyc_annotations.proofs.Steps.{performing}
use Rattle.std.proofs.Common.{List, ℕ, length, ap, ◌∙◌, arith, rules}
use Rattle.std.specs.List.{between}
use Rattle.pyc_annotations.proofs.Names.{first_and_rest}
use Rattle.pyc_annotations.specs.Annotations.{dotted_meaning, attributes}
use Rattle.pyc_annotations.specs.Meanings.{own_name}
use Rattle.pyc_names.specs.InterfaceView.{interface_in}
use Rattle.pyc_reading.proofs.RunLemmas.{after, grown_trans}
use Rattle.pyc_reading.specs.Traces.{run}
use Rattle.pyc_annotations.proofs.lookup.dotted_meaning.Goals as goal

pub returns-in_ok-meaning-in-len1-up : goal.returns-in_ok-meaning-in-len1-up
unfolding dotted_meaning
returns-in_ok-meaning-in-len1-up g c =
    let file = interface_in c.args.file.now in
    let names = c.args.names.now in
    let rest = between 1 (length names) names in
    record {
      done =
          ap (λ (l : List (List ℕ)). run (dotted_meaning c.args.role file c.args.at l) (g.N.Ask.trace c.args.recorder.now)) (first_and_rest names _ c.in-len1-up.len_at_least c.first-item.is)
          ∙ after (own_name file c.args.at c.first-item.result) (attributes c.args.role c.args.at rest) (g.N.Ask.trace c.args.recorder.now) _ _ _ _ c.in_ok-found-in-len1-up.ensures.done c.in_ok-meaning-in-len1-up.ensures.done;
      grown = grown_trans c.own_name.ensures.grown c.attributes.ensures.grown;
    }

pub returns-in_err-found-in-len1-up : goal.returns-in_err-found-in-len1-up
unfolding dotted_meaning
returns-in_err-found-in-len1-up g c = first_of (grind (arith, performing), search rules)

pub returns-in_err-meaning-in-len1-up : goal.returns-in_err-meaning-in-len1-up
unfolding dotted_meaning
returns-in_err-meaning-in-len1-up g c = first_of (grind (arith, performing), search rules)

pub returns-in-empty : goal.returns-in-empty
unfolding dotted_meaning
returns-in-empty g c = first_of (grind (arith, performing), search rules)
