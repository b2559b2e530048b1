use Rattle.std.proofs.Common.{◌≡◌, refl, rules}
use Rattle.pyc_type_forms.specs.declared.types.Params.TheFolds.{the_lemmas}
use Rattle.pyc_type_forms.specs.Types.{tuple}
use Rattle.pyc_type_forms.specs.TypeView.{ty_of, row}
use Rattle.pyc_types.proofs.WalkLemmas.{any_back}
use Rattle.pyc_types.proofs.assigning.bare.bare_rule.Goals as goal

pub returns-in-Tuple-Tuple : goal.returns-in-Tuple-Tuple
returns-in-Tuple-Tuple c =
    let k : ty_of c.args.want.now ≡ tuple (row c.in-Tuple-Tuple.field-0-1.value.items) = rw c.in-Tuple-Tuple.is-1 (search (rules, the_lemmas)) in
    rw (c.in-Tuple-Tuple.is-0, k, any_back) refl
