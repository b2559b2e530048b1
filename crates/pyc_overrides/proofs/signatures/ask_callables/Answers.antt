use Rattle.pyc_obligations.proofs.OwingLemmas.{asks_both}
use Rattle.pyc_overrides.specs.Parameters.{rows_details}
use Rattle.pyc_overrides.specs.Views.{override_of}
use Rattle.pyc_reading.specs.Owing.{detail_keys, pair_keys}
use Rattle.pyc_type_forms.specs.TypeView.{params_of, ty_of}
use Rattle.pyc_overrides.proofs.signatures.ask_callables.Goals as goal

pub returns : goal.returns
returns g c =
    let got = c.args.got.now in
    let want = c.args.want.now in
    asks_both (pair_keys (ty_of got.result) (ty_of want.result)) (detail_keys (rows_details (override_of c.args.reported.now) (params_of got.params) (params_of want.params))) _ _ _ _
    c.in_ok-ask_types.ensures.done c.ask_types.ensures.grown c.ask_rows.ensures
