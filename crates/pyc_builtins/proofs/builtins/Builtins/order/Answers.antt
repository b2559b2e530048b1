use Rattle.std.proofs.Common.{◌≡◌, map, ap, rules, ◌∙◌, ◌-◌, take, drop}
use Rattle.std.proofs.lemmas.List.{take-map, drop-map}
use Rattle.pyc_class_ids.specs.Class.{builtin}
use Rattle.pyc_builtins.specs.MroTable.{chains}
use Rattle.pyc_builtins.proofs.builtins.Builtins.order.Goals as goal

pub returns : goal.returns
returns c =
    let start = c.place_of-start.result.0 in
    let count = c.place_of-start.result.1 - start in
    let held : c.as_slice.result.now ≡ map builtin chains = search rules in
    ap (λ classes. take count (drop start classes)) held
    ∙ ap (take count) (drop-map builtin start chains)
    ∙ take-map builtin count (drop start chains)
    ∙ ap (map builtin) c.place_of-start.ensures.order
