use Rattle.std.proofs.Common.{ap, sym, ◌∙◌}
use Rattle.std.proofs.lemmas.Bool.{cond-true}
use Rattle.pyc_names.proofs.ModuleLemmas.{beside_is}
use Rattle.pyc_names.proofs.module_name.beside.Goals as goal

pub returns-then-is_stub_path : goal.returns-then-is_stub_path
returns-then-is_stub_path c =
    let stub = sym c.is_stub_path.ensures ∙ c.if-is_stub_path.true in
    rw stub (ap (λ x. x.now) c.unwrap_or.ensures ∙ beside_is c.args.path c.strip_suffix.result c.strip_suffix.ensures.cases stub)
