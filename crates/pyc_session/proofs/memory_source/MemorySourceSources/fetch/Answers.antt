use Rattle.std.proofs.Common.{ap, sym, ◌∙◌, refl, take, Some}
use Rattle.std.specs.Option.{option_map}
use Rattle.pyc_session.proofs.memory_source.MemorySourceSources.fetch.Goals as goal

pub returns-clause-step : goal.returns-clause-step
returns-clause-step c =
    let found = rw (c.deref.ensures.value, c.in-Some.is) at c.bytes_at.ensures in
    (ap (option_map (take 1048577)) (sym found) ∙ ap Some (sym c.in_ok-first_bytes.ensures.first), refl)
