use Rattle.std.proofs.Common.{map, sym, ap, ◌∙◌}
use Rattle.pyc_places.proofs.OnceLemmas.{first_stands}
use Rattle.pyc_places.specs.Lookup.{is_at}
use Rattle.pyc_places.specs.NarrowingView.{narrowing_of}
use Rattle.pyc_places.specs.StateView.{narrowings_in}
use Rattle.pyc_places.proofs.lookup.Hints.index_of.Goals as goal

pub returns-then-stands_at : goal.returns-then-stands_at
returns-then-stands_at c =
    first_stands (narrowings_in c.args.narrowings.now) c.args.place.now c.args.self.next c.args.narrowings.now.once
    (ap (λ l. is_at (map (λ n. narrowing_of n.value) l) c.args.self.next c.args.place.now) (sym c.deref.ensures.value) ∙ sym c.stands_at.ensures ∙ c.if-stands_at.true)

pub returns-then-stands_at-2 : goal.returns-then-stands_at-2
returns-then-stands_at-2 c =
    first_stands (narrowings_in c.args.narrowings.now) c.args.place.now c.args.self.other c.args.narrowings.now.once
    (ap (λ l. is_at (map (λ n. narrowing_of n.value) l) c.args.self.other c.args.place.now) (sym c.deref-2.ensures.value) ∙ sym c.stands_at-2.ensures ∙ c.if-stands_at-2.true)
