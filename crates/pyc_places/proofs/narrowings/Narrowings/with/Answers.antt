use Rattle.std.proofs.Common.{◌≡◌, List, map, true, sym, subst}
use Rattle.std.specs.declared.alloc.Global.{Global}
use Rattle.std.specs.declared.rc.Rc.{Rc}
use Rattle.pyc_places.proofs.OnceLemmas.{once_with}
use Rattle.pyc_places.specs.declared.narrowings.Narrowing.{Narrowing as NarrowingOf}
use Rattle.pyc_places.specs.NarrowingView.{narrowing_of}
use Rattle.pyc_places.specs.Once.{are_once}
use Rattle.pyc_type_forms.specs.TypeView.{ty_of}
use Rattle.pyc_places.proofs.narrowings.Narrowings.with.Goals as goal

pub invariant_of-result : goal.invariant_of-result
invariant_of-result c =
    let once : are_once (map (λ n. narrowing_of n.value) c.deref.result.now) ≡ true =
    subst (λ (l : List (Rc NarrowingOf Global)). are_once (map (λ n. narrowing_of n.value) l) ≡ true) (sym c.deref.ensures.value) c.args.self.now.once in
    record { once = rw c.in_ok-items.ensures (once_with c.args.place (ty_of c.args.ty) (map (λ n. narrowing_of n.value) c.deref.result.now) once) }
