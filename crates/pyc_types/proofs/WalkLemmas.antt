-- What is done joined with what is left, in the loops of the walk.
use Rattle.std.proofs.Common.{◌≡◌, ℕ, suc, true, false, List, [], ◌∷◌, ◌+◌, ◌<◌, length, get_or, drop, add-one, refl, sym, ◌∙◌, ap, subst}
use Rattle.std.proofs.Math.Seq.{drop-cons}
use Rattle.std.proofs.Math.Bool.{or-false, or_assoc, and-true, and-false, and_assoc}
use Rattle.pyc_types.specs.declared.ways.Ways.{Ways}
use Rattle.pyc_class_ids.specs.Mro.{MroTable}
use Rattle.pyc_type_forms.specs.declared.types.Param.{Param}
use Rattle.pyc_type_forms.specs.declared.types.Ty.{Ty as TyOf}
use Rattle.pyc_type_forms.specs.Types.{Ty, Tys, Listed, nil, cons}
use Rattle.pyc_type_forms.specs.TypeView.{ty_of, param_of, row, param_row}
use Rattle.pyc_types.specs.Assignable.{slots_of}
use Rattle.pyc_types.specs.Slots.{slot_of, slots_in}
use Rattle.pyc_types.specs.Pairs.{both, meet, choose, gather, row_ways, rows_ways}
use Rattle.pyc_types.specs.Ways.{all_back, any_ways, place_ways, ways, ways_of, listed_ways_of}
use Rattle.pyc_types.proofs.Measures.{param_ty}

pub choose_end : (a : Ways) → choose a (both false true) ≡ a
choose_end a = rw (or-false a.there, and-true a.back) refl

pub choose_assoc : (a b c : Ways) → choose (choose a b) c ≡ choose a (choose b c)
choose_assoc a b c = rw (or_assoc a.there b.there c.there, and_assoc a.back b.back c.back) refl

pub meet_end : (a : Ways) → meet a (both true true) ≡ a
meet_end a = rw (and-true a.there, and-true a.back) refl

pub meet_assoc : (a b c : Ways) → meet (meet a b) c ≡ meet a (meet b c)
meet_assoc a b c = rw (and_assoc a.there b.there c.there, and_assoc a.back b.back c.back) refl

pub gather_end : (a : Ways) → gather a (both true false) ≡ a
gather_end a = rw (and-true a.there, or-false a.back) refl

pub gather_assoc : (a b c : Ways) → gather (gather a b) c ≡ gather a (gather b c)
gather_assoc a b c = rw (and_assoc a.there b.there c.there, or_assoc a.back b.back c.back) refl

-- joining ways
pub ruleset joins = (choose_end, choose_assoc, meet_end, meet_assoc, gather_end, gather_assoc)

-- every type goes back to Any
pub any_back : (xs : Tys) → all_back any_ways xs ≡ true
any_back nil = refl
any_back (cons x xs) = any_back xs

-- the parameters of a row apart from their types
pub slots_row : (ps : List Param) → slots_of (param_row ps) ≡ slots_in ps
slots_row [] = refl
slots_row (p ∷ ps) = ap (λ rest. slot_of p ∷ rest) (slots_row ps)

-- nothing meets with no way
neither : (a : Ways) → meet a (both false false) ≡ both false false
neither a = rw (and-false a.there, and-false a.back) refl

-- tuples of other lengths have no ways
pub other_lengths : (o : MroTable) (xs ys : List TyOf) → ¬ (length xs ≡ length ys) → place_ways (ways_of o (row xs)) (row ys) ≡ both false false
other_lengths o [] [] other = absurd (other refl)
other_lengths o [] (y ∷ ys) other = refl
other_lengths o (x ∷ xs) [] other = refl
other_lengths o (x ∷ xs) (y ∷ ys) other = rw (other_lengths o xs ys (λ same. other (ap suc same))) (neither _)

-- one more pair in the row of one of got's parameters
pub row_step : (pair : ℕ → Ways → Ways) (f : Ty → Ways) (wants : List Param) (j : ℕ) (d : Param) (all w all' whole : Ways) → j < length wants → d ≡ get_or wants j d
    → w ≡ pair j (f (ty_of d.ty)) → all' ≡ meet all w → meet all (row_ways pair j f (param_row (drop j wants))) ≡ whole
    → meet all' (row_ways pair (j + 1) f (param_row (drop (j + 1) wants))) ≡ whole
row_step pair f wants j d all w all' whole within is w-is all-is before =
    let s : drop j wants ≡ d ∷ drop (suc j) wants = drop-cons wants j d within ∙ ap (λ x. x ∷ drop (suc j) wants) (sym is) in
    let h : meet all (row_ways pair j f (param_row (d ∷ drop (suc j) wants))) ≡ whole = subst (λ ps. meet all (row_ways pair j f (param_row ps)) ≡ whole) s before in
    rw (all-is, add-one, w-is, ← param_ty d) (meet_assoc all (pair j (f (param_of d).ty)) (row_ways pair (suc j) f (param_row (drop (suc j) wants))) ∙ h)

-- one more of got's parameters
pub rows_step : (o : MroTable) (pair : ℕ → ℕ → Ways → Ways) (qs : Listed) (gots : List Param) (i : ℕ) (d : Param) (all w all' whole : Ways) → i < length gots → d ≡ get_or gots i d
    → w ≡ row_ways (pair i) 0 (ways o (ty_of d.ty)) qs → all' ≡ meet all w → meet all (rows_ways pair i (listed_ways_of o (param_row (drop i gots))) qs) ≡ whole
    → meet all' (rows_ways pair (i + 1) (listed_ways_of o (param_row (drop (i + 1) gots))) qs) ≡ whole
rows_step o pair qs gots i d all w all' whole within is w-is all-is before =
    let s : drop i gots ≡ d ∷ drop (suc i) gots = drop-cons gots i d within ∙ ap (λ x. x ∷ drop (suc i) gots) (sym is) in
    let h : meet all (rows_ways pair i (listed_ways_of o (param_row (d ∷ drop (suc i) gots))) qs) ≡ whole = subst (λ ps. meet all (rows_ways pair i (listed_ways_of o (param_row ps)) qs) ≡ whole) s before in
    rw (all-is, add-one, w-is, ← param_ty d) (meet_assoc all (row_ways (pair i) 0 (ways o (param_of d).ty) qs) (rows_ways pair (suc i) (listed_ways_of o (param_row (drop (suc i) gots))) qs) ∙ h)
