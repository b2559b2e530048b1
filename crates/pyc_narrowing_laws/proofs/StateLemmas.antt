-- What the states of places keep.
use Rattle.std.proofs.Common.{◌≡◌, ◌⊎◌, Bool, true, false, not, ◌||◌, if◌then◌else◌, List, [], ◌∷◌, ◌++◌, Option, None, Some, option_map, filter, find, inl, inr, refl, ap, ◌∙◌, subst}
use Rattle.std.specs.List.{list_any, flat_map}
use Rattle.std.proofs.lemmas.Bool.{false≢true, or_left, or_right}
use Rattle.std.proofs.lemmas.Option.{none-some, same_Some}
use Rattle.pyc_class_ids.specs.Mro.{MroTable}
use Rattle.pyc_narrowing_laws.specs.StateLaws.{Values, MeetsEach, Meets, NothingNarrowedIsMet, WithPlaceKeeps, JoinedKeeps, ChangesAt, DroppedKeeps, AssignedKeeps}
use Rattle.pyc_narrowing_laws.specs.Values.{Value, is_of}
use Rattle.pyc_narrowing_laws.proofs.SameTypes.{texts-are}
use Rattle.pyc_narrowing_laws.proofs.UnionLemmas.{union-has}
use Rattle.pyc_places.specs.Places.{Place, same_place, is_at_or_below}
use Rattle.pyc_places.specs.States.{Narrowing, State, unreachable, reachable, type_of, without_place, with_place, drop_place, on_both, joined_states}
use Rattle.pyc_type_forms.specs.Types.{Ty}

module _ (orders : MroTable) (values : Values) where
  abbrev MetEach : List Narrowing → Type 0
  MetEach = MeetsEach orders values

  abbrev Met : State → Type 0
  Met = Meets orders values

  both-met : (ns more : List Narrowing) → MetEach ns → MetEach more → MetEach (ns ++ more)
  both-met [] more met rest = rest
  both-met (n ∷ ns) more met rest = (met.0, both-met ns more met.1 rest)

  filter-met : (p : Narrowing → Bool) (ns : List Narrowing) → MetEach ns → MetEach (filter p ns)
  filter-met p [] met = tt
  filter-met p (n ∷ ns) met = by_pass (p n) (filter-met p ns met.1)
    where
      by_pass : (b : Bool) → MetEach (filter p ns) → MetEach (if b then n ∷ filter p ns else filter p ns)
      by_pass true rest = (met.0, rest)
      by_pass false rest = rest

  pub with_place-met : (place : Place) (ty : Ty) (s : State) → Met s → is_of orders (values place) ty ≡ true → Met (with_place place ty s)
  with_place-met place ty unreachable met here = met
  with_place-met place ty (reachable ns) met here =
      both-met (without_place place ns) (record { place = place; ty = ty } ∷ []) (filter-met (λ n. not (same_place n.place place)) ns met) (here, tt)

  -- ---- where two ways meet

  union-left : (place : Place) (ty other : Ty) → is_of orders (values place) ty ≡ true → MetEach (on_both (record { place = place; ty = ty }) (Some other))
  union-left place ty other here =
      (union-has orders (values place) (ty ∷ other ∷ []) (or_left (is_of orders (values place) ty) (is_of orders (values place) other || false) here), tt)

  union-right : (place : Place) (ty other : Ty) → is_of orders (values place) other ≡ true → MetEach (on_both (record { place = place; ty = ty }) (Some other))
  union-right place ty other here = (
    union-has orders (values place) (ty ∷ other ∷ [])
        (or_right (is_of orders (values place) ty) (is_of orders (values place) other || false) (or_left (is_of orders (values place) other) false here)),
    tt,
  )

  -- the type of a narrowed place is one of its value
  pub found-met : (more : List Narrowing) (place : Place) (ty : Ty) → MetEach more → type_of more place ≡ Some ty → is_of orders (values place) ty ≡ true
  found-met [] place ty met is = absurd (none-some ty is)
  found-met (m ∷ more) place ty met is = by_place (same_place m.place place) refl is (λ later. found-met more place ty met.1 later)
    where
      by_place : (b : Bool) → same_place m.place place ≡ b
          → option_map (λ (n : Narrowing). n.ty) (if b then Some m else find (λ n. same_place n.place place) more) ≡ Some ty
          → (type_of more place ≡ Some ty → is_of orders (values place) ty ≡ true) → is_of orders (values place) ty ≡ true
      by_place true same found rest =
          subst (λ q. is_of orders (values q) ty ≡ true) (texts-are m.place place same)
          (subst (λ t. is_of orders (values m.place) t ≡ true) (same_Some m.ty ty found) met.0)
      by_place false same found rest = rest found

  left-joined : (ns more : List Narrowing) → MetEach ns → MetEach (flat_map (λ n. on_both n (type_of more n.place)) ns)
  left-joined [] more met = tt
  left-joined (n ∷ ns) more met =
      both-met (on_both n (type_of more n.place)) (flat_map (λ n. on_both n (type_of more n.place)) ns) (by_other (type_of more n.place)) (left-joined ns more met.1)
    where
      by_other : (other : Option Ty) → MetEach (on_both n other)
      by_other None = tt
      by_other (Some other) = union-left n.place n.ty other met.0

  right-joined : (ns more : List Narrowing) → MetEach more → MetEach (flat_map (λ n. on_both n (type_of more n.place)) ns)
  right-joined [] more met = tt
  right-joined (n ∷ ns) more met =
      both-met (on_both n (type_of more n.place)) (flat_map (λ n. on_both n (type_of more n.place)) ns) (by_other (type_of more n.place) refl) (right-joined ns more met)
    where
      by_other : (other : Option Ty) → type_of more n.place ≡ other → MetEach (on_both n other)
      by_other None is = tt
      by_other (Some other) is = union-right n.place n.ty other (found-met more n.place other met is)

  pub left-met : (s t : State) → Met s → Met (joined_states s t)
  left-met unreachable t met = absurd met
  left-met (reachable ns) unreachable met = met
  left-met (reachable ns) (reachable more) met = left-joined ns more met

  pub right-met : (s t : State) → Met t → Met (joined_states s t)
  right-met unreachable t met = met
  right-met (reachable ns) unreachable met = absurd met
  right-met (reachable ns) (reachable more) met = right-joined ns more met

-- ---- assignments

dropped-each : (orders : MroTable) (place : Place) (before after : Values) (ns : List Narrowing) → ChangesAt place before after
    → MeetsEach orders before ns → MeetsEach orders after (filter (λ n. not (is_at_or_below place n.place)) ns)
dropped-each orders place before after [] changes met = tt
dropped-each orders place before after (n ∷ ns) changes met =
    by_below (is_at_or_below place n.place) refl (dropped-each orders place before after ns changes met.1)
  where
    by_below : (b : Bool) → is_at_or_below place n.place ≡ b → MeetsEach orders after (filter (λ m. not (is_at_or_below place m.place)) ns)
        → MeetsEach orders after (if not b then n ∷ filter (λ m. not (is_at_or_below place m.place)) ns else filter (λ m. not (is_at_or_below place m.place)) ns)
    by_below true below rest = rest
    by_below false below rest = (ap (λ v. is_of orders v n.ty) (changes n.place below) ∙ met.0, rest)

pub nothing_narrowed_is_met : NothingNarrowedIsMet
nothing_narrowed_is_met orders values = tt

pub with_place_keeps : WithPlaceKeeps
with_place_keeps orders values place ty s met here = with_place-met orders values place ty s met here

pub joined_keeps : JoinedKeeps
joined_keeps orders values s t (inl met) = left-met orders values s t met
joined_keeps orders values s t (inr met) = right-met orders values s t met

pub dropped_keeps : DroppedKeeps
dropped_keeps orders place before after unreachable changes met = met
dropped_keeps orders place before after (reachable ns) changes met = dropped-each orders place before after ns changes met

pub assigned_keeps : AssignedKeeps
assigned_keeps orders place before after ty s changes met here =
    with_place-met orders after place ty (drop_place place s) (dropped_keeps orders place before after s changes met) here
