-- Lists, one element more.
use Rattle.std.proofs.Common.{◌≡◌, ℕ, ◌+◌, ◌<◌, List, [], ◌∷◌, ◌++◌, map, take, take-suc, length, Option, Some, None, refl, sym, add-one, append-nil}
use Rattle.std.proofs.Math.ListN.{get_or}
use Rattle.std.proofs.lemmas.List.{map-append}
use Rattle.std.proofs.lemmas.List.Elements.{filter_map-append}
use Rattle.std.specs.List.{filter_map}

-- one element more, of which something is made, or nothing
pub filter_map_some : {E A B : Type 0} (view : E → A) (h : A → Option B) (es : List E) (i : ℕ) (e : E) (b : B) → i < length es → e ≡ get_or es i e → h (view e) ≡ Some b
    → filter_map h (map view (take (i + 1) es)) ≡ filter_map h (map view (take i es)) ++ b ∷ []
filter_map_some view h es i e b within is gives = rw (add-one, take-suc es i e within, sym is, map-append, filter_map-append, gives) refl

pub filter_map_none : {E A B : Type 0} (view : E → A) (h : A → Option B) (es : List E) (i : ℕ) (e : E) → i < length es → e ≡ get_or es i e → h (view e) ≡ None
    → filter_map h (map view (take (i + 1) es)) ≡ filter_map h (map view (take i es))
filter_map_none view h es i e within is gives = rw (add-one, take-suc es i e within, sym is, map-append, filter_map-append, gives, append-nil) refl
