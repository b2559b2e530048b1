-- Which parameter each argument of a call fills (Python reference 3.13, "Calls").
use Rattle.std.specs.Prelude.{ℕ, zero, suc, ◌+◌, List, [], ◌∷◌, ◌++◌, length}
use Rattle.std.specs.Prelude.{Bool, true, false, ◌||◌, if◌then◌else◌, bytes_eq, nat_eq, Option, None, Some}
use Rattle.std.specs.List.{list_any}
use Rattle.pyc_type_forms.specs.Types.{Kind, plain, star, keyword_only, double_star}
use Rattle.pyc_type_forms.specs.Types.{Ty, Listed, no_param, param}

-- ---- what is given, and what it comes to

-- how an argument is given: by its place, or by the name of its parameter
pub data Given : Type 0 where
  by_place : Given
  by_name : List ℕ → Given

-- which parameters are filled, by their indices in the row of all parameters: those that are filled by place, and those
-- that are filled by name
pub record Fill : Type 0 where
  pub placed : List ℕ
  pub named : List ℕ

-- what comes of an argument
pub data Match : Type 0 where
  -- it fills the parameter with this index, of this type
  fills : ℕ → Ty → Match
  -- it falls into `*` or `**`, of this type
  gathered : Ty → Match
  -- no parameter is left for its place
  too_many : Match
  -- the parameter of its name is filled already
  repeated : Match
  -- there is no parameter of its name
  unexpected : Match

-- ---- kinds of parameters

-- whether a parameter is filled by place
abbrev pub is_plain : Kind → Bool
is_plain (plain name) = true
is_plain _ = false

-- whether a parameter gathers the arguments of further places
abbrev pub is_star : Kind → Bool
is_star star = true
is_star _ = false

-- whether a parameter gathers the arguments of further names
abbrev pub is_double_star : Kind → Bool
is_double_star double_star = true
is_double_star _ = false

-- whether a parameter can be filled by this name
abbrev pub is_named : List ℕ → Kind → Bool
is_named name (plain (Some own)) = bytes_eq own name
is_named name (keyword_only own) = bytes_eq own name
is_named name _ = false

-- ---- parameters in a row

-- a parameter that was looked up: its index in the row, and its type
pub record Found : Type 0 where
  pub index : ℕ
  pub ty : Ty

-- the first parameter of such a kind, in a row whose first parameter has the index i
abbrev pub first_from : (Kind → Bool) → ℕ → Listed → Option Found
first_from is_such i no_param = None
first_from is_such i (param slot ty rest) =
    if is_such slot.kind then Some (record { index = i; ty = ty }) else first_from is_such (i + 1) rest

-- the plain parameter before which stand so many others, in a row whose first parameter has the index i
abbrev pub plain_from : ℕ → Listed → ℕ → Option Found
plain_from i no_param before = None
plain_from i (param slot ty rest) zero =
    if is_plain slot.kind then Some (record { index = i; ty = ty }) else plain_from (i + 1) rest zero
plain_from i (param slot ty rest) (suc before) =
    if is_plain slot.kind then plain_from (i + 1) rest before else plain_from (i + 1) rest (suc before)

-- ---- matching

-- whether the parameter with this index is filled
abbrev pub is_filled : Fill → ℕ → Bool
is_filled fill i = list_any (nat_eq i) fill.placed || list_any (nat_eq i) fill.named

-- an argument that the parameter with `*` or `**` gathers, if there is one
abbrev pub gathered_or : Match → Option Found → Match
gathered_or otherwise (Some found) = gathered found.ty
gathered_or otherwise None = otherwise

-- an argument by place: it fills the next plain parameter, else `*` gathers it
abbrev pub placed_match : Listed → Option Found → Match
placed_match params (Some found) = fills found.index found.ty
placed_match params None = gathered_or too_many (first_from is_star 0 params)

-- an argument by name: it fills the first parameter of that name, but no parameter twice, else `**` gathers it
abbrev pub named_match : Fill → Listed → Option Found → Match
named_match fill params (Some found) =
    if is_filled fill found.index then repeated else fills found.index found.ty
named_match fill params None = gathered_or unexpected (first_from is_double_star 0 params)

-- what comes of an argument to these parameters, after those that filled so many
abbrev pub match_of : Fill → Listed → Given → Match
match_of fill params by_place = placed_match params (plain_from 0 params (length fill.placed))
match_of fill params (by_name name) = named_match fill params (first_from (is_named name) 0 params)

-- ---- what is filled

-- before the first argument
abbrev pub nothing_filled : Fill
nothing_filled = record { placed = []; named = [] }

-- with the parameter of this index
abbrev pub with_filled : Fill → Given → ℕ → Fill
with_filled fill by_place i = record { placed = fill.placed ++ i ∷ []; named = fill.named }
with_filled fill (by_name name) i = record { placed = fill.placed; named = fill.named ++ i ∷ [] }

-- which parameters are filled, after one more argument
abbrev pub fill_after : Fill → Given → Match → Fill
fill_after fill given (fills i ty) = with_filled fill given i
fill_after fill given _ = fill
