-- The plain values that those of the code are.
use Rattle.std.specs.Prelude.{ℕ, ◌+◌, List, length, drop, map, reverse, Option, None, Some}
use Rattle.std.specs.declared.alloc.Global.{Global}
use Rattle.std.specs.declared.vec.Vec.{Vec}
use Rattle.indexmap.specs.IndexMap.{IndexMap, get, index_map_len}
use Rattle.pyc_calls.specs.Constructors.{no_params, params_in}
use Rattle.pyc_calls.specs.declared.constructors.ClassParams.{ClassParams}
use Rattle.pyc_calls.specs.declared.constructors.ClassParams.TheVariants as c
use Rattle.pyc_calls.specs.declared.remembered.Progress.{Progress as ProgressOf}
use Rattle.pyc_calls.specs.declared.remembered.Progress.TheVariants as p
use Rattle.pyc_calls.specs.declared.walks.CallOutcome.{CallOutcome as CallOutcomeOf}
use Rattle.pyc_calls.specs.declared.walks.CallOutcome.TheVariants as m
use Rattle.pyc_calls.specs.declared.walks.Standing.{Standing as StandingOf}
use Rattle.pyc_calls.specs.declared.walks.Standing.TheVariants as s
use Rattle.pyc_calls.specs.declared.walks.Waiting.{Waiting as WaitingOf}
use Rattle.pyc_calls.specs.declared.walks.Waiting.TheVariants as w
use Rattle.pyc_calls.specs.declared.walks.Walk.{Walk as WalkOf}
use Rattle.pyc_calls.specs.Remembered.{Memory, Progress, fresh, under_way, gave}
use Rattle.pyc_calls.specs.Walks.{
  CallOutcome,
  came,
  met_new,
  Waiting,
  class_waits,
  union_waits,
  Walk,
  Standing,
  calls,
  gives,
}
use Rattle.pyc_calls.specs.Walks.{meets, ends, Stood}
use Rattle.pyc_class_ids.specs.Class.{Id, same_class}
use Rattle.pyc_type_forms.specs.declared.types.Ty.{Ty}
use Rattle.pyc_type_forms.specs.Types.{Params, dots}
use Rattle.pyc_type_forms.specs.TypeView.{row, ty_of}

-- what a class takes that is called
abbrev pub class_params_in : ClassParams → Params
class_params_in c.Unmatched = dots
class_params_in c.Bare = no_params
class_params_in (c.Typed ty) = params_in (ty_of ty)

-- how far the `__call__` of a class is that gave this
abbrev pub given_in : Option Ty → Progress
given_in None = under_way
given_in (Some ty) = gave (ty_of ty)

-- how far that of a class is of which this is remembered
abbrev pub progress_in : Option (Option Ty) → Progress
progress_in None = fresh
progress_in (Some given) = given_in given

-- what is remembered
abbrev pub memory_in : {S : Type 0} → IndexMap Id (Option Ty) S → Memory
memory_in memory = λ c. progress_in (get same_class memory c)

-- of how many classes something is remembered
abbrev pub count_of : {S : Type 0} → IndexMap Id (Option Ty) S → ℕ
count_of memory = index_map_len memory

-- how far the `__call__` of a class is
abbrev pub how_far : ProgressOf → Progress
how_far p.Fresh = fresh
how_far p.UnderWay = under_way
how_far (p.Gave ty) = gave (ty_of ty)

-- what a call of an instance of a class comes to
abbrev pub met_in : CallOutcomeOf → CallOutcome
met_in (m.Came ty) = came (ty_of ty)
met_in (m.New class bound) = met_new class (ty_of bound)

-- what waits for the type of a call
abbrev pub waiting_of : WaitingOf → Waiting
waiting_of (w.Class class) = class_waits class
waiting_of (w.Union items types) =
    union_waits (map ty_of types.items) (row (drop (length types.items + 1) items.value.items))

-- what waits, the innermost first
abbrev pub waiting_in : Vec WaitingOf Global → List Waiting
waiting_in waiting = reverse (map waiting_of waiting.items)

-- a walk
abbrev pub walk_in : WalkOf → Walk
walk_in walk = record { memory = memory_in walk.memory; waiting = waiting_in walk.waiting }

-- how a walk stands
abbrev pub standing_in : StandingOf → Standing
standing_in (s.Calls ty) = calls (ty_of ty)
standing_in (s.Gives ty) = gives (ty_of ty)
standing_in (s.Meets class bound) = meets class (ty_of bound)
standing_in (s.Ends ty) = ends (ty_of ty)

-- a walk and how it stands
abbrev pub stood_in : WalkOf → StandingOf → Stood
stood_in walk standing = record { walk = walk_in walk; standing = standing_in standing }
