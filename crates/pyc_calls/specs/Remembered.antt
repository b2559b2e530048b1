-- What is remembered in a call of the `__call__` of classes that it came by (Python reference 3.13, "Emulating callable
-- objects"): each is gone through once.
use Rattle.std.specs.Prelude.{if◌then◌else◌}
use Rattle.pyc_class_ids.specs.Class.{Id, same_class}
use Rattle.pyc_type_forms.specs.Types.{Ty}

-- how far the `__call__` of a class is
pub data Progress : Type 0 where
  fresh : Progress
  under_way : Progress
  gave : Ty → Progress

-- how far the `__call__` of each class is
abbrev pub Memory : Type 0
Memory = Id → Progress

-- before any is met
abbrev pub nothing_met : Memory
nothing_met = λ c. fresh

-- how far the `__call__` of a class is, by what is remembered
abbrev pub progress_of : Memory → Id → Progress
progress_of memory c = memory c

-- after the `__call__` of a class has come so far
abbrev pub remembering : Memory → Id → Progress → Memory
remembering memory c progress = λ other. if same_class c other then progress else memory other
