use Rattle.std.proofs.Common.{◌≡◌, ◌++◌, filter, map, take}
use Rattle.pyc_body.specs.FileUnits.{id_of}
use Rattle.pyc_body.specs.FileUnitView.{file_unit_in}
use Rattle.pyc_body.specs.FoundMessages.{checked}
use Rattle.pyc_keys.specs.Numbering.{Extends}
use Rattle.pyc_known_answers.specs.WorldView.{held_by, interfaces_by}
use Rattle.pyc_reuse.specs.Examination.{last_in, options_in, present_in}
use Rattle.pyc_reuse.specs.Examined.{reads_anew}
use Rattle.pyc_reuse.specs.SharedChecks.{checks_of}
use Rattle.pyc_workspace.specs.Fresh.{source_of}
use Rattle.pyc_reuse.proofs.examining.Examination.changed_file_result.Given as goal

-- those so far are the checks of the units so far, of which the meter counts the flagged ones
abbrev pub invariant-loop-index : goal.invariant-loop-index
invariant-loop-index l = record {
  checks : checks_of (held_by l.keys) l.checks.items ≡ map (checked (options_in l.self) (map source_of (present_in l.self))) (map file_unit_in (take l.index l.units.items));
  metered : l.meter ≡ l.fn.meter ++ map id_of (filter (reads_anew (options_in l.self) (last_in l.self) (present_in l.self)) (map file_unit_in (take l.index l.units.items)));
  extends : Extends (held_by l.fn.keys) (held_by l.keys);
  world : interfaces_by l.keys ≡ interfaces_by l.fn.keys;
}
