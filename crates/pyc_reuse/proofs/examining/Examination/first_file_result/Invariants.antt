use Rattle.std.proofs.Common.{◌≡◌, ◌++◌, map, take}
use Rattle.pyc_body.specs.FileUnits.{id_of}
use Rattle.pyc_body.specs.FileUnitView.{file_unit_in}
use Rattle.pyc_body.specs.FoundMessages.{checked}
use Rattle.pyc_keys.specs.Numbering.{Extends}
use Rattle.pyc_known_answers.specs.WorldView.{held_by, interfaces_by}
use Rattle.pyc_reuse.specs.Examination.{options_in, present_in}
use Rattle.pyc_reuse.specs.SharedChecks.{checks_of}
use Rattle.pyc_workspace.specs.Fresh.{source_of}
use Rattle.pyc_reuse.proofs.examining.Examination.first_file_result.Given as goal

-- those so far are the checks of the units so far, which the meter counts
abbrev pub invariant-loop-unit : goal.invariant-loop-unit
invariant-loop-unit l = record {
  checks : checks_of (held_by l.keys) l.checks.items ≡ map (checked (options_in l.self) (map source_of (present_in l.self))) (map file_unit_in (take l.unit-index l.unit-items));
  metered : l.meter ≡ l.fn.meter ++ map id_of (map file_unit_in (take l.unit-index l.unit-items));
  extends : Extends (held_by l.fn.keys) (held_by l.keys);
  world : interfaces_by l.keys ≡ interfaces_by l.fn.keys;
}
