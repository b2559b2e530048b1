use Rattle.std.proofs.Common.{◌≡◌, map, take}
use Rattle.pyc_body.specs.FileUnits.{number_units}
use Rattle.pyc_body.specs.FileUnitView.{file_unit_in}
use Rattle.pyc_names.specs.SourceFileView.{source_in}
use Rattle.pyc_units.specs.UnitView.{unit_of}
use Rattle.pyc_body.proofs.numbering.number_units.Given as goal

-- those so far are numbered
abbrev pub invariant-loop-unit : goal.invariant-loop-unit
invariant-loop-unit l = map file_unit_in l.all.items ≡ number_units (source_in l.file.value) 0 (map unit_of (take l.unit-index l.units))
