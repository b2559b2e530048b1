-- Units of files of the code, and what names them, as plain values.
use Rattle.pyc_body.specs.FileUnits.{FileUnit, UnitId}
use Rattle.pyc_body.specs.declared.numbering.FileUnit.{FileUnit as FileUnitOf}
use Rattle.pyc_body.specs.declared.meter.MeteredUnit.{MeteredUnit}
use Rattle.pyc_names.specs.SourceFileView.{source_in}
use Rattle.pyc_units.specs.UnitView.{unit_of}

abbrev pub file_unit_in : FileUnitOf → FileUnit
file_unit_in unit = record { file = source_in unit.file.now.value; index = unit.index; unit = unit_of unit.unit }

abbrev pub metered_in : MeteredUnit → UnitId
metered_in unit = record { path = (source_in unit.file.value).path; index = unit.index }
