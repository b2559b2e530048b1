-- What is found under a name, as the code has it.
use Rattle.pyc_attributes.specs.declared.found.FoundAttribute.{FoundAttribute}
use Rattle.pyc_attributes.specs.declared.found.FoundAttribute.TheVariants as f
use Rattle.pyc_attributes.specs.FoundAttributes.{Found, absent, known, member_of, name_with}
use Rattle.pyc_reading.specs.AnswerView.{name_answer_of}
use Rattle.pyc_type_forms.specs.TypeView.{ty_of}

abbrev pub found_in : FoundAttribute → Found
found_in f.Absent = absent
found_in (f.Known ty) = known (ty_of ty)
found_in (f.Member class kind ty) = member_of class kind (ty_of ty)
found_in (f.Name found) = name_with (name_answer_of found)
