-- The type of the instances of a class (typing specification, "Type annotations").
use Rattle.pyc_class_ids.specs.declared.class_id.InstanceForm.{InstanceForm}
use Rattle.pyc_class_ids.specs.declared.class_id.InstanceForm.TheVariants as form
use Rattle.pyc_class_ids.specs.Class.{Id, form_of}
use Rattle.pyc_type_forms.specs.Types.{Ty, any, instance, list, dict, tuple_of}

-- the instances of a class of this form: list, dict and tuple stand for their forms over Any
abbrev pub instance_in : InstanceForm → Id → Ty
instance_in form.List class = list any
instance_in form.Dict class = dict any any
instance_in form.Tuple class = tuple_of any
instance_in form.Plain class = instance class

-- the instances of a class
abbrev pub instance_of : Id → Ty
instance_of class = instance_in (form_of class) class
