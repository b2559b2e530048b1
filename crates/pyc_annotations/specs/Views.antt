-- The plain values that what is read in the code is.
use Rattle.pyc_annotations.specs.declared.reading.Annotation.{Annotation as AnnotationOf}
use Rattle.pyc_annotations.specs.declared.class_bases.Base.{Base as BaseOf}
use Rattle.pyc_annotations.specs.declared.class_bases.Base.TheVariants as b
use Rattle.pyc_annotations.specs.declared.meaning.Meaning.{Meaning as MeaningOf}
use Rattle.pyc_annotations.specs.declared.meaning.Meaning.TheVariants as m
use Rattle.pyc_annotations.specs.declared.subscripted.Subscripted.{Subscripted as SubscriptedOf}
use Rattle.pyc_annotations.specs.declared.subscripted.Subscripted.TheVariants as s
use Rattle.pyc_annotations.specs.Annotations.{Annotation, Subscripted, form_subscripted, class_subscripted}
use Rattle.pyc_annotations.specs.Annotations.{any_subscripted, value_subscripted, wrong_subscripted}
use Rattle.pyc_annotations.specs.Bases.{Base, class_base, any_base, no_base}
use Rattle.pyc_annotations.specs.Meanings.{Meaning, class_meant, any_meant, type_meant, fixed_meant, module_meant}
use Rattle.pyc_annotations.specs.Meanings.{variable_meant, function_meant, nothing_meant}
use Rattle.pyc_type_forms.specs.TypeView.{ty_of}

abbrev pub meaning_of : MeaningOf → Meaning
meaning_of (m.Class c) = class_meant c
meaning_of m.Any = any_meant
meaning_of m.Type = type_meant
meaning_of (m.Fixed found) = fixed_meant found
meaning_of (m.Module module_path) = module_meant module_path
meaning_of (m.Variable is_any) = variable_meant is_any
meaning_of (m.Function is_any) = function_meant is_any
meaning_of m.Nothing = nothing_meant

abbrev pub annotation_in : AnnotationOf → Annotation
annotation_in found = record { ty = ty_of found.ty; class = found.class }

abbrev pub base_of : BaseOf → Base
base_of (b.Class c) = class_base c
base_of b.Any = any_base
base_of b.Invalid = no_base

abbrev pub subscripted_of : SubscriptedOf → Subscripted
subscripted_of (s.Form form) = form_subscripted form
subscripted_of (s.Class c) = class_subscripted c
subscripted_of s.Any = any_subscripted
subscripted_of s.Value = value_subscripted
subscripted_of s.Wrong = wrong_subscripted
