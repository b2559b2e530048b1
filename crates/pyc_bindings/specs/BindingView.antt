-- The plain binding that one of the code is.
use Rattle.std.specs.Prelude.{ℕ, List, [], ◌∷◌, Option, None, Some}
use Rattle.pyc_ast.specs.ExprView.{expr_of}
use Rattle.pyc_ast.specs.Statements.{ImportedModule}
use Rattle.pyc_ast.specs.StatementView.{imported_of, function_of, class_of, annotated_of}
use Rattle.pyc_bindings.specs.declared.binding.Binding.{Binding as BindingOf}
use Rattle.pyc_bindings.specs.declared.binding.BindingForm.{BindingForm as BindingFormOf}
use Rattle.pyc_bindings.specs.declared.binding.BindingForm.TheVariants as b
use Rattle.pyc_bindings.specs.Bindings.{Binding, BindingForm, import, import_from, function, class, annotated, assigned}
use Rattle.pyc_bindings.specs.Bindings.{other}

abbrev pub binding_form_of : BindingFormOf → BindingForm
binding_form_of (b.Import m) = import m.value.path.items
binding_form_of (b.ImportFirst first) = import (first ∷ [])
binding_form_of (b.ImportFrom from n) = import_from from.value.dots from.value.path.items n
binding_form_of (b.Function head) = function (function_of head.value)
binding_form_of (b.Class head) = class (class_of head.value)
binding_form_of (b.Annotated found) = annotated (annotated_of found.value)
binding_form_of (b.Assigned value) = assigned (expr_of value.value)
binding_form_of b.Other = other

-- the plain binding that one of the code is
abbrev pub binding_of : BindingOf → Binding
binding_of found =
    record {
      name = found.name;
      place = found.place;
      is_passed_on = found.is_passed_on;
      form = binding_form_of found.form;
    }
