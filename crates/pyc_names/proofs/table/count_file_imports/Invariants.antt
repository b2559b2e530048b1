use Rattle.std.proofs.Common.{◌≡◌, ◌≤◌, map, take, count_by}
use Rattle.pyc_bindings.specs.BindingView.{binding_of}
use Rattle.pyc_bindings.specs.Bindings.{Binding}
use Rattle.pyc_names.specs.Following.{is_import_from}
use Rattle.pyc_names.proofs.table.count_file_imports.Given as goal

-- the count so far is that of the bindings so far
abbrev pub invariant-loop-binding : goal.invariant-loop-binding
invariant-loop-binding l =
    record {
      counted : l.count ≡ count_by (λ (b : Binding). is_import_from b.form) (map binding_of (take l.binding-index l.bindings));
      below : l.count ≤ l.binding-index;
    }
