use Rattle.std.proofs.Common.{ap, ◌∙◌, map, rules}
use Rattle.std.proofs.lemmas.Fn.{filter_same}
use Rattle.pyc_bindings.specs.BindingView.{binding_of}
use Rattle.pyc_functions.specs.FunctionNames.{is_own}
use Rattle.pyc_report.proofs.ListLemmas.{map-filter}
use Rattle.pyc_functions.proofs.function_names.keep_own.Goals as goal

pub returns : goal.returns
returns c =
    ap (map binding_of) (filter_same _ (λ b. is_own c.args.globals.now (binding_of b)) _ (λ x b f' k. search rules) _ _ c.retain.ensures.filtered)
    ∙ map-filter binding_of (is_own c.args.globals.now) c.args.bindings.now.items
