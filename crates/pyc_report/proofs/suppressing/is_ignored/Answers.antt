use Rattle.std.proofs.Common.{rules, tests, ◌∙◌}
use Rattle.std.proofs.lemmas.Iterator.{YieldsList-from_slice}
use Rattle.std.proofs.lemmas.Iterator.Search.{any_from_yields_List}
use Rattle.pyc_ast.specs.Modules.{ignore_of}
use Rattle.pyc_report.specs.Message.{message_in}
use Rattle.pyc_report.specs.Suppressing as spec
use Rattle.pyc_report.proofs.ListLemmas.{list_any-map}
use Rattle.pyc_report.proofs.suppressing.is_ignored.Goals as goal

pub returns : goal.returns
returns c =
    let ignored = spec.ignores (message_in c.args.message.now) in
    any_from_yields_List (λ ignore. ignored (ignore_of ignore)) _ _ _ c.any.ensures.ran (YieldsList-from_slice c.args.ignores.now cc) (λ x b q k. search (rules, tests))
    ∙ list_any-map ignore_of ignored c.args.ignores.now
