use Rattle.std.proofs.Common.{rules, tests}
use Rattle.std.proofs.lemmas.Iterator.Search.{all_from_yields_List}
use Rattle.std.proofs.lemmas.Iterator.Splits.{YieldsList-from_slice_split}
use Rattle.pyc_names.specs.ModuleName.{is_slash}
use Rattle.pyc_workspace.specs.Path.{is_path_part}
use Rattle.pyc_workspace.proofs.path.has_path_parts.Goals as goal

pub returns : goal.returns
returns c =
    all_from_yields_List is_path_part _ _ _ c.all.ensures.ran
    (YieldsList-from_slice_split _ is_slash c.args.path.now c.split.ensures.rest c.split.ensures.done c.split.ensures.closure (λ x b q k. search (rules, tests)))
    (λ x b q k. search (rules, tests))
