use Rattle.std.proofs.Common.{◌+◌, ◌<◌, unwrap_or, if◌then◌else◌, sym, ap, ap₂, ◌∙◌, arith}
use Rattle.std.proofs.lemmas.List.Sums.{count_by-le-length}
use Rattle.std.specs.Map.{lookup}
use Rattle.indexmap.specs.IndexMap.{spare}
use Rattle.pyc_names.specs.ModuleName.{module_of, same_module}
use Rattle.pyc_workspace.specs.Files.{file_in}
use Rattle.pyc_workspace.specs.ModuleCounts.{name_count}
use Rattle.pyc_workspace.specs.Workspace.{IsPlaceOf, IsGapFor}
use Rattle.pyc_workspace.proofs.CountLemmas.{on_ok, to_on_ok, count-replaced, count-insert}
use Rattle.pyc_workspace.proofs.WorkspaceLemmas.{with_file-gap}
use Rattle.pyc_workspace.proofs.workspace.Workspace.put.Goals as goal

-- ---- the file takes the place of the one of its path

pub replace-requires : goal.replace-requires
replace-requires c = rw (c.as_bytes.ensures.value, c.path.ensures) at c.in-Ok.ensures.found

pub invariant_of-self : goal.invariant_of-self
invariant_of-self c =
    let place : IsPlaceOf c.self.inside.held (file_in c.args.file).path c.in-Ok.at = rw (c.as_bytes.ensures.value, c.path.ensures) at c.in-Ok.ensures.found in
    record {
      ordered = c.replace.ensures.ordered;
      counted = λ m. c.self.invariant.counted m
          ∙ sym (count-replaced c.self.inside.held c.replace.new.self (file_in c.args.file) c.in-Ok.at m c.replace.result place c.replace.ensures.after c.replace.ensures.same);
    }

pub returns-in-Ok-clause-after : goal.returns-in-Ok-clause-after
returns-in-Ok-clause-after c = rw (← c.self.view_is) c.replace.ensures.after

pub returns-in-Ok-clause-same : goal.returns-in-Ok-clause-same
returns-in-Ok-clause-same c = rw (← c.self.view_is) c.replace.ensures.same

pub returns-in-Ok-clause-ordered : goal.returns-in-Ok-clause-ordered
returns-in-Ok-clause-ordered c = c.replace.ensures.ordered

-- ---- the file goes between its neighbours

pub insert-requires : goal.insert-requires
insert-requires c = rw (c.as_bytes.ensures.value, c.path.ensures) at c.in-Err.ensures.absent

pub count_one_more-requires : goal.count_one_more-requires
count_one_more-requires c =
    let counted = ap (λ es. unwrap_or (lookup (same_module c.in_ok-name-in-Err.name) es) 0) c.in_ok-reserve-in-Err.ensures.entries ∙ c.self.invariant.counted c.in_ok-name-in-Err.name in
    omega (arith, counted, count_by-le-length (λ file. same_module (module_of file.path) c.in_ok-name-in-Err.name) c.self.inside.held, c.insert.ensures.few)

pub invariant_of-self-in-Err : goal.invariant_of-self-in-Err
invariant_of-self-in-Err c =
    let files = c.self.inside.held in
    let file = file_in c.args.file in
    let gap : IsGapFor files file.path c.in-Err.at = rw (c.as_bytes.ensures.value, c.path.ensures) at c.in-Err.ensures.absent in
    let room : 0 < spare c.reserve.new.self = omega (arith, c.in_ok-reserve-in-Err.ensures.ok) in
    let counts = on_ok c.count_one_more.result (c.count_one_more.ensures.roomy room) c.count_one_more.ensures.after in
    let named = c.in_ok-name-in-Err.ensures.cases ∙ c.module.ensures in
    record {
      ordered = c.insert.ensures.ordered;
      counted = λ m. counts m
          ∙ ap₂ (λ n k. n + (if same_module k m then 1 else 0))
          (ap (λ es. unwrap_or (lookup (same_module m) es) 0) c.in_ok-reserve-in-Err.ensures.entries ∙ c.self.invariant.counted m) named
          ∙ sym (count-insert files file m c.in-Err.at)
          ∙ ap (λ fs. name_count fs m) (with_file-gap files file c.in-Err.at gap ∙ sym c.in_ok-insert-in-Err.ensures.after);
    }

pub returns-in_ok-insert-in-Err-clause-after : goal.returns-in_ok-insert-in-Err-clause-after
returns-in_ok-insert-in-Err-clause-after c = to_on_ok c.count_one_more.result (rw (← c.self.view_is) c.in_ok-insert-in-Err.ensures.after)

pub returns-in_ok-insert-in-Err-clause-ordered : goal.returns-in_ok-insert-in-Err-clause-ordered
returns-in_ok-insert-in-Err-clause-ordered c = c.insert.ensures.ordered
