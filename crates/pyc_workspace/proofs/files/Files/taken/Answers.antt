use Rattle.std.proofs.Common.{◌≡◌, ℕ, List, not, sym, ap, subst, ◌∙◌}
use Rattle.std.specs.List.{list_any}
use Rattle.indexmap.specs.IndexSet.{contains_text}
use Rattle.pyc_workspace.specs.Files.{files_in}
use Rattle.pyc_workspace.specs.Workspace.{File, IsInOrder, is_stub_of}
use Rattle.pyc_workspace.proofs.TakenLemmas.{finds_none, found_as, taken_all}
use Rattle.pyc_workspace.proofs.WorkspaceLemmas.{in_order-filter}
use Rattle.pyc_workspace.proofs.files.Files.taken.Goals as goal

pub returns-then-is_empty-clause-taken : goal.returns-then-is_empty-clause-taken
returns-then-is_empty-clause-taken c =
    let finds : (path : List ℕ) → contains_text c.in_ok-hidden.hidden path ≡ list_any (is_stub_of path) c.args.self.now =
    λ path. c.in_ok-hidden.ensures path ∙ ap (list_any (is_stub_of path)) (ap files_in c.deref.ensures.value ∙ c.self.view_is) in
    let none = finds_none c.in_ok-hidden.hidden (c.is_empty.ensures.0 c.if-is_empty.true) in
    found_as c.share.result c.args.self.now _ (taken_all c.args.self.now (contains_text c.in_ok-hidden.hidden) finds none) c.share.ensures.same

pub invariant_of-result : goal.invariant_of-result
invariant_of-result c =
    let sorted = subst (λ items. IsInOrder (files_in items)) (sym c.deref-2.ensures.value) c.self.invariant in
    subst IsInOrder (sym c.in_ok-files.ensures) (in_order-filter (λ (file : File). not (contains_text c.in_ok-hidden.hidden file.path)) (files_in c.deref-2.result.now) sorted)

pub returns-clause-ordered : goal.returns-clause-ordered
returns-clause-ordered c =
    let sorted = subst (λ items. IsInOrder (files_in items)) (sym c.deref-2.ensures.value) c.self.invariant in
    subst IsInOrder (sym c.in_ok-files.ensures) (in_order-filter (λ (file : File). not (contains_text c.in_ok-hidden.hidden file.path)) (files_in c.deref-2.result.now) sorted)
