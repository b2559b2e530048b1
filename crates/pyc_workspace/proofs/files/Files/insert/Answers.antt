use Rattle.std.proofs.Common.{sym, subst}
use Rattle.pyc_workspace.specs.Files.{file_in, files_in}
use Rattle.pyc_workspace.specs.Workspace.{IsGapFor}
use Rattle.pyc_workspace.proofs.CountLemmas.{put_between}
use Rattle.pyc_workspace.proofs.WorkspaceLemmas.{with_file-gap, in_order-insert}
use Rattle.pyc_workspace.proofs.files.Files.insert.Goals as goal

pub invariant_of-self-2 : goal.invariant_of-self-2
invariant_of-self-2 c =
    let files = files_in c.self.inside.files.items in
    let file = file_in c.args.file in
    let gap : IsGapFor files file.path c.args.at = subst (λ fs. IsGapFor fs file.path c.args.at) (sym c.self.view_is) c.requires in
    rw (put_between c.self.inside.files.items c.insert.new.self.items c.args.at c.in_ok-file.file c.args.file c.in_ok-file.ensures.ok c.in_ok-insert.ensures.items)
    (in_order-insert files file c.args.at c.self.invariant gap)

pub returns-clause-after : goal.returns-clause-after
returns-clause-after c =
    let files = files_in c.self.inside.files.items in
    let file = file_in c.args.file in
    let gap : IsGapFor files file.path c.args.at = subst (λ fs. IsGapFor fs file.path c.args.at) (sym c.self.view_is) c.requires in
    rw (put_between c.self.inside.files.items c.insert.new.self.items c.args.at c.in_ok-file.file c.args.file c.in_ok-file.ensures.ok c.in_ok-insert.ensures.items, ← c.self.view_is)
    (with_file-gap files file c.args.at gap)

pub returns-clause-ordered : goal.returns-clause-ordered
returns-clause-ordered c =
    let files = files_in c.self.inside.files.items in
    let file = file_in c.args.file in
    let gap : IsGapFor files file.path c.args.at = subst (λ fs. IsGapFor fs file.path c.args.at) (sym c.self.view_is) c.requires in
    rw (put_between c.self.inside.files.items c.insert.new.self.items c.args.at c.in_ok-file.file c.args.file c.in_ok-file.ensures.ok c.in_ok-insert.ensures.items)
    (in_order-insert files file c.args.at c.self.invariant gap)
