use Rattle.std.proofs.Common.{sym, subst}
use Rattle.pyc_workspace.specs.Files.{file_in, files_in}
use Rattle.pyc_workspace.specs.Workspace.{IsPlaceOf}
use Rattle.pyc_workspace.proofs.CountLemmas.{put_over}
use Rattle.pyc_workspace.proofs.WorkspaceLemmas.{with_file-place, in_order-set}
use Rattle.pyc_workspace.proofs.files.Files.replace.Goals as goal

pub invariant_of-self : goal.invariant_of-self
invariant_of-self c =
    let files = files_in c.self.inside.files.items in
    let file = file_in c.args.file in
    let place : IsPlaceOf files file.path c.args.at = subst (λ fs. IsPlaceOf fs file.path c.args.at) (sym c.self.view_is) c.requires in
    rw (put_over c.self.inside.files.items c.args.at c.in_ok-file.file c.args.file c.in_ok-file.ensures.ok) (in_order-set files file c.args.at c.self.invariant place)

pub returns-clause-after : goal.returns-clause-after
returns-clause-after c =
    let files = files_in c.self.inside.files.items in
    let file = file_in c.args.file in
    let place : IsPlaceOf files file.path c.args.at = subst (λ fs. IsPlaceOf fs file.path c.args.at) (sym c.self.view_is) c.requires in
    rw (put_over c.self.inside.files.items c.args.at c.in_ok-file.file c.args.file c.in_ok-file.ensures.ok, ← c.self.view_is) (with_file-place files file c.args.at place)

pub returns-clause-ordered : goal.returns-clause-ordered
returns-clause-ordered c =
    let files = files_in c.self.inside.files.items in
    let file = file_in c.args.file in
    let place : IsPlaceOf files file.path c.args.at = subst (λ fs. IsPlaceOf fs file.path c.args.at) (sym c.self.view_is) c.requires in
    rw (put_over c.self.inside.files.items c.args.at c.in_ok-file.file c.args.file c.in_ok-file.ensures.ok) (in_order-set files file c.args.at c.self.invariant place)
