use Rattle.std.proofs.Common.{ap, bytes_eq, refl, subst, sym, ◌∙◌}
use Rattle.pyc_reuse.proofs.InterfaceLemmas.{file_is}
use Rattle.pyc_reuse.proofs.PlaceLemmas.{other_there, place_of_none, same_there, unchanged_there}
use Rattle.pyc_reuse.specs.RecheckView.{is_touched, last_in}
use Rattle.pyc_workspace.proofs.WorkspaceLemmas.{has_file-place}
use Rattle.pyc_workspace.specs.Files.{file_in}
use Rattle.pyc_workspace.specs.Workspace.{File, IsPlaceOf, has_file}
use Rattle.pyc_reuse.proofs.recheck.Recheck.place.Goals as goal

pub returns-in_err-place : goal.returns-in_err-place
returns-in_err-place c =
    let last = last_in c.args.self.now in
    let path = c.as_bytes.ensures.value ∙ c.path.ensures in
    c.from_residual.ensures ∙ sym (place_of_none last (file_in c.args.file.now) (sym (ap (has_file last) path) ∙ c.in_err-place.ensures.absent refl))

pub returns-then-not-contains : goal.returns-then-not-contains
returns-then-not-contains c =
    let last = last_in c.args.self.now in
    let file = file_in c.args.file.now in
    let path = c.as_bytes.ensures.value ∙ c.path.ensures in
    let there = subst (λ p. IsPlaceOf last p c.in_ok-place.place) path c.in_ok-place.ensures.found in
    unchanged_there last file c.in_ok-place.place c.files-files.ensures.ordered there
    (c.requires (ap (is_touched c.args.self.now.touched.now) (sym c.path-2.ensures) ∙ sym c.if-not-contains.ensures) (has_file-place last file.path c.in_ok-place.place there))

pub returns-then-eq : goal.returns-then-eq
returns-then-eq c =
    let last = last_in c.args.self.now in
    let file = file_in c.args.file.now in
    let place = c.in_ok-place.place in
    let there = subst (λ p. IsPlaceOf last p place) (c.as_bytes.ensures.value ∙ c.path.ensures) c.in_ok-place.ensures.found in
    let found = file_is c.files-files.result.now place c.index-files-place.result c.deref.result.now last there.in_range c.files-files.ensures.all c.index-files-place.is c.deref.ensures in
    same_there last file place c.files-files.ensures.ordered there
    (sym (ap (λ (f : File). bytes_eq f.bytes file.bytes) found) ∙ sym (λ t. bytes_eq (c.bytes.ensures t) (c.bytes-2.ensures t)) ∙ sym c.if-eq.ensures)

pub returns-else-eq : goal.returns-else-eq
returns-else-eq c =
    let last = last_in c.args.self.now in
    let file = file_in c.args.file.now in
    let place = c.in_ok-place.place in
    let there = subst (λ p. IsPlaceOf last p place) (c.as_bytes.ensures.value ∙ c.path.ensures) c.in_ok-place.ensures.found in
    let found = file_is c.files-files.result.now place c.index-files-place.result c.deref.result.now last there.in_range c.files-files.ensures.all c.index-files-place.is c.deref.ensures in
    other_there last file place c.files-files.ensures.ordered there
    (sym (ap (λ (f : File). bytes_eq f.bytes file.bytes) found) ∙ sym (λ t. bytes_eq (c.bytes.ensures t) (c.bytes-2.ensures t)) ∙ sym c.if-eq.ensures)
