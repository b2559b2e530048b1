use Rattle.std.proofs.Common.{◌≡◌, ◌<◌, ◌++◌, append-nil, ap, arith, get_or, length, refl, sym, ◌∙◌}
use Rattle.std.specs.declared.alloc.Global.{Global}
use Rattle.std.specs.declared.rc.Rc.{Rc}
use Rattle.pyc_known_answers.specs.WorldView.{held_by}
use Rattle.pyc_reuse.proofs.InPlaceLemmas.{not_all, not_flagged, one_item, one_place}
use Rattle.pyc_reuse.proofs.PlaceLemmas.{stands}
use Rattle.pyc_reuse.proofs.RowLemmas.{kept_file_result, file_result_there, file_result_within}
use Rattle.pyc_reuse.proofs.FileStatusLemmas.{flagged_examined, flagged_parts, kept_parts, nothing_examined, whole_examined}
use Rattle.pyc_reuse.specs.declared.file_result.FileResult.{FileResult as FileResultOf}
use Rattle.pyc_reuse.specs.Examination.{last_in, options_in, present_in}
use Rattle.pyc_reuse.specs.FileResultView.{file_result_in}
use Rattle.pyc_reuse.specs.FileStatuses.{file_status_in}
use Rattle.pyc_workspace.specs.Files.{file_in}
use Rattle.pyc_reuse.proofs.examining.Examination.next_file_result.Goals as goal

pub index-requires : goal.index-requires
index-requires c =
    let self = c.args.self.now in
    let file = file_in c.args.file.now in
    let place = c.in-Nothing.place in
    let last = self.recheck.last.now in
    let parts = kept_parts (options_in self) (last_in self) (present_in self) file place (sym (ap file_status_in c.in-Nothing.is) ∙ c.requires.file_status) in
    let within : place < length last.file_results.items = file_result_within (held_by c.args.keys.now) (options_in self) (last_in self) last.file_results.items place c.requires.file_results (stands (last_in self) file place parts.at).within in
    omega (arith, within, last.file_results.ok.0)

pub index-revision-requires : goal.index-revision-requires
index-revision-requires c =
    let self = c.args.self.now in
    let file = file_in c.args.file.now in
    let place = c.in-Flagged.place in
    let last = self.recheck.last.now in
    let parts = flagged_parts (options_in self) (last_in self) (present_in self) file place c.in-Flagged.flags.items (sym (ap file_status_in c.in-Flagged.is) ∙ c.requires.file_status) in
    let within : place < length last.file_results.items = file_result_within (held_by c.args.keys.now) (options_in self) (last_in self) last.file_results.items place c.requires.file_results (stands (last_in self) file place parts.at).within in
    omega (arith, within, last.file_results.ok.0)

pub changed_file_result-requires-clause-revision : goal.changed_file_result-requires-clause-revision
changed_file_result-requires-clause-revision c =
    let self = c.args.self.now in
    let file = file_in c.args.file.now in
    let place = c.in-Flagged.place in
    let last = self.recheck.last.now in
    let parts = flagged_parts (options_in self) (last_in self) (present_in self) file place c.in-Flagged.flags.items (sym (ap file_status_in c.in-Flagged.is) ∙ c.requires.file_status) in
    file_result_there (held_by c.args.keys.now) (options_in self) (last_in self) file last.file_results.items place c.index-revision.result.now c.deref.result.now c.requires.file_results parts.at c.index-revision.ensures c.deref.ensures

pub returns-in_ok-shared-in-All-clause-metered : goal.returns-in_ok-shared-in-All-clause-metered
returns-in_ok-shared-in-All-clause-metered c =
    let self = c.args.self.now in
    let file = file_in c.args.file.now in
    let whole = whole_examined (options_in self) (last_in self) (present_in self) file (sym (ap file_status_in c.in-All.is) ∙ c.requires.file_status) in
    c.in_ok-file_result-in-All.ensures.metered ∙ ap (λ l. c.args.meter.now ++ l) (sym whole)

pub returns-in_ok-kept-in-Nothing-clause-file_result : goal.returns-in_ok-kept-in-Nothing-clause-file_result
returns-in_ok-kept-in-Nothing-clause-file_result c =
    let self = c.args.self.now in
    let file = file_in c.args.file.now in
    let place = c.in-Nothing.place in
    let last = self.recheck.last.now in
    let parts = kept_parts (options_in self) (last_in self) (present_in self) file place (sym (ap file_status_in c.in-Nothing.is) ∙ c.requires.file_status) in
    let file_result = file_result_there (held_by c.args.keys.now) (options_in self) (last_in self) file last.file_results.items place c.index.result.now c.index.result.now.value c.requires.file_results parts.at c.index.ensures refl in
    ap (file_result_in (held_by c.args.keys.now)) c.in_ok-kept-in-Nothing.ensures.cases ∙ file_result ∙ kept_file_result (options_in self) (last_in self) (present_in self) file parts.none

pub returns-in_ok-kept-in-Nothing-clause-metered : goal.returns-in_ok-kept-in-Nothing-clause-metered
returns-in_ok-kept-in-Nothing-clause-metered c =
    let self = c.args.self.now in
    let file = file_in c.args.file.now in
    let none = nothing_examined (options_in self) (last_in self) (present_in self) file c.in-Nothing.place (sym (ap file_status_in c.in-Nothing.is) ∙ c.requires.file_status) in
    sym (ap (λ l. c.args.meter.now ++ l) none ∙ append-nil c.args.meter.now)

pub returns-in_ok-shared-in-Flagged-clause-metered : goal.returns-in_ok-shared-in-Flagged-clause-metered
returns-in_ok-shared-in-Flagged-clause-metered c =
    let self = c.args.self.now in
    let file = file_in c.args.file.now in
    let some =
    flagged_examined (options_in self) (last_in self) (present_in self) file c.in-Flagged.place c.in-Flagged.flags.items (sym (ap file_status_in c.in-Flagged.is) ∙ c.requires.file_status) in
    c.in_ok-file_result-in-Flagged.ensures.metered ∙ ap (λ l. c.args.meter.now ++ l) (sym some)

pub returns-in_ok-shared-in-All-clause-held : goal.returns-in_ok-shared-in-All-clause-held
returns-in_ok-shared-in-All-clause-held c = λ place is. absurd (not_all place (sym (ap file_status_in c.in-All.is) ∙ is))

pub returns-in_ok-shared-in-All-clause-own : goal.returns-in_ok-shared-in-All-clause-own
returns-in_ok-shared-in-All-clause-own c = λ place own is at. absurd (not_all place (sym (ap file_status_in c.in-All.is) ∙ is))

pub returns-in_ok-shared-in-Flagged-clause-held : goal.returns-in_ok-shared-in-Flagged-clause-held
returns-in_ok-shared-in-Flagged-clause-held c =
    λ place is. absurd (not_flagged c.in-Flagged.place place (sym (ap file_status_in c.in-Flagged.is) ∙ is))

pub returns-in_ok-shared-in-Flagged-clause-own : goal.returns-in_ok-shared-in-Flagged-clause-own
returns-in_ok-shared-in-Flagged-clause-own c =
    λ place own is at. absurd (not_flagged c.in-Flagged.place place (sym (ap file_status_in c.in-Flagged.is) ∙ is))

pub returns-in_ok-kept-in-Nothing-clause-own : goal.returns-in_ok-kept-in-Nothing-clause-own
returns-in_ok-kept-in-Nothing-clause-own c =
    λ place own is at.
    let self = c.args.self.now in
    let file = file_in c.args.file.now in
    let here = c.in-Nothing.place in
    let last = self.recheck.last.now in
    let rows = last.file_results.items in
    let parts = kept_parts (options_in self) (last_in self) (present_in self) file here (sym (ap file_status_in c.in-Nothing.is) ∙ c.requires.file_status) in
    let within : here < length rows = file_result_within (held_by c.args.keys.now) (options_in self) (last_in self) rows here c.requires.file_results (stands (last_in self) file here parts.at).within in
    let same : here ≡ place = one_place here place (sym (ap file_status_in c.in-Nothing.is) ∙ is) in
    c.in_ok-kept-in-Nothing.ensures.cases
    ∙ ap (λ (r : Rc FileResultOf Global). r.value) (one_item rows here c.index.result.now own within c.index.ensures (at ∙ ap (λ n. get_or rows n own) (sym same)))
