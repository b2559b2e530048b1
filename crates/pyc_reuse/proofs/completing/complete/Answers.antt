use Rattle.std.proofs.Common.{◌≡◌, ◌++◌, ap, arith, length, List, map, subst, sym, ◌∙◌}
use Rattle.std.proofs.lemmas.List.{length-map}
use Rattle.std.specs.declared.alloc.Global.{Global}
use Rattle.std.specs.declared.rc.Rc.{Rc}
use Rattle.pyc_known_answers.specs.WorldView.{held_by, interfaces_by}
use Rattle.pyc_names.specs.Interfaces.{Interface}
use Rattle.pyc_reuse.proofs.ExactLemmas.{exact_from}
use Rattle.pyc_reuse.proofs.InPlaceLemmas.{same_reads}
use Rattle.pyc_reuse.proofs.RowLemmas.{report_is}
use Rattle.pyc_reuse.specs.Answering.{StandFor}
use Rattle.pyc_reuse.specs.declared.file_result.FileResult.{FileResult as FileResultOf}
use Rattle.pyc_reuse.specs.Examined.{examined}
use Rattle.pyc_reuse.specs.Revision.{file_result_among, file_results_among}
use Rattle.pyc_reuse.specs.RecheckView.{last_in, options_in, present_in}
use Rattle.pyc_reuse.specs.FileResultView.{file_result_in, file_results_in}
use Rattle.pyc_reuse.specs.FileStatuses.{AreInPlace, file_status_of}
use Rattle.pyc_workspace.specs.declared.file.File.{File as FileOf}
use Rattle.pyc_workspace.specs.Files.{file_in, files_in}
use Rattle.pyc_workspace.specs.Fresh.{units_of}
use Rattle.pyc_workspace.specs.Workspace.{File}
use Rattle.pyc_reuse.proofs.completing.complete.Goals as goal

pub next_file_results-requires-clause-answers : goal.next_file_results-requires-clause-answers
next_file_results-requires-clause-answers c =
    subst (λ (files : List File). StandFor (interfaces_by c.args.keys.now) files) (sym c.requires.present) c.requires.answers

pub next_file_results-requires-clause-list : goal.next_file_results-requires-clause-list
next_file_results-requires-clause-list c =
    let recheck = c.args.recheck in
    c.requires.list ∙ ap (λ (files : List File). map (file_status_of (options_in recheck) (last_in recheck) files) files) (sym c.requires.present)

pub report_on-requires : goal.report_on-requires
unfolding file_results_among
report_on-requires c =
    let files = present_in c.args.recheck in
    let file_results = c.in_ok-file_results.file_results.items in
    ap length c.deref.ensures.value ∙ sym (length-map file_results (λ (r : Rc FileResultOf Global). file_result_in (held_by c.next_file_results.new.keys) r.value)) ∙ ap length c.in_ok-file_results.ensures.file_results
    ∙ length-map files (file_result_among (options_in c.args.recheck) files)
    ∙ ap length (c.requires.present ∙ sym c.files.ensures.all)
    ∙ length-map c.files.result.now (λ (f : Rc FileOf Global). file_in f.value)

pub invariant_of-result : goal.invariant_of-result
invariant_of-result c = record { bodies_are = c.in_ok-bodies.ensures ∙ ap (λ (fs : List File). length (units_of fs)) (c.files-2.ensures.all ∙ sym c.in_ok-files.ensures.same) }

pub returns-clause-report : goal.returns-clause-report
returns-clause-report c =
    let held = held_by c.next_file_results.new.keys in
    let options = options_in c.args.recheck in
    report_is held options c.args.present.now (files_in c.files.result.now) c.deref.result.now _ c.in_ok-report.ensures c.files.ensures.all
    (ap (file_results_in held) c.deref.ensures.value ∙ c.in_ok-file_results.ensures.file_results ∙ ap (file_results_among options) c.requires.present)

pub returns-clause-exact : goal.returns-clause-exact
returns-clause-exact c =
    let held = held_by c.next_file_results.new.keys in
    let options = options_in c.args.recheck in
    let last = last_in c.args.recheck in
    let present = c.args.present.now in
    let fresh =
    report_is held options present (files_in c.files.result.now) c.deref.result.now _ c.in_ok-report.ensures c.files.ensures.all
    (ap (file_results_in held) c.deref.ensures.value ∙ c.in_ok-file_results.ensures.file_results ∙ ap (file_results_among options) c.requires.present) in
    exact_from options last present _ _ c.files.ensures.ordered fresh
    (c.in_ok-file_results.ensures.metered ∙ ap (λ m. m ++ examined options last (present_in c.args.recheck)) c.new-meter.ensures ∙ ap (examined options last) c.requires.present)

pub returns-clause-file_results : goal.returns-clause-file_results
returns-clause-file_results c = c.in_ok-file_results.ensures.file_results ∙ ap (file_results_among (options_in c.args.recheck)) (c.requires.present ∙ sym c.in_ok-files.ensures.same)

pub returns-clause-answers : goal.returns-clause-answers
returns-clause-answers c =
    subst (λ (interfaces : List Interface). StandFor interfaces c.in_ok-files.files) (sym c.in_ok-file_results.ensures.world)
    (subst (StandFor (interfaces_by c.args.keys.now)) (sym c.in_ok-files.ensures.same) c.requires.answers)

pub returns-clause-held : goal.returns-clause-held
returns-clause-held c =
    λ settled.
    let rows = c.args.recheck.last.now.file_results in
    let many : c.len.result ≡ length rows.items = omega (arith, c.len.ensures, rows.ok.0) in
    c.in_ok-file_results.ensures.held (subst (AreInPlace c.args.list.now) many (c.are_in_place-is_settled.ensures settled))

pub returns-clause-reads : goal.returns-clause-reads
returns-clause-reads c =
    λ settled.
    let rows = c.args.recheck.last.now.file_results in
    let many : c.len.result ≡ length rows.items = omega (arith, c.len.ensures, rows.ok.0) in
    same_reads c.in_ok-file_results.file_results.items rows.items
    (c.in_ok-file_results.ensures.own (subst (AreInPlace c.args.list.now) many (c.are_in_place-is_settled.ensures settled)))
