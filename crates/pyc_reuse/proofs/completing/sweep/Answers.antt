use Rattle.std.proofs.Common.{◌≡◌, List, ap, subst, sym, ◌∙◌}
use Rattle.std.specs.declared.alloc.Global.{Global}
use Rattle.std.specs.declared.rc.Rc.{Rc}
use Rattle.pyc_keys.specs.Numbering.{Numbering, only}
use Rattle.pyc_known_answers.specs.WorldView.{held_by}
use Rattle.pyc_reading.specs.Keys.{Key}
use Rattle.pyc_reuse.proofs.HoldLemmas.{just_held, file_results_kept}
use Rattle.pyc_reuse.specs.declared.file_result.FileResult.{FileResult as FileResultOf}
use Rattle.pyc_reuse.specs.Holding.{HoldsJust}
use Rattle.pyc_reuse.specs.FileResultView.{reads_in, file_results_in}
use Rattle.pyc_reuse.proofs.completing.sweep.Goals as goal

pub returns-clause-file_results : goal.returns-clause-file_results
returns-clause-file_results c =
    let file_results = c.args.done.now.kept.file_results.items in
    let held = held_by c.args.keys.now in
    let is : held_by c.keep_only.new.self ≡ only (reads_in file_results) held =
    c.keep_only.ensures.held ∙ ap (λ (rs : List (Rc FileResultOf Global)). only (reads_in rs) held) c.deref.ensures.value in
    ap (λ (h : Numbering Key). file_results_in h file_results) is ∙ file_results_kept held file_results

pub returns-clause-held : goal.returns-clause-held
returns-clause-held c =
    let kept = c.args.done.now.kept in
    let file_results = kept.file_results.items in
    let held = held_by c.args.keys.now in
    let is : held_by c.keep_only.new.self ≡ only (reads_in file_results) held =
    c.keep_only.ensures.held ∙ ap (λ (rs : List (Rc FileResultOf Global)). only (reads_in rs) held) c.deref.ensures.value in
    subst (λ (h : Numbering Key). HoldsJust h (reads_in file_results)) (sym is) (just_held kept.options kept.files held file_results c.requires.file_results)
