use Rattle.std.proofs.Common.{◌≡◌, List, [], is_some, map, ap, sym, ◌∙◌, rules}
use Rattle.std.specs.declared.alloc.Global.{Global}
use Rattle.std.specs.declared.rc.Rc.{Rc}
use Rattle.pyc_interfaces.specs.BareInterfaces.{bare_interface}
use Rattle.pyc_keys.specs.Marks.{is_in}
use Rattle.pyc_keys.specs.Numbering.{Numbering}
use Rattle.pyc_known_answers.specs.WorldView.{held_by, interfaces_by}
use Rattle.pyc_reading.specs.Keys.{Key}
use Rattle.pyc_reuse.specs.declared.file_result.FileResult.{FileResult as FileResultOf}
use Rattle.pyc_reuse.specs.Places.{bare_of}
use Rattle.pyc_reuse.specs.Revision.{file_results_among}
use Rattle.pyc_reuse.specs.FileResultView.{reads_in, file_results_in}
use Rattle.pyc_reuse.proofs.last_check.LastCheck.of_nothing.Goals as goal

pub invariant_of-result-2 : goal.invariant_of-result-2
unfolding file_results_among
invariant_of-result-2 c =
    let none : c.new-files.result ≡ [] = search rules in
    let file_results : c.new-2.result.items ≡ [] = search rules in
    let keys = c.new-4.result in
    let world : interfaces_by keys ≡ [] = search rules in
    record {
      file_results_are = ∣ ap (file_results_in (held_by keys)) file_results ∙ ap (file_results_among c.args.options) (sym none) ∣₁;
      answers_are = ∣ ap (map bare_interface) world ∙ ap (map bare_of) (sym none) ∣₁;
      held = λ i. ap (λ (h : Numbering Key). is_some (h i)) c.new-4.ensures.held ∙ sym (ap (λ (rs : List (Rc FileResultOf Global)). is_in (reads_in rs) i) file_results);
    }
