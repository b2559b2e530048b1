use Rattle.std.proofs.Common.{◌≡◌, List, ap, subst, sym, ◌∙◌}
use Rattle.std.specs.declared.alloc.Global.{Global}
use Rattle.std.specs.declared.rc.Rc.{Rc}
use Rattle.pyc_keys.specs.Numbering.{Numbering, only}
use Rattle.pyc_known_answers.specs.WorldView.{held_by}
use Rattle.pyc_names.specs.Interfaces.{Interface}
use Rattle.pyc_reading.specs.Keys.{Key}
use Rattle.pyc_reuse.proofs.HoldLemmas.{keys_back}
use Rattle.pyc_reuse.specs.Answering.{StandFor}
use Rattle.pyc_reuse.specs.declared.file_result.FileResult.{FileResult as FileResultOf}
use Rattle.pyc_reuse.specs.Holding.{HoldsJust}
use Rattle.pyc_reuse.specs.Revision.{file_results_among}
use Rattle.pyc_reuse.specs.FileResultView.{reads_in, file_results_in}
use Rattle.pyc_reuse.proofs.completing.check_again.Goals as goal

pub sweep-requires-clause-settled : goal.sweep-requires-clause-settled
sweep-requires-clause-settled c =
    λ settled.
    let last = c.args.last in
    let read = reads_in c.in-Ok.done.kept.file_results.items in
    subst (λ (h : Numbering Key). HoldsJust h read) (sym (c.in-Ok.ensures.held settled))
    (subst (HoldsJust (held_by last.keys)) (sym (c.in-Ok.ensures.reads settled)) last.held)

pub invariant_of-next : goal.invariant_of-next
invariant_of-next c =
    let kept = c.in-Ok.done.kept in
    record {
      file_results_are = ∣ c.sweep.ensures.file_results ∙ c.in-Ok.ensures.file_results ∣₁;
      answers_are = subst (λ (s : List Interface). StandFor s kept.files) (sym c.sweep.ensures.world) c.in-Ok.ensures.answers;
      held = c.sweep.ensures.held;
    }

pub invariant_of-result : goal.invariant_of-result
invariant_of-result c =
    let last = c.args.last in
    let file_results = last.kept.file_results.items in
    let held = held_by c.check_present.new.keys in
    let is : held_by c.keep_only.new.self ≡ held_by last.keys =
    c.keep_only.ensures.held ∙ ap (λ (rs : List (Rc FileResultOf Global)). only (reads_in rs) held) c.deref.ensures.value
    ∙ keys_back (held_by last.keys) held (reads_in file_results) c.check_present.ensures.extends last.held in
    record {
      file_results_are = subst (λ (h : Numbering Key). ∥ file_results_in h file_results ≡ file_results_among last.kept.options last.kept.files ∥₁) (sym is) last.file_results_are;
      answers_are =
          subst (λ (s : List Interface). StandFor s last.kept.files) (sym (c.keep_only.ensures.world ∙ c.in-Err.ensures.same)) last.answers_are;
      held = subst (λ (h : Numbering Key). HoldsJust h (reads_in file_results)) (sym is) last.held;
    }

pub returns-in-Err-clause-same_keys : goal.returns-in-Err-clause-same_keys
returns-in-Err-clause-same_keys c =
    let last = c.args.last in
    let file_results = last.kept.file_results.items in
    let held = held_by c.check_present.new.keys in
    c.keep_only.ensures.held ∙ ap (λ (rs : List (Rc FileResultOf Global)). only (reads_in rs) held) c.deref.ensures.value
    ∙ keys_back (held_by last.keys) held (reads_in file_results) c.check_present.ensures.extends last.held
