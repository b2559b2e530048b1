use Rattle.std.proofs.Common.{◌≡◌, ◌<◌, ◌++◌, ap, arith, flat_map, get_or, length, map, refl, sym, take, take_all, ◌∙◌, List, subst}
use Rattle.std.proofs.lemmas.List.{length-map}
use Rattle.std.specs.declared.alloc.Global.{Global}
use Rattle.std.specs.declared.rc.Rc.{Rc}
use Rattle.pyc_keys.proofs.NumberingLemmas.{extends_trans}
use Rattle.pyc_known_answers.specs.WorldView.{held_by}
use Rattle.pyc_names.specs.Interfaces.{Interface}
use Rattle.pyc_reuse.proofs.FileLemmas.{ids_more, file_results_more, work_there}
use Rattle.pyc_reuse.proofs.HoldLemmas.{all_file_results_still}
use Rattle.pyc_reuse.proofs.InPlaceLemmas.{in_place_at, in_place_length, item_at, rows_more}
use Rattle.pyc_reuse.proofs.InterfaceLemmas.{file_is}
use Rattle.pyc_reuse.specs.Answering.{StandFor}
use Rattle.pyc_reuse.specs.declared.file_result.FileResult.{FileResult as FileResultOf}
use Rattle.pyc_reuse.specs.Examination.{last_in, options_in, present_in}
use Rattle.pyc_reuse.specs.Examined.{examined, examined_in}
use Rattle.pyc_reuse.specs.Revision.{file_result_among, file_results_among}
use Rattle.pyc_reuse.specs.FileStatuses.{file_status_in, file_status_of}
use Rattle.pyc_workspace.specs.declared.file.File.{File as FileOf}
use Rattle.pyc_workspace.specs.Files.{file_in}
use Rattle.pyc_reuse.proofs.examining.Examination.next_file_results.Goals as goal

pub next_file_result-requires-clause-file_status : goal.next_file_result-requires-clause-file_status
next_file_result-requires-clause-file_status c =
    let self = c.args.self.now in
    let files = self.recheck.present.now in
    let i = c.loop-index.index in
    let many = length-map files (λ (f : Rc FileOf Global). file_in f.value) in
    let within : i < length (present_in self) = omega (arith, many, c.loop-index-test.true) in
    let at = file_is files i c.index-files-index.result c.deref.result.now (present_in self) within refl c.index-files-index.is c.deref.ensures in
    work_there (options_in self) (last_in self) (present_in self) i c.args.list.now c.index-list-index.result c.requires.list within c.index-list-index.is
    ∙ ap (file_status_of (options_in self) (last_in self) (present_in self)) (sym at)

pub next_file_result-requires-clause-file_results : goal.next_file_result-requires-clause-file_results
next_file_result-requires-clause-file_results c =
    let self = c.args.self.now in
    all_file_results_still (options_in self) (last_in self) (held_by c.args.keys.now) (held_by c.loop-index.keys) c.loop-index.invariant.extends self.recheck.last.now.file_results.items c.requires.file_results

pub next_file_result-requires-clause-answers : goal.next_file_result-requires-clause-answers
next_file_result-requires-clause-answers c =
    subst (λ (s : List Interface). StandFor s (present_in c.args.self.now)) (sym c.loop-index.invariant.world) c.requires.answers

pub loop-index-preserved : goal.loop-index-preserved
loop-index-preserved c =
    let self = c.args.self.now in
    let files = self.recheck.present.now in
    let i = c.loop-index.index in
    let many = length-map files (λ (f : Rc FileOf Global). file_in f.value) in
    let within : i < length (present_in self) = omega (arith, many, c.loop-index-test.true) in
    let file = file_in c.deref.result.now in
    let at = file_is files i c.index-files-index.result c.deref.result.now (present_in self) within refl c.index-files-index.is c.deref.ensures in
    let rows = self.recheck.last.now.file_results.items in
    let list = c.args.list.now in
    let listed = sym (length-map list file_status_in) ∙ ap length c.requires.list ∙ length-map (present_in self) (file_status_of (options_in self) (last_in self) (present_in self)) in
    record {
      file_results =
          file_results_more (options_in self) (last_in self) (present_in self) i (held_by c.loop-index.keys) (held_by c.next_file_result.new.keys) c.loop-index.file_results.items c.push.new.self.items c.in_ok-file_result.file_result file
          c.in_ok-file_result.ensures.extends within at
          c.loop-index.invariant.file_results c.in_ok-file_result.ensures.file_result c.in_ok-push.ensures.items;
      metered =
          ids_more (options_in self) (last_in self) (present_in self) i c.args.meter.now c.loop-index.meter c.next_file_result.new.meter file within at
          c.loop-index.invariant.metered c.in_ok-file_result.ensures.metered;
      extends = extends_trans (held_by c.args.keys.now) (held_by c.loop-index.keys) (held_by c.next_file_result.new.keys) c.loop-index.invariant.extends c.in_ok-file_result.ensures.extends;
      world = c.in_ok-file_result.ensures.world ∙ c.loop-index.invariant.world;
      held =
          λ placed.
          let same = in_place_length list (length rows) placed in
          let below : i < length rows = omega (arith, within, listed, same) in
          c.in_ok-file_result.ensures.held i (in_place_at list (length rows) i c.index-list-index.result placed below c.index-list-index.is) ∙ c.loop-index.invariant.held placed;
      own =
          λ placed.
          let same = in_place_length list (length rows) placed in
          let below : i < length rows = omega (arith, within, listed, same) in
          let row = c.in_ok-file_result.file_result in
          rows_more rows c.loop-index.file_results.items c.push.new.self.items row i below (c.loop-index.invariant.own placed)
          (c.in_ok-file_result.ensures.own i (get_or rows i row) (in_place_at list (length rows) i c.index-list-index.result placed below c.index-list-index.is) (item_at rows i row below))
          c.in_ok-push.ensures.items;
    }

pub returns-clause-file_results : goal.returns-clause-file_results
unfolding file_results_among
returns-clause-file_results c =
    let self = c.args.self.now in
    let many = length-map self.recheck.present.now (λ (f : Rc FileOf Global). file_in f.value) in
    let whole : take c.loop-index.index (present_in self) ≡ present_in self = take_all c.loop-index.index (present_in self) (omega (arith, many, c.loop-index-test.false)) in
    c.loop-index.invariant.file_results ∙ ap (map (file_result_among (options_in self) (present_in self))) whole

pub returns-clause-metered : goal.returns-clause-metered
unfolding examined
returns-clause-metered c =
    let self = c.args.self.now in
    let many = length-map self.recheck.present.now (λ (f : Rc FileOf Global). file_in f.value) in
    let whole : take c.loop-index.index (present_in self) ≡ present_in self = take_all c.loop-index.index (present_in self) (omega (arith, many, c.loop-index-test.false)) in
    c.loop-index.invariant.metered ∙ ap (λ l. c.args.meter.now ++ flat_map (examined_in (options_in self) (last_in self) (present_in self)) l) whole

pub returns-clause-held : goal.returns-clause-held
returns-clause-held c = c.loop-index.invariant.held

pub returns-clause-own : goal.returns-clause-own
returns-clause-own c =
    λ placed.
    let self = c.args.self.now in
    let rows = self.recheck.last.now.file_results.items in
    let list = c.args.list.now in
    let many = length-map self.recheck.present.now (λ (f : Rc FileOf Global). file_in f.value) in
    let listed = sym (length-map list file_status_in) ∙ ap length c.requires.list ∙ length-map (present_in self) (file_status_of (options_in self) (last_in self) (present_in self)) in
    let same = in_place_length list (length rows) placed in
    let whole : take c.loop-index.index rows ≡ rows = take_all c.loop-index.index rows (omega (arith, many, listed, same, c.loop-index-test.false)) in
    c.loop-index.invariant.own placed ∙ ap (map (λ (r : Rc FileResultOf Global). r.value)) whole
