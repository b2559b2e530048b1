use Rattle.std.proofs.Common.{◌≡◌, ◌++◌, flat_map, length, map, take}
use Rattle.std.specs.declared.alloc.Global.{Global}
use Rattle.std.specs.declared.rc.Rc.{Rc}
use Rattle.pyc_keys.specs.Numbering.{Extends}
use Rattle.pyc_known_answers.specs.WorldView.{held_by, interfaces_by}
use Rattle.pyc_reuse.specs.declared.file_result.FileResult.{FileResult as FileResultOf}
use Rattle.pyc_reuse.specs.Examination.{last_in, options_in, present_in}
use Rattle.pyc_reuse.specs.Examined.{examined_in}
use Rattle.pyc_reuse.specs.Revision.{file_result_among}
use Rattle.pyc_reuse.specs.FileResultView.{file_results_in}
use Rattle.pyc_reuse.specs.FileStatuses.{AreInPlace}
use Rattle.pyc_reuse.proofs.examining.Examination.next_file_results.Given as goal

-- those so far are the rows of the files so far, and the meter counts what is examined of them
abbrev pub invariant-loop-index : goal.invariant-loop-index
invariant-loop-index l = record {
  file_results : file_results_in (held_by l.keys) l.file_results.items ≡ map (file_result_among (options_in l.self) (present_in l.self)) (take l.index (present_in l.self));
  metered : l.meter ≡ l.fn.meter ++ flat_map (examined_in (options_in l.self) (last_in l.self) (present_in l.self)) (take l.index (present_in l.self));
  extends : Extends (held_by l.fn.keys) (held_by l.keys);
  world : interfaces_by l.keys ≡ interfaces_by l.fn.keys;
  held : AreInPlace l.list (length l.self.recheck.last.now.file_results.items) → held_by l.keys ≡ held_by l.fn.keys;
  own : AreInPlace l.list (length l.self.recheck.last.now.file_results.items) → map (λ (r : Rc FileResultOf Global). r.value) l.file_results.items
      ≡ map (λ (r : Rc FileResultOf Global). r.value) (take l.index l.self.recheck.last.now.file_results.items);
}
