use Rattle.std.proofs.Common.{◌∙◌, refl}
use Rattle.pyc_console.proofs.CheckFilesLemmas.{paths_all, paths_next, updates_none, updates_on}
use Rattle.pyc_console.proofs.checking.update_all.Goals as goal

pub loop-file-init : goal.loop-file-init
loop-file-init g c = record { buffers = refl; updates = updates_none _ _ _ _ _ }

pub loop-file-preserved : goal.loop-file-preserved
loop-file-preserved g c =
    let next = paths_next c.args.files.now c.loop-file.file-index c.file-item.result c.loop-file-test.true c.file-item.is in
    let one = rw c.deref.ensures at c.update_one-one.ensures.update in
    record {
      buffers = c.update_one-one.ensures.buffers ∙ c.loop-file.invariant.buffers;
      updates = rw next at (updates_on _ _ _ _ _ _ _ _ _ _ _ _ _ _ _ _ _ _ _ one.0 c.requires.unreported.0 c.requires.unreported.1 c.loop-file.invariant.updates one.1 one.2);
    }

pub returns-clause-updates : goal.returns-clause-updates
returns-clause-updates g c = rw (paths_all c.args.files.now c.loop-file.file-index c.loop-file-test.false) at c.loop-file.invariant.updates
