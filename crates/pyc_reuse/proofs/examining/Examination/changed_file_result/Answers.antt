use Rattle.std.proofs.Common.{◌≡◌, ◌<◌, ◌++◌, ap, arith, filter, length, map, sym, take, take_all, ◌∙◌, List, subst}
use Rattle.pyc_body.specs.FileUnits.{file_units, id_of}
use Rattle.pyc_body.specs.FileUnitView.{file_unit_in}
use Rattle.pyc_body.specs.FoundMessages.{checked, without_ignored}
use Rattle.pyc_keys.proofs.NumberingLemmas.{extends_trans}
use Rattle.pyc_known_answers.specs.WorldView.{held_by}
use Rattle.pyc_lower.specs.Reading.{read_of}
use Rattle.pyc_names.specs.Interfaces.{Interface}
use Rattle.pyc_names.specs.SourceFileView.{source_in}
use Rattle.pyc_reuse.proofs.ChangedLemmas.{check_at, check_within, checks_more, flag_at, flag_within, ids_more}
use Rattle.pyc_reuse.proofs.HoldLemmas.{checks_still}
use Rattle.pyc_reuse.proofs.ResultLemmas.{ok_both, on_ok}
use Rattle.pyc_reuse.proofs.RowLemmas.{found_in_checks, kept_ids_are, file_result_is}
use Rattle.pyc_reuse.specs.Answering.{StandFor}
use Rattle.pyc_reuse.specs.Examination.{last_in, options_in, present_in}
use Rattle.pyc_reuse.specs.Examined.{reads_anew}
use Rattle.pyc_reuse.specs.Revision.{FileResult}
use Rattle.pyc_reuse.specs.FileResultView.{reported_in}
use Rattle.pyc_reuse.specs.SharedChecks.{checks_of, found_of}
use Rattle.pyc_workspace.specs.Files.{file_in}
use Rattle.pyc_workspace.specs.Fresh.{source_of}
use Rattle.pyc_reuse.proofs.examining.Examination.changed_file_result.Goals as goal

pub index-requires-in-loop-index : goal.index-requires-in-loop-index
index-requires-in-loop-index c =
    let self = c.args.self.now in
    let units = c.in_ok-units.units.items in
    let within : c.loop-index.index < length units = omega (arith, c.loop-index-test.true, c.len-index-end.ensures, c.in_ok-units.units.ok.0) in
    let checks = c.args.revision.now.checks in
    let there : c.loop-index.index < length checks.items =
    let revision = held_by c.args.keys.now in
    check_within (options_in self) (last_in self) (present_in self) (file_in c.args.file.now) (source_in c.source.result.now.value) units c.loop-index.index revision checks.items
    (ap (λ (r : FileResult). r.checks) c.requires.revision) c.in_ok-units.ensures c.source.ensures within in
    omega (arith, there, checks.ok.0)

pub bounds-flags-index : goal.bounds-flags-index
bounds-flags-index c =
    let self = c.args.self.now in
    let units = c.in_ok-units.units.items in
    let within : c.loop-index.index < length units = omega (arith, c.loop-index-test.true, c.len-index-end.ensures, c.in_ok-units.units.ok.0) in
    flag_within (options_in self) (last_in self) (present_in self) (file_in c.args.file.now) (source_in c.source.result.now.value) units c.loop-index.index c.args.flags.now
    c.requires.flags c.in_ok-units.ensures c.source.ensures within

pub next_check-requires-clause-revision : goal.next_check-requires-clause-revision
next_check-requires-clause-revision c =
    let self = c.args.self.now in
    let units = c.in_ok-units.units.items in
    let within : c.loop-index.index < length units = omega (arith, c.loop-index-test.true, c.len-index-end.ensures, c.in_ok-units.units.ok.0) in
    let held = held_by c.loop-index.keys in
    let revision = checks_still (options_in self) (map source_of (last_in self)) (held_by c.args.keys.now) held c.loop-index.invariant.extends c.args.revision.now.checks.items
    (file_units (source_of (file_in c.args.file.now))) (ap (λ (r : FileResult). r.checks) c.requires.revision) in
    check_at (options_in self) (last_in self) (present_in self) (file_in c.args.file.now) (source_in c.source.result.now.value) units c.loop-index.index held c.args.revision.now.checks.items
    c.index-in-loop-index.result.now c.index.result.now revision c.in_ok-units.ensures c.source.ensures within c.index.ensures c.index-in-loop-index.ensures

pub next_check-requires-clause-flag : goal.next_check-requires-clause-flag
next_check-requires-clause-flag c =
    let self = c.args.self.now in
    let units = c.in_ok-units.units.items in
    let within : c.loop-index.index < length units = omega (arith, c.loop-index-test.true, c.len-index-end.ensures, c.in_ok-units.units.ok.0) in
    flag_at (options_in self) (last_in self) (present_in self) (file_in c.args.file.now) (source_in c.source.result.now.value) units c.loop-index.index c.args.flags.now c.index.result.now
    c.requires.flags c.in_ok-units.ensures c.source.ensures within c.index.ensures

pub next_check-requires-clause-answers : goal.next_check-requires-clause-answers
next_check-requires-clause-answers c =
    subst (λ (s : List Interface). StandFor s (present_in c.args.self.now)) (sym c.loop-index.invariant.world) c.requires.answers

pub loop-index-preserved : goal.loop-index-preserved
loop-index-preserved c =
    let self = c.args.self.now in
    let options = options_in self in
    let units = c.in_ok-units.units.items in
    let i = c.loop-index.index in
    let unit = c.index.result.now in
    let within : i < length units = omega (arith, c.loop-index-test.true, c.len-index-end.ensures, c.in_ok-units.units.ok.0) in
    let flag = flag_at options (last_in self) (present_in self) (file_in c.args.file.now) (source_in c.source.result.now.value) units i c.args.flags.now unit c.requires.flags c.in_ok-units.ensures c.source.ensures within c.index.ensures in
    record {
      checks =
          checks_more units i unit (held_by c.loop-index.keys) (held_by c.next_check.new.keys) options (map source_of (present_in self)) c.loop-index.checks.items c.push.new.self.items
          c.in_ok-check.check c.in_ok-check.ensures.extends within c.index.ensures
          c.loop-index.invariant.checks c.in_ok-check.ensures.checked c.in_ok-push.ensures.items;
      metered =
          ids_more units i unit (reads_anew options (last_in self) (present_in self)) c.args.meter.now c.loop-index.meter c.next_check.new.meter _ within c.index.ensures flag
          c.loop-index.invariant.metered c.in_ok-check.ensures.metered;
      extends = extends_trans (held_by c.args.keys.now) (held_by c.loop-index.keys) (held_by c.next_check.new.keys) c.loop-index.invariant.extends c.in_ok-check.ensures.extends;
      world = c.in_ok-check.ensures.world ∙ c.loop-index.invariant.world;
    }

pub returns-clause-file_result : goal.returns-clause-file_result
returns-clause-file_result c =
    let self = c.args.self.now in
    let file = file_in c.args.file.now in
    let held = held_by c.loop-index.keys in
    let us = c.in_ok-units.units.items in
    let whole : take c.loop-index.index us ≡ us = take_all c.loop-index.index us (omega (arith, c.loop-index-test.false, c.len-index-end.ensures, c.in_ok-units.units.ok.0)) in
    let made = c.loop-index.invariant.checks ∙ ap (λ l. map (checked (options_in self) (map source_of (present_in self))) (map file_unit_in l)) whole in
    ok_both c.new.result
    (λ file_result checks messages.
    file_result_is (options_in self) (present_in self) file (checks_of held file_result.checks.items) (reported_in file_result) (map file_unit_in us) (source_in c.source.result.now.value)
    (ap (checks_of held) checks ∙ made) c.in_ok-units.ensures c.source.ensures
    (messages ∙ ap (without_ignored (read_of file.bytes)) (ap found_of (sym checks) ∙ found_in_checks held file_result.checks.items)))
    c.new.ensures.checks c.new.ensures.messages

pub returns-clause-metered : goal.returns-clause-metered
returns-clause-metered c =
    let self = c.args.self.now in
    let anew = reads_anew (options_in self) (last_in self) (present_in self) in
    let us = c.in_ok-units.units.items in
    let whole : take c.loop-index.index us ≡ us = take_all c.loop-index.index us (omega (arith, c.loop-index-test.false, c.len-index-end.ensures, c.in_ok-units.units.ok.0)) in
    on_ok c.new.result
    (kept_ids_are anew (file_in c.args.file.now) c.args.meter.now c.loop-index.meter (map file_unit_in us) (source_in c.source.result.now.value)
    (c.loop-index.invariant.metered ∙ ap (λ l. c.args.meter.now ++ map id_of (filter anew (map file_unit_in l))) whole) c.in_ok-units.ensures c.source.ensures)
