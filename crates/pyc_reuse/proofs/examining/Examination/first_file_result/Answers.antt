use Rattle.std.proofs.Common.{◌≡◌, ◌++◌, ap, arith, map, sym, take, take_all, ◌∙◌, List, subst}
use Rattle.pyc_body.specs.FileUnits.{id_of}
use Rattle.pyc_body.specs.FileUnitView.{file_unit_in}
use Rattle.pyc_body.specs.FoundMessages.{checked, without_ignored}
use Rattle.pyc_keys.proofs.NumberingLemmas.{extends_trans}
use Rattle.pyc_known_answers.specs.WorldView.{held_by}
use Rattle.pyc_lower.specs.Reading.{read_of}
use Rattle.pyc_names.specs.Interfaces.{Interface}
use Rattle.pyc_names.specs.SourceFileView.{source_in}
use Rattle.pyc_reuse.proofs.ChangedLemmas.{checks_more, id_more}
use Rattle.pyc_reuse.proofs.ResultLemmas.{ok_both, on_ok}
use Rattle.pyc_reuse.proofs.RowLemmas.{found_in_checks, ids_are, file_result_is}
use Rattle.pyc_reuse.specs.Answering.{StandFor}
use Rattle.pyc_reuse.specs.Examination.{options_in, present_in}
use Rattle.pyc_reuse.specs.FileResultView.{reported_in}
use Rattle.pyc_reuse.specs.SharedChecks.{checks_of, found_of}
use Rattle.pyc_workspace.specs.Files.{file_in}
use Rattle.pyc_workspace.specs.Fresh.{source_of}
use Rattle.pyc_reuse.proofs.examining.Examination.first_file_result.Goals as goal

pub first_check-requires-clause-answers : goal.first_check-requires-clause-answers
first_check-requires-clause-answers c =
    subst (λ (s : List Interface). StandFor s (present_in c.args.self.now)) (sym c.loop-unit.invariant.world) c.requires.answers

pub loop-unit-preserved : goal.loop-unit-preserved
loop-unit-preserved c =
    let self = c.args.self.now in
    let us = c.deref-unit-items.result.now in
    let i = c.loop-unit.unit-index in
    let one = c.in_ok-check.ensures in
    record {
      checks =
          checks_more us i c.unit-item.result (held_by c.loop-unit.keys) (held_by c.first_check.new.keys) (options_in self) (map source_of (present_in self))
          c.loop-unit.checks.items c.push.new.self.items c.in_ok-check.check one.extends c.loop-unit-test.true c.unit-item.is c.loop-unit.invariant.checks one.checked c.in_ok-push.ensures.items;
      metered =
          id_more us i c.unit-item.result c.args.meter.now c.loop-unit.meter c.first_check.new.meter c.loop-unit-test.true c.unit-item.is
          c.loop-unit.invariant.metered one.metered;
      extends = extends_trans (held_by c.args.keys.now) (held_by c.loop-unit.keys) (held_by c.first_check.new.keys) c.loop-unit.invariant.extends one.extends;
      world = one.world ∙ c.loop-unit.invariant.world;
    }

pub returns-clause-file_result : goal.returns-clause-file_result
returns-clause-file_result c =
    let self = c.args.self.now in
    let file = file_in c.args.file.now in
    let held = held_by c.loop-unit.keys in
    let us = c.deref-unit-items.result.now in
    let whole : take c.loop-unit.unit-index us ≡ us = take_all c.loop-unit.unit-index us (omega (arith, c.loop-unit-test.false)) in
    let units = ap (map file_unit_in) c.deref-unit-items.ensures.value ∙ c.in_ok-units.ensures in
    let made = c.loop-unit.invariant.checks ∙ ap (λ l. map (checked (options_in self) (map source_of (present_in self))) (map file_unit_in l)) whole in
    ok_both c.new.result
    (λ file_result checks messages.
    file_result_is (options_in self) (present_in self) file (checks_of held file_result.checks.items) (reported_in file_result) (map file_unit_in us) (source_in c.source.result.now.value)
    (ap (checks_of held) checks ∙ made) units c.source.ensures
    (messages ∙ ap (without_ignored (read_of file.bytes)) (ap found_of (sym checks) ∙ found_in_checks held file_result.checks.items)))
    c.new.ensures.checks c.new.ensures.messages

pub returns-clause-metered : goal.returns-clause-metered
returns-clause-metered c =
    let us = c.deref-unit-items.result.now in
    let whole : take c.loop-unit.unit-index us ≡ us = take_all c.loop-unit.unit-index us (omega (arith, c.loop-unit-test.false)) in
    let units = ap (map file_unit_in) c.deref-unit-items.ensures.value ∙ c.in_ok-units.ensures in
    on_ok c.new.result
    (ids_are (file_in c.args.file.now) c.args.meter.now c.loop-unit.meter (map file_unit_in us) (source_in c.source.result.now.value)
    (c.loop-unit.invariant.metered ∙ ap (λ l. c.args.meter.now ++ map id_of (map file_unit_in l)) whole) units c.source.ensures)
