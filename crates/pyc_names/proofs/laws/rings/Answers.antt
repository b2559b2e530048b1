use Rattle.pyc_names.proofs.RingLemmas.{rings_are_cycles, rings_stay_rings, reported_rings_are_rings}
use Rattle.pyc_names.proofs.ReturnLemmas.{rings_are_reported}
use Rattle.pyc_names.proofs.laws.rings.Goals as goal

pub returns-clause-cycles : goal.returns-clause-cycles
returns-clause-cycles c = rings_are_cycles

pub returns-clause-around : goal.returns-clause-around
returns-clause-around c = rings_stay_rings

pub returns-clause-reported : goal.returns-clause-reported
returns-clause-reported c = reported_rings_are_rings

pub returns-clause-all_reported : goal.returns-clause-all_reported
returns-clause-all_reported c = rings_are_reported
