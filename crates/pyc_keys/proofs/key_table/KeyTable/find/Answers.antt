use Rattle.std.proofs.Common.{◌∙◌, ap}
use Rattle.indexmap.specs.IndexMap.{get as number_of}
use Rattle.pyc_keys.specs.KeyEquality.{is_asked}
use Rattle.pyc_keys.proofs.TableLemmas.{apart, found_held, found_none}
use Rattle.pyc_keys.proofs.key_table.KeyTable.find.Goals as goal

pub returns-clause-held : goal.returns-clause-held
returns-clause-held c =
    found_held _ (number_of is_asked c.args.self.now.numbers) _ c.number_in.result c.args.self.now.inverse
    (c.number_in.ensures ∙ ap (number_of is_asked c.args.self.now.numbers) c.sought-sought.ensures)

pub returns-clause-none : goal.returns-clause-none
returns-clause-none c =
    found_none _ (number_of is_asked c.args.self.now.numbers) _ c.number_in.result c.args.self.now.inverse
    (c.number_in.ensures ∙ ap (number_of is_asked c.args.self.now.numbers) c.sought-sought.ensures)

pub returns-clause-apart : goal.returns-clause-apart
returns-clause-apart c = apart _ _ c.args.self.now.inverse
