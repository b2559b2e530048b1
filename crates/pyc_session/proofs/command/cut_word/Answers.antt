use Rattle.std.proofs.Common.{sym, ◌∙◌}
use Rattle.pyc_session.proofs.CommandWords.{word_cut, split_at_none}
use Rattle.pyc_session.proofs.command.cut_word.Goals as goal

pub returns-in-Some : goal.returns-in-Some
returns-in-Some c = word_cut _ _ (sym c.space_in.ensures.place ∙ c.in-Some.is)

pub returns-in-None : goal.returns-in-None
returns-in-None c = split_at_none _ _ _ (sym c.space_in.ensures.place ∙ c.in-None.is)
