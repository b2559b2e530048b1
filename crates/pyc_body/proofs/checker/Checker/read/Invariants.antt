use Rattle.pyc_known_answers.specs.WorldView.{interfaces_by}
use Rattle.pyc_body.proofs.checker.Checker.read.Given as goal

-- the files are those of the world
abbrev pub ghosts-read_over : goal.ghosts-read_over
ghosts-read_over a = record { files = interfaces_by a.keys.now }
