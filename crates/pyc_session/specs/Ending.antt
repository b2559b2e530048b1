-- What the end of a session is reported as.
use Rattle.std.specs.Prelude.{ℕ, List, codes}
use Rattle.pyc_session.specs.declared.ending.RunFault.{RunFault}
use Rattle.pyc_session.specs.declared.ending.RunFault.TheVariants.{Read, Write, TooManyTurns, Memory}

-- the text of why a session stopped in the middle
abbrev pub run_fault_text : RunFault → List ℕ
run_fault_text Read = codes "the input cannot be read"
run_fault_text Write = codes "the output cannot be written"
run_fault_text TooManyTurns = codes "the input does not end"
run_fault_text Memory = codes "out of memory"
