use Rattle.std.proofs.Common.{◌≡◌, drop, option_map}
use Rattle.pyc_calls.specs.Constructors.{first_initializer}
use Rattle.pyc_reading.specs.AnswerView.{member_answer_of}
use Rattle.pyc_calls.proofs.constructors.first_initializer.Given as goal

-- the classes that are left decide
abbrev pub invariant-loop-class : goal.invariant-loop-class
invariant-loop-class l =
    first_initializer (drop l.class-index l.order) (option_map member_answer_of l.found) ≡ first_initializer l.order (option_map member_answer_of l.found)
