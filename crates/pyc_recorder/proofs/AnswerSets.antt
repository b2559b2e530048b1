-- Two proofs that answers are one are the same.
use Rattle.std.proofs.Common.{◌≡◌}
use Rattle.std.specs.Coded.{Coded, Coded-set, codes}
use Rattle.pyc_reading.specs.Answers.{Answer}
use Rattle.pyc_recorder.proofs.TypeTokens.{ty_code}

answer_code : Coded Answer
answer_code = Prim.hlevel (codes, ty_code)

pub one_proof : (a b : Answer) → IsProp (a ≡ b)
one_proof a b = Coded-set answer_code a b
