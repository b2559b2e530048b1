-- The looked answer that one of the code is.
use Rattle.pyc_known_answers.specs.LookedAnswers.{LookedAnswer}
use Rattle.pyc_known_answers.specs.declared.looked_answer.LookedAnswer.{LookedAnswer as LookedAnswerOf}
use Rattle.pyc_names.specs.NotedLooksView.{noted_in}
use Rattle.pyc_reading.specs.AnswerView.{answer_in}

abbrev pub looked_in : LookedAnswerOf → LookedAnswer
looked_in looked = record { answer = answer_in looked.answer; looks = noted_in looked.looks }
