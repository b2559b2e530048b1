use Rattle.std.proofs.lemmas.Grind.{common_steps}
use Rattle.std.proofs.Common.{◌≡◌, None, Err, subst, arith, rules}
use Rattle.pyc_build.specs.declared.error.ParseError.{ParseError}
use Rattle.pyc_tree.specs.Headers.{line_tree}
use Rattle.pyc_build.specs.ReadsTokens.{AnswersLine}
use Rattle.pyc_tree.specs.LineView.{line_of}
use Rattle.pyc_line.proofs.ParseLaws.{only_tree, no_tree}
use Rattle.pyc_line.proofs.SoundLines.{line_sound}
use Rattle.pyc_line.proofs.line_parser.parse_line.Goals as goal

pub returns-in-Ok-clause-well : goal.returns-in-Ok-clause-well
returns-in-Ok-clause-well c = (line_sound c.args.tokens.now (line_of c.in-Ok.line) c.in-Ok.ensures).0

pub returns-in-Ok-clause-tokens : goal.returns-in-Ok-clause-tokens
returns-in-Ok-clause-tokens c = (line_sound c.args.tokens.now (line_of c.in-Ok.line) c.in-Ok.ensures).1

pub returns-in-Ok-clause-low : goal.returns-in-Ok-clause-low
returns-in-Ok-clause-low c = (line_sound c.args.tokens.now (line_of c.in-Ok.line) c.in-Ok.ensures).2

pub returns-in-Ok-clause-complete : goal.returns-in-Ok-clause-complete
returns-in-Ok-clause-complete c = λ other. only_tree c.args.tokens.now (line_of c.in-Ok.line) other c.in-Ok.ensures

pub returns-in-Err-Refused-clause-none : goal.returns-in-Err-Refused-clause-none
returns-in-Err-Refused-clause-none c =
    let refused : line_tree c.args.tokens.now ≡ None =
    subst (λ (error : ParseError). AnswersLine line_of (line_tree c.args.tokens.now) (Err error)) c.in-Err-Refused.field-0-is c.in-Err-Refused.ensures in
    λ some. no_tree c.args.tokens.now refused

pub returns-in-Err-Memory : goal.returns-in-Err-Memory
returns-in-Err-Memory c = first_of (grind (arith, common_steps), search rules)
