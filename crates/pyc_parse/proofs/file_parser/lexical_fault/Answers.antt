use Rattle.std.proofs.lemmas.Grind.{common_steps}
use Rattle.std.proofs.Common.{arith, rules}
use Rattle.pyc_parse.proofs.file_parser.lexical_fault.Goals as goal

pub returns-in-BadCharacter : goal.returns-in-BadCharacter
returns-in-BadCharacter c = first_of (grind (arith, common_steps), search rules)

pub returns-in-Bracket : goal.returns-in-Bracket
returns-in-Bracket c = first_of (grind (arith, common_steps), search rules)

pub returns-in-Dedent : goal.returns-in-Dedent
returns-in-Dedent c = first_of (grind (arith, common_steps), search rules)

pub returns-in-Deep : goal.returns-in-Deep
returns-in-Deep c = first_of (grind (arith, common_steps), search rules)

pub returns-in-Memory : goal.returns-in-Memory
returns-in-Memory c = first_of (grind (arith, common_steps), search rules)

pub returns-in-NotUtf8 : goal.returns-in-NotUtf8
returns-in-NotUtf8 c = first_of (grind (arith, common_steps), search rules)

pub returns-in-OpenString : goal.returns-in-OpenString
returns-in-OpenString c = first_of (grind (arith, common_steps), search rules)

pub returns-in-Tabs : goal.returns-in-Tabs
returns-in-Tabs c = first_of (grind (arith, common_steps), search rules)
