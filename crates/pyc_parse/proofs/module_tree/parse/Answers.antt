use Rattle.std.proofs.lemmas.Grind.{common_steps}
use Rattle.pyc_parse.specs.Modules.{module_of}
-- The statements of a module hold its lines; a fault of a line is that of the first bad one.
use Rattle.std.proofs.Common.{rules, map, arith}
use Rattle.pyc_lex.specs.View.{line_in}
use Rattle.pyc_tree.specs.BlockView.{stmts_of}
use Rattle.pyc_parse.specs.PlacedView.{placed_of}
use Rattle.pyc_parse.proofs.BadLineLemmas.{handed_on}
use Rattle.pyc_parse.proofs.SoundModules.{statements_hold}
use Rattle.pyc_parse.proofs.module_tree.parse.Goals as goal

pub returns-in-Ok-clause-held : goal.returns-in-Ok-clause-held
returns-in-Ok-clause-held c =
    statements_hold (map line_in c.args.scan.lines.items) (map placed_of c.in_ok-lines.lines.items) (stmts_of c.in-Ok.statements) (search rules) (search rules)

pub returns-in_err-lines-clause-bad_line : goal.returns-in_err-lines-clause-bad_line
returns-in_err-lines-clause-bad_line c =
    handed_on (map line_in c.args.scan.lines.items) c.in_err-lines.field-0.0 c.from_residual.result c.from_residual.ensures.1 c.in_err-lines.ensures

pub returns : goal.returns
unfolding module_of
returns c = first_of (grind (arith, common_steps), search rules)

pub returns-in-Err-Block : goal.returns-in-Err-Block
unfolding module_of
returns-in-Err-Block c = first_of (grind (arith, common_steps), search rules)
