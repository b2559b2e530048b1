-- The parts of a compound statement that the code holds.
use Rattle.std.specs.Prelude.{map}
use Rattle.pyc_ast.specs.ExprView.{expr_of}
use Rattle.pyc_ast.specs.StatementView.{block_of, branch_of, handler_of}
use Rattle.pyc_lower_block.specs.Blocks.{Parts}
use Rattle.pyc_lower_block.specs.declared.forms.Parts.{Parts as PartsOf}

abbrev pub parts_of : PartsOf → Parts
parts_of p =
    record {
      decorators = map expr_of p.decorators.items;
      body = block_of p.body;
      branches = map branch_of p.branches.items;
      handlers = map handler_of p.handlers.items;
      orelse = block_of p.orelse;
      finally = block_of p.finally;
    }
