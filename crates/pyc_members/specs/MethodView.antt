-- The plain method that one of the code is.
use Rattle.std.specs.Prelude.{map}
use Rattle.pyc_ast.specs.Statements.{stmts}
use Rattle.pyc_ast.specs.StatementView.{function_of, stmt_of}
use Rattle.pyc_members.specs.declared.method.Method.{Method as MethodOf}
use Rattle.pyc_members.specs.Methods.{Method}

-- the plain method that one of the code is
abbrev pub method_of : MethodOf → Method
method_of found =
    record { at = found.at; head = function_of found.head.now.value; body = stmts (map stmt_of found.body.now) }
