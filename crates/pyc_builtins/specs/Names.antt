-- What the names of Python's builtins stand for (Python standard library, "Built-in Functions", "Built-in Constants"
-- and "Built-in Exceptions").
use Rattle.std.specs.Prelude.{ℕ, List, [], ◌∷◌, codes, Option}
use Rattle.pyc_class_ids.specs.declared.builtin_class.BuiltinClass.TheVariants as class
use Rattle.pyc_builtins.specs.Tables.{lookup}
use Rattle.pyc_builtins.specs.declared.names.BuiltinName.{BuiltinName}
use Rattle.pyc_builtins.specs.declared.names.BuiltinName.TheVariants as name
use Rattle.pyc_builtins.specs.declared.names.FunctionResult.TheVariants as gives

-- each name with what it stands for
unfoldable pub builtin_names : List (List ℕ × BuiltinName)
builtin_names =
    (codes "object", name.Class class.Object) ∷
    (codes "int", name.Class class.Int) ∷
    (codes "float", name.Class class.Float) ∷
    (codes "str", name.Class class.Str) ∷
    (codes "bytes", name.Class class.Bytes) ∷
    (codes "list", name.Class class.List) ∷
    (codes "dict", name.Class class.Dict) ∷
    (codes "tuple", name.Class class.Tuple) ∷
    (codes "BaseException", name.Class class.BaseException) ∷
    (codes "bool", name.Class class.Bool) ∷
    (codes "Exception", name.Class class.Exception) ∷
    (codes "LookupError", name.Class class.LookupError) ∷
    (codes "ArithmeticError", name.Class class.ArithmeticError) ∷
    (codes "ValueError", name.Class class.ValueError) ∷
    (codes "TypeError", name.Class class.TypeError) ∷
    (codes "RuntimeError", name.Class class.RuntimeError) ∷
    (codes "AssertionError", name.Class class.AssertionError) ∷
    (codes "KeyError", name.Class class.KeyError) ∷
    (codes "IndexError", name.Class class.IndexError) ∷
    (codes "ZeroDivisionError", name.Class class.ZeroDivisionError) ∷
    (codes "OverflowError", name.Class class.OverflowError) ∷
    (codes "NotImplementedError", name.Class class.NotImplementedError) ∷
    (codes "RecursionError", name.Class class.RecursionError) ∷
    (codes "len", name.Function gives.Int) ∷
    (codes "id", name.Function gives.Int) ∷
    (codes "hash", name.Function gives.Int) ∷
    (codes "ord", name.Function gives.Int) ∷
    (codes "input", name.Function gives.Str) ∷
    (codes "repr", name.Function gives.Str) ∷
    (codes "ascii", name.Function gives.Str) ∷
    (codes "chr", name.Function gives.Str) ∷
    (codes "hex", name.Function gives.Str) ∷
    (codes "oct", name.Function gives.Str) ∷
    (codes "bin", name.Function gives.Str) ∷
    (codes "format", name.Function gives.Str) ∷
    (codes "isinstance", name.Function gives.Bool) ∷
    (codes "issubclass", name.Function gives.Bool) ∷
    (codes "callable", name.Function gives.Bool) ∷
    (codes "hasattr", name.Function gives.Bool) ∷
    (codes "print", name.Function gives.None) ∷
    (codes "sorted", name.Function gives.ListOfAny) ∷
    (codes "reveal_type", name.RevealType) ∷
    (codes "abs", name.Any) ∷
    (codes "aiter", name.Any) ∷
    (codes "all", name.Any) ∷
    (codes "anext", name.Any) ∷
    (codes "any", name.Any) ∷
    (codes "breakpoint", name.Any) ∷
    (codes "bytearray", name.Any) ∷
    (codes "classmethod", name.Any) ∷
    (codes "compile", name.Any) ∷
    (codes "complex", name.Any) ∷
    (codes "delattr", name.Any) ∷
    (codes "dir", name.Any) ∷
    (codes "divmod", name.Any) ∷
    (codes "enumerate", name.Any) ∷
    (codes "eval", name.Any) ∷
    (codes "exec", name.Any) ∷
    (codes "exit", name.Any) ∷
    (codes "filter", name.Any) ∷
    (codes "frozenset", name.Any) ∷
    (codes "getattr", name.Any) ∷
    (codes "globals", name.Any) ∷
    (codes "help", name.Any) ∷
    (codes "iter", name.Any) ∷
    (codes "locals", name.Any) ∷
    (codes "map", name.Any) ∷
    (codes "max", name.Any) ∷
    (codes "memoryview", name.Any) ∷
    (codes "min", name.Any) ∷
    (codes "next", name.Any) ∷
    (codes "open", name.Any) ∷
    (codes "pow", name.Any) ∷
    (codes "property", name.Any) ∷
    (codes "quit", name.Any) ∷
    (codes "range", name.Any) ∷
    (codes "reversed", name.Any) ∷
    (codes "round", name.Any) ∷
    (codes "set", name.Any) ∷
    (codes "setattr", name.Any) ∷
    (codes "slice", name.Any) ∷
    (codes "staticmethod", name.Any) ∷
    (codes "sum", name.Any) ∷
    (codes "super", name.Any) ∷
    (codes "type", name.Any) ∷
    (codes "vars", name.Any) ∷
    (codes "zip", name.Any) ∷
    (codes "NotImplemented", name.Any) ∷
    (codes "Ellipsis", name.Any) ∷
    (codes "copyright", name.Any) ∷
    (codes "credits", name.Any) ∷
    (codes "license", name.Any) ∷
    (codes "AttributeError", name.Any) ∷
    (codes "BaseExceptionGroup", name.Any) ∷
    (codes "BlockingIOError", name.Any) ∷
    (codes "BrokenPipeError", name.Any) ∷
    (codes "BufferError", name.Any) ∷
    (codes "BytesWarning", name.Any) ∷
    (codes "ChildProcessError", name.Any) ∷
    (codes "ConnectionAbortedError", name.Any) ∷
    (codes "ConnectionError", name.Any) ∷
    (codes "ConnectionRefusedError", name.Any) ∷
    (codes "ConnectionResetError", name.Any) ∷
    (codes "DeprecationWarning", name.Any) ∷
    (codes "EOFError", name.Any) ∷
    (codes "EncodingWarning", name.Any) ∷
    (codes "EnvironmentError", name.Any) ∷
    (codes "ExceptionGroup", name.Any) ∷
    (codes "FileExistsError", name.Any) ∷
    (codes "FileNotFoundError", name.Any) ∷
    (codes "FloatingPointError", name.Any) ∷
    (codes "FutureWarning", name.Any) ∷
    (codes "GeneratorExit", name.Any) ∷
    (codes "IOError", name.Any) ∷
    (codes "ImportError", name.Any) ∷
    (codes "ImportWarning", name.Any) ∷
    (codes "IndentationError", name.Any) ∷
    (codes "InterruptedError", name.Any) ∷
    (codes "IsADirectoryError", name.Any) ∷
    (codes "KeyboardInterrupt", name.Any) ∷
    (codes "MemoryError", name.Any) ∷
    (codes "ModuleNotFoundError", name.Any) ∷
    (codes "NameError", name.Any) ∷
    (codes "NotADirectoryError", name.Any) ∷
    (codes "OSError", name.Any) ∷
    (codes "PendingDeprecationWarning", name.Any) ∷
    (codes "PermissionError", name.Any) ∷
    (codes "ProcessLookupError", name.Any) ∷
    (codes "PythonFinalizationError", name.Any) ∷
    (codes "ReferenceError", name.Any) ∷
    (codes "ResourceWarning", name.Any) ∷
    (codes "RuntimeWarning", name.Any) ∷
    (codes "StopAsyncIteration", name.Any) ∷
    (codes "StopIteration", name.Any) ∷
    (codes "SyntaxError", name.Any) ∷
    (codes "SyntaxWarning", name.Any) ∷
    (codes "SystemError", name.Any) ∷
    (codes "SystemExit", name.Any) ∷
    (codes "TabError", name.Any) ∷
    (codes "TimeoutError", name.Any) ∷
    (codes "UnboundLocalError", name.Any) ∷
    (codes "UnicodeDecodeError", name.Any) ∷
    (codes "UnicodeEncodeError", name.Any) ∷
    (codes "UnicodeError", name.Any) ∷
    (codes "UnicodeTranslateError", name.Any) ∷
    (codes "UnicodeWarning", name.Any) ∷
    (codes "UserWarning", name.Any) ∷
    (codes "Warning", name.Any) ∷ []

-- what a name stands for, if it is one of the builtins
unfoldable pub builtin_name : List ℕ → Option BuiltinName
builtin_name text = lookup builtin_names text
