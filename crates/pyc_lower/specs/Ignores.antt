-- Ignore comments with their codes as texts (mypy documentation, "Error codes", "Silencing errors based on error
-- codes").
use Rattle.std.specs.Prelude.{ℕ, List, map}
use Rattle.pyc_ast.specs.Modules.{Codes, all, listed, Ignore}
use Rattle.pyc_lex.specs.Ignores as lex
use Rattle.pyc_lower_atom.specs.Origins.{text_at}

-- the codes that stand at spans of a source
abbrev pub codes_in : List ℕ → lex.Codes → Codes
codes_in source lex.all = all
codes_in source (lex.listed spans) = listed (map (text_at source) spans)

-- an ignore comment of a source
abbrev pub ignore_in : List ℕ → lex.IgnoreAt → Ignore
ignore_in source found = record { line = found.line; codes = codes_in source found.codes }
