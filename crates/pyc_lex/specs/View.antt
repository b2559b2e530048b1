-- What the types of the code hold, as plain values.
use Rattle.std.specs.Prelude.{◌≡◌, ◌≢◌, ℕ, List, map, Vec, Result, Ok, Err}
use Rattle.std.specs.declared.alloc.Global.{Global}
use Rattle.pyc_lex.specs.declared.ignores.Rest.{Rest}
use Rattle.pyc_token.specs.declared.tokens.Span.{Span}
use Rattle.pyc_lex.specs.declared.logical_lines.Codes.{Codes as Declared}
use Rattle.pyc_lex.specs.declared.logical_lines.Codes.TheVariants.{All, Listed}
use Rattle.pyc_lex.specs.declared.logical_lines.Ignore.{Ignore}
use Rattle.pyc_lex.specs.declared.logical_lines.LogicalLine.{LogicalLine}
use Rattle.pyc_lex.specs.declared.logical_lines.Scan.{Scan}
use Rattle.pyc_lex.specs.declared.fault.LexFault.{LexFault}
use Rattle.pyc_lex.specs.declared.fault.LexFault.TheVariants.{Memory}
use Rattle.pyc_lex.specs.Ignores.{Codes, all, listed, IgnoreAt}
use Rattle.pyc_lex.specs.Lines.{Line, Lexis}

-- the codes of an ignore comment
abbrev pub codes_in : Declared → Codes
codes_in All = all
codes_in (Listed spans) = listed spans.items

-- an ignore comment
abbrev pub ignore_in : Ignore → IgnoreAt
ignore_in ignore = record { line = ignore.line; codes = codes_in ignore.codes }

-- a logical line
abbrev pub line_in : LogicalLine → Line
line_in line = record { indent = line.indent; tokens = line.tokens.items }

-- what a scan says of its source
abbrev pub lexis_in : Scan → Lexis
lexis_in scan = record {
  lines = map line_in scan.lines.items;
  ignores = map ignore_in scan.ignores.items;
  whole_file = scan.whole_file;
}

-- where a change goes: to what the definition says, or to its fault; a want of memory says nothing
abbrev pub Leads : {A : Type 0} → Result A LexFault → Result (Unit {0}) LexFault → A → Type 0
Leads expected (Ok done) new = expected ≡ Ok new
Leads expected (Err fault) new = fault ≢ Memory → expected ≡ Err fault

-- some spans
abbrev pub spans_in : Vec Span Global → List Span
spans_in spans = spans.items

-- a text within the source and the byte that it begins at
abbrev pub rest_in : Rest → ℕ × List ℕ
rest_in rest = (rest.from, rest.text.now)

-- a result is what the definition says; a want of memory says nothing
abbrev pub AnswersScan : Result Lexis LexFault → Result Scan LexFault → Type 0
AnswersScan expected (Ok scan) = expected ≡ Ok (lexis_in scan)
AnswersScan expected (Err fault) = fault ≢ Memory → expected ≡ Err fault
