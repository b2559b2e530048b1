-- What a fault is printed as.
use Rattle.std.specs.Prelude.{ℕ, List, ◌++◌, codes}
use Rattle.std.specs.Fmt.{decimal}
use Rattle.pyc_lex.specs.declared.fault.LexFault.{LexFault}
use Rattle.pyc_lex.specs.declared.fault.LexFault.TheVariants.{NotUtf8, BadCharacter, OpenString, Bracket, Dedent, Tabs}
use Rattle.pyc_lex.specs.declared.fault.LexFault.TheVariants.{Deep, Memory}

-- the text of a fault, with its line
abbrev pub fault_text : LexFault → List ℕ
fault_text NotUtf8 = codes "source is not UTF-8"
fault_text (BadCharacter line) = codes "invalid character on line " ++ decimal line
fault_text (OpenString line) = codes "unterminated string literal on line " ++ decimal line
fault_text (Bracket line) = codes "unmatched bracket on line " ++ decimal line
fault_text (Dedent line) = codes "unindent does not match any outer indentation level on line " ++ decimal line
fault_text (Tabs line) = codes "inconsistent use of tabs and spaces in indentation on line " ++ decimal line
fault_text (Deep line) = codes "too deeply nested on line " ++ decimal line
fault_text Memory = codes "out of memory"
