-- The first line of a source that is none of the language (Python reference 3.13, "Full Grammar specification").
use Rattle.std.specs.Prelude.{◌≡◌, ℕ, Bool, true, false, ◌||◌, bytes_eq, List, ◌∷◌, ◌++◌, Ok}
use Rattle.std.specs.List.{All}
use Rattle.pyc_token.specs.declared.tokens.Token.{Token}
use Rattle.pyc_lex.specs.Lines.{Lexis, lines_of}
use Rattle.pyc_lex.specs.Lines as lex
use Rattle.pyc_line.specs.declared.fault.ParseFault.{ParseFault}
use Rattle.pyc_line.specs.declared.fault.What.{What}
use Rattle.pyc_line.specs.declared.fault.What.TheVariants as what
use Rattle.pyc_line.specs.LineFault.{fault_of, number_of}
use Rattle.pyc_tree.specs.Lines.{Line, line_yield}
use Rattle.pyc_tree.specs.WellLines.{IsWellLine}
use Rattle.pyc_parse.specs.Outcome.{Outcome, tree, fault, parse_text}

-- a well-formed line that has just some tokens
pub record HasTree (tokens : List Token) : Type 0 where
  pub tree : Line
  pub well : IsWellLine tree
  pub text : line_yield tree ≡ tokens

-- the first of some logical lines that has no tree, and what is reported of it
pub record IsFirstBadLine (lines : List lex.Line) (reported : ParseFault) : Type 0 where
  pub before : List lex.Line
  pub bad : lex.Line
  pub after : List lex.Line
  pub parts : lines ≡ before ++ bad ∷ after
  pub earlier : All (λ line. HasTree line.tokens) before
  pub none : HasTree bad.tokens → ⊥
  pub number : reported.line ≡ number_of bad.tokens
  pub sort : reported.what ≡ fault_of bad.tokens

-- whether a fault is one of a line: that of blocks and want of memory are none
abbrev pub is_of_line : What → Bool
is_of_line what.Line = true
is_of_line what.OutsideProfile = true
is_of_line _ = false

-- whether what is reported of a source is what is reported of a line
abbrev pub is_line_fault : Outcome → Bool
is_line_fault (tree found) = false
is_line_fault (fault line text) =
    bytes_eq text (parse_text what.Line) || bytes_eq text (parse_text what.OutsideProfile)

-- a source of which the first line without a tree is reported
pub record ReportsFirstBadLine (source : List ℕ) (outcome : Outcome) : Type 0 where
  pub lexis : Lexis
  pub scan_outcome : lines_of source ≡ Ok lexis
  pub reported : ParseFault
  pub first : IsFirstBadLine lexis.lines reported
  pub is : outcome ≡ fault reported.line (parse_text reported.what)
