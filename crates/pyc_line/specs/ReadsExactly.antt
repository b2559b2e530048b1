-- Which lines the grammar reads (Python reference 3.13, "Full Grammar specification").
use Rattle.std.specs.Prelude.{◌≡◌, ◌≤◌, ◌↔◌, List, Some}
use Rattle.pyc_token.specs.declared.tokens.Token.{Token}
use Rattle.pyc_tree.specs.Headers.{line_tree}
use Rattle.pyc_tree.specs.Height.{max_height}
use Rattle.pyc_tree.specs.Lines.{Line, line_height, line_yield}
use Rattle.pyc_tree.specs.WellLines.{IsWellLine}

-- the grammar reads tokens as a line exactly where the line is well-formed, low enough, and has just those tokens
abbrev pub ReadsExactly : Type 0
ReadsExactly = (ts : List Token) (line : Line) → (line_tree ts ≡ Some line)
    ↔ (IsWellLine line × (line_height line ≤ max_height) × (line_yield line ≡ ts))
