-- The lines of a source are at most as high as the profile allows, and so are its blocks.
use Rattle.std.proofs.Common.{◌≡◌, ◌≤◌, refl, arith, ℕ, nat_le, Bool, true, false, if◌then◌else◌, List, [], ◌∷◌, Option, None, Some, Ok, Err, Result}
use Rattle.std.proofs.lemmas.Bool.{leb-true}
use Rattle.pyc_height_laws.proofs.BlockHeights.{stmts_top}
use Rattle.pyc_height_laws.proofs.LineLemmas.{lines_top, AreBlocksLow, blocks_low}
use Rattle.pyc_lex.specs.Lines.{Lexis}
use Rattle.pyc_lex.specs.Lines as lex
use Rattle.pyc_line.specs.declared.fault.ParseFault.{ParseFault}
use Rattle.pyc_parse.specs.Blocks.{Placed, blocks}
use Rattle.pyc_parse.specs.Modules.{Module, placed_before, placed_lines, of_blocks, of_lines, module_of}
use Rattle.pyc_token.specs.declared.tokens.Token.{Token}
use Rattle.pyc_tree.specs.BlockTrees.{Stmts}
use Rattle.pyc_tree.specs.Expressions.{expression}
use Rattle.pyc_tree.specs.Headers.{any_line, complete, line_tree}
use Rattle.pyc_tree.specs.Height.{max_height}
use Rattle.pyc_tree.specs.Lines.{Line, line_height}
use Rattle.pyc_tree.specs.Parser.{Parsed}

-- a line that is read is at most so high
abbrev IsLineLow : Option Line → Type 0
IsLineLow None = Unit {0}
IsLineLow (Some l) = line_height l ≤ max_height

tested_low : (l : Line) (b : Bool) → nat_le (line_height l) max_height ≡ b → IsLineLow (if b then Some l else None)
tested_low l true is = leb-true (line_height l) max_height is
tested_low l false is = tt

complete_low : (read : Parsed Line) → IsLineLow (complete read)
complete_low None = tt
complete_low (Some (l, [])) = tested_low l (nat_le (line_height l) max_height) refl
complete_low (Some (l, t ∷ ts)) = tt

line_low : (ts : List Token) → IsLineLow (line_tree ts)
unfolding line_tree
line_low ts = complete_low (any_line expression ts)

-- lines with their trees are at most so high
abbrev ArePlacedLow : Result (List Placed) ParseFault → Type 0
ArePlacedLow (Ok ps) = lines_top ps ≤ max_height
ArePlacedLow (Err reported) = Unit {0}

before_low : (l : lex.Line) (t : Option Line) (later : Result (List Placed) ParseFault) → IsLineLow t → ArePlacedLow later
    → ArePlacedLow (placed_before l t later)
before_low l None later low lows = tt
before_low l (Some t) (Ok ps) low lows = omega arith
before_low l (Some t) (Err reported) low lows = tt

placed_low : (ls : List lex.Line) → ArePlacedLow (placed_lines ls)
unfolding placed_lines
placed_low [] = omega arith
placed_low (l ∷ ls) = before_low l (line_tree l.tokens) (placed_lines ls) (line_low l.tokens) (placed_low ls)

-- the statements of a module are at most so high
abbrev pub IsModuleLow : Result Module ParseFault → Type 0
IsModuleLow (Ok found) = stmts_top found.statements ≤ max_height
IsModuleLow (Err reported) = Unit {0}

of_blocks_low : (lexis : Lexis) (r : Result Stmts ℕ) → AreBlocksLow max_height r → IsModuleLow (of_blocks lexis r)
of_blocks_low lexis (Ok found) low = low
of_blocks_low lexis (Err number) low = tt

of_lines_low : (lexis : Lexis) (r : Result (List Placed) ParseFault) → ArePlacedLow r → IsModuleLow (of_lines lexis r)
of_lines_low lexis (Ok ps) low = of_blocks_low lexis (blocks ps) (blocks_low max_height ps low)
of_lines_low lexis (Err reported) low = tt

pub module_low : (lexis : Lexis) → IsModuleLow (module_of lexis)
unfolding module_of
module_low lexis = of_lines_low lexis (placed_lines lexis.lines) (placed_low lexis.lines)
