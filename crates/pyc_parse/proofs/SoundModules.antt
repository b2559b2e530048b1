-- The tree of a module holds the logical lines of its source, in text order, each at its indent.
use Rattle.std.proofs.Common.{◌≡◌, refl, ap, sym, ◌∙◌, ℕ, List, [], ◌∷◌, map, Option, None, Some, Result, Ok, Err}
use Rattle.pyc_lex.specs.Lines.{Lexis}
use Rattle.pyc_lex.specs.Lines as lex
use Rattle.pyc_line.specs.declared.fault.ParseFault.{ParseFault}
use Rattle.pyc_line.specs.declared.fault.What.TheVariants as what
use Rattle.pyc_tree.specs.BlockTrees.{Stmts}
use Rattle.pyc_parse.specs.BlockYield.{held, lines_held}
use Rattle.pyc_parse.specs.Blocks.{Placed, blocks}
use Rattle.pyc_tree.specs.Headers.{line_tree}
use Rattle.pyc_line.specs.LineFault.{fault_of, number_of}
use Rattle.pyc_tree.specs.Lines.{Line}
use Rattle.pyc_parse.specs.Modules.{Module, placed_before, placed_lines, of_blocks, of_lines, module_of}
use Rattle.pyc_parse.proofs.SoundBlocks.{indented, blocks_hold}
use Rattle.pyc_line.proofs.SoundLines.{line_sound}

-- the logical lines that placed lines hold
abbrev placed_held : List Placed → List lex.Line
placed_held ps = map held (map indented ps)

refused : {A G : Type 0} (fault : ParseFault) (a : A) → ◌≡◌ {A = Result A ParseFault} (Err fault) (Ok a) → G
refused fault a e = absurd (cc)

same_value : {A : Type 0} (a b : A) → ◌≡◌ {A = Result A ParseFault} (Ok a) (Ok b) → a ≡ b
same_value a b e = cc

-- the tree of a line holds the line
line_held : (l : lex.Line) (t : Line) → line_tree l.tokens ≡ Some t → held (l.indent, t) ≡ l
line_held l t is = ap {B = lex.Line} (λ ts. record { indent = l.indent; tokens = ts }) ((line_sound l.tokens t is).1)

placed_one : (l : lex.Line) (ls : List lex.Line) (ps : List Placed) (tree : Option Line) (later : Result (List Placed) ParseFault)
    → line_tree l.tokens ≡ tree → ((rest : List Placed) → later ≡ Ok rest → placed_held rest ≡ ls)
    → placed_before l tree later ≡ Ok ps → placed_held ps ≡ l ∷ ls
placed_one l ls ps None later is hold e = refused (record { line = number_of l.tokens; what = fault_of l.tokens }) ps e
placed_one l ls ps (Some t) (Err fault) is hold e = refused fault ps e
placed_one l ls ps (Some t) (Ok rest) is hold e =
    ap placed_held (sym (same_value (record { indent = l.indent; number = number_of l.tokens; line = t } ∷ rest) ps e))
    ∙ (ap (λ x. x ∷ placed_held rest) (line_held l t is) ∙ ap (λ xs. l ∷ xs) (hold rest refl))

-- the lines with their trees hold the lines
placed_hold : (ls : List lex.Line) (ps : List Placed) → placed_lines ls ≡ Ok ps → placed_held ps ≡ ls
unfolding placed_lines
placed_hold [] ps e = ap placed_held (sym (same_value [] ps e))
placed_hold (l ∷ ls) ps e = placed_one l ls ps (line_tree l.tokens) (placed_lines ls) refl (placed_hold ls) e

-- the statements of lines with their trees hold the lines
pub statements_hold : (ls : List lex.Line) (ps : List Placed) (found : Stmts) → placed_lines ls ≡ Ok ps → blocks ps ≡ Ok found → lines_held found ≡ ls
unfolding lines_held
statements_hold ls ps found placed is = sym (ap (map held) (blocks_hold ps found is)) ∙ placed_hold ls ps placed

of_blocks_hold : (lexis : Lexis) (ps : List Placed) (found : Result Stmts ℕ) (m : Module) → placed_lines lexis.lines ≡ Ok ps → blocks ps ≡ found
    → of_blocks lexis found ≡ Ok m → lines_held m.statements ≡ lexis.lines
of_blocks_hold lexis ps (Err number) m placed is e = refused (record { line = number; what = what.Block }) m e
of_blocks_hold lexis ps (Ok found) m placed is e =
    let made : Module = record { statements = found; ignores = lexis.ignores; whole_file = lexis.whole_file } in
    ap (λ (x : Module). lines_held x.statements) (sym (same_value made m e)) ∙ statements_hold lexis.lines ps found placed is

of_lines_hold : (lexis : Lexis) (found : Result (List Placed) ParseFault) (m : Module) → placed_lines lexis.lines ≡ found → of_lines lexis found ≡ Ok m
    → lines_held m.statements ≡ lexis.lines
of_lines_hold lexis (Err fault) m placed e = refused fault m e
of_lines_hold lexis (Ok ps) m placed e = of_blocks_hold lexis ps (blocks ps) m placed refl e

-- the tree of a module holds each line of its source once, in text order and at its indent
pub modules_hold : (lexis : Lexis) (m : Module) → module_of lexis ≡ Ok m → lines_held m.statements ≡ lexis.lines
unfolding module_of
modules_hold lexis m e = of_lines_hold lexis (placed_lines lexis.lines) m refl e
