-- The module of lines that are read a part at a time.
use Rattle.std.proofs.Common.{◌≡◌, ◌≢◌, refl, ap, sym, ◌∙◌, ℕ, List, [], ◌∷◌, ◌++◌, Option, None, Some, Result, Ok, Err}
use Rattle.pyc_lex.specs.Lines.{Lexis}
use Rattle.pyc_lex.specs.Lines as lex
use Rattle.pyc_line.specs.declared.fault.ParseFault.{ParseFault}
use Rattle.pyc_line.specs.declared.fault.What.TheVariants as what
use Rattle.pyc_line.specs.LineFault.{number_of, fault_of}
use Rattle.pyc_parse.specs.Blocks.{Placed, blocks}
use Rattle.pyc_parse.specs.Modules.{Module, placed_before, placed_lines, of_blocks, of_lines, module_of}
use Rattle.pyc_parse.proofs.JoinedBlocks.{joined, blocks_join, blocks_none}
use Rattle.pyc_parse.proofs.ModuleLemmas.{with_placed, with_nothing}
use Rattle.pyc_tree.specs.BlockTrees.{Stmts, no_statement}
use Rattle.pyc_tree.specs.Headers.{line_tree}
use Rattle.pyc_tree.specs.Lines.{Line}

-- lines that have trees and make these statements
pub record IsRead (ls : List lex.Line) (found : Stmts) : Type 0 where
  pub lines : List Placed
  pub placed : placed_lines ls ≡ Ok lines
  pub is : blocks lines ≡ Ok found

refused : {A G : Type 0} (fault : ParseFault) (a : A) → ◌≡◌ {A = Result A ParseFault} (Err fault) (Ok a) → G
refused fault a e = absurd (cc)

same_value : {A : Type 0} (a b : A) → ◌≡◌ {A = Result A ParseFault} (Ok a) (Ok b) → a ≡ b
same_value a b e = cc

same_fault : {A : Type 0} (a b : ParseFault) → ◌≡◌ {A = Result A ParseFault} (Err a) (Err b) → a ≡ b
same_fault a b e = cc

cons_with : (l : lex.Line) (t : Line) (ps : List Placed) (o : Result (List Placed) ParseFault)
    → placed_before l (Some t) (with_placed ps o) ≡ with_placed (record { indent = l.indent; number = number_of l.tokens; line = t } ∷ ps) o
cons_with l t ps (Ok qs) = refl
cons_with l t ps (Err fault) = refl

placed_one : (l : lex.Line) (tree : Option Line) (later now others : Result (List Placed) ParseFault) (ps : List Placed) → placed_before l tree later ≡ Ok ps
    → ((qs : List Placed) → later ≡ Ok qs → now ≡ with_placed qs others) → placed_before l tree now ≡ with_placed ps others
placed_one l None later now others ps e go = refused (record { line = number_of l.tokens; what = fault_of l.tokens }) ps e
placed_one l (Some t) (Err fault) now others ps e go = refused fault ps e
placed_one l (Some t) (Ok qs) now others ps e go =
    ap (placed_before l (Some t)) (go qs refl) ∙ (cons_with l t qs others
    ∙ ap (λ (x : List Placed). with_placed x others) (same_value (record { indent = l.indent; number = number_of l.tokens; line = t } ∷ qs) ps e))

-- lines with trees before others
pub placed_on : (ls others : List lex.Line) (ps : List Placed) → placed_lines ls ≡ Ok ps → placed_lines (ls ++ others) ≡ with_placed ps (placed_lines others)
unfolding placed_lines
placed_on [] others ps e =
    sym (with_nothing (placed_lines others)) ∙ ap (λ (x : List Placed). with_placed x (placed_lines others)) (same_value [] ps e)
placed_on (l ∷ ls) others ps e =
    placed_one l (line_tree l.tokens) (placed_lines ls) (placed_lines (ls ++ others)) (placed_lines others) ps e (λ qs is. placed_on ls others qs is)

bad_one : (l : lex.Line) (tree : Option Line) (later now : Result (List Placed) ParseFault) (fault : ParseFault) → placed_before l tree later ≡ Err fault
    → ((reported : ParseFault) → later ≡ Err reported → now ≡ Err reported) → placed_before l tree now ≡ Err fault
bad_one l None later now fault e go = ap {B = Result (List Placed) ParseFault} Err (same_fault (record { line = number_of l.tokens; what = fault_of l.tokens }) fault e)
bad_one l (Some t) (Ok ps) now fault e go = absurd (cc)
bad_one l (Some t) (Err reported) now fault e go = ap (placed_before l (Some t)) (go reported refl) ∙ ap {B = Result (List Placed) ParseFault} Err (same_fault reported fault e)

-- a line without a tree is met before those after it
pub placed_bad_on : (ls others : List lex.Line) (fault : ParseFault) → placed_lines ls ≡ Err fault → placed_lines (ls ++ others) ≡ Err fault
unfolding placed_lines
placed_bad_on [] others fault e = absurd (cc)
placed_bad_on (l ∷ ls) others fault e =
    bad_one l (line_tree l.tokens) (placed_lines ls) (placed_lines (ls ++ others)) fault e (λ reported is. placed_bad_on ls others reported is)

-- ---- parts

pub none_read : IsRead [] no_statement
unfolding placed_lines
none_read = record { lines = []; placed = refl; is = blocks_none }

pub read_join : (ls others : List lex.Line) (found more : Stmts) → IsRead ls found → IsRead others more → IsRead (ls ++ others) (joined found more)
read_join ls others found more first second =
    record {
      lines = first.lines ++ second.lines;
      placed = placed_on ls others first.lines first.placed ∙ ap (with_placed first.lines) second.placed;
      is = blocks_join first.lines second.lines found more first.is second.is;
    }

made_by : (lexis : Lexis) (ps : List Placed) (o : Result Stmts ℕ) (m : Module) → placed_lines lexis.lines ≡ Ok ps → blocks ps ≡ o → of_blocks lexis o ≡ Ok m
    → IsRead lexis.lines m.statements
made_by lexis ps (Err number) m placed is e = refused (record { line = number; what = what.Block }) m e
made_by lexis ps (Ok found) m placed is e =
    let same = same_value (record { statements = found; ignores = lexis.ignores; whole_file = lexis.whole_file }) m e in
    record { lines = ps; placed = placed; is = is ∙ ap {B = Result Stmts ℕ} (λ (x : Module). Ok x.statements) same }

lines_by : (lexis : Lexis) (o : Result (List Placed) ParseFault) (m : Module) → placed_lines lexis.lines ≡ o → of_lines lexis o ≡ Ok m → IsRead lexis.lines m.statements
lines_by lexis (Err fault) m placed e = refused fault m e
lines_by lexis (Ok ps) m placed e = made_by lexis ps (blocks ps) m placed refl e

-- the lines of a module with a tree
pub read_in : (lexis : Lexis) (m : Module) → module_of lexis ≡ Ok m → IsRead lexis.lines m.statements
unfolding module_of
read_in lexis m e = lines_by lexis (placed_lines lexis.lines) m refl e

-- the tree of a module by its lines
pub read_out : (lexis : Lexis) (found : Stmts) → IsRead lexis.lines found
    → module_of lexis ≡ Ok (record { statements = found; ignores = lexis.ignores; whole_file = lexis.whole_file })
unfolding module_of
read_out lexis found read = ap (of_lines lexis) read.placed ∙ ap (of_blocks lexis) read.is

bad_by : (lexis : Lexis) (o : Result (List Placed) ParseFault) (fault : ParseFault) → of_lines lexis o ≡ Err fault → fault.what ≢ what.Block → o ≡ Err fault
bad_by lexis (Err reported) fault e of_line = ap {B = Result (List Placed) ParseFault} Err (same_fault reported fault e)
bad_by lexis (Ok ps) fault e of_line = by_blocks (blocks ps) e
  where
    by_blocks : (o : Result Stmts ℕ) → of_blocks lexis o ≡ Err fault → ◌≡◌ {A = Result (List Placed) ParseFault} (Ok ps) (Err fault)
    by_blocks (Ok found) e = absurd (cc)
    by_blocks (Err number) e = absurd (of_line (sym (ap (λ (x : ParseFault). x.what) (same_fault (record { line = number; what = what.Block }) fault e))))

-- the fault of a module that is one of its lines
pub bad_in : (lexis : Lexis) (fault : ParseFault) → module_of lexis ≡ Err fault → fault.what ≢ what.Block → placed_lines lexis.lines ≡ Err fault
unfolding module_of
bad_in lexis fault e of_line = bad_by lexis (placed_lines lexis.lines) fault e of_line

pub bad_out : (lexis : Lexis) (fault : ParseFault) → placed_lines lexis.lines ≡ Err fault → module_of lexis ≡ Err fault
unfolding module_of
bad_out lexis fault e = ap (of_lines lexis) e

bad_same : (one other : Lexis) (o : Result (List Placed) ParseFault) (fault : ParseFault) → of_lines one o ≡ Err fault → of_lines other o ≡ Err fault
bad_same one other (Err reported) fault e = ap {B = Result Module ParseFault} Err (same_fault reported fault e)
bad_same one other (Ok ps) fault e = by_blocks (blocks ps) e
  where
    by_blocks : (o : Result Stmts ℕ) → of_blocks one o ≡ Err fault → of_blocks other o ≡ Err fault
    by_blocks (Ok found) e = absurd (cc)
    by_blocks (Err number) e = ap {B = Result Module ParseFault} Err (same_fault (record { line = number; what = what.Block }) fault e)

-- a fault does not depend on the comments
pub same_bad : (one other : Lexis) → one.lines ≡ other.lines → (fault : ParseFault) → module_of one ≡ Err fault → module_of other ≡ Err fault
unfolding module_of
same_bad one other same fault e =
    ap (λ ls. of_lines other (placed_lines ls)) (sym same) ∙ bad_same one other (placed_lines one.lines) fault e
