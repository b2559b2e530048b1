-- The statements of a module that is lowered a part at a time.
use Rattle.std.proofs.Common.{◌≡◌, ◌≢◌, refl, ap, sym, ◌∙◌, subst, ℕ, Bool, true, false, ◌||◌, List, [], ◌∷◌, ◌++◌, append_assoc, map, Option, None, Some, Result, Ok, Err}
use Rattle.std.proofs.lemmas.List.{append-nil}
use Rattle.pyc_ast.specs.declared.position.Position.{Position}
use Rattle.pyc_ast.specs.Exprs.{Expr}
use Rattle.pyc_lex.specs.declared.logical_lines.LogicalLine.{LogicalLine}
use Rattle.pyc_lex.specs.Lines as lex
use Rattle.pyc_lex.specs.View.{line_in}
use Rattle.pyc_line.specs.declared.fault.ParseFault.{ParseFault}
use Rattle.pyc_line.specs.declared.fault.What.{What}
use Rattle.pyc_line.specs.declared.fault.What.TheVariants as what
use Rattle.pyc_lower.specs.declared.parts.Lowered.{Lowered}
use Rattle.pyc_lower.specs.declared.parts.Parts.{Parts}
use Rattle.pyc_lower.specs.declared.parts.Parts.TheVariants as parts
use Rattle.pyc_lower.specs.Parts.{Statements, alone, statements_in, part_in, added, lowered_of, of_what, parts_of_fault, AddsPart, AnswersParts}
use Rattle.pyc_lower_atom.specs.Origins.{Origin}
use Rattle.pyc_lower_block.specs.Blocks.{stmts_in, stmt_in}
use Rattle.pyc_lower_block.specs.Suspends.{stmts_suspend, stmt_suspends}
use Rattle.pyc_parse.proofs.JoinedBlocks.{joined}
use Rattle.pyc_parse.proofs.JoinedModules.{IsRead, none_read, read_join, read_in, read_out, bad_in, bad_out, placed_on, placed_bad_on}
use Rattle.pyc_parse.proofs.ModuleLemmas.{with_placed}
use Rattle.pyc_parse.specs.Modules as concrete
use Rattle.pyc_parse.specs.Modules.{module_of, placed_lines}
use Rattle.pyc_tree.specs.BlockTrees.{Stmts, no_statement, statement}

or_assoc : (a b c : Bool) → (a || b) || c ≡ a || (b || c)
or_assoc true b c = refl
or_assoc false b c = refl

line_push : (front : List LogicalLine) (l : LogicalLine) → map line_in (front ++ l ∷ []) ≡ map line_in front ++ line_in l ∷ []
line_push [] l = refl
line_push (k ∷ front) l = ap (λ (ls : List lex.Line). line_in k ∷ ls) (line_push front l)

module _ (spelled : List ℕ → Position → Option Expr) (o : Origin) where
  stmts_join : (found more : Stmts) → stmts_in spelled o (joined found more) ≡ stmts_in spelled o found ++ stmts_in spelled o more
  unfolding stmts_in
  stmts_join no_statement more = refl
  stmts_join (statement s ss) more =
      ap (λ xs. stmt_in spelled o s ++ xs) (stmts_join ss more) ∙ sym (append_assoc (stmt_in spelled o s) (stmts_in spelled o ss) (stmts_in spelled o more))

  suspend_join : (found more : Stmts) → stmts_suspend (joined found more) ≡ stmts_suspend found || stmts_suspend more
  unfolding stmts_suspend
  suspend_join no_statement more = refl
  suspend_join (statement s ss) more =
      ap (λ b. stmt_suspends s || b) (suspend_join ss more) ∙ sym (or_assoc (stmt_suspends s) (stmts_suspend ss) (stmts_suspend more))

  -- the statements that lines are
  pub record IsLowered (lines : List lex.Line) (now : Statements) : Type 0 where
    pub found : Stmts
    pub read : IsRead lines found
    pub made : now ≡ (stmts_in spelled o found, stmts_suspend found)

  pub none_lowered : IsLowered [] ([], false)
  unfolding stmts_in stmts_suspend
  none_lowered = record { found = no_statement; read = none_read; made = refl }

  joined_pair : (found more : Stmts) → ◌≡◌ {A = Statements} (stmts_in spelled o found ++ stmts_in spelled o more, stmts_suspend found || stmts_suspend more)
      (stmts_in spelled o (joined found more), stmts_suspend (joined found more))
  joined_pair found more =
      ap {B = Statements} (λ xs. (xs, stmts_suspend found || stmts_suspend more)) (sym (stmts_join found more))
      ∙ ap {B = Statements} (λ b. (stmts_in spelled o (joined found more), b)) (sym (suspend_join found more))

  part_by : (lines part : List lex.Line) (old new : Statements) → IsLowered lines old → (m : Result concrete.Module ParseFault) → module_of (alone part) ≡ m
      → added old (statements_in spelled o m) ≡ Ok new → IsLowered (lines ++ part) new
  part_by lines part old new is (Err fault) read e = absurd (cc)
  part_by lines part old new is (Ok m) read e =
      let same : (old.0 ++ stmts_in spelled o m.statements, old.1 || stmts_suspend m.statements) ≡ new = cc in
      record {
        found = joined is.found m.statements;
        read = read_join lines part is.found m.statements is.read (read_in (alone part) m read);
        made = sym same
            ∙ (ap {B = Statements} (λ (x : Statements). (x.0 ++ stmts_in spelled o m.statements, x.1 || stmts_suspend m.statements)) is.made
            ∙ joined_pair is.found m.statements);
      }

  -- a part is added
  pub part_lowered : (lines part : List lex.Line) (old new : Statements) → IsLowered lines old → added old (part_in spelled o part) ≡ Ok new
      → IsLowered (lines ++ part) new
  part_lowered lines part old new is e = part_by lines part old new is (module_of (alone part)) refl e

  -- all lines are lowered
  pub all_lowered : (lines : List lex.Line) (now : Statements) → IsLowered lines now → part_in spelled o lines ≡ Ok now
  all_lowered lines now is =
      ap (statements_in spelled o) (read_out (alone lines) is.found is.read) ∙ ap {B = Result Statements ParseFault} Ok (sym is.made)

  bad_by : (lines part more : List lex.Line) (now : Statements) (fault : ParseFault) → IsLowered lines now → (m : Result concrete.Module ParseFault) → module_of (alone part) ≡ m
      → statements_in spelled o m ≡ Err fault → fault.what ≢ what.Block → part_in spelled o (lines ++ (part ++ more)) ≡ Err fault
  bad_by lines part more now fault is (Ok m) read e expression_of_line = absurd (cc)
  bad_by lines part more now fault is (Err reported) read e expression_of_line =
      let same : reported ≡ fault = cc in
      let bad = bad_in (alone part) fault (read ∙ ap {B = Result concrete.Module ParseFault} Err same) expression_of_line in
      ap (statements_in spelled o) (bad_out (alone (lines ++ (part ++ more))) fault
      (placed_on lines (part ++ more) is.read.lines is.read.placed ∙ ap (with_placed is.read.lines) (placed_bad_on part more fault bad)))

  -- the fault of a line of a part is that of the whole
  pub part_bad : (lines part more : List lex.Line) (now : Statements) (fault : ParseFault) → IsLowered lines now → part_in spelled o part ≡ Err fault
      → fault.what ≢ what.Block → part_in spelled o (lines ++ (part ++ more)) ≡ Err fault
  part_bad lines part more now fault is e expression_of_line = bad_by lines part more now fault is (module_of (alone part)) refl e expression_of_line

  -- ---- the lines of a loop

  -- the lines that are lowered, then those of the part, then those that are left are all
  pub record IsParted (all part rest : List lex.Line) (now : Statements) : Type 0 where
    pub lines : List lex.Line
    pub lowered_lines : IsLowered lines now
    pub whole : lines ++ (part ++ rest) ≡ all

  pub parted_first : (all : List lex.Line) → IsParted all [] all ([], false)
  parted_first all = record { lines = []; lowered_lines = none_lowered; whole = refl }

  -- one more line in the part
  pub parted_more : (all part rest after : List lex.Line) (l : lex.Line) (now : Statements) → IsParted all part rest now → rest ≡ l ∷ after
      → IsParted all (part ++ l ∷ []) after now
  parted_more all part rest after l now is next =
      record {
        lines = is.lines;
        lowered_lines = is.lowered_lines;
        whole = ap (λ ls. is.lines ++ ls) (append_assoc part (l ∷ []) after ∙ ap (λ ls. part ++ ls) (sym next)) ∙ is.whole;
      }

  -- the part is lowered
  pub parted_added : (all part rest : List lex.Line) (old new : Statements) → IsParted all part rest old → added old (part_in spelled o part) ≡ Ok new
      → IsParted all [] rest new
  parted_added all part rest old new is e =
      record {
        lines = is.lines ++ part;
        lowered_lines = part_lowered is.lines part old new is.lowered_lines e;
        whole = append_assoc is.lines part rest ∙ is.whole;
      }

  pub parted_bad : (all part rest : List lex.Line) (now : Statements) (fault : ParseFault) → IsParted all part rest now → part_in spelled o part ≡ Err fault
      → fault.what ≢ what.Block → part_in spelled o all ≡ Err fault
  parted_bad all part rest now fault is e expression_of_line =
      ap (part_in spelled o) (sym is.whole) ∙ part_bad is.lines part rest now fault is.lowered_lines e expression_of_line

  -- no line is left
  pub parted_last : (all part : List lex.Line) (old new : Statements) → IsParted all part [] old → added old (part_in spelled o part) ≡ Ok new
      → part_in spelled o all ≡ Ok new
  parted_last all part old new is e =
      ap (part_in spelled o) (sym is.whole ∙ (ap (λ ls. is.lines ++ ls) (append-nil part)))
      ∙ all_lowered (is.lines ++ part) new (part_lowered is.lines part old new is.lowered_lines e)

  -- ---- the lines of a loop, as values of the code

  pub parted_as : (all rest : List lex.Line) {p q : List LogicalLine} {x y : Statements} → p ≡ q → x ≡ y → IsParted all (map line_in q) rest y
      → IsParted all (map line_in p) rest x
  parted_as all rest {p} {q} {x} {y} same so is =
      subst (λ (ls : List LogicalLine). IsParted all (map line_in ls) rest x) (sym same)
      (subst (λ (now : Statements). IsParted all (map line_in q) rest now) (sym so) is)

  pub parted_pushed : (all : List lex.Line) (part before after pushed : List LogicalLine) (l : LogicalLine) (now : Statements)
      → IsParted all (map line_in part) (map line_in before) now → before ≡ l ∷ after → pushed ≡ part ++ l ∷ []
      → IsParted all (map line_in pushed) (map line_in after) now
  parted_pushed all part before after pushed l now is next more =
      subst (λ (ls : List lex.Line). IsParted all ls (map line_in after) now) (sym (ap (λ (ls : List LogicalLine). map line_in ls) more ∙ line_push part l))
      (parted_more all (map line_in part) (map line_in before) (map line_in after) (line_in l) now is (ap (λ (ls : List LogicalLine). map line_in ls) next))

-- what a part was found to be
pub adds_some : (part : Result Statements ParseFault) (old new : Statements) (o : Option ParseFault) (fault : ParseFault) → AddsPart part old o new → o ≡ Some fault
    → part ≡ Err fault
adds_some part old new (Some reported) fault is so = is ∙ ap {B = Result Statements ParseFault} Err (cc)
adds_some part old new None fault is so = absurd (cc)

pub adds_none : (part : Result Statements ParseFault) (old new : Statements) (o : Option ParseFault) → AddsPart part old o new → o ≡ None → added old part ≡ Ok new
adds_none part old new None is so = is
adds_none part old new (Some reported) is so = absurd (cc)

answers_by : (expected : Result Statements ParseFault) (fault : ParseFault) (w : What) → fault.what ≡ w → (fault.what ≢ what.Block → expected ≡ Err fault)
    → AnswersParts expected (of_what w fault)
answers_by expected fault what.Block is reported = tt
answers_by expected fault what.Line is reported = reported (λ same. absurd (cc))
answers_by expected fault what.OutsideProfile is reported = reported (λ same. absurd (cc))
answers_by expected fault what.Memory is reported = reported (λ same. absurd (cc))

-- what is answered where a part has a fault
pub answers_part : (expected : Result Statements ParseFault) (fault : ParseFault) (r : Parts) → r ≡ parts_of_fault fault → (fault.what ≢ what.Block → expected ≡ Err fault)
    → AnswersParts expected r
answers_part expected fault r is reported = subst (AnswersParts expected) (sym is) (answers_by expected fault fault.what refl reported)

pub answers_lowered : (expected : Result Statements ParseFault) (r : Parts) (found : Lowered) → AnswersParts expected r → r ≡ parts.Lowered found
    → expected ≡ Ok (lowered_of found)
answers_lowered expected r found is so = subst (AnswersParts expected) so is

pub answers_fault : (expected : Result Statements ParseFault) (r : Parts) (fault : ParseFault) → AnswersParts expected r → r ≡ parts.Fault fault → expected ≡ Err fault
answers_fault expected r fault is so = subst (AnswersParts expected) so is
