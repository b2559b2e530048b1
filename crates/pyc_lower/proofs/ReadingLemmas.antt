-- What a source is, by its scan.
use Rattle.std.proofs.Common.{◌≡◌, refl, ap, sym, ◌∙◌, ℕ, Bool, List, [], map, Option, None, Some, Result, Ok, Err, IfOk, IfSome}
use Rattle.pyc_ast.specs.declared.module.Outcome.{Outcome as OutcomeOf}
use Rattle.pyc_ast.specs.Modules.{Outcome, Ignore, tree, outcome_of as made_of}
use Rattle.pyc_ast.specs.Statements.{Stmt, stmts}
use Rattle.pyc_lex.specs.declared.fault.LexFault.{LexFault}
use Rattle.pyc_lex.specs.Lines.{Lexis, lines_of}
use Rattle.pyc_line.specs.declared.fault.ParseFault.{ParseFault}
use Rattle.pyc_lower.specs.Ignores.{ignore_in}
use Rattle.pyc_lower.specs.Parts.{Statements, alone, statements_in, lines_in}
use Rattle.pyc_lower.specs.Reading.{module_in, outcome_in, read_of}
use Rattle.pyc_lower.specs.Strings.{spelled}
use Rattle.pyc_lower_block.specs.Blocks.{stmts_in}
use Rattle.pyc_lower_block.specs.Suspends.{stmts_suspend}
use Rattle.pyc_parse.specs.declared.file_outcome.Fault.{Fault as FaultOf}
use Rattle.pyc_parse.proofs.JoinedModules.{read_in, read_out, same_bad}
use Rattle.pyc_parse.specs.Modules as concrete
use Rattle.pyc_parse.specs.Modules.{module_of}
use Rattle.pyc_parse.specs.Outcome.{fault_in, lexical_outcome, parse_outcome, scan_outcome, outcome_of}

-- a module with the parts that the definition gives it
module_made : (source : List ℕ) (found : concrete.Module) (statements : List Stmt) (suspends : Bool) (ignores : List Ignore)
    → statements ≡ stmts_in spelled (record { source = source; string = None }) found.statements
    → suspends ≡ stmts_suspend found.statements → ignores ≡ map (ignore_in source) found.ignores
    → record { statements = stmts statements; suspends = suspends; ignores = ignores; whole_file = found.whole_file }
    ≡ module_in source found
unfolding module_in
module_made source found statements suspends ignores one two three = rw one (rw two (rw three refl))

made_by : (source : List ℕ) (lexis : Lexis) (now : Statements) (ignores : List Ignore) (o : Result concrete.Module ParseFault) → module_of (alone lexis.lines) ≡ o
    → statements_in spelled (record { source = source; string = None }) o ≡ Ok now → ignores ≡ map (ignore_in source) lexis.ignores
    → tree (record { statements = stmts now.0; suspends = now.1; ignores = ignores; whole_file = lexis.whole_file }) ≡ outcome_in source (parse_outcome (module_of lexis))
made_by source lexis now ignores (Err fault) is e comments = absurd (cc)
made_by source lexis now ignores (Ok m) is e comments =
    let made : concrete.Module = record { statements = m.statements; ignores = lexis.ignores; whole_file = lexis.whole_file } in
    let same : ◌≡◌ {A = Statements} (stmts_in spelled (record { source = source; string = None }) m.statements, stmts_suspend m.statements) now = cc in
    ap {B = Outcome} tree (module_made source made now.0 now.1 ignores (sym (ap (λ (x : Statements). x.0) same)) (sym (ap (λ (x : Statements). x.1) same)) comments)
    ∙ ap (λ o. outcome_in source (parse_outcome o)) (sym (read_out lexis m.statements (read_in (alone lexis.lines) m is)))

-- lines that are lowered, with their comments
pub lines_made : (source : List ℕ) (lexis : Lexis) (now : Statements) (ignores : List Ignore) → lines_in source lexis.lines ≡ Ok now
    → ignores ≡ map (ignore_in source) lexis.ignores
    → tree (record { statements = stmts now.0; suspends = now.1; ignores = ignores; whole_file = lexis.whole_file }) ≡ outcome_in source (parse_outcome (module_of lexis))
lines_made source lexis now ignores e comments = made_by source lexis now ignores (module_of (alone lexis.lines)) refl e comments

bad_by : (source : List ℕ) (lexis : Lexis) (fault : ParseFault) (o : Result concrete.Module ParseFault) → module_of (alone lexis.lines) ≡ o
    → statements_in spelled (record { source = source; string = None }) o ≡ Err fault → module_of lexis ≡ Err fault
bad_by source lexis fault (Ok m) is e = absurd (cc)
bad_by source lexis fault (Err reported) is e =
    same_bad (alone lexis.lines) lexis refl reported is ∙ ap {B = Result concrete.Module ParseFault} Err (cc)

-- lines with a fault
pub lines_bad : (source : List ℕ) (lexis : Lexis) (fault : ParseFault) (reported : FaultOf) (o : Outcome) → lines_in source lexis.lines ≡ Err fault
    → fault_in reported ≡ parse_outcome (Err fault) → o ≡ outcome_in [] (fault_in reported) → o ≡ outcome_in source (parse_outcome (module_of lexis))
lines_bad source lexis fault reported o e is made =
    made ∙ (ap (outcome_in source) is ∙ ap (λ x. outcome_in source (parse_outcome x)) (sym (bad_by source lexis fault (module_of (alone lexis.lines)) refl e)))

read_scanned : (source : List ℕ) (lexis : Lexis) (o : Outcome) → lines_of source ≡ Ok lexis → o ≡ outcome_in source (parse_outcome (module_of lexis)) → o ≡ read_of source
unfolding read_of outcome_of
read_scanned source lexis o lines is = is ∙ ap (λ x. outcome_in source (scan_outcome x)) (sym lines)

-- a source with these logical lines
pub read_lines : {E : Type 0} (source : List ℕ) (lexis : Lexis) (r : Result (Option OutcomeOf) E) → lines_of source ≡ Ok lexis
    → IfOk r (λ found. IfSome found (λ o. made_of o ≡ outcome_in source (parse_outcome (module_of lexis)))) → IfOk r (λ found. IfSome found (λ o. made_of o ≡ read_of source))
read_lines source lexis (Ok None) lines is = tt
read_lines source lexis (Ok (Some o)) lines is = read_scanned source lexis (made_of o) lines is
read_lines source lexis (Err e) lines is = tt

-- a source with this lexical fault
pub read_lexical : (source : List ℕ) (fault : LexFault) (reported : FaultOf) (o : Outcome) → lines_of source ≡ Err fault → fault_in reported ≡ lexical_outcome fault
    → o ≡ outcome_in [] (fault_in reported) → o ≡ read_of source
unfolding read_of outcome_of
read_lexical source fault reported o lines is made =
    made ∙ (ap (outcome_in source) is ∙ ap (λ x. outcome_in source (scan_outcome x)) (sym lines))
