-- Lines that are blocks by themselves, before others that are, make the statements of both.
use Rattle.std.proofs.Common.{◌≡◌, refl, ap, sym, ◌∙◌, ℕ, zero, suc, ◌+◌, ◌≤◌, ◌<◌, Bool, true, false, nat_lt, ◌==◌, ◌&&◌, if◌then◌else◌, List, [], ◌∷◌, ◌++◌, Option, None, Some, Ok, Err, length, length-append, arith}
use Rattle.std.proofs.lemmas.List.{append-nil, length-map}
use Rattle.std.proofs.lemmas.Bool.{ltb-false, false≢true}
use Rattle.pyc_tree.specs.declared.block.After.{After}
use Rattle.pyc_tree.specs.declared.block.After.TheVariants as after
use Rattle.pyc_tree.specs.declared.block.Form.{Form}
use Rattle.pyc_tree.specs.declared.block.Form.TheVariants as form
use Rattle.pyc_tree.specs.declared.block.Next.{Next}
use Rattle.pyc_tree.specs.declared.block.Next.TheVariants as next
use Rattle.pyc_tree.specs.BlockTrees.{Decorator, Stmt, simple, compound, CompoundClause, clause, CompoundClauses, no_clause, another, Suite, inline, block, Stmts, no_statement, statement}
use Rattle.pyc_parse.specs.BlockYield.{IndentedLine, clause_yield}
use Rattle.pyc_parse.specs.Blocks.{Placed, BlocksParsed, Parser, and_then, pure, take_one, form_of, follows, is_handler, handler_follows, next_of_header, next_of, next_of_line, follower, line_follows, under, number_of, is_decorator, is_definition, simple_line, statements_of, decorator_line, decorator_of, decorators, all_decorators, suite, suite_under, clause_of, one_clause, clause_by, next_clause, clauses_after, clauses, all_clauses, compound_statement, definition, decorated_definition, statement_by, next_statement, statements_after, statements, all_statements, block_at, module_of, blocks}
use Rattle.pyc_parse.proofs.SoundBlocks.{indented, IsYield, refused, parts, bind, stands, tested, decorator_stands, definition_stands, under_is, either, Holds, follower_here, fewer, beginning_goes, ends, over, statement_ok, clause_ok, decorated_definition_ok, clause_some, block_holds}
use Rattle.pyc_tree.specs.Lines.{Header, Line}
use Rattle.pyc_tree.specs.Lines as line
use Rattle.pyc_tree.specs.Statements.{SimpleStatement, Separated, no_item, last_item, item}

-- statements before others
abbrev pub joined : Stmts → Stmts → Stmts
joined no_statement more = more
joined (statement s ss) more = statement s (joined ss more)

joined_none : (found : Stmts) → joined found no_statement ≡ found
joined_none no_statement = refl
joined_none (statement s ss) = ap (statement s) (joined_none ss)

taken_if : {X : Type 0} (b : Bool) (x y z : X) → b ≡ true → x ≡ z → (if b then x else y) ≡ z
taken_if true x y z e is = is
taken_if false x y z e is = absurd (false≢true e)

passed_if : {X : Type 0} (b : Bool) (x y z : X) → b ≡ false → y ≡ z → (if b then x else y) ≡ z
passed_if true x y z e is = absurd (false≢true (sym e))
passed_if false x y z e is = is

-- lines that end every block but the first, and every statement
record EndsAll (others : List Placed) : Type 0 where
  no_follower : (so : After) (indent : ℕ) → follower so indent others ≡ None
  ends_blocks : (indent : ℕ) → 1 ≤ indent → next_of indent others ≡ next.End

-- a part that is passed over has a line
some_left : (ps rest : List Placed) (xs : List IndentedLine) → IsYield ps xs rest → 1 ≤ length xs → length rest < length ps
some_left ps rest xs is some =
    let all = ap length is ∙ length-append xs (Rattle.std.proofs.Common.map indented rest) in
    let whole = length-map ps indented in let left = length-map rest indented in omega (arith, all, whole, left, some)

mark_by : (p : Placed) (l : Line) (ps : List Placed) (d : Decorator) (later : List Placed) → decorator_of p l ps ≡ Ok (d, later) → ps ≡ later
mark_by p (line.decorator t v) ps d later e = parts (record { mark = t; value = v }) d ps later e (λ same left. left)
mark_by p (line.simple found) ps d later e = refused p.number (d, later) e
mark_by p (line.header h colon found) ps d later e = refused p.number (d, later) e

mark_left : (ps : List Placed) (d : Decorator) (later : List Placed) → decorator_line ps ≡ Ok (d, later) → length later < length ps
unfolding decorator_line take_one
mark_left [] d later e = refused 0 (d, later) e
mark_left (p ∷ ps) d later e = let same = ap {B = ℕ} (λ qs. length qs) (mark_by p p.line ps d later e) in omega (arith, same)

no_mark : (n indent : ℕ) (marks : List Decorator) (rest : List Placed) → decorators n indent [] ≡ Ok (marks, rest) → rest ≡ []
unfolding decorators next_of
no_mark zero indent marks rest e = parts [] marks [] rest e (λ same left. sym left)
no_mark (suc n) indent marks rest e = parts [] marks [] rest e (λ same left. sym left)

no_definition : {G : Type 0} (indent : ℕ) (rest : List Placed) → is_definition (next_of indent rest) ≡ true → rest ≡ [] → G
unfolding next_of
no_definition indent rest is none = absurd (false≢true (sym (ap (λ qs. is_definition (next_of indent qs)) none) ∙ is))

module _ (others : List Placed) (ends_all : EndsAll others) where
  -- what is read before the others is what is read alone
  abbrev Same : {A : Type 0} → Parser A → Type 0
  Same {A} p = (ps : List Placed) (a : A) (rest : List Placed) → p ps ≡ Ok (a, rest) → p (ps ++ others) ≡ Ok (a, rest ++ others)

  given : {A : Type 0} (a b : A) (ps rest : List Placed) → ◌≡◌ {A = BlocksParsed A} (Ok (a, ps)) (Ok (b, rest))
      → ◌≡◌ {A = BlocksParsed A} (Ok (a, ps ++ others)) (Ok (b, rest ++ others))
  given {A} a b ps rest e =
      parts a b ps rest e (λ same left.
      ap {B = BlocksParsed A} (λ x. Ok (x, ps ++ others)) same ∙ ap {B = BlocksParsed A} (λ qs. Ok (b, qs ++ others)) left)

  then_on : {A X : Type 0} (o p : BlocksParsed A) (f g : A → Parser X) (x : X) (rest : List Placed) → and_then o f ≡ Ok (x, rest)
      → ((a : A) (later : List Placed) → o ≡ Ok (a, later) → f a later ≡ Ok (x, rest) → p ≡ Ok (a, later ++ others))
      → ((a : A) (later : List Placed) → o ≡ Ok (a, later) → f a later ≡ Ok (x, rest) → g a (later ++ others) ≡ Ok (x, rest ++ others))
      → and_then p g ≡ Ok (x, rest ++ others)
  then_on (Ok r) p f g x rest e first second = ap (λ y. and_then y g) (first r.0 r.1 refl e) ∙ second r.0 r.1 refl e
  then_on (Err number) p f g x rest e first second = refused number (x, rest) e

  -- ---- what stands next

  handled_by : (deeper found more own : Bool) → (found ≡ true → more ≡ true) → (if deeper then found else own) ≡ true → (if deeper then more else own) ≡ true
  handled_by true found more own go e = go e
  handled_by false found more own go e = e

  handler_follows_on : (indent : ℕ) (ps : List Placed) → handler_follows indent ps ≡ true → handler_follows indent (ps ++ others) ≡ true
  handler_follows_on indent [] e = absurd (false≢true e)
  handler_follows_on indent (p ∷ ps) e =
      handled_by (nat_lt indent p.indent) (handler_follows indent ps) (handler_follows indent (ps ++ others)) (p.indent == indent && is_handler p.line) (handler_follows_on indent ps) e

  try_on : (number : ℕ) (was now : Bool) (found : Next) → (was ≡ true → now ≡ true) → (if was then next.Header after.Try else next.Fault number) ≡ found
      → stands found ≡ true → (if now then next.Header after.Try else next.Fault number) ≡ found
  try_on number true now found go e so = taken_if now (next.Header after.Try) (next.Fault number) found (go refl) e
  try_on number false now found go e so = absurd (false≢true (ap stands e ∙ so))

  next_of_header_on : (number indent : ℕ) (ps : List Placed) (f : Form) (found : Next) → next_of_header number indent ps f ≡ found → stands found ≡ true
      → next_of_header number indent (ps ++ others) f ≡ found
  next_of_header_on number indent ps form.If found e so = e
  next_of_header_on number indent ps form.Elif found e so = e
  next_of_header_on number indent ps form.Else found e so = e
  next_of_header_on number indent ps form.While found e so = e
  next_of_header_on number indent ps form.For found e so = e
  next_of_header_on number indent ps form.Try found e so = try_on number (handler_follows indent ps) (handler_follows indent (ps ++ others)) found (handler_follows_on indent ps) e so
  next_of_header_on number indent ps form.Except found e so = e
  next_of_header_on number indent ps form.Finally found e so = e
  next_of_header_on number indent ps form.With found e so = e
  next_of_header_on number indent ps form.Definition found e so = e

  next_of_line_on : (number indent : ℕ) (ps : List Placed) (l : Line) (found : Next) → next_of_line number indent ps l ≡ found → stands found ≡ true
      → next_of_line number indent (ps ++ others) l ≡ found
  next_of_line_on number indent ps (line.simple x) found e so = e
  next_of_line_on number indent ps (line.header h colon x) found e so = next_of_header_on number indent ps (form_of h) found e so
  next_of_line_on number indent ps (line.decorator t v) found e so = e

  next_by : (a b : Bool) (number : ℕ) (was now found : Next) → (was ≡ found → now ≡ found)
      → (if a then next.End else if b then next.Fault number else was) ≡ found → (if a then next.End else if b then next.Fault number else now) ≡ found
  next_by true b number was now found go e = e
  next_by false true number was now found go e = e
  next_by false false number was now found go e = go e

  next_on : (indent : ℕ) (ps : List Placed) (found : Next) → next_of indent ps ≡ found → stands found ≡ true → next_of indent (ps ++ others) ≡ found
  unfolding next_of
  next_on indent [] found e so = absurd (false≢true (ap stands e ∙ so))
  next_on indent (p ∷ ps) found e so =
      next_by (nat_lt p.indent indent) (nat_lt indent p.indent) p.number (next_of_line p.number indent ps p.line) (next_of_line p.number indent (ps ++ others) p.line) found
      (λ was. next_of_line_on p.number indent ps p.line found was so) e

  end_on : (indent : ℕ) → 1 ≤ indent → (ps : List Placed) → next_of indent ps ≡ next.End → next_of indent (ps ++ others) ≡ next.End
  unfolding next_of
  end_on indent deep [] e = ends_all.ends_blocks indent deep
  end_on indent deep (p ∷ ps) e =
      next_by (nat_lt p.indent indent) (nat_lt indent p.indent) p.number (next_of_line p.number indent ps p.line) (next_of_line p.number indent (ps ++ others) p.line) next.End
      (λ was. absurd (beginning_goes p.number indent ps p.line was)) e

  -- ---- lines

  take_on : Same take_one
  unfolding take_one
  take_on [] a rest e = refused 0 (a, rest) e
  take_on (p ∷ ps) a rest e = given p a ps rest e

  statements_of_on : (p : Placed) (l : Line) → Same (statements_of p l)
  statements_of_on p (line.simple found) ps a rest e = given found a ps rest e
  statements_of_on p (line.header h colon found) ps a rest e = refused p.number (a, rest) e
  statements_of_on p (line.decorator t v) ps a rest e = refused p.number (a, rest) e

  simple_on : Same simple_line
  unfolding simple_line
  simple_on ps a rest e =
      then_on (take_one ps) (take_one (ps ++ others)) _ _ a rest e (λ p later read made. take_on ps p later read) (λ p later read made.
      then_on (statements_of p p.line later) (statements_of p p.line (later ++ others)) _ _ a rest made
      (λ found left is over. statements_of_on p p.line later found left is) (λ found left is over. given (simple found) a left rest over))

  decorator_of_on : (p : Placed) (l : Line) → Same (decorator_of p l)
  decorator_of_on p (line.decorator t v) ps a rest e = given (record { mark = t; value = v }) a ps rest e
  decorator_of_on p (line.simple found) ps a rest e = refused p.number (a, rest) e
  decorator_of_on p (line.header h colon found) ps a rest e = refused p.number (a, rest) e

  mark_on : Same decorator_line
  unfolding decorator_line
  mark_on ps a rest e =
      then_on (take_one ps) (take_one (ps ++ others)) _ _ a rest e (λ p later read made. take_on ps p later read)
      (λ p later read made. decorator_of_on p p.line later a rest made)

  -- ---- decorators before a definition

  decorators_on : (n m indent : ℕ) (ps : List Placed) (marks : List Decorator) (rest : List Placed) → decorators n indent ps ≡ Ok (marks, rest)
      → length ps ≤ n → length ps ≤ m → is_definition (next_of indent rest) ≡ true → decorators m indent (ps ++ others) ≡ Ok (marks, rest ++ others)
  unfolding decorators
  decorators_on n m indent [] marks rest e few less is = no_definition indent rest is (no_mark n indent marks rest e)
  decorators_on zero m indent (p ∷ ps) marks rest e few less is = absurd (omega (arith, few))
  decorators_on (suc n) zero indent (p ∷ ps) marks rest e few less is = absurd (omega (arith, less))
  decorators_on (suc n) (suc m) indent (p ∷ ps) marks rest e few less is =
      either _ _ (is_decorator (next_of indent (p ∷ ps))) (marks, rest) e
      (λ some held.
      taken_if (is_decorator (next_of indent ((p ∷ ps) ++ others))) _ _ _
      (ap is_decorator (next_on indent (p ∷ ps) (next_of indent (p ∷ ps)) refl (decorator_stands (next_of indent (p ∷ ps)) some)) ∙ some)
      (then_on (decorator_line (p ∷ ps)) (decorator_line ((p ∷ ps) ++ others)) _ _ marks rest held (λ d later read made. mark_on (p ∷ ps) d later read) (λ d later read made.
      then_on (decorators n indent later) (decorators m indent (later ++ others)) _ _ marks rest made
      (λ more left read_on over.
      let short = mark_left (p ∷ ps) d later read in
      decorators_on n m indent later more left read_on (omega (arith, short, few)) (omega (arith, short, less))
      (parts (d ∷ more) marks left rest over (λ same end. ap (λ qs. is_definition (next_of indent qs)) end ∙ is)))
      (λ more left read_on over. given (d ∷ more) marks left rest over))))
      (λ none held.
      passed_if (is_decorator (next_of indent ((p ∷ ps) ++ others))) _ _ _
      (ap is_decorator (next_on indent (p ∷ ps) (next_of indent (p ∷ ps)) refl (definition_stands (next_of indent (p ∷ ps))
      (parts [] marks (p ∷ ps) rest held (λ same end. ap (λ qs. is_definition (next_of indent qs)) end ∙ is)))) ∙ none)
      (given [] marks (p ∷ ps) rest held))

  -- ---- over what reads the block at an indent

  module _ (S : ℕ → Parser Stmts) (holds : Holds S) (same : (indent : ℕ) → 1 ≤ indent → Same (S indent)) where
    suite_by : (number indent : ℕ) (ps : List Placed) (o : Option ℕ) → under indent ps ≡ o → (a : Suite) (rest : List Placed)
        → suite_under S number o ps ≡ Ok (a, rest) → suite_under S number o (ps ++ others) ≡ Ok (a, rest ++ others)
    suite_by number indent ps None is a rest e = refused number (a, rest) e
    suite_by number indent ps (Some inner) is a rest e =
        let deeper = under_is indent inner ps is in
        then_on (S inner ps) (S inner (ps ++ others)) _ _ a rest e (λ found later read made. same inner (omega (arith, deeper)) ps found later read)
        (λ found later read made. given (block found) a later rest made)

    under_on : (number indent : ℕ) (ps : List Placed) (a : Suite) (rest : List Placed) → suite_under S number (under indent ps) ps ≡ Ok (a, rest)
        → suite_under S number (under indent (ps ++ others)) (ps ++ others) ≡ Ok (a, rest ++ others)
    unfolding under
    under_on number indent [] a rest e = refused number (a, rest) e
    under_on number indent (p ∷ ps) a rest e = suite_by number indent (p ∷ ps) (under indent (p ∷ ps)) refl a rest e

    suite_on : (number indent : ℕ) (found : Separated SimpleStatement) → Same (suite S number indent found)
    unfolding suite
    suite_on number indent no_item ps a rest e = under_on number indent ps a rest e
    suite_on number indent (last_item x) ps a rest e = given (inline (last_item x)) a ps rest e
    suite_on number indent (item x t xs) ps a rest e = given (inline (item x t xs)) a ps rest e

    clause_of_on : (p : Placed) (indent : ℕ) (l : Line) → Same (clause_of S p indent l)
    clause_of_on p indent (line.header h colon found) ps a rest e =
        then_on (suite S p.number indent found ps) (suite S p.number indent found (ps ++ others)) _ _ a rest e
        (λ body later read made. suite_on p.number indent found ps body later read) (λ body later read made. given (clause h colon body) a later rest made)
    clause_of_on p indent (line.simple found) ps a rest e = refused p.number (a, rest) e
    clause_of_on p indent (line.decorator t v) ps a rest e = refused p.number (a, rest) e

    one_clause_on : (indent : ℕ) → Same (one_clause S indent)
    unfolding one_clause
    one_clause_on indent ps a rest e =
        then_on (take_one ps) (take_one (ps ++ others)) _ _ a rest e (λ p later read made. take_on ps p later read)
        (λ p later read made. clause_of_on p indent p.line later a rest made)

    clause_by_on : (indent : ℕ) (o : Option After) → Same (clause_by S indent o)
    clause_by_on indent None ps a rest e = given None a ps rest e
    clause_by_on indent (Some so) ps a rest e =
        then_on (one_clause S indent ps) (one_clause S indent (ps ++ others)) _ _ a rest e (λ c later read made. one_clause_on indent ps c later read)
        (λ c later read made. given (Some (c, so)) a later rest made)

    -- no clause follows that is one of the others
    no_clause_on : (m indent : ℕ) (so : After) → clauses S m indent so others ≡ Ok (no_clause, others)
    unfolding clauses next_clause
    no_clause_on zero indent so = refl
    no_clause_on (suc m) indent so = ap (λ o. and_then (clause_by S indent o others) (clauses_after (clauses S m indent))) (ends_all.no_follower so indent)

    abbrev Turns : ℕ → ℕ → ℕ → Type 0
    Turns n m indent = (so : After) (ps : List Placed) (found : CompoundClauses) (rest : List Placed) → clauses S n indent so ps ≡ Ok (found, rest)
        → length ps ≤ n → length ps ≤ m → clauses S m indent so (ps ++ others) ≡ Ok (found, rest ++ others)

    clauses_step : (n m indent : ℕ) (so : After) (ps : List Placed) (x : Option (CompoundClause × After)) (later : List Placed) (found : CompoundClauses) (rest : List Placed)
        → Turns n m indent → (o : Option After) → follower so indent ps ≡ o → clause_by S indent o ps ≡ Ok (x, later)
        → clauses_after (clauses S n indent) x later ≡ Ok (found, rest) → length ps ≤ suc n → length ps ≤ suc m
        → clauses_after (clauses S m indent) x (later ++ others) ≡ Ok (found, rest ++ others)
    clauses_step n m indent so ps None later found rest turns o is read made few less = given no_clause found later rest made
    clauses_step n m indent so ps (Some x) later found rest turns None is read made few less = parts None (Some x) ps later read (λ none left. absurd (cc))
    clauses_step n m indent so ps (Some x) later found rest turns (Some stood) is read made few less =
        bind (one_clause S indent ps) _ (Some x, later) read (λ c mid first x_is.
        parts (Some (c, stood)) (Some x) mid later x_is (λ one left.
        follower_here so indent stood ps is (λ p after_p ps_is at.
        let short = some_left ps later (clause_yield indent c)
        (clause_ok S holds indent p after_p ps c later ps_is at (first ∙ ap {B = BlocksParsed CompoundClause} (λ qs. Ok (c, qs)) left)) (clause_some indent c) in
        then_on (clauses S n indent x.1 later) (clauses S m indent x.1 (later ++ others)) _ _ found rest made
        (λ more end read_on all. turns x.1 later more end read_on (omega (arith, short, few)) (omega (arith, short, less)))
        (λ more end read_on all. given (another x.0 more) found end rest all))))

    clauses_on : (n m indent : ℕ) → Turns n m indent
    unfolding clauses next_clause follower
    clauses_on zero m indent so [] found rest e few less = no_clause_on m indent so ∙ given no_clause found [] rest e
    clauses_on (suc n) m indent so [] found rest e few less = no_clause_on m indent so ∙ given no_clause found [] rest e
    clauses_on zero m indent so (p ∷ ps) found rest e few less = absurd (omega (arith, few))
    clauses_on (suc n) zero indent so (p ∷ ps) found rest e few less = absurd (omega (arith, less))
    clauses_on (suc n) (suc m) indent so (p ∷ ps) found rest e few less =
        then_on (next_clause S so indent (p ∷ ps)) (next_clause S so indent ((p ∷ ps) ++ others)) _ _ found rest e
        (λ x later read made. clause_by_on indent (follower so indent (p ∷ ps)) (p ∷ ps) x later read)
        (λ x later read made.
        clauses_step n m indent so (p ∷ ps) x later found rest (clauses_on n m indent) (follower so indent (p ∷ ps)) refl read made few less)

    compound_on : (indent : ℕ) (marks : List Decorator) (so : After) → Same (compound_statement S indent marks so)
    unfolding compound_statement all_clauses
    compound_on indent marks so ps a rest e =
        then_on (one_clause S indent ps) (one_clause S indent (ps ++ others)) _ _ a rest e (λ c later read made. one_clause_on indent ps c later read) (λ c later read made.
        let more_lines = length-append later others in
        then_on (all_clauses S indent so later) (all_clauses S indent so (later ++ others)) _ _ a rest made
        (λ more left read_on over.
        clauses_on (length later) (length (later ++ others)) indent so later more left read_on (omega arith) (omega (arith, more_lines)))
        (λ more left read_on over. given (compound marks c more) a left rest over))

    definition_is : (number indent : ℕ) (marks : List Decorator) (ps : List Placed) (a : Stmt) (rest : List Placed)
        → definition S number indent marks ps ≡ Ok (a, rest) → is_definition (next_of indent ps) ≡ true
    unfolding definition
    definition_is number indent marks ps a rest e =
        either _ _ (is_definition (next_of indent ps)) (a, rest) e (λ some held. some) (λ none held. refused number (a, rest) held)

    definition_on : (number indent : ℕ) (marks : List Decorator) → Same (definition S number indent marks)
    unfolding definition
    definition_on number indent marks ps a rest e =
        either _ _ (is_definition (next_of indent ps)) (a, rest) e
        (λ some held.
        taken_if (is_definition (next_of indent (ps ++ others))) _ _ _
        (ap is_definition (next_on indent ps (next_of indent ps) refl (definition_stands (next_of indent ps) some)) ∙ some)
        (compound_on indent marks after.Nothing ps a rest held))
        (λ none held. refused number (a, rest) held)

    decorated_definition_on : (indent : ℕ) → Same (decorated_definition S indent)
    unfolding decorated_definition all_decorators number_of
    decorated_definition_on indent [] a rest e = let less = fewer indent [] a rest (decorated_definition_ok S holds indent [] a rest e) in absurd (omega (arith, less))
    decorated_definition_on indent (p ∷ ps) a rest e =
        let more_lines = length-append (p ∷ ps) others in
        then_on (all_decorators indent (p ∷ ps)) (all_decorators indent ((p ∷ ps) ++ others)) _ _ a rest e
        (λ marks later read made.
        decorators_on (length (p ∷ ps)) (length ((p ∷ ps) ++ others)) indent (p ∷ ps) marks later read (omega arith) (omega (arith, more_lines))
        (definition_is p.number indent marks later a rest made))
        (λ marks later read made. definition_on p.number indent marks later a rest made)

    some_on : (p : Parser Stmt) → Same p → (ps : List Placed) (x : Option Stmt) (rest : List Placed) → and_then (p ps) (λ found. pure (Some found)) ≡ Ok (x, rest)
        → and_then (p (ps ++ others)) (λ found. pure (Some found)) ≡ Ok (x, rest ++ others)
    some_on p on ps x rest e =
        then_on (p ps) (p (ps ++ others)) _ _ x rest e (λ s later read made. on ps s later read) (λ s later read made. given (Some s) x later rest made)

    statement_by_on : (indent : ℕ) (found : Next) → Same (statement_by S indent found)
    statement_by_on indent next.End ps x rest e = given None x ps rest e
    statement_by_on indent (next.Fault number) ps x rest e = refused number (x, rest) e
    statement_by_on indent next.Simple ps x rest e = some_on simple_line simple_on ps x rest e
    statement_by_on indent next.Decorator ps x rest e = some_on (decorated_definition S indent) (decorated_definition_on indent) ps x rest e
    statement_by_on indent next.Definition ps x rest e = some_on (compound_statement S indent [] after.Nothing) (compound_on indent [] after.Nothing) ps x rest e
    statement_by_on indent (next.Header so) ps x rest e = some_on (compound_statement S indent [] so) (compound_on indent [] so) ps x rest e

    -- a statement begins the lines, or their block ends
    begun_on : (indent : ℕ) (ps : List Placed) (found : Next) → next_of indent ps ≡ found → (next_of indent ps ≡ next.End → next_of indent (ps ++ others) ≡ next.End)
        → (x : Option Stmt) (rest : List Placed) → statement_by S indent found ps ≡ Ok (x, rest)
        → statement_by S indent (next_of indent (ps ++ others)) (ps ++ others) ≡ Ok (x, rest ++ others)
    begun_on indent ps next.End is end x rest e = ap (λ y. statement_by S indent y (ps ++ others)) (end is) ∙ statement_by_on indent next.End ps x rest e
    begun_on indent ps (next.Fault number) is end x rest e = refused number (x, rest) e
    begun_on indent ps next.Simple is end x rest e =
        ap (λ y. statement_by S indent y (ps ++ others)) (next_on indent ps next.Simple is refl) ∙ statement_by_on indent next.Simple ps x rest e
    begun_on indent ps next.Decorator is end x rest e =
        ap (λ y. statement_by S indent y (ps ++ others)) (next_on indent ps next.Decorator is refl) ∙ statement_by_on indent next.Decorator ps x rest e
    begun_on indent ps next.Definition is end x rest e =
        ap (λ y. statement_by S indent y (ps ++ others)) (next_on indent ps next.Definition is refl) ∙ statement_by_on indent next.Definition ps x rest e
    begun_on indent ps (next.Header so) is end x rest e =
        ap (λ y. statement_by S indent y (ps ++ others)) (next_on indent ps (next.Header so) is refl) ∙ statement_by_on indent (next.Header so) ps x rest e

    -- ---- a block under another

    no_statement_on : (m indent : ℕ) → 1 ≤ indent → statements S m indent others ≡ Ok (no_statement, others)
    unfolding statements next_statement
    no_statement_on zero indent deep = refl
    no_statement_on (suc m) indent deep = ap (λ x. and_then (statement_by S indent x others) (statements_after (statements S m indent))) (ends_all.ends_blocks indent deep)

    abbrev Rounds : ℕ → ℕ → ℕ → Type 0
    Rounds n m indent = (ps : List Placed) (found : Stmts) (rest : List Placed) → statements S n indent ps ≡ Ok (found, rest)
        → length ps ≤ n → length ps ≤ m → statements S m indent (ps ++ others) ≡ Ok (found, rest ++ others)

    statements_step : (n m indent : ℕ) (ps : List Placed) (x : Option Stmt) (later : List Placed) (found : Stmts) (rest : List Placed) → Rounds n m indent
        → statement_by S indent (next_of indent ps) ps ≡ Ok (x, later) → statements_after (statements S n indent) x later ≡ Ok (found, rest)
        → length ps ≤ suc n → length ps ≤ suc m → statements_after (statements S m indent) x (later ++ others) ≡ Ok (found, rest ++ others)
    statements_step n m indent ps None later found rest rounds read made few less = given no_statement found later rest made
    statements_step n m indent ps (Some s) later found rest rounds read made few less =
        let short = fewer indent ps s later (statement_ok S holds indent (next_of indent ps) ps (Some s) later refl read) in
        then_on (statements S n indent later) (statements S m indent (later ++ others)) _ _ found rest made
        (λ more end read_on all. rounds later more end read_on (omega (arith, short, few)) (omega (arith, short, less)))
        (λ more end read_on all. given (statement s more) found end rest all)

    statements_on : (n m indent : ℕ) → 1 ≤ indent → Rounds n m indent
    unfolding statements next_statement next_of
    statements_on zero m indent deep [] found rest e few less = no_statement_on m indent deep ∙ given no_statement found [] rest e
    statements_on (suc n) m indent deep [] found rest e few less = no_statement_on m indent deep ∙ given no_statement found [] rest e
    statements_on zero m indent deep (p ∷ ps) found rest e few less = absurd (omega (arith, few))
    statements_on (suc n) zero indent deep (p ∷ ps) found rest e few less = absurd (omega (arith, less))
    statements_on (suc n) (suc m) indent deep (p ∷ ps) found rest e few less =
        then_on (next_statement S indent (p ∷ ps)) (next_statement S indent ((p ∷ ps) ++ others)) _ _ found rest e
        (λ x later read made. begun_on indent (p ∷ ps) (next_of indent (p ∷ ps)) refl (end_on indent deep (p ∷ ps)) x later read)
        (λ x later read made. statements_step n m indent (p ∷ ps) x later found rest (statements_on n m indent deep) read made few less)

    -- ---- the block that is not indented, where the others are blocks too

    module _ (more : Stmts) (others_read : (k : ℕ) → length others ≤ k → statements S k 0 others ≡ Ok (more, [])) where
      abbrev AllRounds : ℕ → ℕ → Type 0
      AllRounds n m = (ps : List Placed) (found : Stmts) (rest : List Placed) → statements S n 0 ps ≡ Ok (found, rest)
          → length ps ≤ n → length ps + length others ≤ m → statements S m 0 (ps ++ others) ≡ Ok (joined found more, [])

      all_step : (n m : ℕ) (ps : List Placed) (x : Option Stmt) (later : List Placed) (found : Stmts) (rest : List Placed) → AllRounds n m
          → statement_by S 0 (next_of 0 ps) ps ≡ Ok (x, later) → statements_after (statements S n 0) x later ≡ Ok (found, rest)
          → 1 ≤ length ps → length ps ≤ suc n → length ps + length others ≤ suc m
          → and_then (next_statement S 0 (ps ++ others)) (statements_after (statements S m 0)) ≡ Ok (joined found more, [])
      unfolding next_statement
      all_step n m ps None later found rest rounds read made some few less =
          let none = ap {B = ℕ} (λ qs. length qs) (ends ps (over S holds 0 (next_of 0 ps) ps None later read refl)) in absurd (omega (arith, none, some))
      all_step n m ps (Some s) later found rest rounds read made some few less =
          let short = fewer 0 ps s later (statement_ok S holds 0 (next_of 0 ps) ps (Some s) later refl read) in
          bind (statements S n 0 later) _ (found, rest) made (λ found_later left read_on all.
          parts (statement s found_later) found left rest all (λ whole end.
          ap (λ y. and_then y (statements_after (statements S m 0)))
          (begun_on 0 ps (next_of 0 ps) refl (λ end. let none = ap {B = ℕ} (λ qs. length qs) (ends ps end) in absurd (omega (arith, none, some))) (Some s) later read)
          ∙ (ap (λ y. and_then y (λ (ss : Stmts). pure (statement s ss))) (rounds later found_later left read_on (omega (arith, short, few)) (omega (arith, short, less)))
          ∙ ap {B = BlocksParsed Stmts} (λ y. Ok (joined y more, [])) whole)))

      all_on : (n m : ℕ) → AllRounds n m
      unfolding statements next_statement next_of
      all_on zero m [] found rest e few less =
          parts no_statement found [] rest e (λ same end. others_read m (omega (arith, less)) ∙ ap {B = BlocksParsed Stmts} (λ y. Ok (joined y more, [])) same)
      all_on (suc n) m [] found rest e few less =
          parts no_statement found [] rest e (λ same end. others_read m (omega (arith, less)) ∙ ap {B = BlocksParsed Stmts} (λ y. Ok (joined y more, [])) same)
      all_on zero m (p ∷ ps) found rest e few less = absurd (omega (arith, few))
      all_on (suc n) zero (p ∷ ps) found rest e few less = absurd (omega (arith, less))
      all_on (suc n) (suc m) (p ∷ ps) found rest e few less =
          bind (next_statement S 0 (p ∷ ps)) _ (found, rest) e (λ x later read made.
          all_step n m (p ∷ ps) x later found rest (all_on n m) read made (omega arith) few less)

  block_on : (depth indent : ℕ) → 1 ≤ indent → Same (block_at depth indent)
  unfolding block_at all_statements
  block_on zero indent deep ps a rest e = refused (number_of ps) (a, rest) e
  block_on (suc depth) indent deep ps a rest e =
      let more_lines = length-append ps others in
      statements_on (block_at depth) (block_holds depth) (block_on depth) (length ps) (length (ps ++ others)) indent deep ps a rest e (omega arith) (omega (arith, more_lines))

-- ---- lines that begin anew

follows_none : (number indent : ℕ) (ps : List Placed) (f : Form) → stands (next_of_header number indent ps f) ≡ true → (so : After) → follows so f ≡ None
follows_none number indent ps form.Elif is so = absurd (false≢true is)
follows_none number indent ps form.Else is so = absurd (false≢true is)
follows_none number indent ps form.Except is so = absurd (false≢true is)
follows_none number indent ps form.Finally is so = absurd (false≢true is)
follows_none number indent ps form.If is after.Nothing = refl
follows_none number indent ps form.If is after.Branch = refl
follows_none number indent ps form.If is after.Loop = refl
follows_none number indent ps form.If is after.Try = refl
follows_none number indent ps form.If is after.Except = refl
follows_none number indent ps form.If is after.TryElse = refl
follows_none number indent ps form.While is after.Nothing = refl
follows_none number indent ps form.While is after.Branch = refl
follows_none number indent ps form.While is after.Loop = refl
follows_none number indent ps form.While is after.Try = refl
follows_none number indent ps form.While is after.Except = refl
follows_none number indent ps form.While is after.TryElse = refl
follows_none number indent ps form.For is after.Nothing = refl
follows_none number indent ps form.For is after.Branch = refl
follows_none number indent ps form.For is after.Loop = refl
follows_none number indent ps form.For is after.Try = refl
follows_none number indent ps form.For is after.Except = refl
follows_none number indent ps form.For is after.TryElse = refl
follows_none number indent ps form.Try is after.Nothing = refl
follows_none number indent ps form.Try is after.Branch = refl
follows_none number indent ps form.Try is after.Loop = refl
follows_none number indent ps form.Try is after.Try = refl
follows_none number indent ps form.Try is after.Except = refl
follows_none number indent ps form.Try is after.TryElse = refl
follows_none number indent ps form.With is after.Nothing = refl
follows_none number indent ps form.With is after.Branch = refl
follows_none number indent ps form.With is after.Loop = refl
follows_none number indent ps form.With is after.Try = refl
follows_none number indent ps form.With is after.Except = refl
follows_none number indent ps form.With is after.TryElse = refl
follows_none number indent ps form.Definition is after.Nothing = refl
follows_none number indent ps form.Definition is after.Branch = refl
follows_none number indent ps form.Definition is after.Loop = refl
follows_none number indent ps form.Definition is after.Try = refl
follows_none number indent ps form.Definition is after.Except = refl
follows_none number indent ps form.Definition is after.TryElse = refl

line_begins : (number indent : ℕ) (ps : List Placed) (l : Line) → stands (next_of_line number indent ps l) ≡ true → (so : After) → line_follows so l ≡ None
line_begins number indent ps (line.simple found) is so = refl
line_begins number indent ps (line.header h colon found) is so = follows_none number indent ps (form_of h) is so
line_begins number indent ps (line.decorator t v) is so = refl

begins_by : (own : ℕ) (b : Bool) (number : ℕ) (was : Next) → nat_lt 0 own ≡ b → stands (if b then next.Fault number else was) ≡ true → own ≡ 0
begins_by own true number was above is = absurd (false≢true is)
begins_by own false number was above is = let least = ltb-false 0 own above in omega (arith, least)

either_none : (b : Bool) (o : Option After) → o ≡ None → (if b then o else None) ≡ None
either_none true o e = e
either_none false o e = refl

inner_stands : (a b : Bool) (number : ℕ) (was : Next) → stands (if a then next.End else if b then next.Fault number else was) ≡ true → stands was ≡ true
inner_stands true b number was is = absurd (false≢true is)
inner_stands false true number was is = absurd (false≢true is)
inner_stands false false number was is = is

less_deep : (own indent : ℕ) (b : Bool) (x : Next) → nat_lt own indent ≡ b → own ≡ 0 → 1 ≤ indent → (if b then next.End else x) ≡ next.End
less_deep own indent true x e at deep = refl
less_deep own indent false x e at deep = let least = ltb-false own indent e in absurd (omega (arith, least, at, deep))

nothing_follows : EndsAll []
unfolding follower next_of
nothing_follows = record { no_follower = λ so indent. refl; ends_blocks = λ indent deep. refl }

begins_anew : (p : Placed) (ps : List Placed) → stands (next_of 0 (p ∷ ps)) ≡ true → EndsAll (p ∷ ps)
unfolding follower next_of
begins_anew p ps is =
    let at = tested 0 p.indent p.number (nat_lt p.indent 0) (nat_lt 0 p.indent) (next_of_line p.number 0 ps p.line) (next_of 0 (p ∷ ps)) refl refl refl is in
    let begins = inner_stands (nat_lt p.indent 0) (nat_lt 0 p.indent) p.number (next_of_line p.number 0 ps p.line) is in
    record {
      no_follower = λ so indent. either_none (p.indent == indent) (line_follows so p.line) (line_begins p.number 0 ps p.line begins so);
      ends_blocks = λ indent deep. less_deep p.indent indent (nat_lt p.indent indent) _ refl at deep;
    }

-- a statement that is read begins with a line that stands where it may
begun_stands : (S : ℕ → Parser Stmts) (found : Next) (ps : List Placed) (x : Option Stmt) (later : List Placed) → statement_by S 0 found ps ≡ Ok (x, later)
    → (found ≡ next.End → ⊥) → stands found ≡ true
begun_stands S next.End ps x later e some = absurd (some refl)
begun_stands S (next.Fault number) ps x later e some = refused number (x, later) e
begun_stands S next.Simple ps x later e some = refl
begun_stands S next.Decorator ps x later e some = refl
begun_stands S next.Definition ps x later e some = refl
begun_stands S (next.Header so) ps x later e some = refl

some_line : (p : Placed) (ps : List Placed) → next_of 0 (p ∷ ps) ≡ next.End → ⊥
some_line p ps e = let none = ap {B = ℕ} (λ qs. length qs) (ends (p ∷ ps) e) in omega (arith, none)

-- lines that are blocks begin anew
anew : (depth : ℕ) (ps : List Placed) (found : Stmts) (rest : List Placed) → block_at (suc depth) 0 ps ≡ Ok (found, rest) → EndsAll ps
unfolding block_at all_statements statements next_statement
anew depth [] found rest e = nothing_follows
anew depth (p ∷ ps) found rest e =
    bind (next_statement (block_at depth) 0 (p ∷ ps)) _ (found, rest) e (λ x later read made.
    begins_anew p ps (begun_stands (block_at depth) (next_of 0 (p ∷ ps)) (p ∷ ps) x later read (some_line p ps)))

nothing_read : (S : ℕ → Parser Stmts) (k : ℕ) → statements S k 0 [] ≡ Ok (no_statement, [])
unfolding statements next_statement next_of
nothing_read S zero = refl
nothing_read S (suc k) = refl

-- in as many turns as there are lines or more, the same is read
enough : (depth : ℕ) (ps : List Placed) (found : Stmts) (rest : List Placed) → block_at (suc depth) 0 ps ≡ Ok (found, rest)
    → (k : ℕ) → length ps ≤ k → statements (block_at depth) k 0 ps ≡ Ok (found, [])
unfolding block_at all_statements
enough depth ps found rest e k few =
    ap (λ qs. statements (block_at depth) k 0 qs) (sym (append-nil ps))
    ∙ (all_on [] nothing_follows (block_at depth) (block_holds depth) (block_on [] nothing_follows depth) no_statement (λ n none. nothing_read (block_at depth) n)
    (length ps) k ps found rest e (omega arith) (omega (arith, few))
    ∙ ap {B = BlocksParsed Stmts} (λ x. Ok (x, [])) (joined_none found))

join_at : (depth : ℕ) (ps others : List Placed) (found more : Stmts) (rest after : List Placed) → block_at (suc depth) 0 ps ≡ Ok (found, rest)
    → block_at (suc depth) 0 others ≡ Ok (more, after) → block_at (suc depth) 0 (ps ++ others) ≡ Ok (joined found more, [])
unfolding block_at all_statements
join_at depth ps others found more rest after first second =
    let ends_all = anew depth others more after second in
    let all = length-append ps others in
    all_on others ends_all (block_at depth) (block_holds depth) (block_on others ends_all depth) more (enough depth others more after second)
    (length ps) (length (ps ++ others)) ps found rest first (omega arith) (omega (arith, all))

opened : {G : Type 0} (o : BlocksParsed Stmts) (found : Stmts) → module_of o ≡ Ok found → ((rest : List Placed) → o ≡ Ok (found, rest) → G) → G
opened (Ok p) found e go = go p.1 (ap {B = BlocksParsed Stmts} (λ x. Ok (x, p.1)) (cc))
opened (Err number) found e go = absurd (cc)

-- lines that are blocks, before others that are, make the statements of both
pub blocks_join : (ps others : List Placed) (found more : Stmts) → blocks ps ≡ Ok found → blocks others ≡ Ok more → blocks (ps ++ others) ≡ Ok (joined found more)
unfolding blocks
blocks_join ps others found more first second =
    opened (block_at 65 0 ps) found first (λ rest one.
    opened (block_at 65 0 others) more second (λ after two. ap module_of (join_at 64 ps others found more rest after one two)))

-- no line makes no statement
pub blocks_none : blocks [] ≡ Ok no_statement
unfolding blocks block_at all_statements statements
blocks_none = refl
