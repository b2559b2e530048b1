-- The statements that are read hold the lines that were taken, in text order, each at its level.
use Rattle.std.proofs.Common.{◌≡◌, refl, ap, sym, ◌∙◌, subst, ℕ, zero, suc, ◌+◌, Bool, true, false, nat_lt, ◌==◌, if◌then◌else◌, List, [], ◌∷◌, ◌++◌, map, Option, None, Some, Ok, Err, append_assoc, length, length-append, ◌≤◌, ◌<◌, arith}
use Rattle.std.proofs.lemmas.List.{append-nil, length-map}
use Rattle.std.proofs.lemmas.Bool.{ltb-true, ltb-false, eqb-true, false≢true}
use Rattle.pyc_token.specs.declared.tokens.Token.{Token}
use Rattle.pyc_tree.specs.declared.block.After.{After}
use Rattle.pyc_tree.specs.declared.block.After.TheVariants as after
use Rattle.pyc_tree.specs.declared.block.Form.{Form}
use Rattle.pyc_tree.specs.declared.block.Form.TheVariants as form
use Rattle.pyc_tree.specs.declared.block.Next.{Next}
use Rattle.pyc_tree.specs.declared.block.Next.TheVariants as next
use Rattle.pyc_tree.specs.BlockTrees.{Decorator, Stmt, simple, compound, CompoundClause, clause, CompoundClauses, no_clause, another, Suite, inline, block, Stmts, no_statement, statement}
use Rattle.pyc_parse.specs.BlockYield.{IndentedLine, marks_yield, stmt_yield, clause_yield, suite_yield, clauses_yield, stmts_yield}
use Rattle.pyc_parse.specs.Blocks.{Placed, BlocksParsed, Parser, and_then, pure, take_one, form_of, handler_follows, next_of_header, next_of, next_of_line, follower, line_follows, under, number_of, is_decorator, is_definition, simple_line, statements_of, decorator_line, decorator_of, decorators, all_decorators, suite, suite_under, clause_of, one_clause, clause_by, next_clause, clauses_after, clauses, all_clauses, compound_statement, definition, decorated_definition, statement_by, next_statement, statements_after, statements, all_statements, block_at, module_of, blocks}
use Rattle.pyc_tree.specs.Lines.{Header, Line}
use Rattle.pyc_tree.specs.Lines as line
use Rattle.pyc_tree.specs.Statements.{SimpleStatement, Separated, no_item, last_item, item}

-- a line and its level
abbrev pub indented : Placed → IndentedLine
indented p = (p.indent, p.line)

-- lines are those that were taken, before those that are left
abbrev pub IsYield : List Placed → List IndentedLine → List Placed → Type 0
IsYield ps taken rest = map indented ps ≡ taken ++ map indented rest

-- ---- what is read is one thing

pub refused : {A G : Type 0} (number : ℕ) (a : A × List Placed) → ◌≡◌ {A = BlocksParsed A} (Err number) (Ok a) → G
refused number a e = absurd (cc)

ok_pair : {A : Type 0} (p q : A × List Placed) → ◌≡◌ {A = BlocksParsed A} (Ok p) (Ok q) → p ≡ q
ok_pair p q e = cc

pub parts : {A G : Type 0} (a b : A) (ps rest : List Placed) → ◌≡◌ {A = BlocksParsed A} (Ok (a, ps)) (Ok (b, rest)) → (a ≡ b → ps ≡ rest → G) → G
parts a b ps rest e go =
    let same : ◌≡◌ {A = _ × List Placed} (a, ps) (b, rest) = ok_pair (a, ps) (b, rest) e in
    go (ap (λ p. p.0) same) (ap (λ p. p.1) same)

pub bind : {A B G : Type 0} (o : BlocksParsed A) (f : A → Parser B) (r : B × List Placed) → and_then o f ≡ Ok r
    → ((x : A) (later : List Placed) → o ≡ Ok (x, later) → f x later ≡ Ok r → G) → G
bind (Ok p) f r e go = go p.0 p.1 refl e
bind (Err number) f r e go = refused number r e

choose : {B G : Type 0} (p q : Parser B) (b : Bool) (ps : List Placed) (r : B × List Placed) → (if b then p else q) ps ≡ Ok r
    → (b ≡ true → p ps ≡ Ok r → G) → (b ≡ false → q ps ≡ Ok r → G) → G
choose p q true ps r e yes_case no_case = yes_case refl e
choose p q false ps r e yes_case no_case = no_case refl e

-- the first line is taken
after_one : {B G : Type 0} (f : Placed → Parser B) (ps : List Placed) (r : B × List Placed) → and_then (take_one ps) f ≡ Ok r
    → ((p : Placed) (later : List Placed) → ps ≡ p ∷ later → f p later ≡ Ok r → G) → G
unfolding take_one
after_one f [] r e go = refused 0 r e
after_one f (p ∷ ps) r e go = go p ps refl e

-- ---- where the next line stands

-- whether what stands next is a line at its block's level
abbrev pub stands : Next → Bool
stands next.End = false
stands (next.Fault _) = false
stands _ = true

pub tested : (indent own number : ℕ) (a b : Bool) (others found : Next) → nat_lt own indent ≡ a → nat_lt indent own ≡ b
    → (if a then next.End else if b then next.Fault number else others) ≡ found → stands found ≡ true → own ≡ indent
tested indent own number true b others found below above is so = absurd (false≢true (ap stands is ∙ so))
tested indent own number false true others found below above is so = absurd (false≢true (ap stands is ∙ so))
tested indent own number false false others found below above is so =
    let least = ltb-false own indent below in let most = ltb-false indent own above in omega (arith, least, most)

pub here : {G : Type 0} (indent : ℕ) (found : Next) (ps : List Placed) → next_of indent ps ≡ found → stands found ≡ true
    → ((p : Placed) (later : List Placed) → ps ≡ p ∷ later → p.indent ≡ indent → G) → G
unfolding next_of
here indent found [] is so go = absurd (false≢true (ap stands is ∙ so))
here indent found (p ∷ ps) is so go =
    go p ps refl (tested indent p.indent p.number (nat_lt p.indent indent) (nat_lt indent p.indent) (next_of_line p.number indent ps p.line) found refl refl is so)

pub decorator_stands : (found : Next) → is_decorator found ≡ true → stands found ≡ true
decorator_stands next.End e = e
decorator_stands (next.Fault _) e = e
decorator_stands next.Simple e = refl
decorator_stands next.Decorator e = refl
decorator_stands next.Definition e = refl
decorator_stands (next.Header _) e = refl

pub definition_stands : (found : Next) → is_definition found ≡ true → stands found ≡ true
definition_stands next.End e = e
definition_stands (next.Fault _) e = e
definition_stands next.Simple e = refl
definition_stands next.Decorator e = refl
definition_stands next.Definition e = refl
definition_stands (next.Header _) e = refl

matched : (own indent : ℕ) (b : Bool) (o : Option After) (found : After) → own == indent ≡ b → (if b then o else None) ≡ Some found → own ≡ indent
matched own indent true o found same is = eqb-true own indent same
matched own indent false o found same is = absurd (cc)

pub follower_here : {G : Type 0} (so : After) (indent : ℕ) (found : After) (ps : List Placed) → follower so indent ps ≡ Some found
    → ((p : Placed) (later : List Placed) → ps ≡ p ∷ later → p.indent ≡ indent → G) → G
unfolding follower
follower_here so indent found [] is go = absurd (cc)
follower_here so indent found (p ∷ ps) is go = go p ps refl (matched p.indent indent (p.indent == indent) (line_follows so p.line) found refl is)

deeper : (indent inner : ℕ) (b : Bool) → (if b then Some (indent + 1) else None) ≡ Some inner → inner ≡ indent + 1
deeper indent inner true is = cc
deeper indent inner false is = absurd (cc)

pub under_is : (indent inner : ℕ) (ps : List Placed) → under indent ps ≡ Some inner → inner ≡ indent + 1
unfolding under
under_is indent inner [] is = absurd (cc)
under_is indent inner (p ∷ ps) is = deeper indent inner (nat_lt indent p.indent) is

-- ---- lines

-- one line
one : (indent : ℕ) (p : Placed) (later rest : List Placed) (l : Line) → p.indent ≡ indent → p.line ≡ l → later ≡ rest → IsYield (p ∷ later) ((indent, l) ∷ []) rest
one indent p later rest l at is left =
    ap {B = List IndentedLine} (λ n. (n, p.line) ∷ map indented later) at
    ∙ (ap {B = List IndentedLine} (λ x. (indent, x) ∷ map indented later) is ∙ ap {B = List IndentedLine} (λ qs. (indent, l) ∷ map indented qs) left)

-- lines and those after them
join : (ps mid rest : List Placed) (xs ys : List IndentedLine) → IsYield ps xs mid → IsYield mid ys rest → IsYield ps (xs ++ ys) rest
join ps mid rest xs ys first second = first ∙ (ap (λ ls. xs ++ ls) second ∙ sym (append_assoc xs ys (map indented rest)))

simple_by : (indent : ℕ) (p : Placed) (later : List Placed) (l : Line) (s : Stmt) (rest : List Placed) → p.line ≡ l → p.indent ≡ indent
    → and_then (statements_of p l later) (λ found. pure (simple found)) ≡ Ok (s, rest) → IsYield (p ∷ later) (stmt_yield indent s) rest
unfolding stmt_yield
simple_by indent p later (line.simple found) s rest is at e =
    parts (simple found) s later rest e (λ same left.
    subst (λ x. IsYield (p ∷ later) (stmt_yield indent x) rest) same (one indent p later rest (line.simple found) at is left))
simple_by indent p later (line.header h colon found) s rest is at e = refused p.number (s, rest) e
simple_by indent p later (line.decorator t v) s rest is at e = refused p.number (s, rest) e

simple_ok : (indent : ℕ) (p : Placed) (later ps : List Placed) (s : Stmt) (rest : List Placed) → ps ≡ p ∷ later → p.indent ≡ indent
    → simple_line ps ≡ Ok (s, rest) → IsYield ps (stmt_yield indent s) rest
unfolding simple_line take_one
simple_ok indent p later ps s rest ps_is at e =
    subst (λ qs. IsYield qs (stmt_yield indent s) rest) (sym ps_is)
    (simple_by indent p later p.line s rest refl at (subst (λ qs. simple_line qs ≡ Ok (s, rest)) ps_is e))

mark_by : (indent : ℕ) (p : Placed) (later : List Placed) (l : Line) (d : Decorator) (rest : List Placed) → p.line ≡ l → p.indent ≡ indent
    → decorator_of p l later ≡ Ok (d, rest) → IsYield (p ∷ later) ((indent, line.decorator d.mark d.value) ∷ []) rest
mark_by indent p later (line.decorator t v) d rest is at e =
    parts (record { mark = t; value = v }) d later rest e (λ same left.
    subst (λ (x : Decorator). IsYield (p ∷ later) ((indent, line.decorator x.mark x.value) ∷ []) rest) same (one indent p later rest (line.decorator t v) at is left))
mark_by indent p later (line.simple found) d rest is at e = refused p.number (d, rest) e
mark_by indent p later (line.header h colon found) d rest is at e = refused p.number (d, rest) e

mark_ok : (indent : ℕ) (p : Placed) (later ps : List Placed) (d : Decorator) (rest : List Placed) → ps ≡ p ∷ later → p.indent ≡ indent
    → decorator_line ps ≡ Ok (d, rest) → IsYield ps ((indent, line.decorator d.mark d.value) ∷ []) rest
unfolding decorator_line take_one
mark_ok indent p later ps d rest ps_is at e =
    subst (λ qs. IsYield qs ((indent, line.decorator d.mark d.value) ∷ []) rest) (sym ps_is)
    (mark_by indent p later p.line d rest refl at (subst (λ qs. decorator_line qs ≡ Ok (d, rest)) ps_is e))

-- ---- decorators

-- either way of a test
pub either : {A G : Type 0} (o other : BlocksParsed A) (b : Bool) (r : A × List Placed) → (if b then o else other) ≡ Ok r
    → (b ≡ true → o ≡ Ok r → G) → (b ≡ false → other ≡ Ok r → G) → G
either o other true r e holds fails = holds refl e
either o other false r e holds fails = fails refl e

decorators_ok : (n indent : ℕ) (ps : List Placed) (marks : List Decorator) (rest : List Placed) → decorators n indent ps ≡ Ok (marks, rest)
    → IsYield ps (marks_yield indent marks) rest
unfolding decorators
decorators_ok zero indent ps marks rest e =
    parts [] marks ps rest e (λ same left. subst (λ x. IsYield ps (marks_yield indent x) rest) same (ap (map indented) left))
decorators_ok (suc n) indent ps marks rest e =
    either _ _ (is_decorator (next_of indent ps)) (marks, rest) e
    (λ some held.
    bind (decorator_line ps) _ (marks, rest) held (λ d mid first then_more.
    bind (decorators n indent mid) _ (marks, rest) then_more (λ more left read made.
    parts (d ∷ more) marks left rest made (λ same end.
    subst (λ x. IsYield ps (marks_yield indent x) rest) same
    (here indent (next_of indent ps) ps refl (decorator_stands (next_of indent ps) some) (λ p later ps_is at.
    join ps mid rest ((indent, line.decorator d.mark d.value) ∷ []) (marks_yield indent more) (mark_ok indent p later ps d mid ps_is at first)
    (decorators_ok n indent mid more rest (read ∙ ap {B = BlocksParsed (List Decorator)} (λ qs. Ok (more, qs)) end))))))))
    (λ none over. parts [] marks ps rest over (λ same left. subst (λ x. IsYield ps (marks_yield indent x) rest) same (ap (map indented) left)))

-- ---- over what reads the block at an indent

-- its statements hold the lines that it takes
abbrev pub Holds : (ℕ → Parser Stmts) → Type 0
Holds S = (indent : ℕ) (ps : List Placed) (found : Stmts) (rest : List Placed) → S indent ps ≡ Ok (found, rest) → IsYield ps (stmts_yield indent found) rest

module _ (S : ℕ → Parser Stmts) (holds : Holds S) where
  -- a header and what it heads
  block_under : (number indent : ℕ) (h : Header) (colon : Token) (ps : List Placed) (body : Suite) (rest : List Placed) (o : Option ℕ)
      → under indent ps ≡ o → suite_under S number o ps ≡ Ok (body, rest)
      → (indent, line.header h colon no_item) ∷ map indented ps ≡ suite_yield indent h colon body ++ map indented rest
  unfolding suite_yield
  block_under number indent h colon ps body rest None is e = refused number (body, rest) e
  block_under number indent h colon ps body rest (Some inner) is e =
      bind (S inner ps) _ (body, rest) e (λ found later read made.
      parts (block found) body later rest made (λ same left.
      subst (λ x. (indent, line.header h colon no_item) ∷ map indented ps ≡ suite_yield indent h colon x ++ map indented rest) same
      (ap {B = List IndentedLine} (λ ls. (indent, line.header h colon no_item) ∷ ls)
      (holds (indent + 1) ps found rest
      (subst (λ n. S n ps ≡ Ok (found, rest)) (under_is indent inner ps is) (read ∙ ap {B = BlocksParsed Stmts} (λ qs. Ok (found, qs)) left))))))

  on_line : (indent : ℕ) (h : Header) (colon : Token) (found : Separated SimpleStatement) (ps : List Placed) (body : Suite) (rest : List Placed)
      → ◌≡◌ {A = BlocksParsed Suite} (Ok (inline found, ps)) (Ok (body, rest))
      → (indent, line.header h colon found) ∷ map indented ps ≡ suite_yield indent h colon body ++ map indented rest
  unfolding suite_yield
  on_line indent h colon found ps body rest e =
      parts (inline found) body ps rest e (λ same left.
      subst (λ x. (indent, line.header h colon found) ∷ map indented ps ≡ suite_yield indent h colon x ++ map indented rest) same
      (ap {B = List IndentedLine} (λ qs. (indent, line.header h colon found) ∷ map indented qs) left))

  suite_ok : (number indent : ℕ) (h : Header) (colon : Token) (found : Separated SimpleStatement) (ps : List Placed) (body : Suite) (rest : List Placed)
      → suite S number indent found ps ≡ Ok (body, rest) → (indent, line.header h colon found) ∷ map indented ps ≡ suite_yield indent h colon body ++ map indented rest
  unfolding suite
  suite_ok number indent h colon no_item ps body rest e = block_under number indent h colon ps body rest (under indent ps) refl e
  suite_ok number indent h colon (last_item x) ps body rest e = on_line indent h colon (last_item x) ps body rest e
  suite_ok number indent h colon (item x t xs) ps body rest e = on_line indent h colon (item x t xs) ps body rest e

  clause_by_line : (indent : ℕ) (p : Placed) (later : List Placed) (l : Line) (c : CompoundClause) (rest : List Placed) → p.line ≡ l → p.indent ≡ indent
      → clause_of S p indent l later ≡ Ok (c, rest) → IsYield (p ∷ later) (clause_yield indent c) rest
  unfolding clause_yield
  clause_by_line indent p later (line.header h colon found) c rest is at e =
      bind (suite S p.number indent found later) _ (c, rest) e (λ body left read made.
      parts (clause h colon body) c left rest made (λ same end.
      subst (λ x. IsYield (p ∷ later) (clause_yield indent x) rest) same
      (ap {B = List IndentedLine} (λ n. (n, p.line) ∷ map indented later) at
      ∙ (ap {B = List IndentedLine} (λ l. (indent, l) ∷ map indented later) is
      ∙ suite_ok p.number indent h colon found later body rest (read ∙ ap {B = BlocksParsed Suite} (λ qs. Ok (body, qs)) end)))))
  clause_by_line indent p later (line.simple found) c rest is at e = refused p.number (c, rest) e
  clause_by_line indent p later (line.decorator t v) c rest is at e = refused p.number (c, rest) e

  pub clause_ok : (indent : ℕ) (p : Placed) (later ps : List Placed) (c : CompoundClause) (rest : List Placed) → ps ≡ p ∷ later → p.indent ≡ indent
      → one_clause S indent ps ≡ Ok (c, rest) → IsYield ps (clause_yield indent c) rest
  unfolding one_clause take_one
  clause_ok indent p later ps c rest ps_is at e =
      subst (λ qs. IsYield qs (clause_yield indent c) rest) (sym ps_is)
      (clause_by_line indent p later p.line c rest refl at (subst (λ qs. one_clause S indent qs ≡ Ok (c, rest)) ps_is e))

  -- what the turns after one hold
  abbrev More : ℕ → ℕ → Type 0
  More n indent = (so : After) (ps : List Placed) (found : CompoundClauses) (rest : List Placed) → clauses S n indent so ps ≡ Ok (found, rest)
      → IsYield ps (clauses_yield indent found) rest

  clauses_step : (n indent : ℕ) (so : After) (ps : List Placed) (x : Option (CompoundClause × After)) (later : List Placed) (found : CompoundClauses) (rest : List Placed)
      → More n indent → (o : Option After) → follower so indent ps ≡ o → clause_by S indent o ps ≡ Ok (x, later)
      → clauses_after (clauses S n indent) x later ≡ Ok (found, rest) → IsYield ps (clauses_yield indent found) rest
  unfolding clauses_yield
  clauses_step n indent so ps x later found rest more None is read made =
      parts None x ps later read (λ same left.
      parts no_clause found later rest (subst (λ y. clauses_after (clauses S n indent) y later ≡ Ok (found, rest)) (sym same) made) (λ none end.
      subst (λ y. IsYield ps (clauses_yield indent y) rest) none (ap (map indented) (left ∙ end))))
  clauses_step n indent so ps x later found rest more (Some stood) is read made =
      bind (one_clause S indent ps) _ (x, later) read (λ c mid first x_is.
      parts (Some (c, stood)) x mid later x_is (λ same left.
      bind (clauses S n indent stood later) _ (found, rest) (subst (λ y. clauses_after (clauses S n indent) y later ≡ Ok (found, rest)) (sym same) made) (λ others end read_on all.
      parts (another c others) found end rest all (λ whole ended.
      subst (λ y. IsYield ps (clauses_yield indent y) rest) whole
      (follower_here so indent stood ps is (λ p after_p ps_is at.
      join ps later rest (clause_yield indent c) (clauses_yield indent others)
      (clause_ok indent p after_p ps c later ps_is at (first ∙ ap {B = BlocksParsed CompoundClause} (λ qs. Ok (c, qs)) left))
      (more stood later others rest (read_on ∙ ap {B = BlocksParsed CompoundClauses} (λ qs. Ok (others, qs)) ended))))))))

  clauses_ok : (n indent : ℕ) → More n indent
  unfolding clauses clauses_yield next_clause
  clauses_ok zero indent so ps found rest e =
      parts no_clause found ps rest e (λ same left. subst (λ y. IsYield ps (clauses_yield indent y) rest) same (ap (map indented) left))
  clauses_ok (suc n) indent so ps found rest e =
      bind (next_clause S so indent ps) _ (found, rest) e (λ x later read made.
      clauses_step n indent so ps x later found rest (clauses_ok n indent) (follower so indent ps) refl read made)

  compound_ok : (indent : ℕ) (so : After) (marks : List Decorator) (p : Placed) (later ps : List Placed) (s : Stmt) (rest : List Placed)
      → ps ≡ p ∷ later → p.indent ≡ indent → compound_statement S indent marks so ps ≡ Ok (s, rest)
      → marks_yield indent marks ++ map indented ps ≡ stmt_yield indent s ++ map indented rest
  unfolding compound_statement all_clauses stmt_yield
  compound_ok indent so marks p later ps s rest ps_is at e =
      bind (one_clause S indent ps) _ (s, rest) e (λ c mid first then_more.
      bind (all_clauses S indent so mid) _ (s, rest) then_more (λ others left read made.
      parts (compound marks c others) s left rest made (λ same end.
      subst (λ x. marks_yield indent marks ++ map indented ps ≡ stmt_yield indent x ++ map indented rest) same
      (ap (λ ls. marks_yield indent marks ++ ls)
      (join ps mid rest (clause_yield indent c) (clauses_yield indent others) (clause_ok indent p later ps c mid ps_is at first)
      (clauses_ok (length mid) indent so mid others rest (read ∙ ap {B = BlocksParsed CompoundClauses} (λ qs. Ok (others, qs)) end)))
      ∙ sym (append_assoc (marks_yield indent marks) (clause_yield indent c ++ clauses_yield indent others) (map indented rest))))))

  definition_ok : (number indent : ℕ) (marks : List Decorator) (ps : List Placed) (s : Stmt) (rest : List Placed) → definition S number indent marks ps ≡ Ok (s, rest)
      → marks_yield indent marks ++ map indented ps ≡ stmt_yield indent s ++ map indented rest
  unfolding definition
  definition_ok number indent marks ps s rest e =
      either _ _ (is_definition (next_of indent ps)) (s, rest) e
      (λ some held. here indent (next_of indent ps) ps refl (definition_stands (next_of indent ps) some) (λ p later ps_is at.
      compound_ok indent after.Nothing marks p later ps s rest ps_is at held))
      (λ none over. refused number (s, rest) over)

  pub decorated_definition_ok : (indent : ℕ) (ps : List Placed) (s : Stmt) (rest : List Placed) → decorated_definition S indent ps ≡ Ok (s, rest) → IsYield ps (stmt_yield indent s) rest
  unfolding decorated_definition all_decorators
  decorated_definition_ok indent ps s rest e =
      bind (all_decorators indent ps) _ (s, rest) e (λ marks mid row made.
      decorators_ok (length ps) indent ps marks mid row ∙ definition_ok (number_of ps) indent marks mid s rest made)

  -- what one statement or none holds
  abbrev pub OneHolds : ℕ → List Placed → Option Stmt → List Placed → Type 0
  OneHolds indent ps None rest = ps ≡ rest
  OneHolds indent ps (Some s) rest = IsYield ps (stmt_yield indent s) rest

  some_statement : (indent : ℕ) (o : BlocksParsed Stmt) (ps : List Placed) (x : Option Stmt) (rest : List Placed)
      → and_then o (λ found. pure (Some found)) ≡ Ok (x, rest) → ((s : Stmt) (later : List Placed) → o ≡ Ok (s, later) → IsYield ps (stmt_yield indent s) later)
      → OneHolds indent ps x rest
  some_statement indent o ps x rest e each =
      bind o _ (x, rest) e (λ s later read made.
      parts (Some s) x later rest made (λ same left.
      subst (λ y. OneHolds indent ps y rest) same (subst (λ qs. IsYield ps (stmt_yield indent s) qs) left (each s later read))))

  pub statement_ok : (indent : ℕ) (found : Next) (ps : List Placed) (x : Option Stmt) (rest : List Placed) → next_of indent ps ≡ found
      → statement_by S indent found ps ≡ Ok (x, rest) → OneHolds indent ps x rest
  statement_ok indent next.End ps x rest is e = parts None x ps rest e (λ same left. subst (λ y. OneHolds indent ps y rest) same left)
  statement_ok indent (next.Fault number) ps x rest is e = refused number (x, rest) e
  statement_ok indent next.Simple ps x rest is e =
      some_statement indent (simple_line ps) ps x rest e (λ s later read. here indent next.Simple ps is refl (λ p after_p ps_is at. simple_ok indent p after_p ps s later ps_is at read))
  statement_ok indent next.Decorator ps x rest is e =
      some_statement indent (decorated_definition S indent ps) ps x rest e (λ s later read. decorated_definition_ok indent ps s later read)
  statement_ok indent next.Definition ps x rest is e =
      some_statement indent (compound_statement S indent [] after.Nothing ps) ps x rest e (λ s later read. here indent next.Definition ps is refl (λ p after_p ps_is at.
      compound_ok indent after.Nothing [] p after_p ps s later ps_is at read))
  statement_ok indent (next.Header so) ps x rest is e =
      some_statement indent (compound_statement S indent [] so ps) ps x rest e (λ s later read. here indent (next.Header so) ps is refl (λ p after_p ps_is at.
      compound_ok indent so [] p after_p ps s later ps_is at read))

  statements_step : (n indent : ℕ) (ps : List Placed) (x : Option Stmt) (later : List Placed) (found : Stmts) (rest : List Placed)
      → Holds (statements S n) → OneHolds indent ps x later → statements_after (statements S n indent) x later ≡ Ok (found, rest)
      → IsYield ps (stmts_yield indent found) rest
  unfolding stmts_yield
  statements_step n indent ps None later found rest more first e =
      parts no_statement found later rest e (λ same left. subst (λ y. IsYield ps (stmts_yield indent y) rest) same (ap (map indented) (first ∙ left)))
  statements_step n indent ps (Some s) later found rest more first e =
      bind (statements S n indent later) _ (found, rest) e (λ others left read made.
      parts (statement s others) found left rest made (λ same end.
      subst (λ y. IsYield ps (stmts_yield indent y) rest) same
      (join ps later rest (stmt_yield indent s) (stmts_yield indent others) first
      (more indent later others rest (read ∙ ap {B = BlocksParsed Stmts} (λ qs. Ok (others, qs)) end)))))

  statements_ok : (n : ℕ) → Holds (statements S n)
  unfolding statements next_statement stmts_yield
  statements_ok zero indent ps found rest e =
      parts no_statement found ps rest e (λ same left. subst (λ y. IsYield ps (stmts_yield indent y) rest) same (ap (map indented) left))
  statements_ok (suc n) indent ps found rest e =
      bind (next_statement S indent ps) _ (found, rest) e (λ x later read made.
      statements_step n indent ps x later found rest (statements_ok n) (statement_ok indent (next_of indent ps) ps x later refl read) made)

-- ---- blocks

-- the statements of a block hold the lines that were taken, in text order, each at its level
pub block_holds : (depth : ℕ) → Holds (block_at depth)
unfolding block_at all_statements
block_holds zero indent ps found rest e = refused (number_of ps) (found, rest) e
block_holds (suc depth) indent ps found rest e = statements_ok (block_at depth) (block_holds depth) (length ps) indent ps found rest e

-- ---- modules

pub clause_some : (indent : ℕ) (c : CompoundClause) → 1 ≤ length (clause_yield indent c)
unfolding clause_yield
clause_some indent (clause h colon (inline found)) = omega arith
clause_some indent (clause h colon (block inner)) = omega arith

-- a statement has a line
stmt_some : (indent : ℕ) (s : Stmt) → 1 ≤ length (stmt_yield indent s)
unfolding stmt_yield
stmt_some indent (simple found) = omega arith
stmt_some indent (compound marks first others) =
    let all = length-append (marks_yield indent marks) (clause_yield indent first ++ clauses_yield indent others) in
    let clauses = length-append (clause_yield indent first) (clauses_yield indent others) in
    let some = clause_some indent first in omega (arith, all, clauses, some)

-- fewer lines are left than there were
pub fewer : (indent : ℕ) (ps : List Placed) (s : Stmt) (rest : List Placed) → IsYield ps (stmt_yield indent s) rest → length rest < length ps
fewer indent ps s rest is =
    let all = ap length is ∙ length-append (stmt_yield indent s) (map indented rest) in
    let whole = length-map ps indented in let left = length-map rest indented in let some = stmt_some indent s in omega (arith, all, whole, left, some)

next_of_header_goes : (number indent : ℕ) (ps : List Placed) (f : Form) → next_of_header number indent ps f ≡ next.End → ⊥
next_of_header_goes number indent ps form.If e = cc
next_of_header_goes number indent ps form.Elif e = cc
next_of_header_goes number indent ps form.Else e = cc
next_of_header_goes number indent ps form.While e = cc
next_of_header_goes number indent ps form.For e = cc
next_of_header_goes number indent ps form.Try e = one_of (handler_follows indent ps) e
  where
    one_of : (b : Bool) → (if b then next.Header after.Try else next.Fault number) ≡ next.End → ⊥
    one_of true e = cc
    one_of false e = cc
next_of_header_goes number indent ps form.Except e = cc
next_of_header_goes number indent ps form.Finally e = cc
next_of_header_goes number indent ps form.With e = cc
next_of_header_goes number indent ps form.Definition e = cc

pub beginning_goes : (number indent : ℕ) (ps : List Placed) (l : Line) → next_of_line number indent ps l ≡ next.End → ⊥
beginning_goes number indent ps (line.simple found) e = cc
beginning_goes number indent ps (line.header h colon found) e = next_of_header_goes number indent ps (form_of h) e
beginning_goes number indent ps (line.decorator t v) e = cc

-- no line ends the block that is not indented
goes_on : (own number : ℕ) (a b : Bool) (others : Next) → nat_lt own 0 ≡ a → (if a then next.End else if b then next.Fault number else others) ≡ next.End
    → (others ≡ next.End → ⊥) → ⊥
goes_on own number true b others below e go = let less = ltb-true own 0 below in omega (arith, less)
goes_on own number false true others below e go = cc
goes_on own number false false others below e go = go e

pub ends : (ps : List Placed) → next_of 0 ps ≡ next.End → ps ≡ []
unfolding next_of
ends [] e = refl
ends (p ∷ ps) e =
    absurd (goes_on p.indent p.number (nat_lt p.indent 0) (nat_lt 0 p.indent) (next_of_line p.number 0 ps p.line) refl e (beginning_goes p.number 0 ps p.line))

empty : (ps : List Placed) → length ps ≤ 0 → ps ≡ []
empty [] few = refl
empty (p ∷ ps) few = absurd (omega (arith, few))

none_left : {G : Type 0} (o : BlocksParsed Stmt) (x : Option Stmt) (rest : List Placed) → and_then o (λ found. pure (Some found)) ≡ Ok (x, rest) → x ≡ None → G
none_left (Ok p) x rest e none = parts (Some p.0) x p.1 rest e (λ same left. absurd (cc))
none_left (Err number) x rest e none = refused number (x, rest) e

module _ (S : ℕ → Parser Stmts) (holds : Holds S) where
  -- only the end of a block gives no statement
  pub over : (indent : ℕ) (found : Next) (ps : List Placed) (x : Option Stmt) (rest : List Placed) → statement_by S indent found ps ≡ Ok (x, rest) → x ≡ None
      → found ≡ next.End
  over indent next.End ps x rest e none = refl
  over indent (next.Fault number) ps x rest e none = refused number (x, rest) e
  over indent next.Simple ps x rest e none = none_left (simple_line ps) x rest e none
  over indent next.Decorator ps x rest e none = none_left (decorated_definition S indent ps) x rest e none
  over indent next.Definition ps x rest e none = none_left (compound_statement S indent [] after.Nothing ps) x rest e none
  over indent (next.Header so) ps x rest e none = none_left (compound_statement S indent [] so ps) x rest e none

  -- in so many turns the block that is not indented reads all lines
  abbrev ReadsAll : ℕ → Type 0
  ReadsAll n = (ps : List Placed) (found : Stmts) (rest : List Placed) → length ps ≤ n → statements S n 0 ps ≡ Ok (found, rest) → rest ≡ []

  all_step : (n : ℕ) (ps : List Placed) (x : Option Stmt) (later : List Placed) (found : Stmts) (rest : List Placed) → length ps ≤ suc n → ReadsAll n
      → statement_by S 0 (next_of 0 ps) ps ≡ Ok (x, later) → statements_after (statements S n 0) x later ≡ Ok (found, rest) → rest ≡ []
  all_step n ps None later found rest few more read e =
      parts no_statement found later rest e (λ same left.
      sym left ∙ (sym (statement_ok S holds 0 (next_of 0 ps) ps None later refl read) ∙ ends ps (over 0 (next_of 0 ps) ps None later read refl)))
  all_step n ps (Some s) later found rest few more read e =
      bind (statements S n 0 later) _ (found, rest) e (λ others left read_on made.
      parts (statement s others) found left rest made (λ same end.
      let less = fewer 0 ps s later (statement_ok S holds 0 (next_of 0 ps) ps (Some s) later refl read) in
      sym end ∙ more later others left (omega (arith, few, less)) read_on))

  statements_all : (n : ℕ) → ReadsAll n
  unfolding statements next_statement
  statements_all zero ps found rest few e = parts no_statement found ps rest e (λ same left. sym left ∙ empty ps few)
  statements_all (suc n) ps found rest few e =
      bind (next_statement S 0 ps) _ (found, rest) e (λ x later read made. all_step n ps x later found rest few (statements_all n) read made)

pub block_all : (depth : ℕ) (ps : List Placed) (found : Stmts) (rest : List Placed) → block_at (suc depth) 0 ps ≡ Ok (found, rest) → rest ≡ []
unfolding block_at all_statements
block_all depth ps found rest e = statements_all (block_at depth) (block_holds depth) (length ps) ps found rest (omega arith) e

whole : (depth : ℕ) (ps : List Placed) (o : BlocksParsed Stmts) (found : Stmts) → block_at (suc depth) 0 ps ≡ o → module_of o ≡ Ok found → map indented ps ≡ stmts_yield 0 found
whole depth ps (Ok p) found is e =
    block_holds (suc depth) 0 ps p.0 p.1 is
    ∙ (ap (λ rest. stmts_yield 0 p.0 ++ map indented rest) (block_all depth ps p.0 p.1 is)
    ∙ (append-nil (stmts_yield 0 p.0) ∙ ap (stmts_yield 0) (cc)))
whole depth ps (Err number) found is e = absurd (cc)

-- the statements of a module hold all its lines, in text order, each at its level
pub blocks_hold : (ps : List Placed) (found : Stmts) → blocks ps ≡ Ok found → map indented ps ≡ stmts_yield 0 found
unfolding blocks
blocks_hold ps found e = whole 64 ps (block_at 65 0 ps) found refl e
