-- The fault of blocks is their first misplaced line.
use Rattle.std.proofs.Common.{◌≡◌, ◌<◌, ◌≤◌, ◌+◌, ◌==◌, ◌&&◌, ◌||◌, not, ℕ, zero, suc, Bool, true, false, true≢false, nat_lt, if◌then◌else◌, List, [], ◌∷◌, length, Option, Some, None, Ok, Err, refl, sym, ap, subst, ◌∙◌, arith}
use Rattle.std.proofs.lemmas.Bool.{ltb-true, ltb-false, lt-ltb, eqb-true}
use Rattle.pyc_token.specs.declared.tokens.Token.{Token}
use Rattle.pyc_tree.specs.declared.block.After.{After}
use Rattle.pyc_tree.specs.declared.block.After.TheVariants as after
use Rattle.pyc_tree.specs.declared.block.Form.{Form}
use Rattle.pyc_tree.specs.declared.block.Form.TheVariants as form
use Rattle.pyc_tree.specs.declared.block.Next.TheVariants as next
use Rattle.pyc_tree.specs.BlockTrees.{Decorator, Stmt, compound, CompoundClause, clause, no_clause, another, inline, block, Stmts, statement}
use Rattle.pyc_tree.specs.Lines.{Header, Line}
use Rattle.pyc_tree.specs.Lines as line
use Rattle.pyc_tree.specs.Statements.{SimpleStatement, Separated}
use Rattle.pyc_parse.specs.Blocks.{Placed, BlocksParsed, Parser, and_then, pure, take_one, form_of, is_none, follows, handler_follows, next_of_header, next_of_line, next_of, line_follows, follower, under, number_of, is_definition, simple_line, decorators, all_decorators, suite, suite_under, one_clause, clause_by, next_clause, clauses_after, clauses, all_clauses, compound_statement, definition, decorated_definition, statement_by, next_statement, statements_after, statements, all_statements, block_at, module_of, blocks}
use Rattle.pyc_parse.specs.Misplaced.{deepest, AreReported}
use Rattle.pyc_parse.proofs.MisplacedLemmas.{not_true, or_second, same_nat, deeper_next, state_in, state_of, state, joined, is_some, continues, decorates, is_out, is_astray, first, none_first, some_first}
use Rattle.pyc_parse.proofs.MisplacedSteps.{Goes, goes_on, bind, weaken, Low, Settled, Ends, Keeps, Ready, Block, Clause, Past, Statement, AfterNext, keeps_line, ends_low, joined_none, put, first_here, first_past, astray_here, not_below, next_here, state_header, settled_under, follows_in, moves, Marked, marks_read, Stopped, stopped}

-- ---- statements, over what reads the block under a header

-- the block one level under an indent is read so
abbrev Reads : (ℕ → Parser Stmts) → ℕ → Type 0
Reads self i = (before : List Placed) (q : Placed) (ps : List Placed) → Ready (i + 1) before (q ∷ ps) → i < q.indent
    → Goes before (q ∷ ps) (λ _ gone rest. Block (i + 1) before (q ∷ ps) gone rest) (self (i + 1) (q ∷ ps))

module _ (self : ℕ → Parser Stmts) (i : ℕ) (top : i ≤ 64) (reads : Reads self i) where
  -- a header without statements
  bare_reads : (before : List Placed) (number : ℕ) (h : Header) (colon : Token) (found : Separated SimpleStatement) (ps : List Placed) → i ≤ deepest before
      → is_out before i ps (form_of h) ≡ false → is_none found ≡ true
      → Goes before (put i number (line.header h colon found) ∷ ps) (λ _ gone rest. Clause i (put i number (line.header h colon found) ∷ before) ps gone rest)
      (suite_under self number (under i ps) ps)
  unfolding under
  bare_reads before number h colon found [] high out bare =
      astray_here i number (line.header h colon found) before [] (rw bare refl)
  bare_reads before number h colon found (q ∷ ps) high out bare =
      let l : Line = line.header h colon found in
      let p : Placed = put i number l in
      elim (nat_lt i q.indent) as (λ b. nat_lt i q.indent ≡ b → Goes before (p ∷ q ∷ ps) (λ _ gone rest. Clause i (p ∷ before) (q ∷ ps) gone rest)
      (suite_under self number (if b then Some (i + 1) else None) (q ∷ ps))) [
        | true ↦ λ deep.
            let inner : i < q.indent = ltb-true i q.indent deep in
            let level : deepest (p ∷ before) ≡ i + 1 = rw bare refl in
            let ready : Ready (i + 1) (p ∷ before) (q ∷ ps) = record {
              high = omega (arith, level);
              low = λ more. omega (arith, level, more);
              settled = λ _. settled_under i number l before q.line;
            } in
            let clean : is_astray before i (q ∷ ps) l ≡ false = rw (bare, deep) out in
            bind before (p ∷ q ∷ ps) (λ _ gone rest. Block (i + 1) (p ∷ before) (q ∷ ps) gone rest) (λ _ gone rest. Clause i (p ∷ before) (q ∷ ps) gone rest)
            (self (i + 1) (q ∷ ps)) (λ found. pure (block found))
            (goes_on before (p ∷ q ∷ ps) (p ∷ before) (q ∷ ps) (λ _ gone rest. Block (i + 1) (p ∷ before) (q ∷ ps) gone rest) (self (i + 1) (q ∷ ps))
            (first_past i number l before (q ∷ ps) top high clean) (reads (p ∷ before) q ps ready inner))
            (λ a gone rest b. (
              gone,
              refl,
              record {
                high = omega (arith, b.high);
                low = ends_low i gone rest b.ends;
                same = λ j most. b.keeps j (omega (arith, most));
                shorter = b.shorter;
              },
            ))
        | false ↦ λ flat. astray_here i number l before (q ∷ ps) (rw (bare, flat) refl)
      ] refl

  -- a header with statements on its line
  inline_reads : (before : List Placed) (number : ℕ) (h : Header) (colon : Token) (found : Separated SimpleStatement) (ps : List Placed) → i ≤ deepest before
      → is_out before i ps (form_of h) ≡ false → is_none found ≡ false
      → Goes before (put i number (line.header h colon found) ∷ ps) (λ _ gone rest. Clause i (put i number (line.header h colon found) ∷ before) ps gone rest)
      (pure (inline found) ps)
  inline_reads before number h colon found ps high out some =
      let l : Line = line.header h colon found in
      let level : deepest (put i number l ∷ before) ≡ i = rw some refl in (
        put i number l ∷ before,
        first_past i number l before ps top high (rw some out),
        record {
          high = omega (arith, level);
          low = low_after ps (put i number l ∷ before) level;
          same = λ j most. refl;
          shorter = omega arith;
        },
      )
    where
      low_after : (ps begun : List Placed) → deepest begun ≡ i → Low i begun ps
      low_after [] begun level = tt
      low_after (q ∷ ps) begun level = λ more. omega (arith, level, more)

  suite_reads : (before : List Placed) (number : ℕ) (h : Header) (colon : Token) (found : Separated SimpleStatement) (ps : List Placed) → i ≤ deepest before
      → is_out before i ps (form_of h) ≡ false
      → Goes before (put i number (line.header h colon found) ∷ ps) (λ _ gone rest. Clause i (put i number (line.header h colon found) ∷ before) ps gone rest)
      (suite self number i found ps)
  unfolding suite
  suite_reads before number h colon found ps high out =
      let l : Line = line.header h colon found in
      elim (is_none found) as (λ b. is_none found ≡ b → Goes before (put i number l ∷ ps) (λ _ gone rest. Clause i (put i number l ∷ before) ps gone rest)
      (if b then suite_under self number (under i ps) ps else Ok (inline found, ps))) [
        | true ↦ λ bare. bare_reads before number h colon found ps high out bare
        | false ↦ λ some. inline_reads before number h colon found ps high out some
      ] refl

  -- a clause
  one_reads : (before : List Placed) (number : ℕ) (h : Header) (colon : Token) (found : Separated SimpleStatement) (ps : List Placed) → i ≤ deepest before
      → is_out before i ps (form_of h) ≡ false
      → Goes before (put i number (line.header h colon found) ∷ ps) (λ _ gone rest. Clause i (put i number (line.header h colon found) ∷ before) ps gone rest)
      (one_clause self i (put i number (line.header h colon found) ∷ ps))
  unfolding one_clause take_one
  one_reads before number h colon found ps high out =
      let p : Placed = put i number (line.header h colon found) in
      bind before (p ∷ ps) (λ _ gone rest. Clause i (p ∷ before) ps gone rest) (λ _ gone rest. Clause i (p ∷ before) ps gone rest)
      (suite self number i found ps) (λ body. pure (clause h colon body)) (suite_reads before number h colon found ps high out) (λ a gone rest c. (gone, refl, c))

  -- what a clause leaves, of which it is known what it is to those after it
  state_kept : (before : List Placed) (number : ℕ) (h : Header) (colon : Token) (found : Separated SimpleStatement) (ps gone rest : List Placed) (so : After)
      → state_of i (form_of h) before ≡ so → Clause i (put i number (line.header h colon found) ∷ before) ps gone rest → state i gone ≡ Some so
  state_kept before number h colon found ps gone rest so is c =
      ap (state_in i) (c.same i (omega arith)) ∙ state_header i number h colon found before ∙ ap Some is

  keeps_clause : (before : List Placed) (number : ℕ) (l : Line) (ps gone rest : List Placed) → Clause i (put i number l ∷ before) ps gone rest → Keeps i before gone
  keeps_clause before number l ps gone rest c = λ j under. c.same j (omega (arith, under)) ∙ keeps_line i (put i number l) before (omega arith) j under

  -- no other clause follows
  none_follows : (before ps : List Placed) → i ≤ deepest before → Low i before ps → Settled i before ps
      → Goes before ps (λ _ gone rest. Past i before ps gone rest) (pure no_clause ps)
  none_follows before ps high low settled =
      (before, refl, record { ready = record { high = high; low = low; settled = settled }; keeps = λ j under. refl; shorter = omega arith })

  abbrev Follow : ℕ → Type 0
  Follow n = (before ps : List Placed) (so : After) → length ps ≤ n → i ≤ deepest before → Low i before ps → state i before ≡ Some so
      → Goes before ps (λ _ gone rest. Past i before ps gone rest) (clauses self n i so ps)

  -- another clause, and those after it
  another_reads : (n : ℕ) → Follow n → (before : List Placed) (number : ℕ) (h : Header) (colon : Token) (found : Separated SimpleStatement) (ps : List Placed) (so next : After)
      → length ps ≤ n → i ≤ deepest before → state i before ≡ Some so → follows so (form_of h) ≡ Some next
      → Goes before (put i number (line.header h colon found) ∷ ps) (λ _ gone rest. Past i before (put i number (line.header h colon found) ∷ ps) gone rest)
      (and_then (clause_by self i (Some next) (put i number (line.header h colon found) ∷ ps)) (clauses_after (clauses self n i)))
  another_reads n more before number h colon found ps so next most high is follow =
      let l : Line = line.header h colon found in
      let p : Placed = put i number l in
      bind before (p ∷ ps) (λ a gone rest. (Clause i (p ∷ before) ps gone rest) × (c : CompoundClause) × (a ≡ Some (c, next))) (λ _ gone rest. Past i before (p ∷ ps) gone rest)
      (clause_by self i (Some next) (p ∷ ps)) (clauses_after (clauses self n i))
      (bind before (p ∷ ps) (λ _ gone rest. Clause i (p ∷ before) ps gone rest) (λ a gone rest. (Clause i (p ∷ before) ps gone rest) × (c : CompoundClause) × (a ≡ Some (c, next)))
      (one_clause self i (p ∷ ps)) (λ found. pure (Some (found, next)))
      (one_reads before number h colon found ps high (follows_in i before ps so next (form_of h) is follow))
      (λ a gone rest c. (gone, refl, (c, a, refl))))
      (λ a gone rest known.
      subst (λ (o : Option (CompoundClause × After)). Goes gone rest (λ _ gone rest. Past i before (p ∷ ps) gone rest) (clauses_after (clauses self n i) o rest)) (sym known.2)
      (bind gone rest (λ _ left later. Past i gone rest left later) (λ _ gone rest. Past i before (p ∷ ps) gone rest) (clauses self n i next rest) (λ rest. pure (another known.1 rest))
      (more gone rest next (omega (arith, known.0.shorter, most)) known.0.high known.0.low
      (state_kept before number h colon found ps gone rest next (moves i before so next (form_of h) is follow) known.0))
      (λ a left later past. (
        left,
        refl,
        record {
          ready = past.ready;
          keeps = λ j under. past.keeps j under ∙ keeps_clause before number l ps gone rest known.0 j under;
          shorter = omega (arith, past.shorter, known.0.shorter);
        },
      ))))

  -- the line next, at this indent, after a clause
  follow_line : (n : ℕ) → Follow n → (before : List Placed) (number : ℕ) (l : Line) (ps : List Placed) (so : After)
      → length ps ≤ n → i ≤ deepest before → Low i before (put i number l ∷ ps) → state i before ≡ Some so
      → Goes before (put i number l ∷ ps) (λ _ gone rest. Past i before (put i number l ∷ ps) gone rest)
      (and_then (clause_by self i (line_follows so l) (put i number l ∷ ps)) (clauses_after (clauses self n i)))
  follow_line n more before number (line.simple found) ps so most high low is =
      none_follows before (put i number (line.simple found) ∷ ps) high low (λ _. refl)
  follow_line n more before number (line.decorator t v) ps so most high low is =
      none_follows before (put i number (line.decorator t v) ∷ ps) high low (λ _. refl)
  follow_line n more before number (line.header h colon found) ps so most high low is =
      let p : Placed = put i number (line.header h colon found) in
      elim (follows so (form_of h)) as (λ o. follows so (form_of h) ≡ o → Goes before (p ∷ ps) (λ _ gone rest. Past i before (p ∷ ps) gone rest)
      (and_then (clause_by self i o (p ∷ ps)) (clauses_after (clauses self n i)))) [
        | None ↦ λ none. none_follows before (p ∷ ps) high low (λ _. ap (λ (o : Option After). joined o (form_of h)) is ∙ none)
        | Some next ↦ λ follow. another_reads n more before number h colon found ps so next most high is follow
      ] refl

  -- the line next, at its own indent
  follow_at : (n : ℕ) → Follow n → (before : List Placed) (own number : ℕ) (l : Line) (ps : List Placed) (so : After) → own ≡ i
      → length ps ≤ n → i ≤ deepest before → Low i before (put own number l ∷ ps) → state i before ≡ Some so
      → Goes before (put own number l ∷ ps) (λ _ gone rest. Past i before (put own number l ∷ ps) gone rest)
      (and_then (clause_by self i (line_follows so l) (put own number l ∷ ps)) (clauses_after (clauses self n i)))
  follow_at n more before own number l ps so same most high low is =
      subst (λ (x : ℕ). Low i before (put x number l ∷ ps) → Goes before (put x number l ∷ ps) (λ _ gone rest. Past i before (put x number l ∷ ps) gone rest)
      (and_then (clause_by self i (line_follows so l) (put x number l ∷ ps)) (clauses_after (clauses self n i)))) (sym same)
      (λ low. follow_line n more before number l ps so most high low is) low

  -- the clauses that follow
  clauses_read : (n : ℕ) → Follow n
  unfolding clauses next_clause follower
  clauses_read zero before [] so most high low is = none_follows before [] high low tt
  clauses_read zero before (p ∷ ps) so most high low is = absurd (omega (arith, most))
  clauses_read (suc n) before [] so most high low is = none_follows before [] high low tt
  clauses_read (suc n) before (p ∷ ps) so most high low is =
      elim (p.indent == i) as (λ b. (p.indent == i) ≡ b → Goes before (p ∷ ps) (λ _ gone rest. Past i before (p ∷ ps) gone rest)
      (and_then (clause_by self i (if b then line_follows so p.line else None) (p ∷ ps)) (clauses_after (clauses self n i)))) [
        | true ↦ λ same. follow_at n (clauses_read n) before p.indent p.number p.line ps so (eqb-true p.indent i same) (omega (arith, most)) high low is
        | false ↦ λ other. none_follows before (p ∷ ps) high low (λ same. absurd (true≢false (sym (same_nat p.indent i same) ∙ other)))
      ] refl

  -- a compound statement
  compound_reads : (before : List Placed) (number : ℕ) (h : Header) (colon : Token) (found : Separated SimpleStatement) (ps : List Placed) (marks : List Decorator) (so : After)
      → i ≤ deepest before → is_out before i ps (form_of h) ≡ false → state_of i (form_of h) before ≡ so
      → Goes before (put i number (line.header h colon found) ∷ ps) (λ _ gone rest. Statement i before (put i number (line.header h colon found) ∷ ps) gone rest)
      (compound_statement self i marks so (put i number (line.header h colon found) ∷ ps))
  unfolding compound_statement all_clauses
  compound_reads before number h colon found ps marks so high out is =
      let l : Line = line.header h colon found in
      let p : Placed = put i number l in
      bind before (p ∷ ps) (λ _ gone rest. Clause i (p ∷ before) ps gone rest) (λ _ gone rest. Statement i before (p ∷ ps) gone rest)
      (one_clause self i (p ∷ ps)) (λ c rest. and_then (clauses self (length rest) i so rest) (λ more. pure (compound marks c more)))
      (one_reads before number h colon found ps high out)
      (λ a gone rest c.
      bind gone rest (λ _ left later. Past i gone rest left later) (λ _ gone rest. Statement i before (p ∷ ps) gone rest)
      (clauses self (length rest) i so rest) (λ more. pure (compound marks a more))
      (clauses_read (length rest) gone rest so (omega arith) c.high c.low (state_kept before number h colon found ps gone rest so is c))
      (λ b left later past. (
        left,
        refl,
        record {
          ready = past.ready;
          keeps = λ j under. past.keeps j under ∙ keeps_clause before number l ps gone rest c j under;
          shorter = omega (arith, past.shorter, c.shorter);
        },
      )))

  -- a definition after its decorators
  definition_reads : (before : List Placed) (reported : ℕ) (marks : List Decorator) (ps gone rest : List Placed) → Marked i before ps gone rest
      → Goes gone rest (λ _ left later. Statement i gone rest left later) (definition self reported i marks rest)
  unfolding definition
  definition_reads before reported marks ps gone rest m =
      subst (λ (qs : List Placed). Goes gone qs (λ _ left later. Statement i gone qs left later)
      (if is_definition (next_of i qs) then compound_statement self i marks after.Nothing qs else Err reported)) (sym m.is)
      (rw (next_here i m.number (line.header m.h m.colon m.found) m.after) (rw (m.defines)
      (compound_reads gone m.number m.h m.colon m.found m.after marks after.Nothing m.high (ap (is_out gone i m.after) m.defines) (ap (λ (f : Form). state_of i f gone) m.defines))))

  -- decorators and what they decorate
  decorated_definition_reads : (before : List Placed) (number : ℕ) (t : Token) (v : _) (ps : List Placed) → i ≤ deepest before
      → Goes before (put i number (line.decorator t v) ∷ ps) (λ _ gone rest. Statement i before (put i number (line.decorator t v) ∷ ps) gone rest)
      (decorated_definition self i (put i number (line.decorator t v) ∷ ps))
  unfolding decorated_definition all_decorators definition number_of
  decorated_definition_reads before number t v ps high =
      let l : Line = line.decorator t v in
      let p : Placed = put i number l in
      elim (decorates i ps) as (λ b. decorates i ps ≡ b → Goes before (p ∷ ps) (λ _ gone rest. Statement i before (p ∷ ps) gone rest)
      (and_then (decorators (length (p ∷ ps)) i (p ∷ ps)) (definition self number i))) [
        | true ↦ λ yes.
            let whole : decorates i (p ∷ ps) ≡ true = rw (same_nat i i refl) yes in
            bind before (p ∷ ps) (λ _ gone rest. Marked i before (p ∷ ps) gone rest) (λ _ gone rest. Statement i before (p ∷ ps) gone rest)
            (decorators (length (p ∷ ps)) i (p ∷ ps)) (definition self number i) (marks_read i top (length (p ∷ ps)) before (p ∷ ps) (omega arith) high whole)
            (λ marks gone rest m.
            weaken gone rest (λ _ left later. Statement i gone rest left later) (λ _ left later. Statement i before (p ∷ ps) left later) (definition self number i marks rest)
            (λ a left later s. record {
              ready = s.ready;
              keeps = λ j under. s.keeps j under ∙ m.keeps j under;
              shorter = omega (arith, s.shorter, m.shorter);
            })
            (definition_reads before number marks (p ∷ ps) gone rest m))
        | false ↦ λ no.
            let whole : decorates i (p ∷ ps) ≡ false = rw (same_nat i i refl) no in
            let s : Stopped i (length (p ∷ ps)) (p ∷ ps) = stopped i (length (p ∷ ps)) (p ∷ ps) (omega arith) whole in
            let reported : and_then (decorators (length (p ∷ ps)) i (p ∷ ps)) (definition self number i) ≡ Err number =
            ap (λ (o : BlocksParsed (List Decorator)). and_then o (definition self number i)) s.is
            ∙ ap (λ (b : Bool). if b then compound_statement self i s.marks after.Nothing s.rest else Err number) s.other in
            rw reported (astray_here i number l before ps (not_true (decorates i ps) no))
      ] refl

  -- a statement that a header begins
  begun_reads : (before : List Placed) (number : ℕ) (h : Header) (colon : Token) (found : Separated SimpleStatement) (ps : List Placed) (so : After) → i ≤ deepest before
      → is_out before i ps (form_of h) ≡ false → state_of i (form_of h) before ≡ so
      → Goes before (put i number (line.header h colon found) ∷ ps) (AfterNext i before (put i number (line.header h colon found) ∷ ps))
      (and_then (compound_statement self i [] so (put i number (line.header h colon found) ∷ ps)) (λ found. pure (Some found)))
  begun_reads before number h colon found ps so high out is =
      let p : Placed = put i number (line.header h colon found) in
      bind before (p ∷ ps) (λ _ gone rest. Statement i before (p ∷ ps) gone rest) (AfterNext i before (p ∷ ps))
      (compound_statement self i [] so (p ∷ ps)) (λ found. pure (Some found)) (compound_reads before number h colon found ps [] so high out is)
      (λ a gone rest s. (gone, refl, s))

  -- a header that begins none
  later_reads : (before : List Placed) (number : ℕ) (h : Header) (colon : Token) (found : Separated SimpleStatement) (ps : List Placed)
      → is_out before i ps (form_of h) ≡ true → first before (put i number (line.header h colon found) ∷ ps) ≡ Some number
  later_reads before number h colon found ps out =
      astray_here i number (line.header h colon found) before ps (or_second (is_none found && not (deeper_next i ps)) (is_out before i ps (form_of h)) out)

  none_joined : (before : List Placed) (f : Form) → joined (state i before) f ≡ None → not (continues i before f) ≡ true
  none_joined before f e = ap (λ (o : Option After). not (is_some o)) e

  header_reads : (before : List Placed) (number : ℕ) (h : Header) (colon : Token) (found : Separated SimpleStatement) (ps : List Placed) (f : Form) → form_of h ≡ f
      → i ≤ deepest before → joined (state i before) f ≡ None
      → Goes before (put i number (line.header h colon found) ∷ ps) (AfterNext i before (put i number (line.header h colon found) ∷ ps))
      (statement_by self i (next_of_header number i ps f) (put i number (line.header h colon found) ∷ ps))
  header_reads before number h colon found ps form.If is high none = begun_reads before number h colon found ps after.Branch high (ap (is_out before i ps) is) (ap (λ (g : Form). state_of i g before) is)
  header_reads before number h colon found ps form.Elif is high none = later_reads before number h colon found ps (ap (is_out before i ps) is ∙ none_joined before form.Elif none)
  header_reads before number h colon found ps form.Else is high none = later_reads before number h colon found ps (ap (is_out before i ps) is ∙ none_joined before form.Else none)
  header_reads before number h colon found ps form.While is high none = begun_reads before number h colon found ps after.Loop high (ap (is_out before i ps) is) (ap (λ (g : Form). state_of i g before) is)
  header_reads before number h colon found ps form.For is high none = begun_reads before number h colon found ps after.Loop high (ap (is_out before i ps) is) (ap (λ (g : Form). state_of i g before) is)
  header_reads before number h colon found ps form.Try is high none =
      let p : Placed = put i number (line.header h colon found) in
      elim (handler_follows i ps) as (λ b. handler_follows i ps ≡ b → Goes before (p ∷ ps) (AfterNext i before (p ∷ ps))
      (statement_by self i (if b then next.Header after.Try else next.Fault number) (p ∷ ps))) [
        | true ↦ λ yes. begun_reads before number h colon found ps after.Try high (ap (is_out before i ps) is ∙ ap not yes) (ap (λ (g : Form). state_of i g before) is)
        | false ↦ λ no. later_reads before number h colon found ps (ap (is_out before i ps) is ∙ ap not no)
      ] refl
  header_reads before number h colon found ps form.Except is high none = later_reads before number h colon found ps (ap (is_out before i ps) is ∙ none_joined before form.Except none)
  header_reads before number h colon found ps form.Finally is high none = later_reads before number h colon found ps (ap (is_out before i ps) is ∙ none_joined before form.Finally none)
  header_reads before number h colon found ps form.With is high none = begun_reads before number h colon found ps after.Nothing high (ap (is_out before i ps) is) (ap (λ (g : Form). state_of i g before) is)
  header_reads before number h colon found ps form.Definition is high none = begun_reads before number h colon found ps after.Nothing high (ap (is_out before i ps) is) (ap (λ (g : Form). state_of i g before) is)

  -- the line next, at this indent
  line_reads : (before : List Placed) (number : ℕ) (l : Line) (ps : List Placed) → Ready i before (put i number l ∷ ps)
      → Goes before (put i number l ∷ ps) (AfterNext i before (put i number l ∷ ps)) (statement_by self i (next_of_line number i ps l) (put i number l ∷ ps))
  unfolding simple_line take_one
  line_reads before number (line.simple found) ps ready =
      let p : Placed = put i number (line.simple found) in (
        p ∷ before,
        first_past i number (line.simple found) before ps top ready.high refl,
        record {
          ready = record { high = omega arith; low = low_simple ps; settled = settled_simple ps };
          keeps = keeps_line i p before (omega arith);
          shorter = omega arith;
        },
      )
    where
      low_simple : (ps : List Placed) → Low i (put i number (line.simple found) ∷ before) ps
      low_simple [] = tt
      low_simple (q ∷ ps) = λ more. more

      settled_simple : (ps : List Placed) → Settled i (put i number (line.simple found) ∷ before) ps
      settled_simple [] = tt
      settled_simple (q ∷ ps) = λ same. rw (not_below i, same_nat i i refl) (joined_none q.line)
  line_reads before number (line.header h colon found) ps ready =
      header_reads before number h colon found ps (form_of h) refl ready.high (ready.settled refl)
  line_reads before number (line.decorator t v) ps ready =
      let p : Placed = put i number (line.decorator t v) in
      bind before (p ∷ ps) (λ _ gone rest. Statement i before (p ∷ ps) gone rest) (AfterNext i before (p ∷ ps)) (decorated_definition self i (p ∷ ps)) (λ found. pure (Some found))
      (decorated_definition_reads before number t v ps ready.high) (λ a gone rest s. (gone, refl, s))

  -- the line next, at its own indent
  own_reads : (before : List Placed) (own number : ℕ) (l : Line) (ps : List Placed) → own ≡ i → Ready i before (put own number l ∷ ps)
      → Goes before (put own number l ∷ ps) (AfterNext i before (put own number l ∷ ps)) (statement_by self i (next_of_line number i ps l) (put own number l ∷ ps))
  own_reads before own number l ps same ready =
      subst (λ (x : ℕ). Ready i before (put x number l ∷ ps)
      → Goes before (put x number l ∷ ps) (AfterNext i before (put x number l ∷ ps)) (statement_by self i (next_of_line number i ps l) (put x number l ∷ ps))) (sym same)
      (λ ready. line_reads before number l ps ready) ready

  -- the block ends
  end_reads : (before ps : List Placed) → i ≤ deepest before → Ends i ps → Goes before ps (AfterNext i before ps) (pure None ps)
  end_reads before ps high ends = (before, refl, record { high = high; ends = ends; keeps = λ j under. refl; shorter = omega arith })

  next_reads : (before ps : List Placed) → Ready i before ps → Goes before ps (AfterNext i before ps) (next_statement self i ps)
  unfolding next_statement next_of
  next_reads before [] ready = end_reads before [] ready.high tt
  next_reads before (p ∷ ps) ready =
      elim (nat_lt p.indent i) as (λ a. nat_lt p.indent i ≡ a → Goes before (p ∷ ps) (AfterNext i before (p ∷ ps))
      (statement_by self i (if a then next.End else if nat_lt i p.indent then next.Fault p.number else next_of_line p.number i ps p.line) (p ∷ ps))) [
        | true ↦ λ low. end_reads before (p ∷ ps) ready.high (ltb-true p.indent i low)
        | false ↦ λ low. elim (nat_lt i p.indent) as (λ b. nat_lt i p.indent ≡ b → Goes before (p ∷ ps) (AfterNext i before (p ∷ ps))
            (statement_by self i (if b then next.Fault p.number else next_of_line p.number i ps p.line) (p ∷ ps))) [
              | true ↦ λ deep. first_here before ps p (rw (lt-ltb (deepest before) p.indent (ready.low (ltb-true i p.indent deep))) refl)
              | false ↦ λ deep.
                  let least = ltb-false p.indent i low in
                  let above = ltb-false i p.indent deep in
                  own_reads before p.indent p.number p.line ps (omega (arith, least, above)) ready
            ] refl
      ] refl

  abbrev Row : ℕ → Type 0
  Row n = (before ps : List Placed) → length ps ≤ n → Ready i before ps → Goes before ps (λ _ gone rest. Block i before ps gone rest) (statements self n i ps)

  row_after : (n : ℕ) → Row n → (before ps gone rest : List Placed) (o : Option Stmt) → length ps ≤ suc n → AfterNext i before ps o gone rest
      → Goes gone rest (λ _ left later. Block i before ps left later) (statements_after (statements self n i) o rest)
  row_after n more before ps gone rest None most b = (gone, refl, b)
  row_after n more before ps gone rest (Some s) most after =
      bind gone rest (λ _ left later. Block i gone rest left later) (λ _ left later. Block i before ps left later) (statements self n i rest) (λ rest. pure (statement s rest))
      (more gone rest (omega (arith, after.shorter, most)) after.ready)
      (λ a left later b. (
        left,
        refl,
        record {
          high = b.high;
          ends = b.ends;
          keeps = λ j under. b.keeps j under ∙ after.keeps j under;
          shorter = omega (arith, b.shorter, after.shorter);
        },
      ))

  -- the statements of a block
  row_reads : (n : ℕ) → Row n
  unfolding statements
  row_reads zero before [] most ready =
      (before, refl, record { high = ready.high; ends = tt; keeps = λ j under. refl; shorter = omega arith })
  row_reads zero before (p ∷ ps) most ready = absurd (omega (arith, most))
  row_reads (suc n) before ps most ready =
      bind before ps (AfterNext i before ps) (λ _ gone rest. Block i before ps gone rest) (next_statement self i ps) (statements_after (statements self n i))
      (next_reads before ps ready) (λ o gone rest after. row_after n (row_reads n) before ps gone rest o most after)

-- ---- blocks

-- where no block may nest there is a line that is too deep
abbrev Fits : ℕ → List Placed → Type 0
Fits zero [] = ⊥
Fits zero (q ∷ ps) = 64 < q.indent
Fits (suc depth) ps = Unit {0}

fits : (depth i : ℕ) (q : Placed) (ps : List Placed) → suc depth + i ≡ 65 → i < q.indent → Fits depth (q ∷ ps)
fits zero i q ps sum l = omega (arith, sum, l)
fits (suc depth) i q ps sum l = tt

block_reads : (depth i : ℕ) → depth + i ≡ 65 → (before ps : List Placed) → Ready i before ps → Fits depth ps
    → Goes before ps (λ _ gone rest. Block i before ps gone rest) (block_at depth i ps)
unfolding block_at all_statements number_of
block_reads zero i sum before [] ready deep = absurd deep
block_reads zero i sum before (q ∷ ps) ready deep =
    first_here before ps q (or_second (nat_lt (deepest before) q.indent) (nat_lt 64 q.indent || is_astray before q.indent ps q.line) (rw (lt-ltb 64 q.indent deep) refl))
block_reads (suc depth) i sum before ps ready _ =
    row_reads (block_at depth) i (omega (arith, sum))
    (λ before q ps ready l. block_reads depth (i + 1) (omega (arith, sum)) before (q ∷ ps) ready (fits depth i q ps sum l))
    (length ps) before ps (omega arith) ready

-- ---- modules

ready_first : (ps : List Placed) → Ready 0 [] ps
ready_first [] = record { high = omega arith; low = tt; settled = tt }
ready_first (p ∷ ps) = record { high = omega arith; low = λ more. more; settled = λ _. joined_none p.line }

all_read : (gone rest : List Placed) → Ends 0 rest → first gone rest ≡ None
all_read gone [] e = refl
all_read gone (p ∷ rest) e = absurd (omega (arith, e))

reported_of : (ps : List Placed) (o : BlocksParsed Stmts) → Goes [] ps (λ _ gone rest. Block 0 [] ps gone rest) o → AreReported ps (module_of o)
reported_of ps (Ok r) g = none_first [] ps (g.1 ∙ all_read g.0 r.1 g.2.ends)
reported_of ps (Err number) g = some_first number [] ps g

pub reported : (ps : List Placed) → AreReported ps (blocks ps)
unfolding blocks
reported ps = reported_of ps (block_at 65 0 ps) (block_reads 65 0 refl [] ps (ready_first ps) tt)
