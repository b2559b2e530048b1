-- What is read of blocks goes past lines that are not misplaced, and stops at the first that is.
use Rattle.std.proofs.Common.{◌≡◌, ◌<◌, ◌≤◌, ◌+◌, ◌==◌, ◌&&◌, ◌||◌, not, ℕ, zero, suc, Bool, true, false, nat_lt, if◌then◌else◌, List, [], ◌∷◌, length, Option, Some, None, Ok, Err, refl, sym, ap, subst, ◌∙◌, arith}
use Rattle.std.proofs.lemmas.Bool.Decides.{nat_tests}
use Rattle.std.proofs.lemmas.Bool.{ltb-false, lt-ltb, le-ltb, eqb-true}
use Rattle.pyc_token.specs.declared.tokens.Token.{Token}
use Rattle.pyc_tree.specs.declared.block.After.{After}
use Rattle.pyc_tree.specs.declared.block.After.TheVariants as after
use Rattle.pyc_tree.specs.declared.block.Form.{Form}
use Rattle.pyc_tree.specs.declared.block.Form.TheVariants as form
use Rattle.pyc_tree.specs.declared.block.Next.{Next}
use Rattle.pyc_tree.specs.declared.block.Next.TheVariants as next
use Rattle.pyc_tree.specs.BlockTrees.{Decorator, Stmt}
use Rattle.pyc_tree.specs.Lines.{Header, Line}
use Rattle.pyc_tree.specs.Lines as line
use Rattle.pyc_tree.specs.Statements.{SimpleStatement, Separated}
use Rattle.pyc_parse.specs.Blocks.{Placed, BlocksParsed, Parser, and_then, pure, take_one, form_of, follows, handler_follows, next_of_header, next_of_line, next_of, is_decorator, is_definition, decorator_line, decorators}
use Rattle.pyc_parse.specs.Misplaced.{deepest}
use Rattle.pyc_parse.proofs.MisplacedLemmas.{absurd_test, or_third, and_true, same_nat, clause_before, state_in, state_of, else_state, by_else, state, joined, is_some, defines, defined_by, decorates, is_out, is_astray, is_misplaced, first}

-- ---- readings

-- what is read goes past lines to others, of which something holds, or its fault is the first misplaced line
abbrev pub Goes : {A : Type 0} → List Placed → List Placed → (A → List Placed → List Placed → Type 0) → BlocksParsed A → Type 0
Goes before ps Q (Ok r) = (gone : List Placed) × (first before ps ≡ first gone r.1) × Q r.0 gone r.1
Goes before ps Q (Err number) = first before ps ≡ Some number

pub goes_on : {A : Type 0} (before ps gone rest : List Placed) (Q : A → List Placed → List Placed → Type 0) (o : BlocksParsed A) → first before ps ≡ first gone rest
    → Goes gone rest Q o → Goes before ps Q o
goes_on before ps gone rest Q (Ok r) same g = (g.0, same ∙ g.1, g.2)
goes_on before ps gone rest Q (Err number) same g = same ∙ g

pub bind : {A B : Type 0} (before ps : List Placed) (Q : A → List Placed → List Placed → Type 0) (R : B → List Placed → List Placed → Type 0) (o : BlocksParsed A) (f : A → Parser B)
    → Goes before ps Q o → ((a : A) (gone rest : List Placed) → Q a gone rest → Goes gone rest R (f a rest)) → Goes before ps R (and_then o f)
bind before ps Q R (Ok r) f g more = goes_on before ps g.0 r.1 R (f r.0 r.1) g.1 (more r.0 g.0 r.1 g.2)
bind before ps Q R (Err number) f g more = g

pub weaken : {A : Type 0} (before ps : List Placed) (Q R : A → List Placed → List Placed → Type 0) (o : BlocksParsed A)
    → ((a : A) (gone rest : List Placed) → Q a gone rest → R a gone rest) → Goes before ps Q o → Goes before ps R o
weaken before ps Q R (Ok r) more g = (g.0, g.1, more r.0 g.0 r.1 g.2)
weaken before ps Q R (Err number) more g = g

-- ---- where a reading stands

-- a line next that is deeper than this is misplaced
abbrev pub Low : ℕ → List Placed → List Placed → Type 0
Low i before [] = Unit {0}
Low i before (p ∷ ps) = i < p.indent → deepest before < p.indent

abbrev pub joined_in : Option After → Line → Option After
joined_in o (line.simple _) = None
joined_in o (line.header h _ _) = joined o (form_of h)
joined_in o (line.decorator _ _) = None

-- a line next at this indent continues no statement
abbrev pub Settled : ℕ → List Placed → List Placed → Type 0
Settled i before [] = Unit {0}
Settled i before (p ∷ ps) = p.indent ≡ i → joined_in (state i before) p.line ≡ None

abbrev pub Ends : ℕ → List Placed → Type 0
Ends i [] = Unit {0}
Ends i (p ∷ ps) = p.indent < i

-- the clauses around an indent are kept
abbrev pub Keeps : ℕ → List Placed → List Placed → Type 0
Keeps i before gone = (j : ℕ) → j < i → clause_before j gone ≡ clause_before j before

-- a statement may begin here
pub record Ready (i : ℕ) (before ps : List Placed) : Type 0 where
  pub high : i ≤ deepest before
  pub low : Low i before ps
  pub settled : Settled i before ps

-- a block was read
pub record Block (i : ℕ) (before ps gone rest : List Placed) : Type 0 where
  pub high : i ≤ deepest gone
  pub ends : Ends i rest
  pub keeps : Keeps i before gone
  pub shorter : length rest ≤ length ps

-- a clause was read, the header of which is the nearest of some lines
pub record Clause (i : ℕ) (begun ps gone rest : List Placed) : Type 0 where
  pub high : i ≤ deepest gone
  pub low : Low i gone rest
  pub same : (j : ℕ) → j ≤ i → clause_before j gone ≡ clause_before j begun
  pub shorter : length rest ≤ length ps

-- the clauses that follow were read
pub record Past (i : ℕ) (before ps gone rest : List Placed) : Type 0 where
  pub ready : Ready i gone rest
  pub keeps : Keeps i before gone
  pub shorter : length rest ≤ length ps

-- a statement was read
pub record Statement (i : ℕ) (before ps gone rest : List Placed) : Type 0 where
  pub ready : Ready i gone rest
  pub keeps : Keeps i before gone
  pub shorter : length rest < length ps

abbrev pub AfterNext : ℕ → List Placed → List Placed → Option Stmt → List Placed → List Placed → Type 0
AfterNext i before ps None gone rest = Block i before ps gone rest
AfterNext i before ps (Some s) gone rest = Statement i before ps gone rest

pub keeps_line : (i : ℕ) (p : Placed) (before : List Placed) → i ≤ p.indent → Keeps i before (p ∷ before)
keeps_line i p before l = λ j under. rw (lt-ltb j p.indent (omega (arith, l, under))) refl

pub ends_low : (i : ℕ) (gone rest : List Placed) → Ends (i + 1) rest → Low i gone rest
ends_low i gone [] e = tt
ends_low i gone (p ∷ rest) e = λ l. absurd (omega (arith, e, l))

pub joined_none : (l : Line) → joined_in None l ≡ None
joined_none (line.simple _) = refl
joined_none (line.header h _ _) = refl
joined_none (line.decorator _ _) = refl

-- ---- one line

abbrev pub put : ℕ → ℕ → Line → Placed
put i number l = record { indent = i; number = number; line = l }

pub first_here : (before ps : List Placed) (p : Placed) → is_misplaced before p ps ≡ true → first before (p ∷ ps) ≡ Some p.number
first_here before ps p e = ap (λ (b : Bool). if b then Some p.number else first (p ∷ before) ps) e

no_third : (a b c : Bool) → a ≡ false → b ≡ false → c ≡ false → (a || (b || c)) ≡ false
no_third true b c x y z = x
no_third false true c x y z = y
no_third false false c x y z = z

pub first_past : (i number : ℕ) (l : Line) (before ps : List Placed) → i ≤ 64 → i ≤ deepest before → is_astray before i ps l ≡ false
    → first before (put i number l ∷ ps) ≡ first (put i number l ∷ before) ps
first_past i number l before ps top high clean =
    ap (λ (b : Bool). if b then Some number else first (put i number l ∷ before) ps)
    (no_third (nat_lt (deepest before) i) (nat_lt 64 i) (is_astray before i ps l) (le-ltb (deepest before) i high) (le-ltb 64 i top) clean)

pub astray_here : (i number : ℕ) (l : Line) (before ps : List Placed) → is_astray before i ps l ≡ true → first before (put i number l ∷ ps) ≡ Some number
astray_here i number l before ps e =
    first_here before ps (put i number l) (or_third (nat_lt (deepest before) i) (nat_lt 64 i) (is_astray before i ps l) e)

pub not_below : (i : ℕ) → nat_lt i i ≡ false
not_below i = le-ltb i i (omega arith)

pub next_here : (i number : ℕ) (l : Line) (ps : List Placed) → next_of i (put i number l ∷ ps) ≡ next_of_line number i ps l
unfolding next_of
next_here i number l ps = rw (not_below i) refl

-- ---- what a clause is to those after it

pub state_header : (i number : ℕ) (h : Header) (colon : Token) (found : Separated SimpleStatement) (before : List Placed)
    → state i (put i number (line.header h colon found) ∷ before) ≡ Some (state_of i (form_of h) before)
state_header i number h colon found before = rw (not_below i, same_nat i i refl) refl

none_under : (i number : ℕ) (l : Line) (before : List Placed) → clause_before (i + 1) (put i number l ∷ before) ≡ None
none_under i number l before =
    let below : nat_lt (i + 1) i ≡ false = le-ltb (i + 1) i (omega arith) in
    let other : (i == (i + 1)) ≡ false = grind (arith, nat_tests) in
    rw (below, other) refl

-- a clause that begins a line one level deeper is none of those before
pub settled_under : (i number : ℕ) (l : Line) (before : List Placed) (x : Line) → joined_in (state (i + 1) (put i number l ∷ before)) x ≡ None
settled_under i number l before x =
    ap (λ (o : Option (Form × List Placed)). joined_in (state_in (i + 1) o) x) (none_under i number l before) ∙ joined_none x

else_nothing : (i : ℕ) (so : After) (o : Option (Form × List Placed)) → state_in i o ≡ Some so → (so ≡ after.Except → ⊥) → else_state o ≡ after.Nothing
else_nothing i so None is other = refl
else_nothing i so (Some f) is other = else_by i so f.0 f.1 is other
  where
    else_by : (i : ℕ) (so : After) (g : Form) (rest : List Placed) → Some (state_of i g rest) ≡ Some so → (so ≡ after.Except → ⊥) → by_else g ≡ after.Nothing
    else_by i so form.If rest is other = refl
    else_by i so form.Elif rest is other = refl
    else_by i so form.Else rest is other = refl
    else_by i so form.While rest is other = refl
    else_by i so form.For rest is other = refl
    else_by i so form.Try rest is other = refl
    else_by i so form.Except rest is other = absurd (other (cc))
    else_by i so form.Finally rest is other = refl
    else_by i so form.With rest is other = refl
    else_by i so form.Definition rest is other = refl

else_try : (i : ℕ) (o : Option (Form × List Placed)) → state_in i o ≡ Some after.Except → else_state o ≡ after.TryElse
else_try i None is = absurd (cc)
else_try i (Some f) is = try_by i f.0 f.1 is
  where
    no_except : (o : Option (Form × List Placed)) → else_state o ≡ after.Except → ⊥
    no_except None e = cc
    no_except (Some f) e = no_except_by f.0 e
      where
        no_except_by : (g : Form) → by_else g ≡ after.Except → ⊥
        no_except_by form.If e = cc
        no_except_by form.Elif e = cc
        no_except_by form.Else e = cc
        no_except_by form.While e = cc
        no_except_by form.For e = cc
        no_except_by form.Try e = cc
        no_except_by form.Except e = cc
        no_except_by form.Finally e = cc
        no_except_by form.With e = cc
        no_except_by form.Definition e = cc

    try_by : (i : ℕ) (g : Form) (rest : List Placed) → Some (state_of i g rest) ≡ Some after.Except → by_else g ≡ after.TryElse
    try_by i form.If rest is = absurd (cc)
    try_by i form.Elif rest is = absurd (cc)
    try_by i form.Else rest is = let same : else_state (clause_before i rest) ≡ after.Except = cc in absurd (no_except (clause_before i rest) same)
    try_by i form.While rest is = absurd (cc)
    try_by i form.For rest is = absurd (cc)
    try_by i form.Try rest is = absurd (cc)
    try_by i form.Except rest is = refl
    try_by i form.Finally rest is = absurd (cc)
    try_by i form.With rest is = absurd (cc)
    try_by i form.Definition rest is = absurd (cc)

no_try : (so next : After) → follows so form.Try ≡ Some next → ⊥
no_try after.Nothing next e = cc
no_try after.Branch next e = cc
no_try after.Loop next e = cc
no_try after.Try next e = cc
no_try after.Except next e = cc
no_try after.TryElse next e = cc

-- a clause that follows is not out of place
pub follows_in : (i : ℕ) (before ps : List Placed) (so next : After) (f : Form) → state i before ≡ Some so → follows so f ≡ Some next → is_out before i ps f ≡ false
follows_in i before ps so next form.If is e = refl
follows_in i before ps so next form.Elif is e = ap (λ (o : Option After). not (is_some (joined o form.Elif))) is ∙ ap (λ (o : Option After). not (is_some o)) e
follows_in i before ps so next form.Else is e = ap (λ (o : Option After). not (is_some (joined o form.Else))) is ∙ ap (λ (o : Option After). not (is_some o)) e
follows_in i before ps so next form.While is e = refl
follows_in i before ps so next form.For is e = refl
follows_in i before ps so next form.Try is e = absurd (no_try so next e)
follows_in i before ps so next form.Except is e = ap (λ (o : Option After). not (is_some (joined o form.Except))) is ∙ ap (λ (o : Option After). not (is_some o)) e
follows_in i before ps so next form.Finally is e = ap (λ (o : Option After). not (is_some (joined o form.Finally))) is ∙ ap (λ (o : Option After). not (is_some o)) e
follows_in i before ps so next form.With is e = refl
follows_in i before ps so next form.Definition is e = refl

-- what it is to those after it
pub moves : (i : ℕ) (before : List Placed) (so next : After) (f : Form) → state i before ≡ Some so → follows so f ≡ Some next → state_of i f before ≡ next
moves i before after.Nothing next form.If is e = absurd (cc)
moves i before after.Nothing next form.Elif is e = absurd (cc)
moves i before after.Nothing next form.Else is e = absurd (cc)
moves i before after.Nothing next form.While is e = absurd (cc)
moves i before after.Nothing next form.For is e = absurd (cc)
moves i before after.Nothing next form.Try is e = absurd (cc)
moves i before after.Nothing next form.Except is e = absurd (cc)
moves i before after.Nothing next form.Finally is e = absurd (cc)
moves i before after.Nothing next form.With is e = absurd (cc)
moves i before after.Nothing next form.Definition is e = absurd (cc)
moves i before after.Branch next form.If is e = absurd (cc)
moves i before after.Branch next form.Elif is e = cc
moves i before after.Branch next form.Else is e = else_nothing i after.Branch (clause_before i before) is (λ x. cc) ∙ (cc)
moves i before after.Branch next form.While is e = absurd (cc)
moves i before after.Branch next form.For is e = absurd (cc)
moves i before after.Branch next form.Try is e = absurd (cc)
moves i before after.Branch next form.Except is e = absurd (cc)
moves i before after.Branch next form.Finally is e = absurd (cc)
moves i before after.Branch next form.With is e = absurd (cc)
moves i before after.Branch next form.Definition is e = absurd (cc)
moves i before after.Loop next form.If is e = absurd (cc)
moves i before after.Loop next form.Elif is e = absurd (cc)
moves i before after.Loop next form.Else is e = else_nothing i after.Loop (clause_before i before) is (λ x. cc) ∙ (cc)
moves i before after.Loop next form.While is e = absurd (cc)
moves i before after.Loop next form.For is e = absurd (cc)
moves i before after.Loop next form.Try is e = absurd (cc)
moves i before after.Loop next form.Except is e = absurd (cc)
moves i before after.Loop next form.Finally is e = absurd (cc)
moves i before after.Loop next form.With is e = absurd (cc)
moves i before after.Loop next form.Definition is e = absurd (cc)
moves i before after.Try next form.If is e = absurd (cc)
moves i before after.Try next form.Elif is e = absurd (cc)
moves i before after.Try next form.Else is e = absurd (cc)
moves i before after.Try next form.While is e = absurd (cc)
moves i before after.Try next form.For is e = absurd (cc)
moves i before after.Try next form.Try is e = absurd (cc)
moves i before after.Try next form.Except is e = cc
moves i before after.Try next form.Finally is e = cc
moves i before after.Try next form.With is e = absurd (cc)
moves i before after.Try next form.Definition is e = absurd (cc)
moves i before after.Except next form.If is e = absurd (cc)
moves i before after.Except next form.Elif is e = absurd (cc)
moves i before after.Except next form.Else is e = else_try i (clause_before i before) is ∙ (cc)
moves i before after.Except next form.While is e = absurd (cc)
moves i before after.Except next form.For is e = absurd (cc)
moves i before after.Except next form.Try is e = absurd (cc)
moves i before after.Except next form.Except is e = cc
moves i before after.Except next form.Finally is e = cc
moves i before after.Except next form.With is e = absurd (cc)
moves i before after.Except next form.Definition is e = absurd (cc)
moves i before after.TryElse next form.If is e = absurd (cc)
moves i before after.TryElse next form.Elif is e = absurd (cc)
moves i before after.TryElse next form.Else is e = absurd (cc)
moves i before after.TryElse next form.While is e = absurd (cc)
moves i before after.TryElse next form.For is e = absurd (cc)
moves i before after.TryElse next form.Try is e = absurd (cc)
moves i before after.TryElse next form.Except is e = absurd (cc)
moves i before after.TryElse next form.Finally is e = cc
moves i before after.TryElse next form.With is e = absurd (cc)
moves i before after.TryElse next form.Definition is e = absurd (cc)

-- ---- decorators and definitions

definition_next : (i number : ℕ) (ps : List Placed) (f : Form) → is_definition (next_of_header number i ps f) ≡ defines f
definition_next i number ps form.If = refl
definition_next i number ps form.Elif = refl
definition_next i number ps form.Else = refl
definition_next i number ps form.While = refl
definition_next i number ps form.For = refl
definition_next i number ps form.Try = elim (handler_follows i ps) as (λ b. is_definition (if b then next.Header after.Try else next.Fault number) ≡ false) [ true ↦ refl | false ↦ refl ]
definition_next i number ps form.Except = refl
definition_next i number ps form.Finally = refl
definition_next i number ps form.With = refl
definition_next i number ps form.Definition = refl

mark_next : (i number : ℕ) (ps : List Placed) (f : Form) → is_decorator (next_of_header number i ps f) ≡ false
mark_next i number ps form.If = refl
mark_next i number ps form.Elif = refl
mark_next i number ps form.Else = refl
mark_next i number ps form.While = refl
mark_next i number ps form.For = refl
mark_next i number ps form.Try = elim (handler_follows i ps) as (λ b. is_decorator (if b then next.Header after.Try else next.Fault number) ≡ false) [ true ↦ refl | false ↦ refl ]
mark_next i number ps form.Except = refl
mark_next i number ps form.Finally = refl
mark_next i number ps form.With = refl
mark_next i number ps form.Definition = refl

-- a row of decorators, and the definition that they decorate
pub record Marked (i : ℕ) (before ps gone rest : List Placed) : Type 0 where
  pub number : ℕ
  pub h : Header
  pub colon : Token
  pub found : Separated SimpleStatement
  pub after : List Placed
  pub is : rest ≡ put i number (line.header h colon found) ∷ after
  pub defines : form_of h ≡ form.Definition
  pub high : i ≤ deepest gone
  pub keeps : Keeps i before gone
  pub shorter : length rest ≤ length ps

defines_definition : (f : Form) → defines f ≡ true → f ≡ form.Definition
defines_definition form.If e = absurd_test e
defines_definition form.Elif e = absurd_test e
defines_definition form.Else e = absurd_test e
defines_definition form.While e = absurd_test e
defines_definition form.For e = absurd_test e
defines_definition form.Try e = absurd_test e
defines_definition form.Except e = absurd_test e
defines_definition form.Finally e = absurd_test e
defines_definition form.With e = absurd_test e
defines_definition form.Definition e = refl

more_marked : (i : ℕ) (before ps gone rest : List Placed) (p : Placed) → i ≤ p.indent → Marked i (p ∷ before) ps gone rest → Marked i before (p ∷ ps) gone rest
more_marked i before ps gone rest p l m = record {
  number = m.number;
  h = m.h;
  colon = m.colon;
  found = m.found;
  after = m.after;
  is = m.is;
  defines = m.defines;
  high = m.high;
  keeps = λ j under. m.keeps j under ∙ keeps_line i p before l j under;
  shorter = omega (arith, m.shorter);
}

no_marks : (i : ℕ) (n : ℕ) (ps : List Placed) → is_decorator (next_of i ps) ≡ false → decorators n i ps ≡ Ok ([], ps)
unfolding decorators
no_marks i zero ps e = refl
no_marks i (suc n) ps e = rw e refl

mark_taken : (i n number : ℕ) (t : Token) (v : _) (ps : List Placed) → decorators (suc n) i (put i number (line.decorator t v) ∷ ps)
    ≡ and_then (decorators n i ps) (λ more. pure (record { mark = t; value = v } ∷ more))
unfolding decorators decorator_line take_one
mark_taken i n number t v ps = rw (next_here i number (line.decorator t v) ps) refl

-- the marks at the front of lines that decorate a definition
pub marks_read : (i : ℕ) → i ≤ 64 → (n : ℕ) (before ps : List Placed) → length ps ≤ n → i ≤ deepest before → decorates i ps ≡ true
    → Goes before ps (λ _ gone rest. Marked i before ps gone rest) (decorators n i ps)
marks_read i top zero before [] most high e = absurd_test e
marks_read i top zero before (p ∷ ps) most high e = absurd (omega (arith, most))
marks_read i top (suc n) before [] most high e = absurd_test e
marks_read i top (suc n) before (p ∷ ps) most high e =
    let both = and_true (p.indent == i) (defined_by p.line (decorates i ps)) e in
    mark_read i top n before p.indent p.number p.line ps (omega (arith, most)) high (eqb-true p.indent i both.0) both.1
    (λ high e. marks_read i top n (p ∷ before) ps (omega (arith, most)) high e)
  where
    at_definition : (i number : ℕ) (h : Header) (colon : Token) (found : Separated SimpleStatement) (n : ℕ) (before ps : List Placed) → i ≤ deepest before → defines (form_of h) ≡ true
        → Goes before (put i number (line.header h colon found) ∷ ps) (λ _ gone rest. Marked i before (put i number (line.header h colon found) ∷ ps) gone rest)
        (decorators (suc n) i (put i number (line.header h colon found) ∷ ps))
    at_definition i number h colon found n before ps high e =
        rw (no_marks i (suc n) (put i number (line.header h colon found) ∷ ps)
        (ap is_decorator (next_here i number (line.header h colon found) ps) ∙ mark_next i number ps (form_of h))) (
          before,
          refl,
          record {
            number = number;
            h = h;
            colon = colon;
            found = found;
            after = ps;
            is = refl;
            defines = defines_definition (form_of h) e;
            high = high;
            keeps = λ j under. refl;
            shorter = omega arith;
          },
        )

    line_read : (i : ℕ) → i ≤ 64 → (n : ℕ) (before : List Placed) (number : ℕ) (l : Line) (ps : List Placed) → length ps ≤ n → i ≤ deepest before
        → defined_by l (decorates i ps) ≡ true
        → (i ≤ deepest (put i number l ∷ before) → decorates i ps ≡ true
        → Goes (put i number l ∷ before) ps (λ _ gone rest. Marked i (put i number l ∷ before) ps gone rest) (decorators n i ps))
        → Goes before (put i number l ∷ ps) (λ _ gone rest. Marked i before (put i number l ∷ ps) gone rest) (decorators (suc n) i (put i number l ∷ ps))
    line_read i top n before number (line.simple found) ps most high e more = absurd_test e
    line_read i top n before number (line.header h colon found) ps most high e more = at_definition i number h colon found n before ps high e
    line_read i top n before number (line.decorator t v) ps most high e more =
        let l : Line = line.decorator t v in
        rw (mark_taken i n number t v ps)
        (bind before (put i number l ∷ ps) (λ _ gone rest. Marked i before (put i number l ∷ ps) gone rest) (λ _ gone rest. Marked i before (put i number l ∷ ps) gone rest)
        (decorators n i ps) (λ more. pure (record { mark = t; value = v } ∷ more))
        (goes_on before (put i number l ∷ ps) (put i number l ∷ before) ps (λ _ gone rest. Marked i before (put i number l ∷ ps) gone rest) (decorators n i ps)
        (first_past i number l before ps top high (ap not e))
        (weaken (put i number l ∷ before) ps (λ _ gone rest. Marked i (put i number l ∷ before) ps gone rest) (λ _ gone rest. Marked i before (put i number l ∷ ps) gone rest)
        (decorators n i ps) (λ a gone rest m. more_marked i before ps gone rest (put i number l) (omega arith) m) (more (omega arith) e)))
        (λ a gone rest m. (gone, refl, m)))

    mark_read : (i : ℕ) → i ≤ 64 → (n : ℕ) (before : List Placed) (own number : ℕ) (l : Line) (ps : List Placed) → length ps ≤ n → i ≤ deepest before → own ≡ i
        → defined_by l (decorates i ps) ≡ true
        → (i ≤ deepest (put own number l ∷ before) → decorates i ps ≡ true
        → Goes (put own number l ∷ before) ps (λ _ gone rest. Marked i (put own number l ∷ before) ps gone rest) (decorators n i ps))
        → Goes before (put own number l ∷ ps) (λ _ gone rest. Marked i before (put own number l ∷ ps) gone rest) (decorators (suc n) i (put own number l ∷ ps))
    mark_read i top n before own number l ps most high same e =
        subst (λ (x : ℕ). (i ≤ deepest (put x number l ∷ before) → decorates i ps ≡ true
        → Goes (put x number l ∷ before) ps (λ _ gone rest. Marked i (put x number l ∷ before) ps gone rest) (decorators n i ps))
        → Goes before (put x number l ∷ ps) (λ _ gone rest. Marked i before (put x number l ∷ ps) gone rest) (decorators (suc n) i (put x number l ∷ ps))) (sym same)
        (λ more. line_read i top n before number l ps most high e more)

-- lines that decorate no definition are read up to what is none
pub record Stopped (i n : ℕ) (ps : List Placed) : Type 0 where
  pub marks : List Decorator
  pub rest : List Placed
  pub is : decorators n i ps ≡ Ok (marks, rest)
  pub other : is_definition (next_of i rest) ≡ false

stopped_here : (i n : ℕ) (ps : List Placed) (found : Next) → next_of i ps ≡ found → is_decorator found ≡ false → is_definition found ≡ false → Stopped i n ps
stopped_here i n ps found is no_mark no_definition = record {
  marks = [];
  rest = ps;
  is = no_marks i n ps (ap is_decorator is ∙ no_mark);
  other = ap is_definition is ∙ no_definition;
}

stopped_line : (i n number : ℕ) (l : Line) (ps : List Placed) → defined_by l (decorates i ps) ≡ false → (decorates i ps ≡ false → Stopped i n ps) → Stopped i (suc n) (put i number l ∷ ps)
stopped_line i n number (line.simple found) ps e more =
    stopped_here i (suc n) (put i number (line.simple found) ∷ ps) next.Simple (next_here i number (line.simple found) ps) refl refl
stopped_line i n number (line.header h colon found) ps e more =
    stopped_here i (suc n) (put i number (line.header h colon found) ∷ ps) (next_of_header number i ps (form_of h)) (next_here i number (line.header h colon found) ps)
    (mark_next i number ps (form_of h)) (definition_next i number ps (form_of h) ∙ e)
stopped_line i n number (line.decorator t v) ps e more =
    let so : Stopped i n ps = more e in
    record {
      marks = record { mark = t; value = v } ∷ so.marks;
      rest = so.rest;
      is = mark_taken i n number t v ps ∙ ap (λ (o : BlocksParsed (List Decorator)). and_then o (λ more. pure (record { mark = t; value = v } ∷ more))) so.is;
      other = so.other;
    }

pub stopped : (i n : ℕ) (ps : List Placed) → length ps ≤ n → decorates i ps ≡ false → Stopped i n ps
unfolding next_of
stopped i zero [] most e = stopped_here i zero [] next.End refl refl refl
stopped i zero (p ∷ ps) most e = absurd (omega (arith, most))
stopped i (suc n) [] most e = stopped_here i (suc n) [] next.End refl refl refl
stopped i (suc n) (p ∷ ps) most e =
    elim (nat_lt p.indent i) as (λ a. nat_lt p.indent i ≡ a → Stopped i (suc n) (p ∷ ps)) [
      | true ↦ λ low. stopped_here i (suc n) (p ∷ ps) next.End (rw low refl) refl refl
      | false ↦ λ low. elim (nat_lt i p.indent) as (λ b. nat_lt i p.indent ≡ b → Stopped i (suc n) (p ∷ ps)) [
        | true ↦ λ deep. stopped_here i (suc n) (p ∷ ps) (next.Fault p.number) (rw (low, deep) refl) refl refl
        | false ↦ λ deep.
            let least = ltb-false p.indent i low in
            let above = ltb-false i p.indent deep in
            let same : p.indent ≡ i = omega (arith, least, above) in
            let other : defined_by p.line (decorates i ps) ≡ false = sym (ap (λ (b : Bool). b && defined_by p.line (decorates i ps)) (same_nat p.indent i same)) ∙ e in
            subst (λ (own : ℕ). Stopped i (suc n) (put own p.number p.line ∷ ps)) (sym same)
            (stopped_line i n p.number p.line ps other (λ e. stopped i n ps (omega (arith, most)) e))
      ] refl
    ] refl
