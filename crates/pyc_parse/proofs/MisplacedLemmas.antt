-- A test that computes whether a line is misplaced, and the first of some lines that is.
use Rattle.std.proofs.Common.{◌≡◌, ◌==◌, ◌&&◌, ◌||◌, not, ℕ, Bool, true, false, true≢false, nat_lt, if◌then◌else◌, List, [], ◌∷◌, Option, Some, None, option_map, refl, sym, ap, subst, ◌∙◌, arith}
use Rattle.std.proofs.lemmas.Bool.Decides.{nat_tests}
use Rattle.std.proofs.lemmas.Bool.{ltb-true, lt-ltb, le-ltb, eqb-true}
use Rattle.pyc_tree.specs.declared.block.After.{After}
use Rattle.pyc_tree.specs.declared.block.After.TheVariants as after
use Rattle.pyc_tree.specs.declared.block.Form.{Form}
use Rattle.pyc_tree.specs.declared.block.Form.TheVariants as form
use Rattle.pyc_tree.specs.Lines.{Header, Line}
use Rattle.pyc_tree.specs.Lines as line
use Rattle.pyc_parse.specs.Blocks.{Placed, form_of, is_none, follows, handles, is_handler, handler_follows}
use Rattle.pyc_parse.specs.Misplaced.{clause_in, is_bare, is_decorator_line, deepest, HasBlock, deeper, EndsIn, stands, over, may_follow, Continues, after_clause, after_else, is_later, HasHandler, by_except, by_finally, past_block, HasDefinition, by_definition, past_decorator, Misplaced, indented, too_deep, without_block, continues_nothing, without_handler, decorates_nothing, NoneMisplaced, end, next, FirstMisplaced, here, later}

-- ---- tests

pub absurd_test : {P : Type 0} → false ≡ true → P
absurd_test e = absurd (true≢false (sym e))

pub same_nat : (m n : ℕ) → m ≡ n → (m == n) ≡ true
same_nat m n e = grind (arith, nat_tests)

-- a value of a test, where it answers a question
refutes : {P : Type 0} (b : Bool) → (P → b ≡ true) → b ≡ false → ¬ P
refutes b test other p = true≢false (sym (test p) ∙ other)

fails : {P : Type 0} (b : Bool) → (b ≡ true → P) → ¬ P → b ≡ false
fails true made other = absurd (other (made refl))
fails false made other = refl

pub or_third : (a b c : Bool) → c ≡ true → (a || (b || c)) ≡ true
or_third true b c e = refl
or_third false true c e = refl
or_third false false c e = e

pub or_second : (a b : Bool) → b ≡ true → (a || b) ≡ true
or_second true b e = refl
or_second false b e = e

pub not_true : (b : Bool) → b ≡ false → not b ≡ true
not_true true e = absurd (true≢false e)
not_true false e = refl

not_false : (b : Bool) → not b ≡ true → b ≡ false
not_false true e = absurd_test e
not_false false e = refl

-- ---- the line next

abbrev pub deeper_next : ℕ → List Placed → Bool
deeper_next i [] = false
deeper_next i (p ∷ ps) = nat_lt i p.indent

deeper_test : {i : ℕ} {ps : List Placed} → HasBlock i ps → deeper_next i ps ≡ true
deeper_test {i} {ps} (deeper {p = p} {after = qs} l) = lt-ltb i p.indent l

deeper_made : (i : ℕ) (ps : List Placed) → deeper_next i ps ≡ true → HasBlock i ps
deeper_made i [] e = absurd_test e
deeper_made i (p ∷ ps) e = deeper (ltb-true i p.indent e)

-- ---- the clause before

abbrev pub paired : List Placed → Form → Form × List Placed
paired before f = (f, before)

abbrev pub clause_before : ℕ → List Placed → Option (Form × List Placed)
clause_before i [] = None
clause_before i (p ∷ before) =
    if nat_lt i p.indent then clause_before i before
    else if p.indent == i then option_map (paired before) (clause_in p.line)
    else None

ends_test : {i : ℕ} {ps : List Placed} {f : Form} {rest : List Placed} → EndsIn i ps f rest → clause_before i ps ≡ Some (f, rest)
ends_test {i} {ps} {f} {rest} (stands {p = p} {before = before} {clause = g} same is) =
    let low : nat_lt i p.indent ≡ false = le-ltb i p.indent (omega (arith, same)) in
    rw (low, same_nat p.indent i same, is) refl
ends_test {i} {ps} {f} {rest} (over {p = p} {before = before} {earlier = r} {clause = g} l e) = rw (lt-ltb i p.indent l) (ends_test e)

ends_here : (i : ℕ) (p : Placed) (before : List Placed) (o : Option Form) (f : Form) (rest : List Placed) → p.indent ≡ i → clause_in p.line ≡ o
    → option_map (paired before) o ≡ Some (f, rest) → EndsIn i (p ∷ before) f rest
ends_here i p before None f rest same is e = absurd (cc)
ends_here i p before (Some g) f rest same is e =
    let pair : (g, before) ≡ (f, rest) = cc in
    subst (λ (x : Form × List Placed). EndsIn i (p ∷ before) x.0 x.1) pair (stands same is)

none_some : {A : Type 0} {a : A} → None ≡ Some a → ⊥
none_some e = cc

ends_made : (i : ℕ) (ps : List Placed) (f : Form) (rest : List Placed) → clause_before i ps ≡ Some (f, rest) → EndsIn i ps f rest
ends_made i [] f rest e = absurd (cc)
ends_made i (p ∷ before) f rest e =
    elim (nat_lt i p.indent) as (λ b. nat_lt i p.indent ≡ b → (if b then clause_before i before
    else if p.indent == i then option_map (paired before) (clause_in p.line) else None) ≡ Some (f, rest) → EndsIn i (p ∷ before) f rest) [
      | true ↦ λ l e. over (ltb-true i p.indent l) (ends_made i before f rest e)
      | false ↦ λ l e. elim (p.indent == i) as (λ b. (p.indent == i) ≡ b → (if b then option_map (paired before) (clause_in p.line) else None) ≡ Some (f, rest)
          → EndsIn i (p ∷ before) f rest) [
            | true ↦ λ same e. ends_here i p before (clause_in p.line) f rest (eqb-true p.indent i same) refl e
            | false ↦ λ same e. absurd (none_some e)
          ] refl e
    ] refl e

-- ---- what a clause is to those after it

abbrev pub by_else : Form → After
by_else form.Except = after.TryElse
by_else _ = after.Nothing

abbrev pub else_state : Option (Form × List Placed) → After
else_state None = after.Nothing
else_state (Some f) = by_else f.0

abbrev pub state_of : ℕ → Form → List Placed → After
state_of i form.If rest = after.Branch
state_of i form.Elif rest = after.Branch
state_of i form.Else rest = else_state (clause_before i rest)
state_of i form.While rest = after.Loop
state_of i form.For rest = after.Loop
state_of i form.Try rest = after.Try
state_of i form.Except rest = after.Except
state_of i form.Finally rest = after.Nothing
state_of i form.With rest = after.Nothing
state_of i form.Definition rest = after.Nothing

abbrev pub state_in : ℕ → Option (Form × List Placed) → Option After
state_in i None = None
state_in i (Some f) = Some (state_of i f.0 f.1)

-- what the clause at an indent that some lines end in is to those after it
abbrev pub state : ℕ → List Placed → Option After
state i before = state_in i (clause_before i before)

abbrev pub joined : Option After → Form → Option After
joined None f = None
joined (Some so) f = follows so f

abbrev pub is_some : {A : Type 0} → Option A → Bool
is_some None = false
is_some (Some a) = true

abbrev pub continues : ℕ → List Placed → Form → Bool
continues i before f = is_some (joined (state i before) f)

abbrev is_no_else : Form → Bool
is_no_else form.Else = false
is_no_else _ = true

same_table : (i : ℕ) (g f : Form) (rest : List Placed) → is_no_else g ≡ true → may_follow g f ≡ is_some (follows (state_of i g rest) f)
same_table i form.If form.If rest other = refl
same_table i form.If form.Elif rest other = refl
same_table i form.If form.Else rest other = refl
same_table i form.If form.While rest other = refl
same_table i form.If form.For rest other = refl
same_table i form.If form.Try rest other = refl
same_table i form.If form.Except rest other = refl
same_table i form.If form.Finally rest other = refl
same_table i form.If form.With rest other = refl
same_table i form.If form.Definition rest other = refl
same_table i form.Elif form.If rest other = refl
same_table i form.Elif form.Elif rest other = refl
same_table i form.Elif form.Else rest other = refl
same_table i form.Elif form.While rest other = refl
same_table i form.Elif form.For rest other = refl
same_table i form.Elif form.Try rest other = refl
same_table i form.Elif form.Except rest other = refl
same_table i form.Elif form.Finally rest other = refl
same_table i form.Elif form.With rest other = refl
same_table i form.Elif form.Definition rest other = refl
same_table i form.While form.If rest other = refl
same_table i form.While form.Elif rest other = refl
same_table i form.While form.Else rest other = refl
same_table i form.While form.While rest other = refl
same_table i form.While form.For rest other = refl
same_table i form.While form.Try rest other = refl
same_table i form.While form.Except rest other = refl
same_table i form.While form.Finally rest other = refl
same_table i form.While form.With rest other = refl
same_table i form.While form.Definition rest other = refl
same_table i form.For form.If rest other = refl
same_table i form.For form.Elif rest other = refl
same_table i form.For form.Else rest other = refl
same_table i form.For form.While rest other = refl
same_table i form.For form.For rest other = refl
same_table i form.For form.Try rest other = refl
same_table i form.For form.Except rest other = refl
same_table i form.For form.Finally rest other = refl
same_table i form.For form.With rest other = refl
same_table i form.For form.Definition rest other = refl
same_table i form.Try form.If rest other = refl
same_table i form.Try form.Elif rest other = refl
same_table i form.Try form.Else rest other = refl
same_table i form.Try form.While rest other = refl
same_table i form.Try form.For rest other = refl
same_table i form.Try form.Try rest other = refl
same_table i form.Try form.Except rest other = refl
same_table i form.Try form.Finally rest other = refl
same_table i form.Try form.With rest other = refl
same_table i form.Try form.Definition rest other = refl
same_table i form.Except form.If rest other = refl
same_table i form.Except form.Elif rest other = refl
same_table i form.Except form.Else rest other = refl
same_table i form.Except form.While rest other = refl
same_table i form.Except form.For rest other = refl
same_table i form.Except form.Try rest other = refl
same_table i form.Except form.Except rest other = refl
same_table i form.Except form.Finally rest other = refl
same_table i form.Except form.With rest other = refl
same_table i form.Except form.Definition rest other = refl
same_table i form.Finally f rest other = refl
same_table i form.With f rest other = refl
same_table i form.Definition f rest other = refl
same_table i form.Else f rest other = absurd (true≢false (sym other))

follows_test : (i : ℕ) (g f : Form) (rest : List Placed) (b : Bool) → is_no_else g ≡ b → may_follow g f ≡ true → is_some (follows (state_of i g rest) f) ≡ true
follows_test i g f rest true other e = sym (same_table i g f rest other) ∙ e
follows_test i form.Else f rest false other e = absurd_test e
follows_test i form.If f rest false other e = absurd_test (sym other)
follows_test i form.Elif f rest false other e = absurd_test (sym other)
follows_test i form.While f rest false other e = absurd_test (sym other)
follows_test i form.For f rest false other e = absurd_test (sym other)
follows_test i form.Try f rest false other e = absurd_test (sym other)
follows_test i form.Except f rest false other e = absurd_test (sym other)
follows_test i form.Finally f rest false other e = absurd_test (sym other)
follows_test i form.With f rest false other e = absurd_test (sym other)
follows_test i form.Definition f rest false other e = absurd_test (sym other)

continues_test : {i : ℕ} {before : List Placed} {f : Form} → Continues i before f → continues i before f ≡ true
continues_test {i} {before} {f} (after_clause {last = g} {clause = c} {earlier = rest} e may) =
    rw (ends_test e) (follows_test i g f rest (is_no_else g) refl may)
continues_test {i} {before} {f} (after_else {earlier = rest} {first = first} e x) = rw (ends_test e) (rw (ends_test x) refl)

except_made : (i : ℕ) (before rest first : List Placed) (f : Form) → clause_before i before ≡ Some (form.Else, rest) → clause_before i rest ≡ Some (form.Except, first)
    → is_some (follows after.TryElse f) ≡ true → Continues i before f
except_made i before rest first form.If e x may = absurd_test may
except_made i before rest first form.Elif e x may = absurd_test may
except_made i before rest first form.Else e x may = absurd_test may
except_made i before rest first form.While e x may = absurd_test may
except_made i before rest first form.For e x may = absurd_test may
except_made i before rest first form.Try e x may = absurd_test may
except_made i before rest first form.Except e x may = absurd_test may
except_made i before rest first form.Finally e x may = after_else (ends_made i before form.Else rest e) (ends_made i rest form.Except first x)
except_made i before rest first form.With e x may = absurd_test may
except_made i before rest first form.Definition e x may = absurd_test may

else_made : (i : ℕ) (before rest : List Placed) (f : Form) (o : Option (Form × List Placed)) → clause_before i before ≡ Some (form.Else, rest) → clause_before i rest ≡ o
    → is_some (follows (else_state o) f) ≡ true → Continues i before f
else_made i before rest f None e x may = absurd_test may
else_made i before rest f (Some (form.If, first)) e x may = absurd_test may
else_made i before rest f (Some (form.Elif, first)) e x may = absurd_test may
else_made i before rest f (Some (form.Else, first)) e x may = absurd_test may
else_made i before rest f (Some (form.While, first)) e x may = absurd_test may
else_made i before rest f (Some (form.For, first)) e x may = absurd_test may
else_made i before rest f (Some (form.Try, first)) e x may = absurd_test may
else_made i before rest f (Some (form.Except, first)) e x may = except_made i before rest first f e x may
else_made i before rest f (Some (form.Finally, first)) e x may = absurd_test may
else_made i before rest f (Some (form.With, first)) e x may = absurd_test may
else_made i before rest f (Some (form.Definition, first)) e x may = absurd_test may

clause_made : (i : ℕ) (before : List Placed) (f g : Form) (rest : List Placed) (b : Bool) → clause_before i before ≡ Some (g, rest) → is_no_else g ≡ b
    → is_some (follows (state_of i g rest) f) ≡ true → Continues i before f
clause_made i before f g rest true e other may = after_clause (ends_made i before g rest e) (same_table i g f rest other ∙ may)
clause_made i before f form.Else rest false e other may = else_made i before rest f (clause_before i rest) e refl may
clause_made i before f form.If rest false e other may = absurd_test (sym other)
clause_made i before f form.Elif rest false e other may = absurd_test (sym other)
clause_made i before f form.While rest false e other may = absurd_test (sym other)
clause_made i before f form.For rest false e other may = absurd_test (sym other)
clause_made i before f form.Try rest false e other may = absurd_test (sym other)
clause_made i before f form.Except rest false e other may = absurd_test (sym other)
clause_made i before f form.Finally rest false e other may = absurd_test (sym other)
clause_made i before f form.With rest false e other may = absurd_test (sym other)
clause_made i before f form.Definition rest false e other may = absurd_test (sym other)

continues_made : (i : ℕ) (before : List Placed) (f : Form) → continues i before f ≡ true → Continues i before f
continues_made i before f e =
    elim (clause_before i before) as (λ o. clause_before i before ≡ o → is_some (joined (state_in i o) f) ≡ true → Continues i before f) [
      | None ↦ λ is e. absurd_test e
      | Some g ↦ λ is e. clause_made i before f g.0 g.1 (is_no_else g.0) is refl e
    ] refl e

-- ---- handlers and definitions

handler_of : (l : Line) (f : Form) → clause_in l ≡ Some f → is_handler l ≡ handles f
handler_of (line.simple found) f e = absurd (cc)
handler_of (line.header h colon found) f e = let same : form_of h ≡ f = cc in ap handles same
handler_of (line.decorator t v) f e = absurd (cc)

handler_follows_test : {i : ℕ} {ps : List Placed} → HasHandler i ps → handler_follows i ps ≡ true
handler_follows_test {i} {ps} (by_except {p = p} {after = qs} same is) =
    let low : nat_lt i p.indent ≡ false = le-ltb i p.indent (omega (arith, same)) in
    rw (low, same_nat p.indent i same, handler_of p.line form.Except is) refl
handler_follows_test {i} {ps} (by_finally {p = p} {after = qs} same is) =
    let low : nat_lt i p.indent ≡ false = le-ltb i p.indent (omega (arith, same)) in
    rw (low, same_nat p.indent i same, handler_of p.line form.Finally is) refl
handler_follows_test {i} {ps} (past_block {p = p} {after = qs} l e) = rw (lt-ltb i p.indent l) (handler_follows_test e)

handler_by : (i : ℕ) (p : Placed) (ps : List Placed) (f : Form) → p.indent ≡ i → clause_in p.line ≡ Some f → handles f ≡ true → HasHandler i (p ∷ ps)
handler_by i p ps form.If same is e = absurd_test e
handler_by i p ps form.Elif same is e = absurd_test e
handler_by i p ps form.Else same is e = absurd_test e
handler_by i p ps form.While same is e = absurd_test e
handler_by i p ps form.For same is e = absurd_test e
handler_by i p ps form.Try same is e = absurd_test e
handler_by i p ps form.Except same is e = by_except same is
handler_by i p ps form.Finally same is e = by_finally same is
handler_by i p ps form.With same is e = absurd_test e
handler_by i p ps form.Definition same is e = absurd_test e

handler_here : (i own number : ℕ) (l : Line) (ps : List Placed) → own ≡ i → is_handler l ≡ true → HasHandler i (record { indent = own; number = number; line = l } ∷ ps)
handler_here i own number (line.simple found) ps same e = absurd_test e
handler_here i own number (line.header h colon found) ps same e =
    handler_by i (record { indent = own; number = number; line = line.header h colon found }) ps (form_of h) same refl e
handler_here i own number (line.decorator t v) ps same e = absurd_test e

pub and_true : (a b : Bool) → (a && b) ≡ true → (a ≡ true) × (b ≡ true)
and_true true b e = (refl, e)
and_true false b e = absurd_test e

handler_follows_made : (i : ℕ) (ps : List Placed) → handler_follows i ps ≡ true → HasHandler i ps
handler_follows_made i [] e = absurd_test e
handler_follows_made i (p ∷ ps) e =
    elim (nat_lt i p.indent) as (λ b. nat_lt i p.indent ≡ b → (if b then handler_follows i ps else (p.indent == i && is_handler p.line)) ≡ true → HasHandler i (p ∷ ps)) [
      | true ↦ λ l e. past_block (ltb-true i p.indent l) (handler_follows_made i ps e)
      | false ↦ λ l e. let both = and_true (p.indent == i) (is_handler p.line) e in
          handler_here i p.indent p.number p.line ps (eqb-true p.indent i both.0) both.1
    ] refl e

abbrev pub defines : Form → Bool
defines form.Definition = true
defines _ = false

abbrev pub defined_by : Line → Bool → Bool
defined_by (line.simple _) more = false
defined_by (line.header h _ _) more = defines (form_of h)
defined_by (line.decorator _ _) more = more

-- whether these lines are decorators at an indent, and then a definition at it
abbrev pub decorates : ℕ → List Placed → Bool
decorates i [] = false
decorates i (p ∷ ps) = p.indent == i && defined_by p.line (decorates i ps)

definition_of : (l : Line) (b : Bool) → clause_in l ≡ Some form.Definition → defined_by l b ≡ true
definition_of (line.simple found) b e = absurd (cc)
definition_of (line.header h colon found) b e = let same : form_of h ≡ form.Definition = cc in ap defines same
definition_of (line.decorator t v) b e = absurd (cc)

mark_of : (l : Line) (b : Bool) → is_decorator_line l ≡ true → defined_by l b ≡ b
mark_of (line.simple found) b e = absurd_test e
mark_of (line.header h colon found) b e = absurd_test e
mark_of (line.decorator t v) b e = refl

defined_test : {i : ℕ} {ps : List Placed} → HasDefinition i ps → decorates i ps ≡ true
defined_test {i} {ps} (by_definition {p = p} {after = qs} same is) =
    rw (same_nat p.indent i same) (definition_of p.line (decorates i qs) is)
defined_test {i} {ps} (past_decorator {p = p} {after = qs} same mark e) =
    rw (same_nat p.indent i same) (mark_of p.line (decorates i qs) mark ∙ defined_test e)

definition_by : (i : ℕ) (p : Placed) (ps : List Placed) (f : Form) → p.indent ≡ i → clause_in p.line ≡ Some f → defines f ≡ true → HasDefinition i (p ∷ ps)
definition_by i p ps form.If same is e = absurd_test e
definition_by i p ps form.Elif same is e = absurd_test e
definition_by i p ps form.Else same is e = absurd_test e
definition_by i p ps form.While same is e = absurd_test e
definition_by i p ps form.For same is e = absurd_test e
definition_by i p ps form.Try same is e = absurd_test e
definition_by i p ps form.Except same is e = absurd_test e
definition_by i p ps form.Finally same is e = absurd_test e
definition_by i p ps form.With same is e = absurd_test e
definition_by i p ps form.Definition same is e = by_definition same is

defined_here : (i own number : ℕ) (l : Line) (ps : List Placed) → own ≡ i → (decorates i ps ≡ true → HasDefinition i ps) → defined_by l (decorates i ps) ≡ true
    → HasDefinition i (record { indent = own; number = number; line = l } ∷ ps)
defined_here i own number (line.simple found) ps same more e = absurd_test e
defined_here i own number (line.header h colon found) ps same more e =
    definition_by i (record { indent = own; number = number; line = line.header h colon found }) ps (form_of h) same refl e
defined_here i own number (line.decorator t v) ps same more e = past_decorator same refl (more e)

defined_made : (i : ℕ) (ps : List Placed) → decorates i ps ≡ true → HasDefinition i ps
defined_made i [] e = absurd_test e
defined_made i (p ∷ ps) e =
    let both = and_true (p.indent == i) (defined_by p.line (decorates i ps)) e in
    defined_here i p.indent p.number p.line ps (eqb-true p.indent i both.0) (defined_made i ps) both.1

-- ---- misplaced lines

abbrev pub is_out : List Placed → ℕ → List Placed → Form → Bool
is_out before i ps form.Try = not (handler_follows i ps)
is_out before i ps form.Elif = not (continues i before form.Elif)
is_out before i ps form.Else = not (continues i before form.Else)
is_out before i ps form.Except = not (continues i before form.Except)
is_out before i ps form.Finally = not (continues i before form.Finally)
is_out before i ps _ = false

abbrev pub is_astray : List Placed → ℕ → List Placed → Line → Bool
is_astray before i ps (line.simple _) = false
is_astray before i ps (line.header h _ found) = (is_none found && not (deeper_next i ps)) || is_out before i ps (form_of h)
is_astray before i ps (line.decorator _ _) = not (decorates i ps)

abbrev pub is_misplaced : List Placed → Placed → List Placed → Bool
is_misplaced before l ps = nat_lt (deepest before) l.indent || (nat_lt 64 l.indent || is_astray before l.indent ps l.line)

empty_test : (before : List Placed) (i : ℕ) (ps : List Placed) (l : Line) → is_bare l ≡ true → deeper_next i ps ≡ false → is_astray before i ps l ≡ true
empty_test before i ps (line.simple found) bare e = absurd_test bare
empty_test before i ps (line.header h colon found) bare e = rw (bare, e) refl
empty_test before i ps (line.decorator t v) bare e = absurd_test bare

later_out : (before : List Placed) (i : ℕ) (ps : List Placed) (f : Form) → is_later f ≡ true → continues i before f ≡ false → is_out before i ps f ≡ true
later_out before i ps form.If more e = absurd_test more
later_out before i ps form.Elif more e = not_true (continues i before form.Elif) e
later_out before i ps form.Else more e = not_true (continues i before form.Else) e
later_out before i ps form.While more e = absurd_test more
later_out before i ps form.For more e = absurd_test more
later_out before i ps form.Try more e = absurd_test more
later_out before i ps form.Except more e = not_true (continues i before form.Except) e
later_out before i ps form.Finally more e = not_true (continues i before form.Finally) e
later_out before i ps form.With more e = absurd_test more
later_out before i ps form.Definition more e = absurd_test more

header_test : (before : List Placed) (i : ℕ) (ps : List Placed) (l : Line) (f : Form) → clause_in l ≡ Some f → is_out before i ps f ≡ true → is_astray before i ps l ≡ true
header_test before i ps (line.simple found) f is e = absurd (cc)
header_test before i ps (line.header h colon found) f is e =
    let same : form_of h ≡ f = cc in
    or_second (is_none found && not (deeper_next i ps)) (is_out before i ps (form_of h)) (ap (is_out before i ps) same ∙ e)
header_test before i ps (line.decorator t v) f is e = absurd (cc)

mark_test : (before : List Placed) (i : ℕ) (ps : List Placed) (l : Line) → is_decorator_line l ≡ true → decorates i ps ≡ false → is_astray before i ps l ≡ true
mark_test before i ps (line.simple found) mark e = absurd_test mark
mark_test before i ps (line.header h colon found) mark e = absurd_test mark
mark_test before i ps (line.decorator t v) mark e = not_true (decorates i ps) e

misplaced_test : {before : List Placed} {l : Placed} {ps : List Placed} → Misplaced before l ps → is_misplaced before l ps ≡ true
misplaced_test {before} {l} {ps} (indented m) = rw (lt-ltb (deepest before) l.indent m) refl
misplaced_test {before} {l} {ps} (too_deep m) =
    or_second (nat_lt (deepest before) l.indent) (nat_lt 64 l.indent || is_astray before l.indent ps l.line) (rw (lt-ltb 64 l.indent m) refl)
misplaced_test {before} {l} {ps} (without_block bare none) =
    or_third (nat_lt (deepest before) l.indent) (nat_lt 64 l.indent) (is_astray before l.indent ps l.line)
    (empty_test before l.indent ps l.line bare (fails (deeper_next l.indent ps) (deeper_made l.indent ps) none))
misplaced_test {before} {l} {ps} (continues_nothing {clause = f} is more none) =
    or_third (nat_lt (deepest before) l.indent) (nat_lt 64 l.indent) (is_astray before l.indent ps l.line)
    (header_test before l.indent ps l.line f is (later_out before l.indent ps f more (fails (continues l.indent before f) (continues_made l.indent before f) none)))
misplaced_test {before} {l} {ps} (without_handler is none) =
    or_third (nat_lt (deepest before) l.indent) (nat_lt 64 l.indent) (is_astray before l.indent ps l.line)
    (header_test before l.indent ps l.line form.Try is (not_true (handler_follows l.indent ps) (fails (handler_follows l.indent ps) (handler_follows_made l.indent ps) none)))
misplaced_test {before} {l} {ps} (decorates_nothing mark none) =
    or_third (nat_lt (deepest before) l.indent) (nat_lt 64 l.indent) (is_astray before l.indent ps l.line)
    (mark_test before l.indent ps l.line mark (fails (decorates l.indent ps) (defined_made l.indent ps) none))

out_made : (before : List Placed) (l : Placed) (ps : List Placed) (f : Form) → clause_in l.line ≡ Some f → is_out before l.indent ps f ≡ true → Misplaced before l ps
out_made before l ps form.If is e = absurd_test e
out_made before l ps form.Elif is e = continues_nothing is refl (refutes (continues l.indent before form.Elif) continues_test (not_false (continues l.indent before form.Elif) e))
out_made before l ps form.Else is e = continues_nothing is refl (refutes (continues l.indent before form.Else) continues_test (not_false (continues l.indent before form.Else) e))
out_made before l ps form.While is e = absurd_test e
out_made before l ps form.For is e = absurd_test e
out_made before l ps form.Try is e = without_handler is (refutes (handler_follows l.indent ps) handler_follows_test (not_false (handler_follows l.indent ps) e))
out_made before l ps form.Except is e = continues_nothing is refl (refutes (continues l.indent before form.Except) continues_test (not_false (continues l.indent before form.Except) e))
out_made before l ps form.Finally is e = continues_nothing is refl (refutes (continues l.indent before form.Finally) continues_test (not_false (continues l.indent before form.Finally) e))
out_made before l ps form.With is e = absurd_test e
out_made before l ps form.Definition is e = absurd_test e

header_made : (before : List Placed) (l : Placed) (ps : List Placed) (h : Header) (bare : Bool) → is_bare l.line ≡ bare → clause_in l.line ≡ Some (form_of h)
    → ((bare && not (deeper_next l.indent ps)) || is_out before l.indent ps (form_of h)) ≡ true → Misplaced before l ps
header_made before l ps h false b is e = out_made before l ps (form_of h) is e
header_made before l ps h true b is e =
    elim (deeper_next l.indent ps) as (λ d. deeper_next l.indent ps ≡ d → (not d || is_out before l.indent ps (form_of h)) ≡ true → Misplaced before l ps) [
      | true ↦ λ d e. out_made before l ps (form_of h) is e
      | false ↦ λ d e. without_block b (refutes (deeper_next l.indent ps) deeper_test d)
    ] refl e

astray_made : (before : List Placed) (own number : ℕ) (x : Line) (ps : List Placed) → is_astray before own ps x ≡ true
    → Misplaced before (record { indent = own; number = number; line = x }) ps
astray_made before own number (line.simple found) ps e = absurd_test e
astray_made before own number (line.header h colon found) ps e =
    header_made before (record { indent = own; number = number; line = line.header h colon found }) ps h (is_none found) refl refl e
astray_made before own number (line.decorator t v) ps e =
    decorates_nothing refl (refutes (decorates own ps) defined_test (not_false (decorates own ps) e))

misplaced_made : (before : List Placed) (l : Placed) (ps : List Placed) → is_misplaced before l ps ≡ true → Misplaced before l ps
misplaced_made before l ps e =
    elim (nat_lt (deepest before) l.indent) as (λ b. nat_lt (deepest before) l.indent ≡ b → (b || (nat_lt 64 l.indent || is_astray before l.indent ps l.line)) ≡ true → Misplaced before l ps) [
      | true ↦ λ m e. indented (ltb-true (deepest before) l.indent m)
      | false ↦ λ _ e. elim (nat_lt 64 l.indent) as (λ b. nat_lt 64 l.indent ≡ b → (b || is_astray before l.indent ps l.line) ≡ true → Misplaced before l ps) [
        | true ↦ λ m e. too_deep (ltb-true 64 l.indent m)
        | false ↦ λ _ e. astray_made before l.indent l.number l.line ps e
      ] refl e
    ] refl e

-- ---- the first that is

-- the physical line of the first of some lines that is misplaced, after others
abbrev pub first : List Placed → List Placed → Option ℕ
first before [] = None
first before (l ∷ ps) = if is_misplaced before l ps then Some l.number else first (l ∷ before) ps

pub none_first : (before ps : List Placed) → first before ps ≡ None → NoneMisplaced before ps
none_first before [] e = end
none_first before (l ∷ ps) e =
    elim (is_misplaced before l ps) as (λ b. is_misplaced before l ps ≡ b → (if b then Some l.number else first (l ∷ before) ps) ≡ None → NoneMisplaced before (l ∷ ps)) [
      | true ↦ λ _ e. absurd (cc)
      | false ↦ λ m e. next (refutes (is_misplaced before l ps) misplaced_test m) (none_first (l ∷ before) ps e)
    ] refl e

pub some_first : (number : ℕ) (before ps : List Placed) → first before ps ≡ Some number → FirstMisplaced number before ps
some_first number before [] e = absurd (cc)
some_first number before (l ∷ ps) e =
    elim (is_misplaced before l ps) as (λ b. is_misplaced before l ps ≡ b → (if b then Some l.number else first (l ∷ before) ps) ≡ Some number → FirstMisplaced number before (l ∷ ps)) [
      | true ↦ λ m e. here (misplaced_made before l ps m) (cc)
      | false ↦ λ m e. later (refutes (is_misplaced before l ps) misplaced_test m) (some_first number (l ∷ before) ps e)
    ] refl e
