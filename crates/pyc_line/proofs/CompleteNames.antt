-- Lists of names, dotted names, aliases and the modules of imports are read back.
use Rattle.std.proofs.Common.{◌≡◌, refl, ap, sym, ◌∙◌, ℕ, zero, suc, ◌+◌, ◌≤◌, Bool, true, false, not, ◌&&◌, if◌then◌else◌, List, [], ◌∷◌, ◌++◌, length, length-append, take, drop, Option, None, Some, take_while, append_assoc, append-nil, arith}
use Rattle.std.proofs.Math.Seq.{take-append_seam, drop-append_seam}
use Rattle.std.specs.List.{prefix_len}
use Rattle.pyc_token.specs.declared.tokens.Delimiter.TheVariants as delimiter
use Rattle.pyc_token.specs.declared.tokens.Keyword.TheVariants as word
use Rattle.pyc_token.specs.declared.tokens.Kind.{Kind}
use Rattle.pyc_token.specs.declared.tokens.Kind.TheVariants as kind
use Rattle.pyc_token.specs.declared.tokens.Token.{Token}
use Rattle.pyc_tree.specs.Kinds.{kind_of, same_kind, is_name}
use Rattle.pyc_tree.specs.WellLines.{is_dot, IsAlias, AreParts, IsDotted, AreDots, IsSourceOf, AreSeparated, IsImportedModule, IsImportedName}
use Rattle.pyc_tree.specs.Statements.{Separated, no_item, last_item, item, Alias, DottedPart, Dotted, alias_yield, parts_yield, dotted_yield, optional_path, module_yield, name_yield, separated_yield}
use Rattle.pyc_tree.specs.Parser.{Parsed, Parser, take_one, expect_name}
use Rattle.pyc_tree.specs.SimpleStatements as grammar
use Rattle.pyc_line.proofs.SoundTables.{never}
use Rattle.pyc_line.proofs.CompleteTools.{step, yes, no, same_as, apart, name_expected}

-- ---- names with commas

-- whether a token may follow a name that is imported or declared
abbrev pub is_after : Kind → Bool
is_after (kind.Delimiter delimiter.Comma) = true
is_after (kind.Delimiter delimiter.Semicolon) = true
is_after (kind.Close _) = true
is_after _ = false

-- whether a token may follow all of them
abbrev pub ends_names : Kind → Bool
ends_names (kind.Delimiter delimiter.Semicolon) = true
ends_names (kind.Close _) = true
ends_names _ = false

ends_after : (k : Kind) → ends_names k ≡ true → is_after k ≡ true
ends_after (kind.Delimiter delimiter.Semicolon) is = refl
ends_after (kind.Close b) is = refl
ends_after _ is = never is

ends_no_name : (k : Kind) → ends_names k ≡ true → is_name k ≡ false
ends_no_name (kind.Delimiter delimiter.Semicolon) is = refl
ends_no_name (kind.Close b) is = refl
ends_no_name _ is = never is

goes_on : (b : Bool) (k : Kind) → is_name k ≡ true → (b && not (is_name k)) ≡ false
goes_on true k is = ap not is
goes_on false k is = refl

trails : (b : Bool) (k : Kind) → b ≡ true → is_name k ≡ false → (b && not (is_name k)) ≡ true
trails true k may is = ap not is
trails false k may is = never may

some_token : (ts : List Token) → is_name (kind_of ts) ≡ true → 1 ≤ length ts
some_token [] is = never is
some_token (t ∷ ts) is = omega arith

abbrev pub how_many : {A : Type 0} → Separated A → ℕ
how_many no_item = 0
how_many (last_item x) = 1
how_many (item x between more) = suc (how_many more)

-- items that are read back one by one, of which each begins with a name
pub record Named {A : Type 0} (Is : A → Type 0) (yield : A → List Token) (one : Parser A) : Type 0 where
  pub reads : (x : A) (rest : List Token) → Is x → is_after (kind_of rest) ≡ true → one (yield x ++ rest) ≡ Some (x, rest)
  pub begins : (x : A) (rest : List Token) → Is x → is_name (kind_of (yield x ++ rest)) ≡ true

few_names : {A : Type 0} (Is : A → Type 0) (yield : A → List Token) (one : Parser A) → Named Is yield one → (may_trail : Bool) (found : Separated A)
    → AreSeparated Is (kind.Delimiter delimiter.Comma) may_trail found → how_many found ≤ length (separated_yield yield found)
few_names Is yield one named may_trail no_item are = absurd are
few_names Is yield one named may_trail (last_item x) are =
    some_token (yield x) (ap (λ ts. is_name (kind_of ts)) (sym (append-nil (yield x))) ∙ named.begins x [] are)
few_names Is yield one named may_trail (item x between no_item) are = omega (arith, length-append (yield x) (between ∷ []))
few_names Is yield one named may_trail (item x between (last_item y)) are =
    omega (arith, few_names Is yield one named may_trail (last_item y) are.2, length-append (yield x) (between ∷ yield y))
few_names Is yield one named may_trail (item x between (item y next more)) are =
    omega (
      arith,
      few_names Is yield one named may_trail (item y next more) are.2,
      length-append (yield x) (between ∷ separated_yield yield (item y next more)),
    )

pub names_begin : {A : Type 0} (Is : A → Type 0) (yield : A → List Token) (one : Parser A) → Named Is yield one → (may_trail : Bool) (found : Separated A)
    (rest : List Token) → AreSeparated Is (kind.Delimiter delimiter.Comma) may_trail found
    → is_name (kind_of (separated_yield yield found ++ rest)) ≡ true
names_begin Is yield one named may_trail no_item rest are = absurd are
names_begin Is yield one named may_trail (last_item x) rest are = named.begins x rest are
names_begin Is yield one named may_trail (item x between no_item) rest are =
    rw (append_assoc (yield x) (between ∷ []) rest) (named.begins x (between ∷ rest) are.1)
names_begin Is yield one named may_trail (item x between (last_item y)) rest are =
    rw (append_assoc (yield x) (between ∷ yield y) rest) (named.begins x (between ∷ (yield y ++ rest)) are.0)
names_begin Is yield one named may_trail (item x between (item y next more)) rest are =
    let left : List Token = separated_yield yield (item y next more) in
    rw (append_assoc (yield x) (between ∷ left) rest) (named.begins x (between ∷ (left ++ rest)) are.0)

pub taken : (t : Token) (ts : List Token) → take_one (t ∷ ts) ≡ Some (t, ts)
unfolding take_one
taken t ts = refl

-- an item with a comma, and those after it
next_name : {A : Type 0} (Is : A → Type 0) (yield : A → List Token) (one : Parser A) → Named Is yield one → (may_trail : Bool) (n : ℕ) (x : A)
    (between : Token) (more : Separated A) (rest : List Token) → Is x → between.kind ≡ kind.Delimiter delimiter.Comma
    → AreSeparated Is (kind.Delimiter delimiter.Comma) may_trail more
    → grammar.separated one may_trail n (separated_yield yield more ++ rest) ≡ Some (more, rest)
    → grammar.separated one may_trail (suc n) (separated_yield yield (item x between more) ++ rest) ≡ Some (item x between more, rest)
next_name Is yield one named may_trail n x between more rest well same are later =
    let left : List Token = separated_yield yield more ++ rest in
    rw (append_assoc (yield x) (between ∷ separated_yield yield more) rest)
    (step (one (yield x ++ (between ∷ left))) _ x (between ∷ left) _ (named.reads x (between ∷ left) well (ap is_after same))
    (yes _ _ (same_kind between.kind (kind.Delimiter delimiter.Comma)) (between ∷ left) _ (same_as between.kind (kind.Delimiter delimiter.Comma) same)
    (step (take_one (between ∷ left)) _ between left _ (taken between left)
    (no _ _ (may_trail && not (is_name (kind_of left))) left _ (goes_on may_trail (kind_of left) (names_begin Is yield one named may_trail more rest are))
    (step (grammar.separated one may_trail n left) _ more rest _ later refl)))))

separated_full : {A : Type 0} (Is : A → Type 0) (yield : A → List Token) (one : Parser A) → Named Is yield one → (may_trail : Bool) (found : Separated A)
    (n : ℕ) (rest : List Token) → AreSeparated Is (kind.Delimiter delimiter.Comma) may_trail found → ends_names (kind_of rest) ≡ true
    → how_many found ≤ n → grammar.separated one may_trail n (separated_yield yield found ++ rest) ≡ Some (found, rest)
separated_full Is yield one named may_trail no_item n rest are stop few = absurd are
separated_full Is yield one named may_trail (last_item x) zero rest are stop few = absurd (omega (arith, few))
separated_full Is yield one named may_trail (last_item x) (suc n) rest are stop few =
    step (one (yield x ++ rest)) _ x rest _ (named.reads x rest are (ends_after (kind_of rest) stop))
    (no _ _ (same_kind (kind_of rest) (kind.Delimiter delimiter.Comma)) rest _ (apart ends_names (kind_of rest) (kind.Delimiter delimiter.Comma) stop refl) refl)
separated_full Is yield one named may_trail (item x between more) zero rest are stop few = absurd (omega (arith, few))
separated_full Is yield one named may_trail (item x between no_item) (suc n) rest are stop few =
    rw (append_assoc (yield x) (between ∷ []) rest)
    (step (one (yield x ++ (between ∷ rest))) _ x (between ∷ rest) _ (named.reads x (between ∷ rest) are.1 (ap is_after are.2))
    (yes _ _ (same_kind between.kind (kind.Delimiter delimiter.Comma)) (between ∷ rest) _ (same_as between.kind (kind.Delimiter delimiter.Comma) are.2)
    (step (take_one (between ∷ rest)) _ between rest _ (taken between rest)
    (yes _ _ (may_trail && not (is_name (kind_of rest))) rest _ (trails may_trail (kind_of rest) are.0 (ends_no_name (kind_of rest) stop)) refl))))
separated_full Is yield one named may_trail (item x between (last_item y)) (suc n) rest are stop few =
    next_name Is yield one named may_trail n x between (last_item y) rest are.0 are.1 are.2
    (separated_full Is yield one named may_trail (last_item y) n rest are.2 stop (omega (arith, few)))
separated_full Is yield one named may_trail (item x between (item y next more)) (suc n) rest are stop few =
    next_name Is yield one named may_trail n x between (item y next more) rest are.0 are.1 are.2
    (separated_full Is yield one named may_trail (item y next more) n rest are.2 stop (omega (arith, few)))

-- all of them
pub names_full : {A : Type 0} (Is : A → Type 0) (yield : A → List Token) (one : Parser A) → Named Is yield one → (may_trail : Bool) (found : Separated A)
    (rest : List Token) → AreSeparated Is (kind.Delimiter delimiter.Comma) may_trail found → ends_names (kind_of rest) ≡ true
    → grammar.all_separated one may_trail (separated_yield yield found ++ rest) ≡ Some (found, rest)
names_full Is yield one named may_trail found rest are stop =
    separated_full Is yield one named may_trail found (length (separated_yield yield found ++ rest)) rest are stop
    (omega (arith, few_names Is yield one named may_trail found are, length-append (separated_yield yield found) rest))

-- ---- dotted names and aliases

pub alias_full : (found : Option Alias) (rest : List Token) → IsAlias found → same_kind (kind_of rest) (kind.Keyword word.As) ≡ false
    → grammar.alias (alias_yield found ++ rest) ≡ Some (found, rest)
unfolding grammar.alias take_one
alias_full None rest well other = no _ _ (same_kind (kind_of rest) (kind.Keyword word.As)) rest _ other refl
alias_full (Some a) rest well other =
    yes _ _ (same_kind a.word.kind (kind.Keyword word.As)) (a.word ∷ a.name ∷ rest) _ (same_as a.word.kind (kind.Keyword word.As) well.0)
    (step (expect_name (a.name ∷ rest)) _ a.name rest _ (name_expected a.name rest well.1) refl)

parts_full : (found : List DottedPart) (n : ℕ) (rest : List Token) → AreParts found → same_kind (kind_of rest) (kind.Delimiter delimiter.Dot) ≡ false
    → length found ≤ n → grammar.parts n (parts_yield found ++ rest) ≡ Some (found, rest)
unfolding grammar.parts take_one
parts_full [] zero rest well other few = refl
parts_full [] (suc n) rest well other few = no _ _ (same_kind (kind_of rest) (kind.Delimiter delimiter.Dot)) rest _ other refl
parts_full (p ∷ more) zero rest well other few = absurd (omega (arith, few))
parts_full (p ∷ more) (suc n) rest well other few =
    yes _ _ (same_kind p.dot.kind (kind.Delimiter delimiter.Dot)) (p.dot ∷ p.name ∷ (parts_yield more ++ rest)) _
    (same_as p.dot.kind (kind.Delimiter delimiter.Dot) well.0)
    (step (expect_name (p.name ∷ (parts_yield more ++ rest))) _ p.name (parts_yield more ++ rest) _ (name_expected p.name (parts_yield more ++ rest) well.1)
    (step (grammar.parts n (parts_yield more ++ rest)) _ more rest _ (parts_full more n rest well.2 other (omega (arith, few))) refl))

few_parts : (found : List DottedPart) → length found ≤ length (parts_yield found)
few_parts [] = omega arith
few_parts (p ∷ more) = omega (arith, few_parts more)

dotted_name_full : (path : Dotted) (rest : List Token) → IsDotted path → same_kind (kind_of rest) (kind.Delimiter delimiter.Dot) ≡ false
    → grammar.dotted_name (dotted_yield path ++ rest) ≡ Some (path, rest)
unfolding grammar.dotted_name grammar.all_parts
dotted_name_full path rest well other =
    let left : List Token = parts_yield path.parts ++ rest in
    step (expect_name (path.first ∷ left)) _ path.first left _ (name_expected path.first left well.0)
    (step (grammar.all_parts left) _ path.parts rest _
    (parts_full path.parts (length left) rest well.1 other (omega (arith, few_parts path.parts, length-append (parts_yield path.parts) rest))) refl)

-- what stands behind a name is no dot, and behind an alias no `as`
after_dot : (k : Kind) → is_after k ≡ true → same_kind k (kind.Delimiter delimiter.Dot) ≡ false
after_dot k is = apart is_after k (kind.Delimiter delimiter.Dot) is refl

after_as : (k : Kind) → is_after k ≡ true → same_kind k (kind.Keyword word.As) ≡ false
after_as k is = apart is_after k (kind.Keyword word.As) is refl

alias_dot : (found : Option Alias) (rest : List Token) → IsAlias found → is_after (kind_of rest) ≡ true
    → same_kind (kind_of (alias_yield found ++ rest)) (kind.Delimiter delimiter.Dot) ≡ false
unfolding same_kind
alias_dot None rest well stop = after_dot (kind_of rest) stop
alias_dot (Some a) rest well stop = ap (λ k. same_kind k (kind.Delimiter delimiter.Dot)) well.0

pub modules_named : Named IsImportedModule module_yield grammar.imported_module
unfolding grammar.imported_module
modules_named =
    record {
      reads = λ m rest well stop.
          rw (append_assoc (dotted_yield m.path) (alias_yield m.alias) rest)
          (step (grammar.dotted_name (dotted_yield m.path ++ (alias_yield m.alias ++ rest))) _ m.path (alias_yield m.alias ++ rest) _
          (dotted_name_full m.path (alias_yield m.alias ++ rest) well.0 (alias_dot m.alias rest well.1 stop))
          (step (grammar.alias (alias_yield m.alias ++ rest)) _ m.alias rest _ (alias_full m.alias rest well.1 (after_as (kind_of rest) stop)) refl));
      begins = λ m rest well. well.0.0;
    }

pub names_named : Named IsImportedName name_yield grammar.imported_name
unfolding grammar.imported_name
names_named =
    record {
      reads = λ n rest well stop.
          step (expect_name (n.name ∷ (alias_yield n.alias ++ rest))) _ n.name (alias_yield n.alias ++ rest) _ (name_expected n.name _ well.0)
          (step (grammar.alias (alias_yield n.alias ++ rest)) _ n.alias rest _ (alias_full n.alias rest well.1 (after_as (kind_of rest) stop)) refl);
      begins = λ n rest well. well.0;
    }

pub tokens_named : Named (λ t. is_name t.kind ≡ true) (λ t. t ∷ []) expect_name
tokens_named = record { reads = λ t rest well stop. name_expected t rest well; begins = λ t rest well. well }

-- ---- the module of a from-import

dots_length : (dots rest : List Token) → AreDots dots → is_dot (kind_of rest) ≡ false → prefix_len grammar.is_dot_token (dots ++ rest) ≡ length dots
dots_length [] [] are stop = refl
dots_length [] (t ∷ rest) are stop = ap (λ (b : Bool). if b then 1 + prefix_len grammar.is_dot_token rest else 0) stop
dots_length (dot ∷ dots) rest are stop =
    let later : prefix_len grammar.is_dot_token (dots ++ rest) ≡ length dots = dots_length dots rest are.1 stop in
    ap (λ (b : Bool). if b then 1 + prefix_len grammar.is_dot_token (dots ++ rest) else 0) are.0 ∙ omega (arith, later)

dots_full : (dots rest : List Token) → AreDots dots → is_dot (kind_of rest) ≡ false → grammar.dots (dots ++ rest) ≡ Some (dots, rest)
unfolding grammar.dots
dots_full dots rest are stop =
    let front : take_while grammar.is_dot_token (dots ++ rest) ≡ dots =
    ap (λ n. take n (dots ++ rest)) (dots_length dots rest are stop) ∙ take-append_seam dots rest in
    ap {B = Parsed (List Token)} (λ z. Some (z, drop (length z) (dots ++ rest))) front
    ∙ ap {B = Parsed (List Token)} (λ z. Some (dots, z)) (drop-append_seam dots rest)

name_dot : (k : Kind) → is_name k ≡ true → is_dot k ≡ false
name_dot (kind.Name w) is = refl
name_dot _ is = never is

-- a module that is named
named_path : (dots : List Token) (k : Kind) (path : Dotted) (ts rest : List Token) → is_name k ≡ true → grammar.dotted_name ts ≡ Some (path, rest)
    → grammar.path_after dots k ts ≡ Some (Some path, rest)
named_path (dot ∷ dots) (kind.Keyword word.Import) path ts rest is found = never is
named_path dots k path ts rest is found = step (grammar.dotted_name ts) _ path rest _ found refl

pub source_parts : (dots : List Token) (path : Option Dotted) (rest : List Token) → IsSourceOf dots path → kind_of rest ≡ kind.Keyword word.Import
    → grammar.source (dots ++ (optional_path path ++ rest)) ≡ Some (record { dots = dots; path = path }, rest)
unfolding grammar.source same_kind
source_parts [] None rest well is = absurd well
source_parts (dot ∷ dots) None rest well is =
    step (grammar.dots (dot ∷ (dots ++ rest))) _ (dot ∷ dots) rest _ (dots_full (dot ∷ dots) rest well (ap is_dot is))
    (step (grammar.path_after (dot ∷ dots) (kind_of rest) rest) _ None rest _ (ap (λ k. grammar.path_after (dot ∷ dots) k rest) is) refl)
source_parts dots (Some path) rest well is =
    step (grammar.dots (dots ++ (dotted_yield path ++ rest))) _ dots (dotted_yield path ++ rest) _
    (dots_full dots (dotted_yield path ++ rest) well.0 (name_dot path.first.kind well.1.0))
    (step (grammar.path_after dots path.first.kind (dotted_yield path ++ rest)) _ (Some path) rest _
    (named_path dots path.first.kind path (dotted_yield path ++ rest) rest well.1.0
    (dotted_name_full path rest well.1 (ap (λ k. same_kind k (kind.Delimiter delimiter.Dot)) is))) refl)
