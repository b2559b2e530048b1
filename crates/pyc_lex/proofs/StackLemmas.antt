-- The stack of indents and the open brackets stay within their limits.
use Rattle.std.proofs.Common.{◌≡◌, ◌≤◌, ◌<◌, ◌+◌, ◌-◌, ◌==◌, ℕ, true, false, not, nat_le, nat_lt, if◌then◌else◌, List, [], ◌∷◌, ◌++◌, take, length, position, slice_index_or, Option, Some, None, Ok, Err, refl, sym, ap, ◌∙◌, arith, length-append, length-take}
use Rattle.std.proofs.lemmas.Bool.Decides.{nat_tests}
use Rattle.pyc_lex.specs.declared.brackets.Opened.{Opened}
use Rattle.pyc_lex.specs.declared.indents.Columns.{Columns}
use Rattle.pyc_token.specs.declared.tokens.Bracket.{Bracket}
use Rattle.pyc_token.specs.declared.tokens.Kind.{Kind}
use Rattle.pyc_token.specs.declared.tokens.Kind.TheVariants as kind
use Rattle.pyc_lex.specs.declared.fault.LexFault.TheVariants.{Tabs, Deep, Bracket as Unmatched}
use Rattle.pyc_lex.specs.Indents.{no_columns, compare_alike, top_of, max_depth, pushed, popped_to, settled}
use Rattle.pyc_lex.specs.Limits.{depth_past}
use Rattle.pyc_lex.specs.Lines.{is_same, innermost, closed, bracketed}

pushed-length : (stack new : List Columns) (at : Columns) (line : ℕ) → pushed stack at line ≡ Ok new → length new ≤ 65
pushed-length stack new at line e =
    elim (nat_lt max_depth (length stack)) as (λ b. nat_lt max_depth (length stack) ≡ b → (if b then Err (Deep line) else Ok (stack ++ at ∷ [])) ≡ Ok new → length new ≤ 65) [
      | true ↦ λ t e. cc
      | false ↦ λ t e.
          let is : stack ++ at ∷ [] ≡ new = cc in
          let low : length stack ≤ 64 = grind (arith, nat_tests, t) in
          omega (arith, low, ap length (sym is), length-append stack (at ∷ []))
    ] refl e

popped-length : (stack new : List Columns) (at : Columns) (line : ℕ) (found : Option ℕ) → popped_to stack at line found ≡ Ok new → length stack ≤ 65 → length new ≤ 65
popped-length stack new at line None e low = cc
popped-length stack new at line (Some index) e low =
    elim ((slice_index_or stack index no_columns).narrow == at.narrow) as (λ b. (if b then Ok (take (index + 1) stack) else Err (Tabs line)) ≡ Ok new → length new ≤ 65) [
      | true ↦ λ e. let is : take (index + 1) stack ≡ new = cc in omega (arith, low, ap length (sym is), length-take (index + 1) stack)
      | false ↦ λ e. cc
    ] e

-- the stack has at most 65 entries, the first included
pub settled-length : (stack new : List Columns) (at : Columns) (line : ℕ) → settled stack at line ≡ Ok new → length stack ≤ 65 → length new ≤ 65
unfolding settled
settled-length stack new at line e low =
    let top : Columns = top_of stack in
    elim (not (compare_alike at top)) as (λ b. (if b then Err (Tabs line) else if nat_lt top.wide at.wide then pushed stack at line
    else if at.wide == top.wide then Ok stack else popped_to stack at line (position (λ entry. entry.wide == at.wide) stack)) ≡ Ok new → length new ≤ 65) [
      | true ↦ λ e. cc
      | false ↦ λ e. elim (nat_lt top.wide at.wide) as (λ b. (if b then pushed stack at line
          else if at.wide == top.wide then Ok stack else popped_to stack at line (position (λ entry. entry.wide == at.wide) stack)) ≡ Ok new → length new ≤ 65) [
            | true ↦ λ e. pushed-length stack new at line e
            | false ↦ λ e. elim (at.wide == top.wide) as (λ b. (if b then Ok stack else popped_to stack at line (position (λ entry. entry.wide == at.wide) stack)) ≡ Ok new → length new ≤ 65) [
              | true ↦ λ e. let is : stack ≡ new = cc in omega (arith, low, ap length (sym is))
              | false ↦ λ e. popped-length stack new at line (position (λ entry. entry.wide == at.wide) stack) e low
            ] e
          ] e
    ] e

-- the brackets that are open after a token: one more, one less or as many
pub record IsStepped (before after : ℕ) (kind : Kind) : Type 0 where
  pub depth : depth_past before kind ≡ after
  pub low : after ≤ 64

opened-length : (brackets new : List Opened) (sort : Bracket) (line : ℕ)
    → (if nat_le max_depth (length brackets) then Err (Deep line) else Ok (brackets ++ record { bracket = sort; line = line } ∷ [])) ≡ Ok new
    → IsStepped (length brackets) (length new) (kind.Open sort)
opened-length brackets new sort line e =
    elim (nat_le max_depth (length brackets)) as (λ b. nat_le max_depth (length brackets) ≡ b
    → (if b then Err (Deep line) else Ok (brackets ++ record { bracket = sort; line = line } ∷ [])) ≡ Ok new → IsStepped (length brackets) (length new) (kind.Open sort)) [
      | true ↦ λ t e. cc
      | false ↦ λ t e.
          let is : brackets ++ record { bracket = sort; line = line } ∷ [] ≡ new = cc in
          let low : length brackets < 64 = grind (arith, nat_tests, t) in
          let more : length new ≡ length brackets + 1 = ap length (sym is) ∙ length-append brackets (record { bracket = sort; line = line } ∷ []) in
          record { depth = omega (arith, more); low = omega (arith, more, low) }
    ] refl e

closed-length : (found : Option Opened) (sort : Bracket) (line : ℕ) (brackets new : List Opened) → closed found sort line brackets ≡ Ok new → length brackets ≤ 64
    → IsStepped (length brackets) (length new) (kind.Close sort)
closed-length None sort line brackets new e low = cc
closed-length (Some last) sort line brackets new e low =
    elim (is_same last.bracket sort) as (λ b. (if b then Ok (take (length brackets - 1) brackets) else Err (Unmatched line)) ≡ Ok new → IsStepped (length brackets) (length new) (kind.Close sort)) [
      | true ↦ λ e.
          let is : take (length brackets - 1) brackets ≡ new = cc in
          let less : length new ≡ length brackets - 1 = omega (arith, ap length (sym is), length-take (length brackets - 1) brackets) in
          record { depth = sym less; low = omega (arith, less, low) }
      | false ↦ λ e. cc
    ] e

pub bracketed-length : (brackets new : List Opened) (kind : Kind) (line : ℕ) → bracketed brackets kind line ≡ Ok new → length brackets ≤ 64
    → IsStepped (length brackets) (length new) kind
unfolding bracketed
bracketed-length brackets new (kind.Open sort) line e low = opened-length brackets new sort line e
bracketed-length brackets new (kind.Close sort) line e low = closed-length (innermost brackets) sort line brackets new e low
bracketed-length brackets new _ line e low = let is : brackets ≡ new = cc in record { depth = ap length is; low = omega (arith, low, ap length is) }
