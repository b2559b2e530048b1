-- Passes over a table, class by class.
use Rattle.std.proofs.Common.{◌≡◌, ℕ, zero, suc, ◌+◌, ◌-◌, ◌<◌, ◌≤◌, ◌&&◌, Bool, false, not, is_some, List, [], ◌∷◌, ◌++◌, length, map, replicate, get_or, unwrap_or, Option, None, Some, option_map, inl, inr, refl, sym, ap, subst, ◌∙◌, arith}
use Rattle.std.specs.declared.alloc.Global.{Global}
use Rattle.std.specs.declared.rc.Rc.{Rc}
use Rattle.std.specs.List.{slice_get}
use Rattle.std.specs.Option.{option_or}
use Rattle.std.proofs.lemmas.Bool.{cases_eq, false≢true}
use Rattle.std.proofs.lemmas.List.{length-replicate}
use Rattle.std.proofs.lemmas.Option.{slice_get-map, slice_get-get_or}
use Rattle.pyc_mro.specs.declared.stored.StoredMro.{StoredMro}
use Rattle.pyc_mro.specs.declared.table.Base.{Base}
use Rattle.pyc_mro.specs.MroTable.{Mro, next_order, order_within, linear_order}
use Rattle.pyc_mro.specs.Passes.{made_in, made_at, AreMade, IsNextPass}
use Rattle.pyc_mro.specs.Tables.{Table, bases_of}
use Rattle.pyc_mro.proofs.MroLemmas.{base_orders-same, kept_or_within, order_within-stays}

-- ---- lists that grow

module _ {X Y : Type 0} (v : X → Y) (d : Y) where
  -- what is seen at a place, or what is seen past the end
  abbrev at : List X → ℕ → Y
  at xs c = unwrap_or (slice_get (map v xs) c) d

  at-before : (xs : List X) (x : X) (c : ℕ) → c < length xs → at (xs ++ x ∷ []) c ≡ at xs c
  at-before [] x c below = absurd (omega arith)
  at-before (y ∷ xs) x zero below = refl
  at-before (y ∷ xs) x (suc c) below = at-before xs x c (omega arith)

  at-here : (xs : List X) (x : X) → at (xs ++ x ∷ []) (length xs) ≡ v x
  at-here [] x = refl
  at-here (y ∷ xs) x = at-here xs x

  pub at-past : (xs : List X) (c : ℕ) → length xs ≤ c → at xs c ≡ d
  at-past [] c past = refl
  at-past (y ∷ xs) zero past = absurd (omega arith)
  at-past (y ∷ xs) (suc c) past = at-past xs c (omega arith)

  -- one place more at which a fact holds
  pub each_more : (P : ℕ → Y → Type 0) (xs next : List X) (x : X) (n : ℕ) → length xs ≡ n → next ≡ xs ++ x ∷ []
      → ((c : ℕ) → c < n → P c (at xs c)) → P n (v x) → (c : ℕ) → c < n + 1 → P c (at next c)
  each_more P xs next x n long pushed before here c below = elim (cases_eq c n) [
    | inl is ↦
        let seen : v x ≡ at next n = sym (ap (λ l. at l n) pushed ∙ ap (at (xs ++ x ∷ [])) (sym long) ∙ at-here xs x) in
        subst (λ k. P k (at next k)) (sym is) (subst (P n) seen here)
    | inr other ↦
        let lower : c < n = omega arith in
        let seen : at xs c ≡ at next c = sym (ap (λ l. at l c) pushed ∙ at-before xs x c (omega arith)) in
        subst (P c) seen (before c lower)
  ]

-- ---- what the code reads

-- what is made of a class is what stands at its place
pub made_at-read : (made : List (Option (Rc StoredMro Global))) (c : ℕ) (x : Option (Rc StoredMro Global)) → c < length made → x ≡ get_or made c x → made_at made c ≡ made_in x
made_at-read made c x below is =
    let got : slice_get made c ≡ Some x = slice_get-get_or made c x below ∙ ap Some (sym is) in
    ap (λ o. unwrap_or o None) (slice_get-map made_in made c ∙ ap (option_map made_in) got)

-- an order that is not new is the one that was there
pub kept-same : (before next o : Option Mro) → o ≡ option_or before next → (is_some o && not (is_some before)) ≡ false → o ≡ before
kept-same (Some x) next o is old = is
kept-same None next None is old = refl
kept-same None next (Some x) is old = absurd (false≢true (sym old))

-- ---- passes

made_at-none : (count c : ℕ) → made_at (replicate count None) c ≡ None
made_at-none zero c = refl
made_at-none (suc count) zero = refl
made_at-none (suc count) (suc c) = made_at-none count c

module _ (table : Table) where
  -- before the first pass
  pub AreMade-none : (made : List (Option (Rc StoredMro Global))) → made ≡ replicate (length table) None → AreMade table 0 made
  AreMade-none made is =
      record {
        count = ap length is ∙ length-replicate (length table) None;
        each = λ c below. ap (λ l. made_at l c) is ∙ made_at-none (length table) c;
      }

  module _ (depth : ℕ) (made next : List (Option (Rc StoredMro Global))) (has_new : Bool) (are : AreMade table depth made) (pass : IsNextPass table made next has_new) where
    -- a pass goes to bases once more
    next-each : (c : ℕ) → c < length table → made_at next c ≡ order_within table (suc depth) c
    next-each c below =
        let bases : List Base = bases_of table c in
        let same = base_orders-same (length table) (made_at made) (λ b. order_within table depth b) are.each bases in
        let onward : next_order (length made) (made_at made) c bases ≡ order_within table (suc depth) c =
        ap (λ n. next_order n (made_at made) c bases) are.count ∙ ap (option_map (linear_order c bases)) same in
        pass.each c (let e = are.count in omega arith)
        ∙ ap (λ o. option_or o (next_order (length made) (made_at made) c bases)) (are.each c below)
        ∙ ap (option_or (order_within table depth c)) onward
        ∙ kept_or_within table depth c

    pub AreMade-more : AreMade table (depth + 1) next
    AreMade-more =
        let e : depth + 1 ≡ suc depth = omega arith in
        record {
          count = pass.count ∙ are.count;
          each = λ c below. next-each c below ∙ ap (λ n. order_within table n c) (sym e);
        }

    -- where nothing was new, bases need not be gone to again
    pub AreMade-all : has_new ≡ false → (whole : ℕ) → depth ≤ whole → AreMade table whole made
    AreMade-all none whole le =
        let e : (whole - depth) + depth ≡ whole = omega arith in
        record {
          count = are.count;
          each = λ c below.
              are.each c below
              ∙ sym (order_within-stays table depth (λ x in'. sym (next-each x in') ∙ pass.same none x (let e = are.count in omega arith) ∙ are.each x in') (whole - depth) c below)
              ∙ ap (λ n. order_within table n c) e;
        }
