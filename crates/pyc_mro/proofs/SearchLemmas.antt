-- The search for a class among its own ancestors: what has a mark is reached, and when no work is left all that is
-- reached has one.
use Rattle.std.proofs.Common.{◌≡◌, ℕ, zero, suc, ◌+◌, ◌-◌, ◌<◌, ◌≤◌, ◌==◌, ◌&&◌, ◌⊎◌, Bool, true, false, not, nat_lt, cond, List, [], ◌∷◌, ◌++◌, length, replicate, get_or, set, inl, inr, refl, sym, ap, subst, ◌∙◌, arith}
use Rattle.std.specs.declared.alloc.Global.{Global}
use Rattle.std.specs.declared.vec.Vec.{Vec}
use Rattle.std.proofs.lemmas.Bool.{cases_eq, cases_Bool, and_parts, and_cases, or_cases, or_left, or_right, not-true, not-false, ltb-true, lt-ltb, eqb-true, eq-eqb, false≢true, true≢false, false_from_ne_true}
use Rattle.std.proofs.lemmas.List.{length-set, length-append, length-map, length-replicate, get_or-set_same, get_or-set_other}
use Rattle.std.proofs.lemmas.List.Folds.{list_any-append}
use Rattle.pyc_mro.specs.declared.table.Base.{Base}
use Rattle.pyc_mro.specs.Marks.{Marks, is_marked, mark_one, mark_all}
use Rattle.pyc_mro.specs.Merge.{contains}
use Rattle.pyc_mro.specs.TableView.{table_in}
use Rattle.pyc_mro.specs.Tables.{Table, classes_among, parents, reaches, is_own_ancestor}
use Rattle.pyc_mro.proofs.TableLemmas.{reaches-base, reaches-more, reaches-further, reaches-parts, reaches-up, reaches-within}

-- ---- how many marks there are

pub count_marks : List Bool → ℕ
count_marks [] = 0
count_marks (true ∷ marks) = suc (count_marks marks)
count_marks (false ∷ marks) = count_marks marks

count_marks-le : (marks : List Bool) → count_marks marks ≤ length marks
unfolding count_marks
count_marks-le [] = omega arith
count_marks-le (true ∷ marks) = omega (arith, count_marks-le marks)
count_marks-le (false ∷ marks) = omega (arith, count_marks-le marks)

count_marks-set : (marks : List Bool) (c : ℕ) → c < length marks → get_or marks c false ≡ false → count_marks (set marks c true) ≡ suc (count_marks marks)
unfolding count_marks
count_marks-set [] c below none = absurd (omega arith)
count_marks-set (true ∷ marks) zero below none = absurd (true≢false none)
count_marks-set (false ∷ marks) zero below none = refl
count_marks-set (true ∷ marks) (suc c) below none = ap suc (count_marks-set marks c (omega arith) none)
count_marks-set (false ∷ marks) (suc c) below none = count_marks-set marks c (omega arith) none

-- ---- one mark more

abbrev with_mark : Marks → ℕ → Marks
with_mark m c = record { marks = set m.marks c true; work = m.work ++ c ∷ [] }

module _ (m : Marks) (c : ℕ) where
  -- a class gets a mark, or needs none
  one-cases : ((mark_one m c ≡ with_mark m c) × (c < length m.marks) × (is_marked m c ≡ false)) ⊎ ((mark_one m c ≡ m) × (c < length m.marks → is_marked m c ≡ true))
  one-cases =
      elim (cases_Bool (nat_lt c (length m.marks) && not (is_marked m c))) [
        | inl both ↦
            let parts = and_parts (nat_lt c (length m.marks)) (not (is_marked m c)) both in
            inl (ap (λ b. cond b (with_mark m c) m) both, ltb-true c (length m.marks) parts.0, not-true (is_marked m c) parts.1)
        | inr else ↦ inr (ap (λ b. cond b (with_mark m c) m) else, λ below. needless below (and_cases (nat_lt c (length m.marks)) (not (is_marked m c)) else))
      ]
    where
      needless : c < length m.marks → ((nat_lt c (length m.marks) ≡ false) ⊎ (not (is_marked m c) ≡ false)) → is_marked m c ≡ true
      needless below (inl past) = absurd (false≢true (sym past ∙ lt-ltb c (length m.marks) below))
      needless below (inr marked) = not-false (is_marked m c) marked

  waits-back : (x : ℕ) → contains (m.work ++ c ∷ []) x ≡ true → (contains m.work x ≡ true) ⊎ (x ≡ c)
  waits-back x in' = elim (or_cases (contains m.work x) (contains (c ∷ []) x) (sym (list_any-append (λ other. other == x) m.work (c ∷ [])) ∙ in')) [
    | inl old ↦ inl old
    | inr new ↦ elim (or_cases (c == x) false new) [
      | inl here ↦ inr (sym (eqb-true c x here))
      | inr none ↦ absurd (false≢true none)
    ]
  ]

  waits-kept : (x : ℕ) → contains m.work x ≡ true → contains (m.work ++ c ∷ []) x ≡ true
  waits-kept x in' = list_any-append (λ other. other == x) m.work (c ∷ []) ∙ or_left (contains m.work x) (contains (c ∷ []) x) in'

  waits-here : contains (m.work ++ c ∷ []) c ≡ true
  waits-here = list_any-append (λ other. other == c) m.work (c ∷ []) ∙ or_right (contains m.work c) (contains (c ∷ []) c) (or_left (c == c) false (eq-eqb c c refl))

  marked-here : c < length m.marks → is_marked (with_mark m c) c ≡ true
  marked-here below = get_or-set_same m.marks c true false below

  marked-kept : c < length m.marks → (x : ℕ) → is_marked m x ≡ true → is_marked (with_mark m c) x ≡ true
  marked-kept below x is = elim (cases_eq x c) [
    | inl e ↦ ap (is_marked (with_mark m c)) e ∙ marked-here below
    | inr other ↦ get_or-set_other m.marks c x true false other ∙ is
  ]

  marked-back : (x : ℕ) → is_marked (with_mark m c) x ≡ true → (x ≡ c) ⊎ (is_marked m x ≡ true)
  marked-back x is = elim (cases_eq x c) [
    | inl e ↦ inl e
    | inr other ↦ inr (sym (get_or-set_other m.marks c x true false other) ∙ is)
  ]

-- ---- what the search keeps

-- each base of a class has a mark
abbrev Closed : Table → Marks → ℕ → Type 0
Closed table m x = (b : ℕ) → contains (parents table x) b ≡ true → b < length table → is_marked m b ≡ true

-- the search between two classes
pub record Searched (table : Table) (start : ℕ) (m : Marks) : Type 0 where
  pub long : length m.marks ≡ length table
  pub sound : (x : ℕ) → is_marked m x ≡ true → reaches table (count_marks m.marks) start x ≡ true
  pub waits : (x : ℕ) → contains m.work x ≡ true → is_marked m x ≡ true
  pub closed : (x : ℕ) → is_marked m x ≡ true → (contains m.work x ≡ true) ⊎ ((b : ℕ) → contains (parents table x) b ≡ true → b < length table → is_marked m b ≡ true)
  pub first : (b : ℕ) → contains (parents table start) b ≡ true → b < length table → is_marked m b ≡ true

-- the search while the bases of a class get marks
record Searching (table : Table) (start : ℕ) (from : ℕ) (m : Marks) : Type 0 where
  long : length m.marks ≡ length table
  sound : (x : ℕ) → is_marked m x ≡ true → reaches table (count_marks m.marks) start x ≡ true
  waits : (x : ℕ) → contains m.work x ≡ true → is_marked m x ≡ true
  closed : (x : ℕ) → is_marked m x ≡ true → (x ≡ from) ⊎ ((contains m.work x ≡ true) ⊎ Closed table m x)
  onward : (b : ℕ) → contains (parents table from) b ≡ true → reaches table (suc (count_marks m.marks)) start b ≡ true

module _ (table : Table) (start from : ℕ) where
  searching-with : (m : Marks) (c : ℕ) → c < length m.marks → is_marked m c ≡ false → Searching table start from m → contains (parents table from) c ≡ true → Searching table start from (with_mark m c)
  searching-with m c below none s base =
      let more = count_marks-set m.marks c below none in
      record {
        long = length-set m.marks c true ∙ s.long;
        sound = λ x is. elim (marked-back m c x is) [
          | inl e ↦ ap (λ n. reaches table n start x) more ∙ ap (reaches table (suc (count_marks m.marks)) start) e ∙ s.onward c base
          | inr old ↦ ap (λ n. reaches table n start x) more ∙ reaches-more table (count_marks m.marks) start x (s.sound x old)
        ];
        waits = λ x in'. elim (waits-back m c x in') [
          | inl old ↦ marked-kept m c below x (s.waits x old)
          | inr e ↦ ap (is_marked (with_mark m c)) e ∙ marked-here m c below
        ];
        closed = λ x is. elim (marked-back m c x is) [
          | inl e ↦ inr (inl (ap (contains (m.work ++ c ∷ [])) e ∙ waits-here m c))
          | inr old ↦ elim (s.closed x old) [
            | inl same ↦ inl same
            | inr (inl waiting) ↦ inr (inl (waits-kept m c x waiting))
            | inr (inr done) ↦ inr (inr (λ b is lt. marked-kept m c below b (done b is lt)))
          ]
        ];
        onward = λ b is. ap (λ n. reaches table (suc n) start b) more ∙ reaches-more table (suc (count_marks m.marks)) start b (s.onward b is);
      }

  searching-one : (m : Marks) (c : ℕ) → Searching table start from m → contains (parents table from) c ≡ true → Searching table start from (mark_one m c)
  searching-one m c s base = elim (one-cases m c) [
    | inl (is, below, none) ↦ subst (Searching table start from) (sym is) (searching-with m c below none s base)
    | inr (is, needless) ↦ subst (Searching table start from) (sym is) s
  ]

  searching-all : (classes : List ℕ) (m : Marks) → ((b : ℕ) → contains classes b ≡ true → contains (parents table from) b ≡ true) → Searching table start from m → Searching table start from (mark_all classes m)
  searching-all [] m are s = s
  searching-all (c ∷ classes) m are s =
      searching-all classes (mark_one m c) (λ b in'. are b (or_right (c == b) (contains classes b) in')) (searching-one m c s (are c (or_left (c == c) (contains classes c) (eq-eqb c c refl))))

-- ---- marks stay

one-kept : (m : Marks) (c x : ℕ) → is_marked m x ≡ true → is_marked (mark_one m c) x ≡ true
one-kept m c x is = elim (one-cases m c) [
  | inl (new, below, none) ↦ ap (λ n. is_marked n x) new ∙ marked-kept m c below x is
  | inr (same, needless) ↦ ap (λ n. is_marked n x) same ∙ is
]

one-here : (m : Marks) (c : ℕ) → c < length m.marks → is_marked (mark_one m c) c ≡ true
one-here m c below = elim (one-cases m c) [
  | inl (new, lt, none) ↦ ap (λ n. is_marked n c) new ∙ marked-here m c below
  | inr (same, needless) ↦ ap (λ n. is_marked n c) same ∙ needless below
]

one-long : (m : Marks) (c : ℕ) → length (mark_one m c).marks ≡ length m.marks
one-long m c = elim (one-cases m c) [
  | inl (new, below, none) ↦ ap (λ n. length n.marks) new ∙ length-set m.marks c true
  | inr (same, needless) ↦ ap (λ n. length n.marks) same
]

-- each mark is one class more to go on from
one-count : (m : Marks) (c : ℕ) → count_marks (mark_one m c).marks + length m.work ≡ length (mark_one m c).work + count_marks m.marks
one-count m c = elim (one-cases m c) [
  | inl (new, below, none) ↦
      let marks = ap (λ n. count_marks n.marks) new in
      let work = ap (λ n. length n.work) new in
      omega (arith, marks, work, count_marks-set m.marks c below none, length-append m.work (c ∷ []))
  | inr (same, needless) ↦
      let marks = ap (λ n. count_marks n.marks) same in
      let work = ap (λ n. length n.work) same in
      omega (arith, marks, work)
]

all-kept : (classes : List ℕ) (m : Marks) (x : ℕ) → is_marked m x ≡ true → is_marked (mark_all classes m) x ≡ true
all-kept [] m x is = is
all-kept (c ∷ classes) m x is = all-kept classes (mark_one m c) x (one-kept m c x is)

all-here : (classes : List ℕ) (m : Marks) (b : ℕ) → contains classes b ≡ true → b < length m.marks → is_marked (mark_all classes m) b ≡ true
all-here [] m b in' below = absurd (false≢true in')
all-here (c ∷ classes) m b in' below = elim (or_cases (c == b) (contains classes b) in') [
  | inl here ↦ all-kept classes (mark_one m c) b (ap (is_marked (mark_one m c)) (sym (eqb-true c b here)) ∙ one-here m c (let e = eqb-true c b here in omega arith))
  | inr later ↦ all-here classes (mark_one m c) b later (let e = one-long m c in omega arith)
]

all-count : (classes : List ℕ) (m : Marks) → count_marks (mark_all classes m).marks + length m.work ≡ length (mark_all classes m).work + count_marks m.marks
all-count [] m = omega arith
all-count (c ∷ classes) m = omega (arith, one-count m c, all-count classes (mark_one m c))

-- ---- the search

none-marked : (n x : ℕ) → get_or (replicate n false) x false ≡ false
none-marked zero x = refl
none-marked (suc n) zero = refl
none-marked (suc n) (suc x) = none-marked n x

abbrev no_marks : ℕ → Marks
no_marks n = record { marks = replicate n false; work = [] }

module _ (table : Table) (start : ℕ) where
  -- when all bases of a class have marks
  searched-from : (from : ℕ) (m : Marks) → Searching table start from m → Closed table m from → Closed table m start → Searched table start m
  searched-from from m s here first =
      record {
        long = s.long;
        sound = s.sound;
        waits = s.waits;
        closed = λ x is. elim (s.closed x is) [
          | inl e ↦ inr (subst (Closed table m) (sym e) here)
          | inr rest ↦ rest
        ];
        first = first;
      }

  pub search-first : (m : Marks) → m ≡ mark_all (parents table start) (no_marks (length table)) → Searched table start m
  search-first m is =
      let none : Marks = no_marks (length table) in
      let long : length none.marks ≡ length table = length-replicate (length table) false in
      let begun : Searching table start start none = record {
        long = long;
        sound = λ x marked. absurd (false≢true (sym (none-marked (length table) x) ∙ marked));
        waits = λ x in'. absurd (false≢true in');
        closed = λ x marked. absurd (false≢true (sym (none-marked (length table) x) ∙ marked));
        onward = λ b base. reaches-base table (count_marks none.marks) start b base;
      } in
      let all : Closed table (mark_all (parents table start) none) start = λ b base below. all-here (parents table start) none b base (omega arith) in
      subst (Searched table start) (sym is) (searched-from start (mark_all (parents table start) none) (searching-all table start start (parents table start) none (λ b in'. in') begun) all all)

  -- one class that was to be gone on from
  pub search-more : (m next : Marks) (work : List ℕ) (x : ℕ) → Searched table start m → m.work ≡ work ++ x ∷ []
      → next ≡ mark_all (parents table x) (record { marks = m.marks; work = work }) → Searched table start next
  search-more m next work x s popped is =
      let left : Marks = record { marks = m.marks; work = work } in
      let here : contains m.work x ≡ true = ap (λ w. contains w x) popped ∙ waits-here left x in
      let begun : Searching table start x left = record {
        long = s.long;
        sound = s.sound;
        waits = λ y in'. s.waits y (ap (λ w. contains w y) popped ∙ waits-kept left x y in');
        closed = λ y marked. elim (s.closed y marked) [
          | inl waiting ↦ elim (waits-back left x y (sym (ap (λ w. contains w y) popped) ∙ waiting)) [
            | inl old ↦ inr (inl old)
            | inr e ↦ inl e
          ]
          | inr done ↦ inr (inr done)
        ];
        onward = λ b base. reaches-further table (count_marks m.marks) start x b (s.sound x (s.waits x here)) base;
      } in
      let long = s.long in
      let all : Closed table (mark_all (parents table x) left) x = λ b base below. all-here (parents table x) left b base (omega arith) in
      let first : Closed table (mark_all (parents table x) left) start = λ b base below. all-kept (parents table x) left b (s.first b base below) in
      subst (Searched table start) (sym is) (searched-from x (mark_all (parents table x) left) (searching-all table start x (parents table x) left (λ b in'. in') begun) all first)

  -- the search ends: each class that was gone on from leaves fewer without a mark or fewer to go on from
  pub search-smaller : (m next : Marks) (work : List ℕ) (x : ℕ) → m.work ≡ work ++ x ∷ [] → next ≡ mark_all (parents table x) (record { marks = m.marks; work = work })
      → length next.marks ≡ length m.marks → (length next.marks + length next.work) - count_marks next.marks < (length m.marks + length m.work) - count_marks m.marks
  search-smaller m next work x popped is long =
      let left : Marks = record { marks = m.marks; work = work } in
      let count = all-count (parents table x) left in
      let marks = ap (λ n. count_marks n.marks) is in
      let later = ap (λ n. length n.work) is in
      let before = ap length popped ∙ length-append work (x ∷ []) in
      omega (arith, count, marks, later, before, count_marks-le m.marks, count_marks-le next.marks)

  -- where no work is left, all that is reached has a mark
  all-reached : (m : Marks) → ((y : ℕ) → is_marked m y ≡ true → Closed table m y) → (n y to : ℕ) → Closed table m y → to < length table → reaches table n y to ≡ true → is_marked m to ≡ true
  all-reached m done zero y to here below none = absurd (false≢true none)
  all-reached m done (suc n) y to here below there =
      let parts = reaches-parts table n y to there in
      elim (parts.2) [
        | inl e ↦ here to (ap (contains (parents table y)) (sym e) ∙ parts.1) below
        | inr later ↦ all-reached m done n parts.0 to (done parts.0 (here parts.0 parts.1 (reaches-within table n parts.0 to later))) below later
      ]

  pub search-end : (m : Marks) → start < length table → Searched table start m → m.work ≡ [] → is_marked m start ≡ is_own_ancestor table start
  search-end m below s over =
      let done : (y : ℕ) → is_marked m y ≡ true → Closed table m y = λ y marked. elim (s.closed y marked) [
        | inl waiting ↦ absurd (false≢true (sym (ap (λ w. contains w y) over) ∙ waiting))
        | inr closed ↦ closed
      ] in
      let long = s.long in
      elim (cases_Bool (is_marked m start)) [
        | inl marked ↦ marked ∙ sym (reaches-up table (count_marks m.marks) (length table) start start (omega (arith, count_marks-le m.marks)) (s.sound start marked))
        | inr unmarked ↦ unmarked ∙ sym (false_from_ne_true (is_own_ancestor table start) (λ there. false≢true (sym unmarked ∙ all-reached m done (length table) start start s.first below there)))
      ]

-- ---- however many steps there are

-- a list is empty or has a last number
last-cases : (xs : List ℕ) → (xs ≡ []) ⊎ ((front : List ℕ) × (x : ℕ) × (xs ≡ front ++ x ∷ []))
last-cases [] = inl refl
last-cases (x ∷ xs) = elim (last-cases xs) [
  | inl e ↦ inr ([], x, ap (λ l. x ∷ l) e)
  | inr (front, y, e) ↦ inr (x ∷ front, y, ap (λ l. x ∷ l) e)
]

module _ (table : Table) (start : ℕ) where
  -- the search goes on until no work is left
  search-run : (turns : ℕ) (m : Marks) → Searched table start m → (length m.marks + length m.work) - count_marks m.marks < turns → (over : Marks) × Searched table start over × (over.work ≡ [])
  search-run zero m s less = absurd (omega arith)
  search-run (suc turns) m s less = elim (last-cases m.work) [
    | inl e ↦ (m, s, e)
    | inr (front, x, e) ↦
        let next : Marks = mark_all (parents table x) (record { marks = m.marks; work = front }) in
        let more = search-more table start m next front x s e refl in
        let smaller = search-smaller table start m next front x e refl (more.long ∙ sym s.long) in
        search-run turns next more (omega arith)
  ]

  -- a class that any number of steps leads back to is its own ancestor in as many as there are classes
  pub own_ancestor-reported : (n : ℕ) → start < length table → reaches table n start start ≡ true → is_own_ancestor table start ≡ true
  own_ancestor-reported n below there =
      let first : Marks = mark_all (parents table start) (no_marks (length table)) in
      let ended = search-run (suc ((length first.marks + length first.work) - count_marks first.marks)) first (search-first table start first refl) (omega arith) in
      let over : Marks = ended.0 in
      let s : Searched table start over = ended.1 in
      let done : (y : ℕ) → is_marked over y ≡ true → Closed table over y = λ y marked. elim (s.closed y marked) [
        | inl waiting ↦ absurd (false≢true (sym (ap (λ w. contains w y) ended.2) ∙ waiting))
        | inr closed ↦ closed
      ] in
      sym (search-end table start over below s ended.2) ∙ all-reached table start over done n start start s.first below there

-- ---- the code's steps

-- to mark the classes among equal bases, with equal marks and work, comes to equal marks and work
pub mark_all-same : (bases bases' : List Base) (marks marks' : List Bool) (work work' : List ℕ) → bases ≡ bases' → marks ≡ marks' → work ≡ work'
    → mark_all (classes_among bases) (record { marks = marks; work = work }) ≡ mark_all (classes_among bases') (record { marks = marks'; work = work' })
mark_all-same bases bases' marks marks' work work' e f g =
    let made : List Bool → List ℕ → Marks = λ ms w. record { marks = ms; work = w } in
    ap (λ bs. mark_all (classes_among bs) (made marks work)) e ∙ ap (λ ms. mark_all (classes_among bases') (made ms work)) f ∙ ap (λ w. mark_all (classes_among bases') (made marks' w)) g

-- a table has as many rows as the code has vectors
pub table-long : (bases : List (Vec Base Global)) → length (table_in bases) ≡ length bases
table-long bases = length-map bases (λ (row : Vec Base Global). row.items)
