-- What `isinstance` keeps.
use Rattle.std.proofs.Common.{◌≡◌, Bool, true, false, not, ◌&&◌, ◌||◌, if◌then◌else◌, List, [], ◌∷◌, Option, None, Some, map, inl, inr, refl, sym, ap, ◌⊎◌, ◌∙◌, subst}
use Rattle.std.specs.List.{list_any, flat_map}
use Rattle.std.proofs.lemmas.Bool.{and_from, and_parts, false_from_ne_true, false≢true, not-true, or_cases, or_from, or_left, or_parts, or_right, true≢false}
use Rattle.pyc_builtins.specs.MroTable.{builtin_order}
use Rattle.pyc_class_ids.specs.declared.builtin_class.BuiltinClass.TheVariants as class
use Rattle.pyc_class_ids.specs.Class.{Id, builtin, user, same_class, object_id, int_id, float_id}
use Rattle.pyc_class_ids.specs.ClassEquality.{same_class_equiv}
use Rattle.pyc_class_ids.specs.Mro.{MroTable, is_unknown, leads}
use Rattle.pyc_class_table.proofs.BuiltinLemmas.{same_class-is}
use Rattle.pyc_narrowing_laws.specs.TypeLaws.{is_of_left, is_accepted, IsInLine, is_tested, stands_in, is_seen_by_yes, is_seen_by_no, is_of_seen, NarrowToKeeps, NarrowAwayKeeps}
use Rattle.pyc_narrowing_laws.specs.Values.{Value, none_value, instance_value, other_value, fits, has_known_order, is_instance, stands_for, is_of}
use Rattle.pyc_narrowing_laws.proofs.Rows.{any-one, any-more, any-flat_from}
use Rattle.pyc_narrowing_laws.proofs.UnionLemmas.{is_single, single_items, left-has, kept-has}
use Rattle.pyc_type_forms.specs.Instances.{instance_of}
use Rattle.pyc_type_forms.specs.Narrowing.{class_of, is_within, may_be_within, is_taken, is_taken_class, narrowed_instance, narrowed_item, narrowed_items, unless}
use Rattle.pyc_type_forms.specs.Types.{Ty, any, none, module_type, instance, class_object, list, dict, tuple, tuple_of, union, callable}
use Rattle.pyc_type_forms.specs.Unions.{items_of}
use Rattle.pyc_types.specs.MroLaws.{AreOrderly}
use Rattle.pyc_types.specs.Ways.{is_any}

-- the other of two, where one does not hold
other_one : (a b : Bool) → a ≡ false → a || b ≡ true → b ≡ true
other_one true b lacks some = absurd (true≢false lacks)
other_one false b lacks some = some

not_not : (b : Bool) → not (not b) ≡ true → b ≡ true
not_not true is = refl
not_not false is = is

module _ (orders : MroTable) (v : Value) where
  abbrev has : Ty → Bool
  has = is_of orders v

  abbrev is : Id → Bool
  is = is_instance orders v

  -- ---- instances

  -- an instance of a class is of the type of its instances
  instances-have : (c : Id) → is c ≡ true → has (instance_of c) ≡ true
  instances-have (builtin class.List) here = and_from (is (builtin class.List)) true here refl
  instances-have (builtin class.Dict) here = and_from (is (builtin class.Dict)) true here refl
  instances-have (builtin class.Tuple) here = and_from (is (builtin class.Tuple)) true here refl
  instances-have (builtin c) here = or_left (is (builtin c)) (is int_id && same_class (builtin c) float_id) here
  instances-have (user m n) here = or_left (is (user m n)) (is int_id && same_class (user m n) float_id) here

  -- a value of an item that does not stand in there is an instance of its class
  itself : (d : Id) → stands_for orders v d ≡ true → not (stands_in orders v (instance d)) ≡ true → is d ≡ true
  itself d here own = elim (or_cases (is d) (is int_id && same_class d float_id) here) [
    | inl is_one ↦ is_one
    | inr stands ↦
        let parts = and_parts (is int_id) (same_class d float_id) stands in
        let float : is float_id ≡ true =
        not_not (is float_id) (sym (ap (λ b. not (b && not (is float_id))) parts.1) ∙ own) in
        ap is (same_class-is d float_id parts.1) ∙ float
  ]

  -- a value that stands in for a float is an instance of int
  int_stands : (d : Id) → stands_for orders v d ≡ true → stands_in orders v (instance d) ≡ true → (is int_id ≡ true) × (d ≡ float_id)
  int_stands d here stands =
      let parts = and_parts (same_class d float_id) (not (is float_id)) stands in
      let float : d ≡ float_id = same_class-is d float_id parts.0 in
      let no_float : is d ≡ false = ap is float ∙ not-true (is float_id) parts.1 in
      ((and_parts (is int_id) (same_class d float_id) (other_one (is d) (is int_id && same_class d float_id) no_float here)).0, float)

  -- ---- a test that says yes

  module _ (in_line : IsInLine orders v) where
    -- of an item with the instances of a class of which the value is one
    narrowed-has : (item : Ty) (d c : Id) → has item ≡ true → is d ≡ true → is c ≡ true → list_any has (narrowed_instance orders item d c) ≡ true
    narrowed-has item d c here own tested = by_within (is_within orders d c) refl
      where
        by_may : (b : Bool) → b ≡ true → list_any has (if b then instance_of c ∷ [] else []) ≡ true
        by_may true may = any-one has (instance_of c) (instances-have c tested)
        by_may false may = may

        up : (b : Bool) → is_unknown (orders d) || leads orders d c ≡ b → b ≡ false → leads orders c d ≡ true
        up b is_b is_false = other_one (leads orders d c) (leads orders c d) (no_lead (is_unknown (orders d)) (leads orders d c) (is_b ∙ is_false)) (in_line d c own tested)
          where
            no_lead : (x y : Bool) → x || y ≡ false → y ≡ false
            no_lead true y neither = absurd (true≢false neither)
            no_lead false y neither = neither

        by_within : (b : Bool) → is_within orders d c ≡ b
            → list_any has (if b then item ∷ [] else if may_be_within orders d c then instance_of c ∷ [] else []) ≡ true
        by_within true within = any-one has item here
        by_within false within =
            by_may (may_be_within orders d c)
            (or_left (leads orders c d || is_unknown (orders c)) (same_class d float_id && same_class c int_id)
            (or_left (leads orders c d) (is_unknown (orders c)) (up (is_within orders d c) refl within)))

    -- of a container
    container-has : (item : Ty) (d c : Id) (rest : Bool) → has item ≡ is d && rest → has item ≡ true → is c ≡ true
        → list_any has (narrowed_instance orders item d c) ≡ true
    container-has item d c rest means here tested =
        narrowed-has item d c here (and_parts (is d) rest (sym means ∙ here)).0 tested

    -- of an item of which the value is an instance in its own right, by one class
    one-has : (classes : List Id) (item : Ty) → is_single item ≡ true → has item ≡ true → is_seen_by_yes orders classes v item ≡ true
        → not (stands_in orders v item) ≡ true → (c : Id) → is c ≡ true → list_any has (narrowed_item orders item c) ≡ true
    one-has classes any single here seen own c tested = any-one has (instance_of c) (instances-have c tested)
    one-has classes none single here seen own c tested = absurd (false≢true seen)
    one-has classes (module_type m) single here seen own c tested = absurd (false≢true seen)
    one-has classes (instance d) single here seen own c tested = narrowed-has (instance d) d c here (itself d here own) tested
    one-has classes (class_object d) single here seen own c tested = any-one has (class_object d) here
    one-has classes (list x) single here seen own c tested =
        container-has (list x) (builtin class.List) c (is_any x || fits v (list x)) refl here tested
    one-has classes (dict k w) single here seen own c tested =
        container-has (dict k w) (builtin class.Dict) c ((is_any k && is_any w) || fits v (dict k w)) refl here tested
    one-has classes (tuple xs) single here seen own c tested =
        container-has (tuple xs) (builtin class.Tuple) c (fits v (tuple xs)) refl here tested
    one-has classes (tuple_of x) single here seen own c tested =
        container-has (tuple_of x) (builtin class.Tuple) c (is_any x || fits v (tuple_of x)) refl here tested
    one-has classes (union xs) single here seen own c tested = absurd (false≢true single)
    one-has classes (callable ps r) single here seen own c tested = any-one has (callable ps r) here

  -- of a float for which an int stands, by int
  int-has : (d : Id) → has (instance d) ≡ true → is int_id ≡ true → d ≡ float_id → (c : Id) → same_class c int_id ≡ true
      → list_any has (narrowed_item orders (instance d) c) ≡ true
  int-has d here int float c same =
      let tested : c ≡ int_id = same_class-is c int_id same in
      subst (λ e. list_any has (narrowed_item orders (instance d) e) ≡ true) (sym tested)
      (subst (λ e. has (instance e) ≡ true → list_any has (narrowed_item orders (instance e) int_id) ≡ true) (sym float) at_int here)
    where
      by_may : (b : Bool) → b ≡ true → list_any has (if b then instance_of int_id ∷ [] else []) ≡ true
      by_may true may = any-one has (instance_of int_id) (instances-have int_id int)
      by_may false may = may

      by_within : (b : Bool) → has (instance float_id) ≡ true
          → list_any has (if b then instance float_id ∷ [] else if may_be_within orders float_id int_id then instance_of int_id ∷ [] else []) ≡ true
      by_within true found = any-one has (instance float_id) found
      by_within false found =
          by_may (may_be_within orders float_id int_id)
          (or_right (leads orders int_id float_id || is_unknown (orders int_id)) (same_class float_id float_id && same_class int_id int_id) refl)

      at_int : has (instance float_id) ≡ true → list_any has (narrowed_item orders (instance float_id) int_id) ≡ true
      at_int found = by_within (is_within orders float_id int_id) found

  -- what is seen of an instance of a class
  seen-cases : (classes : List Id) (item : Ty) → is_seen_by_yes orders classes v item ≡ true
      → (not (stands_in orders v item) ≡ true) ⊎ (is_tested classes int_id ≡ true)
  seen-cases classes none seen = absurd (false≢true seen)
  seen-cases classes (module_type m) seen = absurd (false≢true seen)
  seen-cases classes item seen = or_cases (not (stands_in orders v item)) (is_tested classes int_id) seen

  -- a value that stands in for an item stands in for a float
  stands-cases : (item : Ty) → (not (stands_in orders v item) ≡ true) ⊎ ((d : Id) × (item ≡ instance d) × (stands_in orders v (instance d) ≡ true))
  stands-cases (instance d) = by_stands (stands_in orders v (instance d)) refl
    where
      by_stands : (b : Bool) → stands_in orders v (instance d) ≡ b
          → (not (stands_in orders v (instance d)) ≡ true) ⊎ ((e : Id) × (instance d ≡ instance e) × (stands_in orders v (instance e) ≡ true))
      by_stands true stands = inr (d, refl, stands)
      by_stands false stands = inl (ap not stands)
  stands-cases item = inl refl

  -- of an item that the rule sees, by all classes
  items-have : IsInLine orders v → (classes : List Id) → is_accepted orders classes v ≡ true → (item : Ty)
      → is_single item && (has item && is_seen_by_yes orders classes v item) ≡ true → list_any has (narrowed_items orders classes item) ≡ true
  items-have in_line classes accepted item found =
      let parts = and_parts (is_single item) (has item && is_seen_by_yes orders classes v item) found in
      let more = and_parts (has item) (is_seen_by_yes orders classes v item) parts.1 in
      let own : not (stands_in orders v item) ≡ true → list_any has (narrowed_items orders classes item) ≡ true =
      λ itself_one. any-flat_from is has (narrowed_item orders item) (one-has in_line classes item parts.0 more.0 more.1 itself_one) classes accepted in
      elim (stands-cases item) [
        | inl itself_one ↦ own itself_one
        | inr stands ↦ elim (seen-cases classes item more.1) [
          | inl itself_one ↦ own itself_one
          | inr int ↦ by_int classes item stands.0 stands.1 more.0 stands.2 int
        ]
      ]
    where
      by_int : (classes : List Id) (item : Ty) (d : Id) → item ≡ instance d → has item ≡ true → stands_in orders v (instance d) ≡ true
          → is_tested classes int_id ≡ true → list_any has (narrowed_items orders classes item) ≡ true
      by_int classes item d is_item here stands int =
          let at : has (instance d) ≡ true = sym (ap has is_item) ∙ here in
          let what = int_stands d at stands in
          ap (λ x. list_any has (narrowed_items orders classes x)) is_item
          ∙ any-flat_from (λ other. same_class other int_id) has (narrowed_item orders (instance d)) (int-has d at what.0 what.1) classes int

  -- ---- a test that says no

  -- what stands in the order of `object` is `object`, by the builtin orders
  above_object : AreOrderly orders → (e : Id) → leads orders object_id e ≡ true → same_class e object_id ≡ true
  above_object orderly e led =
      let row : list_any (λ other. same_class other e) (map builtin (builtin_order class.Object)) ≡ true =
      sym (ap (λ l. list_any (λ other. same_class other e) l) (orderly.1 class.Object)) ∙ led in
      same_class_equiv.symm e object_id ∙ elim (or_cases (same_class object_id e) false row) [
        | inl same ↦ same
        | inr nothing ↦ absurd (false≢true nothing)
      ]

module _ (orders : MroTable) (orderly : AreOrderly orders) where
  alone-above : (d e : Id) → same_class d object_id ≡ true → leads orders d e ≡ true → same_class e object_id ≡ true
  alone-above d e own led =
      above_object orders none_value orderly e (sym (ap (λ c. leads orders c e) (same_class-is d object_id own)) ∙ led)

  -- a value is an instance of what stands in the order of a class of which it is one
  above : (v : Value) → has_known_order orders v ≡ true → (d e : Id) → is_instance orders v d ≡ true → leads orders d e ≡ true
      → is_instance orders v e ≡ true
  above none_value known d e own led = alone-above d e own led
  above (instance_value c answer) known d e own led = orderly.0 c d e known own led
  above (other_value answer) known d e own led = alone-above d e own led

  module _ (v : Value) (known : has_known_order orders v ≡ true) (classes : List Id) (refused : is_accepted orders classes v ≡ false) where
    -- a class of which the value is an instance takes none of those that are tested
    not_taken : (d : Id) → is_instance orders v d ≡ true → is_taken_class orders classes (Some d) ≡ false
    not_taken d own = false_from_ne_true (is_taken_class orders classes (Some d)) never
      where
        never : is_taken_class orders classes (Some d) ≡ true → ⊥
        never taken =
            let led = (and_parts (not (is_unknown (orders d))) (list_any (leads orders d) classes) taken).1 in
            true≢false (sym (any-more (leads orders d) (is_instance orders v) (λ e below. above v known d e own below) classes led) ∙ refused)

    -- of the classes in the order of `float` only `float` and `object` are there
    float_taken : is_instance orders v int_id ≡ true → is_tested classes float_id ≡ false
        → is_taken_class orders classes (Some float_id) ≡ false
    float_taken int untested = false_from_ne_true (is_taken_class orders classes (Some float_id)) never
      where
        each : (e : Id) → leads orders float_id e ≡ true → same_class e float_id || is_instance orders v e ≡ true
        each e led =
            let row : list_any (λ other. same_class other e) (map builtin (builtin_order class.Float)) ≡ true =
            sym (ap (λ l. list_any (λ other. same_class other e) l) (orderly.1 class.Float)) ∙ led in
            elim (or_cases (same_class float_id e) (same_class object_id e || false) row) [
              | inl same ↦ or_left (same_class e float_id) (is_instance orders v e) (same_class_equiv.symm e float_id ∙ same)
              | inr later ↦ elim (or_cases (same_class object_id e) false later) [
                | inl same ↦ or_right (same_class e float_id) (is_instance orders v e)
                    (subst (λ x. is_instance orders v x ≡ true) (same_class-is object_id e same) (above v known int_id object_id int int_below))
                | inr nothing ↦ absurd (false≢true nothing)
              ]
            ]
          where
            int_below : leads orders int_id object_id ≡ true
            int_below = ap (λ l. list_any (λ other. same_class other object_id) l) (orderly.1 class.Int)

        any-some : (cs : List Id) → list_any (leads orders float_id) cs ≡ true → list_any (λ e. same_class e float_id || is_instance orders v e) cs ≡ true
        any-some cs some = any-more (leads orders float_id) (λ e. same_class e float_id || is_instance orders v e) each cs some

        neither : (cs : List Id) → is_tested cs float_id ≡ false → is_accepted orders cs v ≡ false
            → list_any (λ e. same_class e float_id || is_instance orders v e) cs ≡ false
        neither [] unreported unmet = refl
        neither (c ∷ cs) unreported unmet =
            let first = or_parts (same_class c float_id) (is_tested cs float_id) unreported in
            let second = or_parts (is_instance orders v c) (is_accepted orders cs v) unmet in
            or_from (same_class c float_id || is_instance orders v c) (list_any (λ e. same_class e float_id || is_instance orders v e) cs)
            (or_from (same_class c float_id) (is_instance orders v c) first.0 second.0) (neither cs first.1 second.1)

        never : is_taken_class orders classes (Some float_id) ≡ true → ⊥
        never taken =
            let led = (and_parts (not (is_unknown (orders float_id))) (list_any (leads orders float_id) classes) taken).1 in
            true≢false (sym (any-some classes led) ∙ neither classes untested refused)

    container_kept : (d : Id) (rest : Bool) → is_instance orders v d && rest ≡ true → is_taken_class orders classes (Some d) ≡ false
    container_kept d rest here = not_taken d (and_parts (is_instance orders v d) rest here).0

    -- an item that the rule sees is not taken away
    item_kept : (item : Ty) → is_of orders v item ≡ true → is_seen_by_no orders classes v item ≡ true → is_taken orders classes item ≡ false
    item_kept (instance d) here seen = by_stands (stands_in orders v (instance d)) refl
      where
        by_stands : (b : Bool) → stands_in orders v (instance d) ≡ b → is_taken_class orders classes (Some d) ≡ false
        by_stands true stands =
            let what = int_stands orders v d here stands in
            let untested : not (is_tested classes float_id) ≡ true =
            other_one (not (stands_in orders v (instance d))) (not (is_tested classes float_id)) (ap not stands) seen in
            ap (λ e. is_taken_class orders classes (Some e)) what.1
            ∙ float_taken what.0 (not-true (is_tested classes float_id) untested)
        by_stands false stands = not_taken d (itself orders v d here (ap not stands))
    item_kept (list x) here seen = container_kept (builtin class.List) (is_any x || fits v (list x)) here
    item_kept (dict k w) here seen = container_kept (builtin class.Dict) ((is_any k && is_any w) || fits v (dict k w)) here
    item_kept (tuple xs) here seen = container_kept (builtin class.Tuple) (fits v (tuple xs)) here
    item_kept (tuple_of x) here seen = container_kept (builtin class.Tuple) (is_any x || fits v (tuple_of x)) here
    item_kept any here seen = refl
    item_kept none here seen = refl
    item_kept (module_type m) here seen = refl
    item_kept (class_object d) here seen = refl
    item_kept (union xs) here seen = refl
    item_kept (callable ps r) here seen = refl

pub narrow_to_keeps : NarrowToKeeps
narrow_to_keeps orders v ty classes in_line seen accepted =
    left-has orders v ty (flat_map (narrowed_items orders classes) (items_of ty))
    (any-flat_from (λ item. is_single item && (is_of orders v item && is_seen_by_yes orders classes v item)) (is_of orders v)
    (narrowed_items orders classes) (items-have orders v in_line classes accepted) (items_of ty)
    (single_items orders v (λ item. is_of orders v item && is_seen_by_yes orders classes v item) ty seen))

pub narrow_away_keeps : NarrowAwayKeeps
narrow_away_keeps orders v ty classes orderly known seen refused =
    left-has orders v ty (flat_map (λ item. unless (is_taken orders classes item) item) (items_of ty))
    (any-flat_from (λ item. is_of orders v item && is_seen_by_no orders classes v item) (is_of orders v)
    (λ item. unless (is_taken orders classes item) item)
    each (items_of ty) seen)
  where
    each : (item : Ty) → is_of orders v item && is_seen_by_no orders classes v item ≡ true
        → list_any (is_of orders v) (unless (is_taken orders classes item) item) ≡ true
    each item found =
        let parts = and_parts (is_of orders v item) (is_seen_by_no orders classes v item) found in
        let unmet = not-true (is_accepted orders classes v) refused in
        kept-has orders v item (is_taken orders classes item) (item_kept orders orderly v known classes unmet item parts.0 parts.1) parts.0
