-- Each item of a list is well-formed where it stands.
use Rattle.std.proofs.Common.{◌≡◌, refl, ap, ◌∙◌, ℕ, ◌≤◌, Bool, true, false, List, ◌∷◌, ◌++◌, Some, append_assoc, append-nil, arith}
use Rattle.std.proofs.lemmas.Bool.{and_from}
use Rattle.pyc_token.specs.declared.tokens.Arithmetic.TheVariants as op
use Rattle.pyc_token.specs.declared.tokens.Delimiter.TheVariants as delimiter
use Rattle.pyc_token.specs.declared.tokens.Keyword.TheVariants as word
use Rattle.pyc_token.specs.declared.tokens.Kind.{Kind}
use Rattle.pyc_token.specs.declared.tokens.Kind.TheVariants as kind
use Rattle.pyc_token.specs.declared.tokens.Token.{Token}
use Rattle.pyc_tree.specs.declared.list_context.ListContext.{ListContext}
use Rattle.pyc_tree.specs.declared.list_context.ListContext.TheVariants as list_context
use Rattle.pyc_tree.specs.Tree.{Tree, Pieces, Links, Comprehensions, Perhaps, Tail}
use Rattle.pyc_tree.specs.Tree as tree
use Rattle.pyc_tree.specs.Kinds.{kind_of, same_kind, is_name, begins_expression}
use Rattle.pyc_tree.specs.Yield.{yield_of, perhaps_yield}
use Rattle.pyc_tree.specs.Height.{height}
use Rattle.pyc_tree.specs.Targets.{is_target}
use Rattle.pyc_tree.specs.ListContexts.{is_at, fits, is_star, is_double_star, is_colon}
use Rattle.pyc_tree.specs.Well.{IsWell, MayBe}
use Rattle.pyc_tree.specs.Parser.{Parser, and_then, take_one, made}
use Rattle.pyc_tree.specs.Items as rule
use Rattle.pyc_line.proofs.Sound.{IsRead, IsPart, IsOf, IsTail, IsBound, Good}
use Rattle.pyc_line.proofs.SoundTables.{same_kind_is, is_star_is, is_double_star_is, is_colon_is}
use Rattle.pyc_line.proofs.SoundTools.{refused, bind, choose, only, after_one, after_name, pure_as, checked_as, made_as, at_precedence}

pub read_part : {loosest : ℕ} {ts : List Token} {t : Tree} {rest : List Token} → IsRead loosest ts t rest → IsPart ts t rest
read_part got = record { well = got.well; text = got.text; low = got.low }

module _ (S : ℕ → Parser Tree) (good : Good S) where
  -- an expression of a precedence, and what follows from it
  pub after_self : {B G : Type 0} (loosest : ℕ) (f : Tree → Parser B) (ts : List Token) (r : B × List Token) → and_then (S loosest ts) f ≡ Some r
      → 1 ≤ loosest → loosest ≤ 16 → ((t : Tree) (later : List Token) → IsRead loosest ts t later → f t later ≡ Some r → G) → G
  after_self loosest f ts r e low high go =
      bind (S loosest ts) f r e (λ t later is next. go t later (good.reads loosest ts t later is low high) next)

  self_part : (loosest : ℕ) (ts : List Token) (t : Tree) (rest : List Token) → S loosest ts ≡ Some (t, rest) → 1 ≤ loosest → loosest ≤ 16 → IsPart ts t rest
  self_part loosest ts t rest e low high = read_part (good.reads loosest ts t rest e low high)

  -- ---- what stands behind a token

  pub tail_sound : (k : Kind) (ts : List Token) (found : Tail) (rest : List Token) → rule.tail S k ts ≡ Some (found, rest) → IsTail k ts found rest
  unfolding rule.tail IsWell yield_of height
  tail_sound k ts found rest e =
      choose _ _ (same_kind (kind_of ts) k) ts (found, rest) e
      (λ is e0.
      after_one _ ts (found, rest) e0 (λ t ts1 is_one same e1.
      after_self 1 _ ts1 (found, rest) e1 (omega arith) (omega arith) (λ x ts2 got e2.
      pure_as (IsTail k ts) (tree.after t x) found ts2 rest e2
      (record { follows = (same ∙ same_kind_is (kind_of ts) k is, at_precedence 1 x got.high, got.well); text = cc; low = got.low }))))
      (λ other e0. pure_as (IsTail k ts) tree.nothing found ts rest e0 (record { follows = tt; text = refl; low = omega arith }))

  pub optional_bound_sound : (ts : List Token) (found : Perhaps) (rest : List Token) → rule.optional_bound S ts ≡ Some (found, rest) → IsBound ts found rest
  unfolding rule.optional_bound IsWell yield_of height
  optional_bound_sound ts found rest e =
      choose _ _ (begins_expression (kind_of ts)) ts (found, rest) e
      (λ is e0.
      after_self 1 _ ts (found, rest) e0 (omega arith) (omega arith) (λ x ts1 got e1.
      pure_as (IsBound ts) (tree.present x) found ts1 rest e1
      (record { given = (at_precedence 1 x got.high, got.well); text = got.text; low = got.low })))
      (λ other e0. pure_as (IsBound ts) tree.absent found ts rest e0 (record { given = tt; text = refl; low = omega arith }))

  -- ---- items of displays

  pub starred_sound : (loosest : ℕ) (ts : List Token) (t : Tree) (rest : List Token) → 1 ≤ loosest → loosest ≤ 16 → is_star (kind_of ts) ≡ true
      → rule.starred S loosest ts ≡ Some (t, rest) → IsPart ts t rest
  unfolding rule.starred IsWell yield_of
  starred_sound loosest ts t rest low high is e =
      after_one _ ts (t, rest) e (λ star ts1 is_one same e1.
      after_self loosest _ ts1 (t, rest) e1 low high (λ x ts2 got e2.
      made_as (IsPart ts) (tree.starred star x) t ts2 rest e2 (λ small.
      record { well = (same ∙ is_star_is (kind_of ts) is, omega (arith, got.high), got.well); text = cc; low = small })))

  mapping_sound : (ts : List Token) (t : Tree) (rest : List Token) → is_double_star (kind_of ts) ≡ true → rule.mapping S ts ≡ Some (t, rest)
      → IsPart ts t rest
  unfolding rule.mapping IsWell yield_of
  mapping_sound ts t rest is e =
      after_one _ ts (t, rest) e (λ stars ts1 is_one same e1.
      after_self 6 _ ts1 (t, rest) e1 (omega arith) (omega arith) (λ x ts2 got e2.
      made_as (IsPart ts) (tree.mapping stars x) t ts2 rest e2 (λ small.
      record { well = (same ∙ is_double_star_is (kind_of ts) is, got.high, got.well); text = cc; low = small })))

  element_or_entry_sound : (ts : List Token) (t : Tree) (rest : List Token) → rule.element_or_entry S ts ≡ Some (t, rest) → IsPart ts t rest
  unfolding rule.element_or_entry IsWell yield_of
  element_or_entry_sound ts t rest e =
      after_self 1 _ ts (t, rest) e (omega arith) (omega arith) (λ key ts1 got e1.
      choose _ _ (is_colon (kind_of ts1)) ts1 (t, rest) e1
      (λ is e2.
      after_one _ ts1 (t, rest) e2 (λ colon ts2 is_one same e3.
      after_self 1 _ ts2 (t, rest) e3 (omega arith) (omega arith) (λ x ts3 value e4.
      made_as (IsPart ts) (tree.entry key colon x) t ts3 rest e4 (λ small.
      record { well = (got.high, got.well, same ∙ is_colon_is (kind_of ts1) is, value.high, value.well); text = simp append_assoc (cc); low = small }))))
      (λ other e2. pure_as (IsPart ts) key t ts1 rest e2 (read_part got)))

  -- ---- indices

  stride_sound : (lower : Perhaps) (colon : Token) (upper : Perhaps) (ts0 ts ts1 ts2 : List Token) (t : Tree) (rest : List Token)
      → MayBe (is_at 1) lower → ts0 ≡ perhaps_yield lower ++ ts → ts ≡ colon ∷ ts1 → colon.kind ≡ kind.Delimiter delimiter.Colon
      → IsBound ts1 upper ts2 → is_colon (kind_of ts2) ≡ true
      → and_then (take_one ts2) (λ second. λ us. and_then (rule.optional_bound S us) (λ step. made (tree.stride lower colon upper second step))) ≡ Some (t, rest)
      → IsPart ts0 t rest
  unfolding IsWell yield_of
  stride_sound lower colon upper ts0 ts ts1 ts2 t rest given text is_one sign above is e =
      after_one _ ts2 (t, rest) e (λ second ts3 is_second same e1.
      bind (rule.optional_bound S ts3) _ (t, rest) e1 (λ step ts4 is_step e2.
      let last = optional_bound_sound ts3 step ts4 is_step in
      made_as (IsPart ts0) (tree.stride lower colon upper second step) t ts4 rest e2 (λ small.
      record { well = (given, sign, above.given, same ∙ is_colon_is (kind_of ts2) is, last.given); text = simp append_assoc (cc); low = small })))

  parse_slice_sound : (lower : Perhaps) (ts0 ts : List Token) (t : Tree) (rest : List Token) → MayBe (is_at 1) lower → ts0 ≡ perhaps_yield lower ++ ts
      → is_colon (kind_of ts) ≡ true → rule.parse_slice S lower ts ≡ Some (t, rest) → IsPart ts0 t rest
  unfolding rule.parse_slice IsWell yield_of
  parse_slice_sound lower ts0 ts t rest given text is e =
      after_one _ ts (t, rest) e (λ colon ts1 is_one same e1.
      bind (rule.optional_bound S ts1) _ (t, rest) e1 (λ upper ts2 is_upper e2.
      let above = optional_bound_sound ts1 upper ts2 is_upper in
      let sign : colon.kind ≡ kind.Delimiter delimiter.Colon = same ∙ is_colon_is (kind_of ts) is in
      choose _ _ (is_colon (kind_of ts2)) ts2 (t, rest) e2
      (λ again e3. stride_sound lower colon upper ts0 ts ts1 ts2 t rest given text is_one sign above again e3)
      (λ other e3. made_as (IsPart ts0) (tree.slice lower colon upper) t ts2 rest e3 (λ small.
      record { well = (given, sign, above.given); text = simp append_assoc (cc); low = small }))))

  index_sound : (ts : List Token) (t : Tree) (rest : List Token) → rule.index S ts ≡ Some (t, rest) → IsPart ts t rest
  unfolding rule.index IsWell yield_of
  index_sound ts t rest e =
      choose _ _ (is_colon (kind_of ts)) ts (t, rest) e
      (λ is e0. parse_slice_sound tree.absent ts ts t rest tt refl is e0)
      (λ other e0.
      after_self 1 _ ts (t, rest) e0 (omega arith) (omega arith) (λ x ts1 got e1.
      choose _ _ (is_colon (kind_of ts1)) ts1 (t, rest) e1
      (λ is e2. parse_slice_sound (tree.present x) ts ts1 t rest (at_precedence 1 x got.high, got.well) got.text is e2)
      (λ no e2. pure_as (IsPart ts) x t ts1 rest e2 (read_part got))))

  -- ---- arguments

  double_starred_sound : (ts : List Token) (t : Tree) (rest : List Token) → is_double_star (kind_of ts) ≡ true
      → rule.double_starred S ts ≡ Some (t, rest) → IsPart ts t rest
  unfolding rule.double_starred IsWell yield_of
  double_starred_sound ts t rest is e =
      after_one _ ts (t, rest) e (λ stars ts1 is_one same e1.
      after_self 1 _ ts1 (t, rest) e1 (omega arith) (omega arith) (λ x ts2 got e2.
      made_as (IsPart ts) (tree.double_starred stars x) t ts2 rest e2 (λ small.
      record { well = (same ∙ is_double_star_is (kind_of ts) is, got.high, got.well); text = cc; low = small })))

  keyword_sound : (name : Tree) (ts0 ts : List Token) (t : Tree) (rest : List Token) → IsWell name → ts0 ≡ yield_of name ++ ts
      → same_kind (kind_of ts) (kind.Delimiter delimiter.Equal) ≡ true → rule.keyword S name ts ≡ Some (t, rest) → IsPart ts0 t rest
  unfolding IsWell yield_of
  keyword_sound (tree.name u) ts0 ts t rest well text is e =
      after_one _ ts (t, rest) e (λ equal ts1 is_one same e1.
      after_self 1 _ ts1 (t, rest) e1 (omega arith) (omega arith) (λ x ts2 got e2.
      made_as (IsPart ts0) (tree.keyword u equal x) t ts2 rest e2 (λ small.
      record { well = (well, same ∙ same_kind_is (kind_of ts) (kind.Delimiter delimiter.Equal) is, got.high, got.well); text = cc; low = small })))
  keyword_sound _ ts0 ts t rest well text is e = refused _ e

  argument_sound : (ts : List Token) (t : Tree) (rest : List Token) → rule.argument S ts ≡ Some (t, rest) → IsPart ts t rest
  unfolding rule.argument IsWell yield_of
  argument_sound ts t rest e =
      after_self 1 _ ts (t, rest) e (omega arith) (omega arith) (λ x ts1 got e1.
      choose _ _ (same_kind (kind_of ts1) (kind.Delimiter delimiter.Equal)) ts1 (t, rest) e1
      (λ is e2. keyword_sound x ts ts1 t rest got.well got.text is e2)
      (λ other e2. made_as (IsPart ts) (tree.argument x) t ts1 rest e2 (λ small.
      record { well = (got.high, got.well); text = got.text; low = small })))

  -- ---- parameters

  annotation_sound : (is_annotated : Bool) (ts : List Token) (found : Tail) (rest : List Token)
      → rule.annotation S is_annotated ts ≡ Some (found, rest)
      → IsTail (kind.Delimiter delimiter.Colon) ts found rest
  unfolding IsWell yield_of height
  annotation_sound true ts found rest e = tail_sound (kind.Delimiter delimiter.Colon) ts found rest e
  annotation_sound false ts found rest e =
      pure_as (IsTail (kind.Delimiter delimiter.Colon) ts) tree.nothing found ts rest e (record { follows = tt; text = refl; low = omega arith })

  star_parameter_sound : (is_annotated : Bool) (ts : List Token) (t : Tree) (rest : List Token) → is_star (kind_of ts) ≡ true
      → rule.star_parameter S is_annotated ts ≡ Some (t, rest) → IsPart ts t rest
  unfolding rule.star_parameter IsWell yield_of
  star_parameter_sound is_annotated ts t rest is e =
      after_one _ ts (t, rest) e (λ star ts1 is_one same e1.
      let sign : star.kind ≡ kind.Arithmetic op.Star = same ∙ is_star_is (kind_of ts) is in
      choose _ _ (is_name (kind_of ts1)) ts1 (t, rest) e1
      (λ named e2.
      after_one _ ts1 (t, rest) e2 (λ name ts2 is_name_one same_name e3.
      bind (rule.annotation S is_annotated ts2) _ (t, rest) e3 (λ annotation ts3 read_annotation e4.
      let annotated_target = annotation_sound is_annotated ts2 annotation ts3 read_annotation in
      made_as (IsPart ts) (tree.star_parameter star name annotation) t ts3 rest e4 (λ small.
      record { well = (sign, ap is_name same_name ∙ named, annotated_target.follows); text = cc; low = small }))))
      (λ other e2. made_as (IsPart ts) (tree.bare_star star) t ts1 rest e2 (λ small. record { well = sign; text = is_one; low = small })))

  double_parameter_sound : (is_annotated : Bool) (ts : List Token) (t : Tree) (rest : List Token) → is_double_star (kind_of ts) ≡ true
      → rule.double_parameter S is_annotated ts ≡ Some (t, rest) → IsPart ts t rest
  unfolding rule.double_parameter IsWell yield_of
  double_parameter_sound is_annotated ts t rest is e =
      after_one _ ts (t, rest) e (λ stars ts1 is_one same e1.
      after_name _ ts1 (t, rest) e1 (λ name ts2 is_name_one named e2.
      bind (rule.annotation S is_annotated ts2) _ (t, rest) e2 (λ annotation ts3 read_annotation e3.
      let annotated_target = annotation_sound is_annotated ts2 annotation ts3 read_annotation in
      made_as (IsPart ts) (tree.double_parameter stars name annotation) t ts3 rest e3 (λ small.
      record { well = (same ∙ is_double_star_is (kind_of ts) is, named, annotated_target.follows); text = cc; low = small }))))

  plain_parameter_sound : (is_annotated : Bool) (ts : List Token) (t : Tree) (rest : List Token)
      → rule.plain_parameter S is_annotated ts ≡ Some (t, rest) → IsPart ts t rest
  unfolding rule.plain_parameter IsWell yield_of
  plain_parameter_sound is_annotated ts t rest e =
      after_name _ ts (t, rest) e (λ name ts1 is_one named e1.
      bind (rule.annotation S is_annotated ts1) _ (t, rest) e1 (λ annotation ts2 read_annotation e2.
      let annotated_target = annotation_sound is_annotated ts1 annotation ts2 read_annotation in
      bind (rule.tail S (kind.Delimiter delimiter.Equal) ts2) _ (t, rest) e2 (λ default ts3 is_default e3.
      let given = tail_sound (kind.Delimiter delimiter.Equal) ts2 default ts3 is_default in
      made_as (IsPart ts) (tree.parameter name annotation default) t ts3 rest e3 (λ small.
      record { well = (named, annotated_target.follows, given.follows); text = simp append_assoc (cc); low = small }))))

  -- ---- context managers

  with_target_sound : (x : Tree) (ts0 ts : List Token) (t : Tree) (rest : List Token) → IsRead 1 ts0 x ts
      → same_kind (kind_of ts) (kind.Keyword word.As) ≡ true → rule.with_target S x ts ≡ Some (t, rest) → IsPart ts0 t rest
  unfolding rule.with_target IsWell yield_of
  with_target_sound x ts0 ts t rest got is e =
      after_one _ ts (t, rest) e (λ word_as ts1 is_one same e1.
      after_self 6 _ ts1 (t, rest) e1 (omega arith) (omega arith) (λ to ts2 target e2.
      only _ (is_target to) ts2 (t, rest) e2 (λ assigned e3.
      made_as (IsPart ts0) (tree.with_item x (tree.after word_as to)) t ts2 rest e3 (λ small.
      record {
        well = (
          got.high,
          got.well,
          (same ∙ same_kind_is (kind_of ts) (kind.Keyword word.As) is, and_from (is_at 6 to) (is_target to) (at_precedence 6 to target.high) assigned, target.well),
        );
        text = simp append_assoc (cc);
        low = small;
      }))))

  with_item_sound : (ts : List Token) (t : Tree) (rest : List Token) → rule.with_item S ts ≡ Some (t, rest) → IsPart ts t rest
  unfolding rule.with_item IsWell yield_of
  with_item_sound ts t rest e =
      after_self 1 _ ts (t, rest) e (omega arith) (omega arith) (λ x ts1 got e1.
      choose _ _ (same_kind (kind_of ts1) (kind.Keyword word.As)) ts1 (t, rest) e1
      (λ is e2. with_target_sound x ts ts1 t rest got is e2)
      (λ other e2. made_as (IsPart ts) (tree.with_item x tree.nothing) t ts1 rest e2 (λ small.
      record { well = (got.high, got.well, tt); text = simp append-nil got.text; low = small })))

  -- ---- by context

  starred_or_expression_sound : (loosest : ℕ) (ts : List Token) (t : Tree) (rest : List Token) → 1 ≤ loosest → loosest ≤ 16
      → rule.starred_or_expression S loosest (kind_of ts) ts ≡ Some (t, rest) → IsPart ts t rest
  starred_or_expression_sound loosest ts t rest low high e =
      choose _ _ (is_star (kind_of ts)) ts (t, rest) e
      (λ is e0. starred_sound 6 ts t rest (omega arith) (omega arith) is e0)
      (λ other e0. self_part loosest ts t rest e0 low high)

  brace_sound : (ts : List Token) (t : Tree) (rest : List Token) → rule.brace_item_by_kind S (kind_of ts) ts ≡ Some (t, rest) → IsPart ts t rest
  brace_sound ts t rest e =
      choose _ _ (is_star (kind_of ts)) ts (t, rest) e
      (λ is e0. starred_sound 6 ts t rest (omega arith) (omega arith) is e0)
      (λ other e0. choose _ _ (is_double_star (kind_of ts)) ts (t, rest) e0 (λ is e1. mapping_sound ts t rest is e1) (λ no e1. element_or_entry_sound ts t rest e1))

  argument_by_kind_sound : (ts : List Token) (t : Tree) (rest : List Token) → rule.argument_by_kind S (kind_of ts) ts ≡ Some (t, rest) → IsPart ts t rest
  argument_by_kind_sound ts t rest e =
      choose _ _ (is_star (kind_of ts)) ts (t, rest) e
      (λ is e0. starred_sound 1 ts t rest (omega arith) (omega arith) is e0)
      (λ other e0. choose _ _ (is_double_star (kind_of ts)) ts (t, rest) e0
      (λ is e1. double_starred_sound ts t rest is e1) (λ no e1. argument_sound ts t rest e1))

  parameter_by_kind_sound : (is_annotated : Bool) (ts : List Token) (t : Tree) (rest : List Token)
      → rule.parameter_by_kind S is_annotated (kind_of ts) ts ≡ Some (t, rest) → IsPart ts t rest
  parameter_by_kind_sound is_annotated ts t rest e =
      choose _ _ (is_star (kind_of ts)) ts (t, rest) e
      (λ is e0. star_parameter_sound is_annotated ts t rest is e0)
      (λ other e0. choose _ _ (is_double_star (kind_of ts)) ts (t, rest) e0
      (λ is e1. double_parameter_sound is_annotated ts t rest is e1) (λ no e1. plain_parameter_sound is_annotated ts t rest e1))

  item_by_context_sound : (here : ListContext) (ts : List Token) (t : Tree) (rest : List Token) → rule.item_by_context S here (kind_of ts) ts ≡ Some (t, rest)
      → IsPart ts t rest
  item_by_context_sound list_context.Items ts t rest e = starred_or_expression_sound 1 ts t rest (omega arith) (omega arith) e
  item_by_context_sound list_context.Targets ts t rest e = starred_or_expression_sound 6 ts t rest (omega arith) (omega arith) e
  item_by_context_sound list_context.Subscript ts t rest e = index_sound ts t rest e
  item_by_context_sound list_context.WithItems ts t rest e = with_item_sound ts t rest e
  item_by_context_sound list_context.Braces ts t rest e = brace_sound ts t rest e
  item_by_context_sound list_context.Set ts t rest e = brace_sound ts t rest e
  item_by_context_sound list_context.Entries ts t rest e = brace_sound ts t rest e
  item_by_context_sound list_context.Arguments ts t rest e = argument_by_kind_sound ts t rest e
  item_by_context_sound list_context.KeywordArguments ts t rest e = argument_by_kind_sound ts t rest e
  item_by_context_sound list_context.LastArguments ts t rest e = argument_by_kind_sound ts t rest e
  item_by_context_sound (list_context.Parameters is_annotated) ts t rest e = parameter_by_kind_sound is_annotated ts t rest e
  item_by_context_sound (list_context.AfterStar is_annotated) ts t rest e = parameter_by_kind_sound is_annotated ts t rest e
  item_by_context_sound (list_context.KeywordOnly is_annotated) ts t rest e = parameter_by_kind_sound is_annotated ts t rest e
  item_by_context_sound list_context.Ended ts t rest e = refused _ e

  -- an item that fits its place
  pub item_sound : (here : ListContext) (ts : List Token) (t : Tree) (rest : List Token) → rule.item S here ts ≡ Some (t, rest) → IsOf (fits here) ts t rest
  unfolding rule.item
  item_sound here ts t rest e =
      bind (rule.item_by_context S here (kind_of ts) ts) _ (t, rest) e (λ u later is last.
      let part = item_by_context_sound here ts u later is in
      checked_as (IsOf (fits here) ts) (fits here u) u t later rest last (λ fitting.
      record { well = part.well; text = part.text; low = part.low; passes = fitting }))

  pub after_item : {B G : Type 0} (here : ListContext) (f : Tree → Parser B) (ts : List Token) (r : B × List Token)
      → and_then (rule.item S here ts) f ≡ Some r
      → ((t : Tree) (later : List Token) → fits here t ≡ true → IsPart ts t later → f t later ≡ Some r → G) → G
  after_item here f ts r e go =
      bind (rule.item S here ts) f r e (λ t later is next.
      let got = item_sound here ts t later is in
      go t later got.passes (record { well = got.well; text = got.text; low = got.low }) next)
