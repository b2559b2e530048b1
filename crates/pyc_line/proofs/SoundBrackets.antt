-- Displays, comprehensions, parentheses, yields, calls and subscripts are well-formed.
use Rattle.std.proofs.Common.{◌≡◌, refl, ap, sym, ◌∙◌, subst, ℕ, ◌≤◌, Bool, true, false, if◌then◌else◌, List, ◌∷◌, ◌++◌, Option, Some, append_assoc, arith}
use Rattle.pyc_token.specs.declared.tokens.Bracket.{Bracket}
use Rattle.pyc_token.specs.declared.tokens.Bracket.TheVariants as bracket
use Rattle.pyc_token.specs.declared.tokens.Keyword.TheVariants as word
use Rattle.pyc_token.specs.declared.tokens.Kind.TheVariants as kind
use Rattle.pyc_token.specs.declared.tokens.Token.{Token}
use Rattle.pyc_tree.specs.declared.list_context.ListContext.TheVariants as list_context
use Rattle.pyc_tree.specs.declared.display_kind.DisplayKind.{DisplayKind}
use Rattle.pyc_tree.specs.declared.display_kind.DisplayKind.TheVariants as display_kind
use Rattle.pyc_tree.specs.Tree.{Tree, Pieces, Comprehensions}
use Rattle.pyc_tree.specs.Tree as tree
use Rattle.pyc_tree.specs.Kinds.{kind_of, same_kind, begins_comprehension}
use Rattle.pyc_tree.specs.Precedence.{infix_precedence, precedence}
use Rattle.pyc_tree.specs.Yield.{yield_of, pieces_yield}
use Rattle.pyc_tree.specs.ListContexts.{is_at, fits, begins, is_item, is_entry, context_in, display_kind_of, empty_display_kind}
use Rattle.pyc_tree.specs.Well.{IsWell, ArePieces, AreArguments, is_yield, is_display, is_element, bracket_of, context_of}
use Rattle.pyc_tree.specs.Parser.{Parser, made}
use Rattle.pyc_tree.specs.Items as rule
use Rattle.pyc_line.proofs.Sound.{IsPart, IsOf, IsForm, Continues, AreListed, Good, first_of}
use Rattle.pyc_line.proofs.SoundTables.{same_kind_is, left_low}
use Rattle.pyc_line.proofs.SoundTools.{refused, bind, choose, only, after_one, after_expected, made_as, after_made, or_first, either_first, either_second, one_less, no_more}
use Rattle.pyc_line.proofs.SoundItems.{after_self, after_item}
use Rattle.pyc_line.proofs.SoundLists.{is_first, after_listed, after_comprehensions, expressions_sound}

-- ---- what the brackets hold

display_kind_bracket : (sign : Bracket) (e : Tree) → bracket_of (display_kind_of sign e) ≡ sign
display_kind_bracket bracket.Round e = refl
display_kind_bracket bracket.Square e = refl
display_kind_bracket bracket.Curly e = curly (is_entry e)
  where
    curly : (b : Bool) → bracket_of (if b then display_kind.Dict else display_kind.Set) ≡ bracket.Curly
    curly true = refl
    curly false = refl

empty_bracket : (sign : Bracket) → bracket_of (empty_display_kind sign) ≡ sign
empty_bracket bracket.Round = refl
empty_bracket bracket.Square = refl
empty_bracket bracket.Curly = refl

empty_display : (sign : Bracket) → is_display (empty_display_kind sign) tree.none ≡ true
empty_display bracket.Round = refl
empty_display bracket.Square = refl
empty_display bracket.Curly = refl

empty_pieces : (sign : Bracket) → ArePieces (context_of (empty_display_kind sign)) tree.none
unfolding IsWell
empty_pieces bracket.Round = refl
empty_pieces bracket.Square = refl
empty_pieces bracket.Curly = refl

-- items between curly brackets are a set or a dictionary, as the first says
abbrev Braced : Bool → Pieces → Type 0
Braced b found = ArePieces (context_of (if b then display_kind.Dict else display_kind.Set)) found × (is_display (if b then display_kind.Dict else display_kind.Set) found ≡ true)

same_tree : (x e : Tree) → ◌≡◌ {A = Option Tree} (Some x) (Some e) → x ≡ e
same_tree x e h = cc

braced_items : (b : Bool) (e : Tree) (found : Pieces) → is_entry e ≡ b → first_of found ≡ Some e → ArePieces list_context.Braces found → Braced b found
unfolding IsWell
braced_items b e tree.none is first h = refused _ first
braced_items true e (tree.last x) is first h = ((ap is_entry (same_tree x e first) ∙ is, h.1, refl), refl)
braced_items false e (tree.last x) is first h =
    ((or_first (is_item x) (is_entry x) h.0 (ap is_entry (same_tree x e first) ∙ is), h.1, refl), refl)
braced_items true e (tree.piece x comma more) is first h =
    let entry : is_entry x ≡ true = ap is_entry (same_tree x e first) ∙ is in
    ((entry, h.1, h.2, subst (λ (b : Bool). ArePieces (if b then list_context.Entries else list_context.Set) more) entry h.3), refl)
braced_items false e (tree.piece x comma more) is first h =
    let entry : is_entry x ≡ false = ap is_entry (same_tree x e first) ∙ is in
    ((or_first (is_item x) (is_entry x) h.0 entry, h.1, h.2, subst (λ (b : Bool). ArePieces (if b then list_context.Entries else list_context.Set) more) entry h.3), refl)

-- arguments are well-formed: a generator among them has parentheses of its own
are_arguments : (found : Pieces) → ArePieces list_context.Arguments found → AreArguments found
unfolding IsWell
are_arguments (tree.last (tree.argument (tree.generator e comprehensions))) h = absurd (omega (arith, h.1.0))
are_arguments tree.none h = tt
are_arguments (tree.last e) h = (h.0, h.1)
are_arguments (tree.piece e comma more) h = h

-- a callee, with the parenthesis after it
record IsCalled (callee : Tree) (opening : Token) (ts ts1 : List Token) : Type 0 where
  high : 15 ≤ precedence callee
  well : IsWell callee
  sign : kind_of ts ≡ kind.Open bracket.Round
  opens : opening.kind ≡ kind.Open bracket.Round
  text : ts ≡ opening ∷ ts1

module _ (S : ℕ → Parser Tree) (good : Good S) where
  -- ---- `yield`

  yield_from_sound : (t : Token) (ts0 ts : List Token) (u : Tree) (rest : List Token) → t.kind ≡ kind.Keyword word.Yield → ts0 ≡ t ∷ ts
      → same_kind (kind_of ts) (kind.Keyword word.From) ≡ true → rule.yield_from S t ts ≡ Some (u, rest) → IsOf is_yield ts0 u rest
  unfolding rule.yield_from IsWell yield_of
  yield_from_sound t ts0 ts u rest sign text is e =
      after_one _ ts (u, rest) e (λ from ts1 is_one same e1.
      after_self S good 1 _ ts1 (u, rest) e1 (omega arith) (omega arith) (λ x ts2 got e2.
      made_as (IsOf is_yield ts0) (tree.yield_from t from x) u ts2 rest e2 (λ small.
      record { well = (sign, same ∙ same_kind_is (kind_of ts) (kind.Keyword word.From) is, got.high, got.well); text = cc; low = small; passes = refl })))

  yield_value_sound : (t : Token) (ts0 ts : List Token) (u : Tree) (rest : List Token) → t.kind ≡ kind.Keyword word.Yield → ts0 ≡ t ∷ ts
      → rule.yield_value S t ts ≡ Some (u, rest) → IsOf is_yield ts0 u rest
  unfolding rule.yield_value IsWell yield_of
  yield_value_sound t ts0 ts u rest sign text e =
      bind (rule.expressions S list_context.Items ts) _ (u, rest) e (λ x ts1 is e1.
      let got = expressions_sound S good ts x ts1 is in
      made_as (IsOf is_yield ts0) (tree.yield t (tree.present x)) u ts1 rest e1 (λ small.
      record { well = (sign, (got.passes, got.well)); text = cc; low = small; passes = refl }))

  pub yield_expression_sound : (ts : List Token) (u : Tree) (rest : List Token) → kind_of ts ≡ kind.Keyword word.Yield → rule.yield_expression S ts ≡ Some (u, rest)
      → IsOf is_yield ts u rest
  unfolding rule.yield_expression IsWell yield_of
  yield_expression_sound ts u rest is e =
      after_one _ ts (u, rest) e (λ t ts1 is_one same e1.
      let sign : t.kind ≡ kind.Keyword word.Yield = same ∙ is in
      choose _ _ (same_kind (kind_of ts1) (kind.Keyword word.From)) ts1 (u, rest) e1
      (λ from e2. yield_from_sound t ts ts1 u rest sign is_one from e2)
      (λ other e2. choose _ _ (begins list_context.Items (kind_of ts1)) ts1 (u, rest) e2
      (λ begun e3. yield_value_sound t ts ts1 u rest sign is_one e3)
      (λ none e3. made_as (IsOf is_yield ts) (tree.yield t tree.absent) u ts1 rest e3 (λ small.
      record { well = (sign, tt); text = is_one; low = small; passes = refl }))))

  pub yield_enclosed_sound : (opening : Token) (ts0 ts : List Token) (t : Tree) (rest : List Token) → opening.kind ≡ kind.Open bracket.Round
      → ts0 ≡ opening ∷ ts
      → kind_of ts ≡ kind.Keyword word.Yield → rule.yield_enclosed S opening ts ≡ Some (t, rest) → IsForm 16 ts0 t rest
  unfolding rule.yield_enclosed IsWell yield_of
  yield_enclosed_sound opening ts0 ts t rest sign text is e =
      bind (rule.yield_expression S ts) _ (t, rest) e (λ x ts1 is_yielded e1.
      let got = yield_expression_sound ts x ts1 is is_yielded in
      after_expected (kind.Close bracket.Round) _ ts1 (t, rest) e1 (λ closing ts2 is_closing shut e2.
      made_as (IsForm 16 ts0) (tree.parenthesized opening x closing) t ts2 rest e2 (λ small.
      record { well = (sign, shut, either_first (is_yield x) (is_at 1 x) got.passes, got.well); text = simp append_assoc (cc); low = small; at = refl })))

  -- ---- displays

  pub parse_empty_brackets_sound : (sign : Bracket) (opening : Token) (ts0 ts : List Token) (t : Tree) (rest : List Token) → opening.kind ≡ kind.Open sign
      → ts0 ≡ opening ∷ ts
      → same_kind (kind_of ts) (kind.Close sign) ≡ true → rule.parse_empty_brackets S sign opening ts ≡ Some (t, rest) → IsForm 16 ts0 t rest
  unfolding rule.parse_empty_brackets IsWell yield_of
  parse_empty_brackets_sound sign opening ts0 ts t rest opens text is e =
      after_one _ ts (t, rest) e (λ closing ts1 is_one same e1.
      made_as (IsForm 16 ts0) (tree.display (empty_display_kind sign) opening tree.none closing) t ts1 rest e1 (λ small.
      record {
        well = (
          opens ∙ ap kind.Open (sym (empty_bracket sign)),
          same ∙ (same_kind_is (kind_of ts) (kind.Close sign) is ∙ ap kind.Close (sym (empty_bracket sign))),
          empty_display sign,
          empty_pieces sign,
        );
        text = cc;
        low = small;
        at = refl;
      }))

  parse_comprehension_display_sound : (sign : Bracket) (opening : Token) (x : Tree) (ts0 ts1 ts : List Token) (t : Tree) (rest : List Token)
      → opening.kind ≡ kind.Open sign
      → ts0 ≡ opening ∷ ts1 → IsPart ts1 x ts → begins_comprehension (kind_of ts) ≡ true → rule.parse_comprehension_display S sign opening x ts ≡ Some (t, rest)
      → IsForm 16 ts0 t rest
  unfolding rule.parse_comprehension_display IsWell yield_of
  parse_comprehension_display_sound sign opening x ts0 ts1 ts t rest opens text part begins e =
      after_comprehensions S good _ ts (t, rest) e begins (λ found ts2 comprehensions headed text_found e1.
      after_expected (kind.Close sign) _ ts2 (t, rest) e1 (λ closing ts3 is_closing shut e2.
      only _ (is_element (display_kind_of sign x) x) ts3 (t, rest) e2 (λ element e3.
      made_as (IsForm 16 ts0) (tree.comprehension_display (display_kind_of sign x) opening x found closing) t ts3 rest e3 (λ small.
      record {
        well = (opens ∙ ap kind.Open (sym (display_kind_bracket sign x)), shut ∙ ap kind.Close (sym (display_kind_bracket sign x)), element, part.well, headed, comprehensions);
        text = simp append_assoc (cc);
        low = small;
        at = refl;
      }))))

  -- what brackets hold makes a display
  shown : (kind_of_display : DisplayKind) (opening : Token) (found : Pieces) (closing : Token) (ts0 ts1 ts2 ts3 : List Token) (t : Tree) (rest : List Token)
      → opening.kind ≡ kind.Open (bracket_of kind_of_display) → closing.kind ≡ kind.Close (bracket_of kind_of_display)
      → is_display kind_of_display found ≡ true
      → ArePieces (context_of kind_of_display) found → ts0 ≡ opening ∷ ts1 → ts1 ≡ pieces_yield found ++ ts2 → ts2 ≡ closing ∷ ts3
      → made (tree.display kind_of_display opening found closing) ts3 ≡ Some (t, rest) → IsForm 16 ts0 t rest
  unfolding IsWell yield_of
  shown kind_of_display opening found closing ts0 ts1 ts2 ts3 t rest opens shut display pieces text text_found is_closing e =
      made_as (IsForm 16 ts0) (tree.display kind_of_display opening found closing) t ts3 rest e (λ small.
      record { well = (opens, shut, display, pieces); text = simp append_assoc (cc); low = small; at = refl })

  enclosed_sound : (sign : Bracket) (first : Tree) (opening : Token) (found : Pieces) (closing : Token) (ts0 ts1 ts2 ts3 : List Token) (t : Tree)
      (rest : List Token)
      → opening.kind ≡ kind.Open sign → closing.kind ≡ kind.Close sign → ts0 ≡ opening ∷ ts1 → AreListed (context_in sign) first ts1 found ts2
      → ts2 ≡ closing ∷ ts3
      → rule.enclosed S sign first opening found closing ts3 ≡ Some (t, rest) → IsForm 16 ts0 t rest
  unfolding IsWell yield_of
  enclosed_sound bracket.Round first opening tree.none closing ts0 ts1 ts2 ts3 t rest opens shut text all is_closing e = refused _ all.first
  enclosed_sound bracket.Round first opening (tree.last x) closing ts0 ts1 ts2 ts3 t rest opens shut text all is_closing e =
      only _ (is_at 1 x) ts3 (t, rest) e (λ high e1.
      made_as (IsForm 16 ts0) (tree.parenthesized opening x closing) t ts3 rest e1 (λ small.
      record { well = (opens, shut, either_second (is_yield x) (is_at 1 x) high, all.pieces.1); text = simp append_assoc (cc); low = small; at = refl }))
  enclosed_sound bracket.Round first opening (tree.piece x comma more) closing ts0 ts1 ts2 ts3 t rest opens shut text all is_closing e =
      shown display_kind.Tuple opening (tree.piece x comma more) closing ts0 ts1 ts2 ts3 t rest opens shut refl all.pieces text all.text is_closing e
  enclosed_sound bracket.Square first opening found closing ts0 ts1 ts2 ts3 t rest opens shut text all is_closing e =
      shown display_kind.List opening found closing ts0 ts1 ts2 ts3 t rest opens shut refl all.pieces text all.text is_closing e
  enclosed_sound bracket.Curly first opening found closing ts0 ts1 ts2 ts3 t rest opens shut text all is_closing e =
      let braced = braced_items (is_entry first) first found refl all.first all.pieces in
      shown (display_kind_of bracket.Curly first) opening found closing ts0 ts1 ts2 ts3 t rest
      (opens ∙ ap kind.Open (sym (display_kind_bracket bracket.Curly first))) (shut ∙ ap kind.Close (sym (display_kind_bracket bracket.Curly first)))
      braced.1 braced.0 text all.text is_closing e

  parse_display_sound : (sign : Bracket) (opening : Token) (x : Tree) (ts0 ts1 ts : List Token) (t : Tree) (rest : List Token)
      → opening.kind ≡ kind.Open sign
      → ts0 ≡ opening ∷ ts1 → fits (context_in sign) x ≡ true → IsPart ts1 x ts → rule.parse_display S sign opening x ts ≡ Some (t, rest)
      → IsForm 16 ts0 t rest
  unfolding rule.parse_display
  parse_display_sound sign opening x ts0 ts1 ts t rest opens text fitting part e =
      after_listed S good (context_in sign) x _ ts1 ts (t, rest) e fitting part (λ found ts2 all e1.
      after_expected (kind.Close sign) _ ts2 (t, rest) e1 (λ closing ts3 is_closing shut e2.
      enclosed_sound sign x opening found closing ts0 ts1 ts2 ts3 t rest opens shut text all is_closing e2))

  pub parse_filled_brackets_sound : (sign : Bracket) (opening : Token) (ts0 ts : List Token) (t : Tree) (rest : List Token) → opening.kind ≡ kind.Open sign
      → ts0 ≡ opening ∷ ts
      → rule.parse_filled_brackets S sign opening ts ≡ Some (t, rest) → IsForm 16 ts0 t rest
  unfolding rule.parse_filled_brackets
  parse_filled_brackets_sound sign opening ts0 ts t rest opens text e =
      after_item S good (context_in sign) _ ts (t, rest) e (λ x ts1 fitting part e1.
      choose _ _ (begins_comprehension (kind_of ts1)) ts1 (t, rest) e1
      (λ begins e2. parse_comprehension_display_sound sign opening x ts0 ts ts1 t rest opens text part begins e2)
      (λ other e2. parse_display_sound sign opening x ts0 ts ts1 t rest opens text fitting part e2))

  -- ---- calls and subscripts

  -- a call with its arguments
  called_by : (callee : Tree) (opening : Token) (found : Pieces) (closing : Token) (ts ts1 ts2 ts3 : List Token) (t : Tree) (rest : List Token)
      → IsCalled callee opening ts ts1 → AreArguments found → ts1 ≡ pieces_yield found ++ ts2 → ts2 ≡ closing ∷ ts3
      → closing.kind ≡ kind.Close bracket.Round
      → made (tree.call callee opening found closing) ts3 ≡ Some (t, rest) → Continues callee ts t rest
  unfolding IsWell yield_of
  called_by callee opening found closing ts ts1 ts2 ts3 t rest is arguments text is_closing shut e =
      made_as (Continues callee ts) (tree.call callee opening found closing) t ts3 rest e (λ small.
      record {
        well = (is.high, is.well, is.opens, shut, arguments);
        text = simp append_assoc (cc);
        low = small;
        at = sym (ap infix_precedence is.sign);
        fits = left_low (kind_of ts3);
        shorter = omega (arith, one_less ts opening ts1 is.text, no_more ts1 (pieces_yield found) ts2 text, one_less ts2 closing ts3 is_closing);
      })

  parse_empty_call_sound : (callee : Tree) (opening : Token) (ts ts1 : List Token) (t : Tree) (rest : List Token) → IsCalled callee opening ts ts1
      → same_kind (kind_of ts1) (kind.Close bracket.Round) ≡ true → rule.parse_empty_call S callee opening ts1 ≡ Some (t, rest) → Continues callee ts t rest
  unfolding rule.parse_empty_call IsWell yield_of
  parse_empty_call_sound callee opening ts ts1 t rest is shuts e =
      after_one _ ts1 (t, rest) e (λ closing ts2 is_one same e1.
      called_by callee opening tree.none closing ts ts1 ts1 ts2 t rest is tt refl is_one
      (same ∙ same_kind_is (kind_of ts1) (kind.Close bracket.Round) shuts) e1)

  parse_call_arguments_sound : (callee : Tree) (opening : Token) (x : Tree) (ts ts1 ts2 : List Token) (t : Tree) (rest : List Token)
      → IsCalled callee opening ts ts1 → fits list_context.Arguments x ≡ true → IsPart ts1 x ts2
      → rule.parse_call_arguments S callee opening x ts2 ≡ Some (t, rest) → Continues callee ts t rest
  unfolding rule.parse_call_arguments
  parse_call_arguments_sound callee opening x ts ts1 ts2 t rest is fitting part e =
      after_listed S good list_context.Arguments x _ ts1 ts2 (t, rest) e fitting part (λ found ts3 all e1.
      after_expected (kind.Close bracket.Round) _ ts3 (t, rest) e1 (λ closing ts4 is_closing shut e2.
      called_by callee opening found closing ts ts1 ts3 ts4 t rest is (are_arguments found all.pieces) all.text is_closing shut e2))

  parse_generator_after_sound : (callee : Tree) (opening : Token) (x : Tree) (ts ts1 ts2 : List Token) (t : Tree) (rest : List Token)
      → IsCalled callee opening ts ts1 → IsPart ts1 x ts2 → begins_comprehension (kind_of ts2) ≡ true
      → rule.parse_generator_after S callee opening x ts2 ≡ Some (t, rest) → Continues callee ts t rest
  unfolding IsWell yield_of
  parse_generator_after_sound callee opening (tree.argument x) ts ts1 ts2 t rest is part begins e =
      after_comprehensions S good _ ts2 (t, rest) e begins (λ found ts3 comprehensions headed text_found e1.
      after_expected (kind.Close bracket.Round) _ ts3 (t, rest) e1 (λ closing ts4 is_closing shut e2.
      after_made (tree.generator x found) _ ts4 (t, rest) e2 (λ low_generator e3.
      after_made (tree.argument (tree.generator x found)) _ ts4 (t, rest) e3 (λ low_argument e4.
      called_by callee opening (tree.last (tree.argument (tree.generator x found))) closing ts ts1 ts3 ts4 t rest is
      (part.well.0, part.well.1, headed, comprehensions) (simp append_assoc (cc)) is_closing shut e4))))
  parse_generator_after_sound callee opening _ ts ts1 ts2 t rest is part begins e = refused _ e

  parse_filled_call_sound : (callee : Tree) (opening : Token) (ts ts1 : List Token) (t : Tree) (rest : List Token) → IsCalled callee opening ts ts1
      → rule.parse_filled_call S callee opening ts1 ≡ Some (t, rest) → Continues callee ts t rest
  unfolding rule.parse_filled_call
  parse_filled_call_sound callee opening ts ts1 t rest is e =
      after_item S good list_context.Arguments _ ts1 (t, rest) e (λ x ts2 fitting part e1.
      choose _ _ (begins_comprehension (kind_of ts2)) ts2 (t, rest) e1
      (λ begins e2. parse_generator_after_sound callee opening x ts ts1 ts2 t rest is part begins e2)
      (λ other e2. parse_call_arguments_sound callee opening x ts ts1 ts2 t rest is fitting part e2))

  pub parse_call_sound : (callee : Tree) (ts : List Token) (t : Tree) (rest : List Token) → 15 ≤ precedence callee → IsWell callee
      → kind_of ts ≡ kind.Open bracket.Round → rule.parse_call S callee ts ≡ Some (t, rest) → Continues callee ts t rest
  unfolding rule.parse_call
  parse_call_sound callee ts t rest high well sign e =
      after_one _ ts (t, rest) e (λ opening ts1 is_one same e1.
      let is : IsCalled callee opening ts ts1 = record { high = high; well = well; sign = sign; opens = same ∙ sign; text = is_one } in
      choose _ _ (same_kind (kind_of ts1) (kind.Close bracket.Round)) ts1 (t, rest) e1
      (λ shuts e2. parse_empty_call_sound callee opening ts ts1 t rest is shuts e2)
      (λ other e2. parse_filled_call_sound callee opening ts ts1 t rest is e2))

  pub parse_subscript_sound : (x : Tree) (ts : List Token) (t : Tree) (rest : List Token) → 15 ≤ precedence x → IsWell x
      → kind_of ts ≡ kind.Open bracket.Square
      → rule.parse_subscript S x ts ≡ Some (t, rest) → Continues x ts t rest
  unfolding rule.parse_subscript IsWell yield_of
  parse_subscript_sound x ts t rest high well sign e =
      after_one _ ts (t, rest) e (λ opening ts1 is_one same e1.
      after_item S good list_context.Subscript _ ts1 (t, rest) e1 (λ first ts2 fitting part e2.
      after_listed S good list_context.Subscript first _ ts1 ts2 (t, rest) e2 fitting part (λ found ts3 all e3.
      after_expected (kind.Close bracket.Square) _ ts3 (t, rest) e3 (λ closing ts4 is_closing shut e4.
      made_as (Continues x ts) (tree.subscript x opening found closing) t ts4 rest e4 (λ small.
      record {
        well = (high, well, same ∙ sign, shut, is_first found first all.first, all.pieces);
        text = simp append_assoc (cc);
        low = small;
        at = sym (ap infix_precedence sign);
        fits = left_low (kind_of ts4);
        shorter = omega (arith, one_less ts opening ts1 is_one, no_more ts1 (pieces_yield found) ts3 all.text, one_less ts3 closing ts4 is_closing);
      })))))
