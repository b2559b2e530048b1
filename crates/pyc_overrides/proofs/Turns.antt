-- One turn of the loops over ancestors and over parameters.
use Rattle.std.proofs.Common.{◌≡◌, ℕ, suc, ◌+◌, ◌<◌, Bool, true, false, not, ◌&&◌, List, [], ◌∷◌, ◌++◌, length, drop, get_or, add-one, drop-cons, append_assoc, Option, None, Some, refl, ap, sym, subst, ◌∙◌, rules, if◌then◌else◌}
use Rattle.std.specs.declared.alloc.AllocError.{AllocError}
use Rattle.std.specs.declared.result.Result.{Result}
use Rattle.pyc_ast.specs.declared.position.Position.{Position}
use Rattle.pyc_class_ids.specs.Class.{Id}
use Rattle.pyc_class_ids.specs.Mro.{MroTable}
use Rattle.pyc_obligations.proofs.OwingLemmas.{noted_twice}
use Rattle.pyc_overrides.specs.Ancestors.{ancestor_member}
use Rattle.pyc_overrides.specs.Messages.{Override, required_argument_text}
use Rattle.pyc_overrides.specs.Overrides.{more_required, with_required}
use Rattle.pyc_overrides.specs.Parameters.{is_plain, is_refused, is_refused_by, argument_details, parameter_details, parameters_details, place_after, type_at}
use Rattle.pyc_reading.proofs.RunLemmas.{one_turn}
use Rattle.pyc_reading.specs.Answers.{MemberAnswer}
use Rattle.pyc_reading.specs.Traces.{Asks, Trace, all_noted, run}
use Rattle.pyc_reading.specs.Keys.{Key}
use Rattle.pyc_reading.specs.Owing.{Detail, Obligation, detail_keys, pair_keys, text_by}
use Rattle.pyc_reading.specs.Readings.{and_then}
use Rattle.pyc_type_forms.specs.declared.types.Param.{Param}
use Rattle.pyc_type_forms.specs.declared.types.Params.TheFolds.{the_lemmas}
use Rattle.pyc_type_forms.specs.Types.{Ty, Kind, Slot, Listed, no_param, param}
use Rattle.pyc_type_forms.specs.TypeView.{kind_of, param_of, param_row, ty_of}
use Rattle.pyc_types.specs.Ways.{assignable}

-- a call that asks `keys` asks `others`, which are equal to them
pub asks_same : (keys others : List Key) (d e : Trace) (result : Result (Unit {0}) AllocError) → keys ≡ others → Asks keys d result e → Asks others d result e
asks_same keys others d e result same asked = subst (λ k. Asks k d result e) same asked

left_of : {X : Type 0} (xs : List X) (i : ℕ) (x : X) → i < length xs → x ≡ get_or xs i x → drop i xs ≡ x ∷ drop (i + 1) xs
left_of xs i x within is = rw add-one (drop-cons xs i x within ∙ ap (λ y. y ∷ drop (suc i) xs) (sym is))

-- ---- ancestors, in turn

opens_required : (at : Position) (n : List ℕ) (got : MemberAnswer) (row : List Obligation) (c : Id) (cs : List Id)
    → more_required at n got row (c ∷ cs) ≡ and_then (ancestor_member c n) (λ found. more_required at n got (with_required at n got row found) cs)
unfolding more_required
opens_required at n got row c cs = refl

pub required_turn : (at : Position) (n : List ℕ) (got : MemberAnswer) (row next : List Obligation) (found : Option MemberAnswer) (cs : List Id) (i : ℕ) (c : Id) (trace middle : Trace)
    → i < length cs → c ≡ get_or cs i c → run (ancestor_member c n) trace ≡ (found, middle) → next ≡ with_required at n got row found
    → run (more_required at n got next (drop (i + 1) cs)) middle ≡ run (more_required at n got row (drop i cs)) trace
required_turn at n got row next found cs i c trace middle within is done kept =
    ap (λ r. run (more_required at n got r (drop (i + 1) cs)) middle) kept
    ∙ sym (one_turn (more_required at n got row) (λ a. ancestor_member a n) (λ f l. more_required at n got (with_required at n got row f) l) (opens_required at n got row) cs i c trace middle found within is done)

-- ---- parameters, in turn

-- the type and the kind of a parameter of the code
pub type_is : (x : Param) → (param_of x).ty ≡ ty_of x.ty
type_is x = search (rules, the_lemmas)

kind_is : (x : Param) → (param_of x).slot.kind ≡ kind_of x.kind
kind_is x = search (rules, the_lemmas)

-- whether a parameter of the code is plain
pub plain_is : (x : Param) (plain : Bool) → plain ≡ is_plain (kind_of x.kind) → is_plain (param_of x).slot.kind ≡ plain
plain_is x plain is = ap is_plain (kind_is x) ∙ sym is

-- the place after a parameter, by whether it is plain
pub placed_after : (place : ℕ) (x : Param) (plain : Bool) → plain ≡ is_plain (kind_of x.kind) → place_after place (param_of x).slot ≡ (if plain then place + 1 else place)
placed_after place x plain is =
    ap (λ (k : Kind). if is_plain k then place + 1 else place) (kind_is x) ∙ ap (λ (b : Bool). if b then place + 1 else place) (sym is)

pub detail_keys-append : (ds es : List Detail) → detail_keys (ds ++ es) ≡ detail_keys ds ++ detail_keys es
detail_keys-append [] es = refl
detail_keys-append (d ∷ ds) es =
    ap (λ l. pair_keys d.got d.want ++ l) (detail_keys-append ds es)
    ∙ sym (append_assoc (pair_keys d.got d.want) (detail_keys ds) (detail_keys es))

opens_details : (reported : Override) (gots : Listed) (place : ℕ) (slot : Slot) (want : Ty) (rest : Listed)
    → parameters_details reported gots place (param slot want rest) ≡ parameter_details reported gots place slot want ++ parameters_details reported gots (place_after place slot) rest
unfolding parameters_details
opens_details reported gots place slot want rest = refl

-- where no parameter is left nothing is looked at
pub no_details : (reported : Override) (gots : Listed) (place : ℕ) → parameters_details reported gots place no_param ≡ []
unfolding parameters_details
no_details reported gots place = refl

left_details : (reported : Override) (gots : Listed) (place : ℕ) (xs : List Param) (i : ℕ) (x : Param) → i < length xs → x ≡ get_or xs i x
    → parameters_details reported gots place (param_row (drop i xs)) ≡ parameter_details reported gots place (param_of x).slot (param_of x).ty ++ parameters_details reported gots (place_after place (param_of x).slot) (param_row (drop (i + 1) xs))
left_details reported gots place xs i x within is =
    ap (λ l. parameters_details reported gots place (param_row l)) (left_of xs i x within is)
    ∙ opens_details reported gots place (param_of x).slot (param_of x).ty (param_row (drop (i + 1) xs))

-- a parameter was asked
pub asked_turn : (reported : Override) (gots : Listed) (place next : ℕ) (xs : List Param) (i : ℕ) (x : Param) (trace middle whole : Trace) → i < length xs → x ≡ get_or xs i x
    → middle ≡ all_noted trace (detail_keys (parameter_details reported gots place (param_of x).slot (param_of x).ty)) → next ≡ place_after place (param_of x).slot
    → all_noted trace (detail_keys (parameters_details reported gots place (param_row (drop i xs)))) ≡ whole
    → all_noted middle (detail_keys (parameters_details reported gots next (param_row (drop (i + 1) xs)))) ≡ whole
asked_turn reported gots place next xs i x trace middle whole within is done placed before =
    let own = parameter_details reported gots place (param_of x).slot (param_of x).ty in
    let rest = parameters_details reported gots (place_after place (param_of x).slot) (param_row (drop (i + 1) xs)) in
    (λ j. all_noted (done j) (detail_keys (parameters_details reported gots (placed j) (param_row (drop (i + 1) xs)))))
    ∙ noted_twice trace (detail_keys own) (detail_keys rest)
    ∙ sym (ap (all_noted trace) (ap detail_keys (left_details reported gots place xs i x within is) ∙ detail_keys-append own rest))
    ∙ before

-- ---- which text is reported

flipped : {A : Type 0} (b : Bool) (x y : A) → (if b then x else y) ≡ (if not b then y else x)
flipped true x y = refl
flipped false x y = refl

by_argument : (orders : MroTable) (reported : Override) (number : ℕ) (want : Ty) (rest : List Detail) (text : List ℕ) (plain : Bool) (got : Option Ty)
    → text_by orders ((if plain then argument_details reported number got want else []) ++ rest) text
    ≡ (if plain && is_refused_by orders got want then required_argument_text reported number want else text_by orders rest text)
by_argument orders reported number want rest text false got = refl
by_argument orders reported number want rest text true None = refl
by_argument orders reported number want rest text true (Some ty) = flipped (assignable orders want ty) (text_by orders rest text) (required_argument_text reported number want)

-- what is reported of what is left, by whether the first parameter is refused
left_text : (orders : MroTable) (reported : Override) (gots : Listed) (place : ℕ) (xs : List Param) (i : ℕ) (x : Param) (text : List ℕ) → i < length xs → x ≡ get_or xs i x
    → text_by orders (parameters_details reported gots place (param_row (drop i xs))) text
    ≡ (if is_refused orders gots place (param_of x).slot (param_of x).ty then required_argument_text reported (place + 1) (param_of x).ty
    else text_by orders (parameters_details reported gots (place_after place (param_of x).slot) (param_row (drop (i + 1) xs))) text)
left_text orders reported gots place xs i x text within is =
    ap (λ l. text_by orders l text) (left_details reported gots place xs i x within is)
    ∙ by_argument orders reported (place + 1) (param_of x).ty (parameters_details reported gots (place_after place (param_of x).slot) (param_row (drop (i + 1) xs))) text (is_plain (param_of x).slot.kind) (type_at gots place)

-- past a parameter that is not refused
pub text_turn : (orders : MroTable) (reported : Override) (gots : Listed) (place next : ℕ) (xs : List Param) (i : ℕ) (x : Param) (text whole : List ℕ) → i < length xs → x ≡ get_or xs i x
    → is_refused orders gots place (param_of x).slot (param_of x).ty ≡ false → next ≡ place_after place (param_of x).slot
    → text_by orders (parameters_details reported gots place (param_row (drop i xs))) text ≡ whole
    → text_by orders (parameters_details reported gots next (param_row (drop (i + 1) xs))) text ≡ whole
text_turn orders reported gots place next xs i x text whole within is taken placed before =
    let rest = λ (p : ℕ). text_by orders (parameters_details reported gots p (param_row (drop (i + 1) xs))) text in
    ap rest placed
    ∙ sym (ap (λ (b : Bool). if b then required_argument_text reported (place + 1) (param_of x).ty else rest (place_after place (param_of x).slot)) taken)
    ∙ sym (left_text orders reported gots place xs i x text within is)
    ∙ before

-- at a parameter that is refused
pub text_found : (orders : MroTable) (reported : Override) (gots : Listed) (place : ℕ) (xs : List Param) (i : ℕ) (x : Param) (text whole : List ℕ) → i < length xs → x ≡ get_or xs i x
    → is_refused orders gots place (param_of x).slot (param_of x).ty ≡ true
    → text_by orders (parameters_details reported gots place (param_row (drop i xs))) text ≡ whole
    → required_argument_text reported (place + 1) (ty_of x.ty) ≡ whole
text_found orders reported gots place xs i x text whole within is refused before =
    let rest = text_by orders (parameters_details reported gots (place_after place (param_of x).slot) (param_row (drop (i + 1) xs))) text in
    ap (required_argument_text reported (place + 1)) (sym (type_is x))
    ∙ sym (ap (λ (b : Bool). if b then required_argument_text reported (place + 1) (param_of x).ty else rest) refused)
    ∙ sym (left_text orders reported gots place xs i x text within is)
    ∙ before
