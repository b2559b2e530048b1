-- What is noted for members of classes.
use Rattle.std.proofs.Common.{◌≡◌, ℕ, ◌+◌, ◌<◌, List, [], ◌∷◌, ◌++◌, length, get_or, drop, Option, Some, None, append-nil, rules, refl, sym, ap, ◌∙◌}
use Rattle.std.proofs.lemmas.List.{drop_more, drop_all}
use Rattle.std.specs.Prelude.{◌≤◌}
use Rattle.pyc_bindings.specs.BindingView.{binding_form_of}
use Rattle.pyc_bindings.specs.declared.binding.BindingForm.{BindingForm as BindingFormOf}
use Rattle.pyc_bindings.specs.declared.binding.BindingForm.TheVariants as b
use Rattle.pyc_class_ids.specs.Class.{Id}
use Rattle.pyc_iface.specs.Looks.{form_member_looks, declared_in_looks, assigned_in_looks, unless_found, first_declared_looks, first_assigned_looks}
use Rattle.pyc_iface.specs.Members.{Declared, variable, form_member, declared_in, assigned_in, or_else, first_declared, first_assigned}
use Rattle.pyc_names.specs.Interfaces.{Interface}
use Rattle.pyc_names.specs.Looks.{Look}
use Rattle.pyc_names.specs.NotedLooks.{Noted, with_looks}
use Rattle.pyc_names.proofs.NotedLemmas.{with_none, with_both}
use Rattle.pyc_reading.specs.Answers.{MemberAnswer}
use Rattle.pyc_type_forms.specs.Types.{any}
use Rattle.pyc_type_forms.specs.TypeView.{ty_of}
use Rattle.pyc_type_forms.specs.declared.types.Params.TheFolds.{the_lemmas}
use Rattle.pyc_type_forms.specs.declared.types.Ty.TheVariants as t

-- ---- what a class binds

pub any_in : ty_of t.Any ≡ any
any_in = search (rules, the_lemmas)

-- of a binding of another form nothing is looked at
pub other_form_looks : (files : List Interface) (c : Declared) (form : BindingFormOf) → ((head : _) → form ≡ b.Function head → ⊥) → ((found : _) → form ≡ b.Annotated found → ⊥)
    → form_member_looks files c (binding_form_of form) ≡ []
other_form_looks files c (b.Function head) function annotated = absurd (function head refl)
other_form_looks files c (b.Annotated found) function annotated = absurd (annotated found refl)
other_form_looks files c _ function annotated = refl

pub other_form : (files : List Interface) (c : Declared) (x : List ℕ) (form : BindingFormOf)
    → ((head : _) → form ≡ b.Function head → ⊥) → ((found : _) → form ≡ b.Annotated found → ⊥) → ((value : _) → form ≡ b.Assigned value → ⊥)
    → variable c any ≡ form_member files c x (binding_form_of form)
other_form files c x (b.Function head) function annotated assigned = absurd (function head refl)
other_form files c x (b.Annotated found) function annotated assigned = absurd (annotated found refl)
other_form files c x (b.Assigned value) function annotated assigned = absurd (assigned value refl)
other_form files c x _ function annotated assigned = refl

-- ---- along an order

-- where nothing is found, more is looked at
past : (old new : Noted) (own more : List Look) (found : Option MemberAnswer) → found ≡ None → new ≡ with_looks old own
    → with_looks new more ≡ with_looks old (own ++ unless_found found more)
past old new own more found none is =
    ap (λ n. with_looks n more) is ∙ with_both old own more ∙ ap (λ f. with_looks old (own ++ unless_found f more)) (sym none)

at_place : (classes : List Id) (i : ℕ) (c : Id) → i < length classes → c ≡ get_or classes i c → drop i classes ≡ c ∷ drop (i + 1) classes
at_place classes i c below at = drop_more classes i c below ∙ ap (λ d. d ∷ drop (i + 1) classes) (sym at)

module _ (files : List Interface) (x : List ℕ) (classes : List Id) (i : ℕ) (c : Id) (below : i < length classes) (at : c ≡ get_or classes i c) where
  pub declared-rest : declared_in files c x ≡ None → first_declared files (drop i classes) x ≡ first_declared files (drop (i + 1) classes) x
  declared-rest none =
      ap (λ l. first_declared files l x) (at_place classes i c below at) ∙ ap (λ f. or_else f (first_declared files (drop (i + 1) classes) x)) none

  pub declared-next : (old new : Noted) → declared_in files c x ≡ None → new ≡ with_looks old (declared_in_looks files c x)
      → with_looks new (first_declared_looks files (drop (i + 1) classes) x) ≡ with_looks old (first_declared_looks files (drop i classes) x)
  declared-next old new none is =
      past old new (declared_in_looks files c x) (first_declared_looks files (drop (i + 1) classes) x) (declared_in files c x) none is
      ∙ ap (λ l. with_looks old (first_declared_looks files l x)) (sym (at_place classes i c below at))

  pub assigned-rest : assigned_in files c x ≡ None → first_assigned files (drop i classes) x ≡ first_assigned files (drop (i + 1) classes) x
  assigned-rest none =
      ap (λ l. first_assigned files l x) (at_place classes i c below at) ∙ ap (λ f. or_else f (first_assigned files (drop (i + 1) classes) x)) none

  pub assigned-next : (old new : Noted) → assigned_in files c x ≡ None → new ≡ with_looks old (assigned_in_looks files c x)
      → with_looks new (first_assigned_looks files (drop (i + 1) classes) x) ≡ with_looks old (first_assigned_looks files (drop i classes) x)
  assigned-next old new none is =
      past old new (assigned_in_looks files c x) (first_assigned_looks files (drop (i + 1) classes) x) (assigned_in files c x) none is
      ∙ ap (λ l. with_looks old (first_assigned_looks files l x)) (sym (at_place classes i c below at))

module _ (files : List Interface) (x : List ℕ) (classes : List Id) (i : ℕ) (noted : Noted) (all : length classes ≤ i) where
  pub declared-end : noted ≡ with_looks noted (first_declared_looks files (drop i classes) x)
  declared-end = sym (with_none noted) ∙ ap (λ l. with_looks noted (first_declared_looks files l x)) (sym (drop_all i classes all))

  pub assigned-end : noted ≡ with_looks noted (first_assigned_looks files (drop i classes) x)
  assigned-end = sym (with_none noted) ∙ ap (λ l. with_looks noted (first_assigned_looks files l x)) (sym (drop_all i classes all))

-- where a class declares a name, what the others assign is not looked at
pub declared-found : (files : List Interface) (x : List ℕ) (classes others : List Id) (old begun new : Noted) (order more : List Look) (found : MemberAnswer)
    → begun ≡ with_looks old order → new ≡ with_looks begun (first_declared_looks files classes x) → first_declared files classes x ≡ Some found → classes ≡ others
    → new ≡ with_looks old (order ++ (first_declared_looks files others x ++ unless_found (first_declared files others x) more))
declared-found files x classes others old begun new order more found first then some same =
    let looked = first_declared_looks files classes x in
    then
    ∙ ap (λ n. with_looks n looked) first
    ∙ with_both old order looked
    ∙ ap (λ l. with_looks old (order ++ l)) (sym (append-nil looked))
    ∙ ap (λ f. with_looks old (order ++ (looked ++ unless_found f more))) (sym some)
    ∙ ap (λ l. with_looks old (order ++ (first_declared_looks files l x ++ unless_found (first_declared files l x) more))) same
