-- How a line ends.
use Rattle.std.proofs.Common.{◌≡◌, ◌≤◌, ◌<◌, ◌-◌, ◌&&◌, ℕ, suc, Bool, true, false, List, [], ◌∷◌, length, refl, ap, sym, ◌∙◌, arith}
use Rattle.std.proofs.Math.ListN.{get_or}
use Rattle.pyc_token.specs.declared.tokens.Arithmetic.TheVariants as op
use Rattle.pyc_token.specs.declared.tokens.Keyword.TheVariants as word
use Rattle.pyc_token.specs.declared.tokens.Kind.TheVariants as kind
use Rattle.pyc_token.specs.declared.tokens.Token.{Token}
use Rattle.pyc_tree.specs.Kinds.{same_kind}
use Rattle.pyc_line.specs.LineFault.{ends_with_star_import}

last_two : (ts : List Token) (d f : Token) → 2 ≤ length ts
    → ends_with_star_import ts ≡ same_kind (get_or ts (length ts - 2) d).kind (kind.Keyword word.Import) && same_kind (get_or ts (length ts - 1) f).kind (kind.Arithmetic op.Star)
last_two [] d f some = absurd (omega (arith, some))
last_two (a ∷ []) d f some = absurd (omega (arith, some))
last_two (a ∷ b ∷ []) d f some = refl
last_two (a ∷ b ∷ c ∷ ts) d f some =
    let before : length (a ∷ b ∷ c ∷ ts) - 2 ≡ suc (length (b ∷ c ∷ ts) - 2) = omega arith in
    let end : length (a ∷ b ∷ c ∷ ts) - 1 ≡ suc (length (b ∷ c ∷ ts) - 1) = omega arith in
    rw (before, end) (last_two (b ∷ c ∷ ts) d f (omega arith))

pub star_import_last : (ts : List Token) (d f : Token) (x y : Bool) → 2 ≤ length ts → x ≡ same_kind (get_or ts (length ts - 2) d).kind (kind.Keyword word.Import)
    → y ≡ same_kind (get_or ts (length ts - 1) f).kind (kind.Arithmetic op.Star) → x ≡ true → y ≡ ends_with_star_import ts
star_import_last ts d f x y some first second is =
    second ∙ (ap (λ b. b && same_kind (get_or ts (length ts - 1) f).kind (kind.Arithmetic op.Star)) (sym (sym first ∙ is)) ∙ sym (last_two ts d f some))

pub star_import_not : (ts : List Token) (d : Token) (x : Bool) → 2 ≤ length ts → x ≡ same_kind (get_or ts (length ts - 2) d).kind (kind.Keyword word.Import)
    → x ≡ false → x ≡ ends_with_star_import ts
star_import_not ts d x some first is =
    is ∙ (ap (λ b. b && same_kind (get_or ts (length ts - 1) d).kind (kind.Arithmetic op.Star)) (sym (sym first ∙ is)) ∙ sym (last_two ts d d some))

pub star_import_short : (ts : List Token) → length ts < 2 → false ≡ ends_with_star_import ts
star_import_short [] few = refl
star_import_short (a ∷ []) few = refl
star_import_short (a ∷ b ∷ ts) few = absurd (omega (arith, few))
