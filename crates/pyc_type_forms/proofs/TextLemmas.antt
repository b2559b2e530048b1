-- What stands between the brackets of a tuple that is not empty.
use Rattle.std.proofs.Common.{◌≡◌, ◌==◌, false, List, [], ◌∷◌, length, codes, refl, sym}
use Rattle.std.proofs.lemmas.Bool.{false≢true}
use Rattle.pyc_type_forms.specs.declared.types.Ty.{Ty}
use Rattle.pyc_type_forms.specs.TypeView.{row}
use Rattle.pyc_type_forms.specs.Text.{texts_of, tuple_text, joined}

pub tuple_text-items : (items : List Ty) → (length items == 0) ≡ false
    → tuple_text (texts_of (row items)) ≡ joined (codes ", ") (texts_of (row items))
tuple_text-items [] empty = absurd (false≢true (sym empty))
tuple_text-items (item ∷ items) empty = refl
