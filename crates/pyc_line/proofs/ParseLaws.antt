-- What a tree of a line says of all well-formed ones.
use Rattle.std.proofs.Common.{◌≡◌, Bool, true, false, List, Option, Some, None, ap, sym, ◌∙◌, true≢false}
use Rattle.pyc_token.specs.declared.tokens.Token.{Token}
use Rattle.pyc_tree.specs.Headers.{line_tree}
use Rattle.pyc_tree.specs.Lines.{Line, line_yield}
use Rattle.pyc_tree.specs.WellLines.{IsWellLine}
use Rattle.pyc_line.specs.ReadsExactly.{ReadsExactly}
use Rattle.pyc_line.proofs.CompleteLines.{line_complete}
use Rattle.pyc_line.proofs.SoundLines.{line_sound}

abbrev found_or : Line → Option Line → Line
found_or other None = other
found_or other (Some found) = found

abbrev is_found : Option Line → Bool
is_found None = false
is_found (Some _) = true

pub only_tree : (ts : List Token) (found other : Line) → line_tree ts ≡ Some found → IsWellLine other → line_yield other ≡ ts → found ≡ other
only_tree ts found other is well text = ap (found_or other) (sym is ∙ line_complete ts other well text)

pub no_tree : (ts : List Token) → line_tree ts ≡ None → (other : Line) → IsWellLine other → line_yield other ≡ ts → ⊥
no_tree ts is other well text = true≢false (sym (ap is_found (sym is ∙ line_complete ts other well text)))

-- what is read is well-formed, and what is well-formed is read
pub reads_exactly : ReadsExactly
reads_exactly ts line =
    (λ is. let sound = line_sound ts line is in (sound.0, sound.2, sound.1), λ of. line_complete ts line of.0 of.2)
