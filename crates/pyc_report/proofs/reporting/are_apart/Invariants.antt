use Rattle.std.proofs.Common.{◌≡◌, List, ℕ, map, length, take, drop}
use denote.Shadow.{shadow}
use denote.Text.{Utf8}
use Rattle.std.specs.List.{concat}
use Rattle.pyc_report.specs.Report.{without_repeats}
use Rattle.pyc_report.proofs.reporting.are_apart.Given as goal

-- the pieces so far, each once, and the text after them
abbrev pub invariant-loop-length : goal.invariant-loop-length
invariant-loop-length l =
    shadow (Utf8 l.rest)
    × ((pieces : List (List ℕ)) → l.text ≡ concat pieces → l.lengths ≡ map length pieces
    → (map (λ piece. piece.now) l.pieces.keys ≡ without_repeats (take l.length-index pieces))
    × (l.rest ≡ concat (drop l.length-index pieces)))
