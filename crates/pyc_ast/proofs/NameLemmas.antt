-- Names in ASCII.
use Rattle.std.proofs.Common.{◌≡◌, ℕ, suc, ◌<◌, List, [], ◌∷◌, All, IsAscii, encode_utf8_all, ap, ◌∙◌}
use Rattle.std.proofs.lemmas.List.Elements.{All-nil, All-cons}
use Rattle.std.proofs.lemmas.Str.{chars-IsAscii, encodes-IsAscii}
use Rattle.unicode_normalization.specs.Forms.{Nfkc, nfkc}
use Rattle.unicode_normalization.proofs.FormsLemmas.{normalize-ascii}
use Rattle.pyc_ast.specs.Names.{nfkc_text}

ascii_each : (text : List ℕ) → IsAscii text → All (λ c. c < 128) text
ascii_each [] low = All-nil (λ c. c < 128)
ascii_each (c ∷ cs) low = All-cons (λ c. c < 128) c cs (low 0) (ascii_each cs (λ k. low (suc k)))

-- a name in ASCII is in Normalization Form KC
pub nfkc_text-ascii : (text : List ℕ) → IsAscii text → nfkc_text text ≡ text
nfkc_text-ascii text low =
    ap (λ cs. encode_utf8_all (nfkc cs)) (chars-IsAscii text low) ∙ ap encode_utf8_all (normalize-ascii Nfkc text (ascii_each text low)) ∙ encodes-IsAscii text low

pub ruleset nfkc_names = (nfkc_text-ascii)
