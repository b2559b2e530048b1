-- Names in Normalization Form KC (Python reference 3.13, "Identifiers and keywords": identifiers are compared in NFKC).
use Rattle.std.specs.Prelude.{ℕ, List, chars, encode_utf8_all}
use Rattle.unicode_normalization.specs.Forms.{nfkc}

-- a name in Normalization Form KC
abbrev pub nfkc_text : List ℕ → List ℕ
nfkc_text name = encode_utf8_all (nfkc (chars name))
