-- Which keys ask no file.
use Rattle.std.proofs.Common.{not, refl, ap}
use Rattle.pyc_expression_laws.specs.FileKeys.{BuiltinKeysAskNoFile, FixedKeysAskNoFile}

pub builtin_keys : BuiltinKeysAskNoFile
builtin_keys c n = (refl, refl)

pub fixed_keys : FixedKeysAskNoFile
fixed_keys m x fixed = (ap (λ b. not b) fixed, ap (λ b. not b) fixed, ap (λ b. not b) fixed, ap (λ b. not b) fixed)
