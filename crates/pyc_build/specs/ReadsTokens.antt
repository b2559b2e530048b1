-- How what the code answers goes with the grammar's definition.
use Rattle.std.specs.Prelude.{◌≡◌, ℕ, Bool, true, false, nat_le, List, Option, Some, None, Result, Ok, Err}
use Rattle.pyc_token.specs.declared.tokens.Token.{Token}
use Rattle.pyc_build.specs.declared.error.ParseError.{ParseError}
use Rattle.pyc_build.specs.declared.error.ParseError.TheVariants.{Refused, Memory}
use Rattle.pyc_tree.specs.Tree.{Tree}
use Rattle.pyc_tree.specs.Height.{height, max_height}
use Rattle.pyc_tree.specs.Parser.{Parsed}

-- a rule reads what the definition does and leaves the tokens that it leaves; a want of memory says nothing
abbrev pub ReadsTokens : {X A : Type 0} → (X → A) → Parsed A → Result X ParseError → List Token → Type 0
ReadsTokens view outcome (Ok x) new = outcome ≡ Some (view x, new)
ReadsTokens view outcome (Err Memory) new = Unit {0}
ReadsTokens view outcome (Err Refused) new = outcome ≡ None

-- a tree is made where it is no higher than the profile allows; a want of memory says nothing
abbrev pub Makes : {X : Type 0} → (X → Tree) → Tree → Result X ParseError → Type 0
Makes view t (Ok x) = (view x ≡ t) × (nat_le (height t) max_height ≡ true)
Makes view t (Err Memory) = Unit {0}
Makes view t (Err Refused) = nat_le (height t) max_height ≡ false

-- a line is read where the definition gives its tree, and refused where it gives none; a want of memory says nothing
abbrev pub AnswersLine : {X A : Type 0} → (X → A) → Option A → Result X ParseError → Type 0
AnswersLine view outcome (Ok x) = outcome ≡ Some (view x)
AnswersLine view outcome (Err Memory) = Unit {0}
AnswersLine view outcome (Err Refused) = outcome ≡ None
