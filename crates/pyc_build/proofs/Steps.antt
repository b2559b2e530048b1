-- Steps that the proofs of the grammar's rules share.
use Rattle.std.proofs.Common.{◌≡◌, refl, ap, sym, ◌∙◌, Bool, true, false, if◌then◌else◌, List, Option, Some, None, Result, Ok, Err, IsErrAnd, subst}
use Rattle.pyc_token.specs.declared.tokens.Token.{Token}
use Rattle.pyc_build.specs.declared.error.ParseError.{ParseError}
use Rattle.pyc_build.specs.declared.error.ParseError.TheVariants.{Refused, Memory}
use Rattle.pyc_tree.specs.Tree.{Tree}
use Rattle.pyc_tree.specs.Parser.{Parsed, made}
use Rattle.pyc_build.specs.ReadsTokens.{ReadsTokens, Makes}

-- what is made last is what the rule reads
pub ReadsTokens_made : (X : Type 0) (view : X → Tree) (t : Tree) (o : Parsed Tree) (r : Result X ParseError) (new : List Token)
    → Makes view t r → o ≡ made t new → ReadsTokens view o r new
unfolding made
ReadsTokens_made X view t o (Ok x) new h e =
    e ∙ (ap (λ b. if b then Some (t, new) else None) h.1 ∙ ap {B = Parsed Tree} (λ s. Some (s, new)) (sym h.0))
ReadsTokens_made X view t o (Err Memory) new h e = tt
ReadsTokens_made X view t o (Err Refused) new h e = e ∙ ap (λ b. if b then Some (t, new) else None) h

-- what a part refuses, the rule refuses, and a want of memory is passed on
pub ReadsTokens_err : {X Y A B : Type 0} (view : X → A) (own : Y → B) (o : Parsed A) (whole : Parsed B) (fault : ParseError) (r : Result Y ParseError) (new later : List Token)
    → ReadsTokens view o (Err fault) new → IsErrAnd r (λ reported. reported ≡ fault) → (o ≡ None → whole ≡ None) → ReadsTokens own whole r later
ReadsTokens_err view own o whole fault (Ok y) new later part is refuses = absurd is
ReadsTokens_err view own o whole Memory (Err reported) new later part is refuses = subst (λ x. ReadsTokens own whole (Err x) later) (sym is) tt
ReadsTokens_err view own o whole Refused (Err reported) new later part is refuses = subst (λ x. ReadsTokens own whole (Err x) later) (sym is) (refuses part)
