-- The test and the rules agree.
use Rattle.std.proofs.Common.{◌≡◌, Bool, true, false, IsTrue, ◌↔◌, refl, sym}
use Rattle.pyc_class_ids.specs.Mro.{MroTable}
use Rattle.pyc_type_forms.specs.Types.{Ty}
use Rattle.pyc_types.specs.Assignable.{Assignable}
use Rattle.pyc_types.specs.Ways.{ways, assignable, MeetsTheRules}
use Rattle.pyc_types.proofs.Complete.{complete}
use Rattle.pyc_types.proofs.Sound.{sound}

pub meets_the_rules : MeetsTheRules
meets_the_rules o got want = ((sound o got want).0, λ leads. (complete leads).0)

-- an answer that equals the test's agrees with the rules
pub answer_meets_the_rules : (o : MroTable) (got want : Ty) (answer : Bool) → answer ≡ assignable o got want → IsTrue answer ↔ Assignable o got want
answer_meets_the_rules o got want answer same = rw same (meets_the_rules o got want)

-- two tests are one where each follows from the other
pub same_tests : (x y : Bool) → (x ≡ true → y ≡ true) → (y ≡ true → x ≡ true) → x ≡ y
same_tests true y there back = sym (there refl)
same_tests false true there back = back refl
same_tests false false there back = refl

-- the way back is the way there, asked the other way round
pub turned : (o : MroTable) (a b : Ty) → (ways o a b).back ≡ (ways o b a).there
turned o a b = same_tests _ _ (λ h. (complete ((sound o a b).1 h)).0) (λ h. (complete ((sound o b a).0 h)).1)
