-- What some constructors of the code are as plain targets and parts of them.
use Rattle.std.proofs.Common.{◌≡◌, rules, ℕ, Bool, List, map}
use Rattle.std.specs.declared.alloc.Global.{Global}
use Rattle.std.specs.declared.vec.Vec.{Vec}
use Rattle.pyc_ast.specs.declared.target.Target.{Target}
use Rattle.pyc_ast.specs.declared.target.TargetElement.{TargetElement, roll-TargetElement}
use Rattle.pyc_ast.specs.declared.target.TargetForm.TheFolds.{the_lemmas}
use Rattle.pyc_ast.specs.declared.target.TargetForm.TheVariants as t
use Rattle.pyc_ast.specs.Targets.{target_elements}
use Rattle.pyc_ast.specs.Targets as to
use Rattle.pyc_ast.specs.TargetView.{target_form_of, target_of, target_element_of}

pub view_TargetName : (n : List ℕ) → target_form_of (t.Name n) ≡ to.name n
view_TargetName n = search (rules, the_lemmas)

pub view_Unpacking : (xs : Vec TargetElement Global) → target_form_of (t.Unpacking xs) ≡ to.unpacking (target_elements (map target_element_of xs.items))
view_Unpacking xs = search (rules, the_lemmas)

pub view_target_element : (starred : Bool) (x : Target) → target_element_of (roll-TargetElement (record { is_starred = starred; target = x })) ≡ to.target_element starred (target_of x)
view_target_element starred x = search (rules, the_lemmas)

-- what the forms of targets and their elements are as plain ones
pub ruleset target_views = (view_TargetName, view_Unpacking, view_target_element)
