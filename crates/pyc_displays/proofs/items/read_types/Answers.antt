use Rattle.std.proofs.lemmas.Grind.{common_steps}
use Rattle.pyc_displays.specs.Displays.{more_types}
use Rattle.pyc_obligations.proofs.Steps.{performing}
use Rattle.std.proofs.Common.{◌≡◌, ◌∙◌, ◌++◌, ◌∷◌, [], ap, map, Bor, arith, rules}
use Rattle.std.proofs.lemmas.List.{map_push}
use Rattle.std.specs.Option.{option_map}
use Rattle.pyc_ast.specs.declared.expr.Element.{Element}
use Rattle.pyc_ast.specs.ExprView.{expr_of}
use Rattle.pyc_displays.proofs.Parts.{lent}
use Rattle.pyc_displays.proofs.Turns.{type_turn}
use Rattle.pyc_reading.proofs.RunLemmas.{grown_trans}
use Rattle.pyc_reading.specs.Traces.{run}
use Rattle.pyc_type_forms.specs.declared.types.Ty.{Ty as TyOf}
use Rattle.pyc_type_forms.specs.TypeView.{ty_of}
use Rattle.pyc_displays.proofs.items.read_types.Goals as goal

pub loop-index-preserved : goal.loop-index-preserved
loop-index-preserved g c =
    let types = c.loop-index.types.items in
    let read = g.R.InferType.reads c.args.reader.now in
    let want = option_map (λ (ty : Bor TyOf). ty_of ty.now) c.get.result in
    let first : run (read (expr_of c.index-items-index.result.value) want) (g.N.Ask.trace c.loop-index.recorder) ≡ (ty_of c.in_ok-ty.ty, g.N.Ask.trace c.read.new.recorder) =
    ap (λ (x : Element). run (read (expr_of x.value) want) (g.N.Ask.trace c.loop-index.recorder)) c.index-items-index.is ∙ c.in_ok-ty.ensures.done in
    let pushed : map ty_of c.push.new.self.items ≡ map ty_of types ++ (ty_of c.in_ok-ty.ty ∷ []) = ap (map ty_of) c.in_ok-push.ensures.items ∙ map_push ty_of types c.in_ok-ty.ty in
    record {
      same =
          type_turn read (map ty_of c.args.places.now) (map ty_of types) _ c.args.items.now c.loop-index.index c.index-items-index.result want _ _ _ c.loop-index-test.true c.index-items-index.is (lent c.args.places.now c.loop-index.index c.get.result c.get.ensures.lookup) first pushed
          ∙ c.loop-index.invariant.same;
      grown = grown_trans c.loop-index.invariant.grown c.read.ensures.grown;
    }

pub returns-in_err-types : goal.returns-in_err-types
unfolding more_types
returns-in_err-types g c = first_of (grind (arith, performing), search rules)

pub returns-in_err-ty : goal.returns-in_err-ty
unfolding more_types
returns-in_err-ty g c = first_of (grind (arith, performing), search rules)

pub returns-in_err-push : goal.returns-in_err-push
unfolding more_types
returns-in_err-push g c = first_of (grind (arith, performing), search rules)

pub loop-index-init : goal.loop-index-init
unfolding more_types
loop-index-init g c = first_of (grind (arith, performing), search rules)

pub returns : goal.returns
unfolding more_types
returns g c = first_of (grind (arith, common_steps, performing), search rules)
