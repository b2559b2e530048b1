use Rattle.std.proofs.Common.{◌<◌, length, sym, ap, ◌∙◌, arith}
use Rattle.std.proofs.lemmas.List.{get_or-map, length-map}
use Rattle.pyc_workspace.specs.Files.{file_in, files_in}
use Rattle.std.specs.List.{remove}
use Rattle.pyc_workspace.proofs.WorkspaceLemmas.{in_order-remove, map-remove}
use Rattle.pyc_workspace.proofs.files.Files.remove.Goals as goal

pub invariant_of-self : goal.invariant_of-self
invariant_of-self c =
    rw (c.remove.ensures.items, map-remove (λ f. file_in f.value) c.self.inside.files.items c.args.at) (in_order-remove (files_in c.self.inside.files.items) c.args.at c.self.invariant)

pub returns-clause-value : goal.returns-clause-value
returns-clause-value c =
    let gone = file_in c.remove.result.value in
    let within : c.args.at < length c.self.inside.files.items = omega (arith, c.requires, ap length c.self.view_is, length-map c.self.inside.files.items (λ f. file_in f.value)) in
    rw (← c.self.view_is) (ap (λ f. file_in f.value) c.remove.ensures.value ∙ sym (get_or-map (λ f. file_in f.value) c.self.inside.files.items c.args.at c.remove.result gone within))

pub returns-clause-after : goal.returns-clause-after
returns-clause-after c =
    ap files_in c.remove.ensures.items ∙ map-remove (λ f. file_in f.value) c.self.inside.files.items c.args.at ∙ ap (λ fs. remove fs c.args.at) c.self.view_is

pub returns-clause-ordered : goal.returns-clause-ordered
returns-clause-ordered c =
    rw (c.remove.ensures.items, map-remove (λ f. file_in f.value) c.self.inside.files.items c.args.at) (in_order-remove (files_in c.self.inside.files.items) c.args.at c.self.invariant)
