use Rattle.std.proofs.Common.{◌<◌, Some, None, length, sym, ap, ◌∙◌, arith}
use Rattle.pyc_names.specs.InterfaceView.{interface_in}
use Rattle.pyc_names.proofs.PlaceLemmas.{module_within, module_at, source_at}
use Rattle.pyc_names.proofs.table.Table.file.Goals as goal

pub index-requires : goal.index-requires
index-requires c =
    let files = c.args.self.now.files in
    let within : c.in-Some.place.now < length files.items = module_within files.items c.args.parts.now c.in-Some.place.now (sym (c.in-Some.ensures.value ∙ c.args.self.now.places_are c.args.parts.now)) in
    omega (arith, files.ok.0)

pub returns-in-Some : goal.returns-in-Some
returns-in-Some c =
    let files = c.args.self.now.files in
    let placed = c.in-Some.ensures.value ∙ c.args.self.now.places_are c.args.parts.now in
    let within : c.in-Some.place.now < length files.items = module_within files.items c.args.parts.now c.in-Some.place.now (sym placed) in
    ap (λ f. Some (interface_in f)) c.deref.ensures
    ∙ source_at files.items c.in-Some.place.now c.index.result.now within c.index.ensures
    ∙ module_at files.items c.args.parts.now (Some c.in-Some.place.now) placed

pub returns-in-None : goal.returns-in-None
returns-in-None c = module_at c.args.self.now.files.items c.args.parts.now None (c.in-None.ensures.value ∙ c.args.self.now.places_are c.args.parts.now)
