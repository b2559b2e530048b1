use Rattle.std.proofs.Common.{◌≡◌, map, flat_map, ap, ◌∙◌}
use Rattle.pyc_annotations.specs.Bases.{bases}
use Rattle.pyc_ast.specs.ExprView.{argument_of}
use Rattle.pyc_declarations.specs.ClassEntries.{written_base, written_bases}
use Rattle.pyc_declarations.specs.Declarations.{declared_answer}
use Rattle.pyc_declarations.specs.KindsView.{declarations_in}
use Rattle.pyc_declarations.specs.Looks.{bases_looks, declared_looks, fixed_looks}
use Rattle.pyc_names.specs.FixedModules.{fixed_module}
use Rattle.pyc_names.specs.InterfaceView.{interface_in}
use Rattle.pyc_names.specs.NotedLooks.{with_looks}
use Rattle.pyc_names.specs.NotedLooksView.{noted_in}
use Rattle.pyc_names.proofs.NotedLemmas.{with_both}
use Rattle.pyc_reading.specs.Readings.{asked}
use Rattle.pyc_declarations.proofs.NotedLemmas.{looks_read}
use Rattle.pyc_declarations.proofs.ReadLemmas.{result_read}
use Rattle.pyc_declarations.proofs.declarations.Declarations.written_bases.Goals as goal

pub returns : goal.returns
unfolding written_bases bases_looks
returns c =
    let file = interface_in c.args.file.now in
    let r = bases file (map argument_of c.args.arguments.now) in
    let files = declarations_in c.args.self.now in
    let read = flat_map (declared_looks files) (asked (declared_answer files) r) in
    let named : c.parts.result.now ≡ file.name = c.parts.ensures ∙ c.name.ensures in
    let before = noted_in c.args.looks.now in
    record {
      bases = c.in_ok-bases.ensures ∙ ap (map written_base) (result_read r _ _ _ _ c.new-recorder.ensures c.in_ok-found.ensures.done);
      looks = looks_read (declared_looks files) r _ _ _ _ _ _ _ c.new-recorder.ensures c.in_ok-found.ensures.done c.keys.ensures c.in_ok-note_read.ensures
          ∙ ap (λ noted. with_looks noted read) (c.in_ok-note_fixed.ensures ∙ ap (λ m. with_looks before (fixed_looks m (fixed_module m))) named)
          ∙ with_both before (fixed_looks file.name (fixed_module file.name)) read;
    }
