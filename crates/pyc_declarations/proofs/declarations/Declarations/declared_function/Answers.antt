use Rattle.pyc_ast.specs.StatementView.{function_of}
use Rattle.pyc_declarations.specs.Declarations.{declared_function}
use Rattle.pyc_declarations.specs.KindsView.{kinds_in}
use Rattle.pyc_declarations.specs.Looks.{function_looks, kind_looks}
use Rattle.pyc_names.specs.InterfaceView.{interface_in}
use Rattle.pyc_signatures.specs.Signatures.{function_type}
use Rattle.pyc_type_forms.specs.TypeView.{ty_of}
use Rattle.pyc_declarations.proofs.NotedLemmas.{looks_read}
use Rattle.pyc_declarations.proofs.ReadLemmas.{result_read}
use Rattle.pyc_declarations.proofs.declarations.Declarations.declared_function.Goals as goal

pub returns : goal.returns
unfolding declared_function function_looks
returns c =
    let r = function_type (interface_in c.args.file.now) (ty_of c.args.receiver) (function_of c.args.head.now) in
    record {
      found = result_read r _ _ _ _ c.new-recorder.ensures c.in_ok-ty.ensures.done;
      looks = looks_read (kind_looks (kinds_in c.args.self.now.kinds)) r _ _ _ _ _ _ _ c.new-recorder.ensures c.in_ok-ty.ensures.done c.keys.ensures c.in_ok-note_read.ensures;
    }
