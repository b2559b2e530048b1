use Rattle.std.proofs.Common.{ap, ◌∙◌}
use Rattle.pyc_annotations.specs.Annotations.{Annotation, read_type}
use Rattle.pyc_ast.specs.ExprView.{expr_of}
use Rattle.pyc_declarations.specs.Declarations.{annotated_type}
use Rattle.pyc_declarations.specs.KindsView.{kinds_in}
use Rattle.pyc_declarations.specs.Looks.{annotated_looks, kind_looks}
use Rattle.pyc_names.specs.InterfaceView.{interface_in}
use Rattle.pyc_type_exprs.specs.TypeExprs.{type_expr}
use Rattle.pyc_declarations.proofs.NotedLemmas.{looks_read}
use Rattle.pyc_declarations.proofs.ReadLemmas.{result_read}
use Rattle.pyc_declarations.proofs.declarations.Declarations.annotated_type.Goals as goal

pub returns : goal.returns
unfolding annotated_type annotated_looks
returns c =
    let r = read_type (interface_in c.args.file.now) (type_expr (expr_of c.args.annotation.now)) in
    record {
      found = c.type_in.ensures ∙ ap (λ (found : Annotation). found.ty) (result_read r _ _ _ _ c.new-recorder.ensures c.in_ok-found.ensures.done);
      looks = looks_read (kind_looks (kinds_in c.args.self.now.kinds)) r _ _ _ _ _ _ _ c.new-recorder.ensures c.in_ok-found.ensures.done c.keys.ensures c.in_ok-note_read.ensures;
    }
