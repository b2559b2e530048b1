use Rattle.pyc_ast.specs.Modules.{outcome_of}
use Rattle.pyc_names.proofs.FileLemmas.{fault_made, file_made}
use Rattle.pyc_names.proofs.source_file.SourceFile.new.Goals as goal

pub invariant_of-result : goal.invariant_of-result
invariant_of-result c =
    record { fault_is = fault_made c.args.path.now (outcome_of c.args.outcome) c.in_ok-interface.interface c.in_ok-interface.ensures _ c.in_ok-new.ensures.ok }

pub returns : goal.returns
returns c =
    file_made c.args.path.now (outcome_of c.args.outcome) c.in_ok-interface.interface c.in_ok-interface.ensures _ c.in_ok-new.field-0.value _
    c.in_ok-from_str.ensures.ok c.in_ok-new.ensures.ok c.in_ok-again.ensures
