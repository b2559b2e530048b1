use Rattle.std.proofs.Common.{sym, ap, ◌∙◌}
use Rattle.pyc_declarations.specs.KindsView.{kinds_in}
use Rattle.pyc_names.specs.InterfaceView.{interface_in}
use Rattle.pyc_names.specs.NotedLooks.{with_looks}
use Rattle.pyc_names.proofs.NotedLemmas.{with_none}
use Rattle.pyc_declarations.proofs.AliasLemmas.{unnamed_is_no_alias, unnamed_looks_at_none}
use Rattle.pyc_declarations.proofs.kinds.Kinds.is_alias_type.Goals as goal

pub returns-in_default : goal.returns-in_default
returns-in_default c =
    let files = kinds_in c.args.self.now in
    let file = interface_in c.args.file.now in
    record {
      found = unnamed_is_no_alias files file c.args.written.now c.in_default.not-Name;
      looks = sym (with_none _) ∙ ap (with_looks _) (unnamed_looks_at_none files file c.args.written.now c.in_default.not-Name);
    }
