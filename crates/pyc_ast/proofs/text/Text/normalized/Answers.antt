use Rattle.std.proofs.Common.{◌∙◌, sym}
use Rattle.std.proofs.lemmas.Result.{IfOk-weaker}
use Rattle.pyc_ast.proofs.NameLemmas.{nfkc_text-ascii}
use Rattle.pyc_ast.proofs.text.Text.normalized.Goals as goal

pub returns-then-is_ascii : goal.returns-then-is_ascii
returns-then-is_ascii c =
    IfOk-weaker c.new.result _ _ (λ made is. is ∙ sym (nfkc_text-ascii c.args.name.now c.if-is_ascii.ensures.cases)) c.new.ensures
