use Rattle.std.proofs.Common.{◌≡◌, ℕ, Bool, true, false, List, nat_eq, sym, ap, ◌∙◌, IsAscii}
use Rattle.std.specs.Bool.{OnTrue}
use Rattle.std.specs.Cmp.Lexicographic.{pointwise, same_text}
use Rattle.pyc_ast.specs.Names.{nfkc_text}
use Rattle.pyc_ast.proofs.NameLemmas.{nfkc_text-ascii}
use Rattle.pyc_lower_atom.proofs.names.is_spelled.Goals as goal

spelled : (b : Bool) (name text : List ℕ) → b ≡ pointwise nat_eq name text → IsAscii text → OnTrue b (name ≡ nfkc_text text)
spelled true name text e low = same_text name text e ∙ sym (nfkc_text-ascii text low)
spelled false name text e low = tt

pub returns-then-is_ascii : goal.returns-then-is_ascii
returns-then-is_ascii c = spelled c.eq.result c.args.name.now c.args.text.now (c.eq.ensures ∙ ap (λ name. pointwise nat_eq name c.args.text.now) c.as_str.ensures) c.if-is_ascii.ensures.cases
