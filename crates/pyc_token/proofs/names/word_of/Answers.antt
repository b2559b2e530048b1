use Rattle.std.proofs.lemmas.Grind.{common_steps}
use Rattle.std.proofs.Common.{◌∙◌, ap, sym, arith, rules}
use Rattle.pyc_token.specs.Names.{word_of, word_in}
use Rattle.pyc_token.proofs.NameLemmas.{nfkc_text-ascii}
use Rattle.pyc_token.proofs.names.word_of.Goals as goal

pub returns-then-is_ascii : goal.returns-then-is_ascii
unfolding word_of
returns-then-is_ascii c =
    c.word_in.ensures ∙ ap word_in c.as_bytes.ensures.value ∙ sym (ap word_in (nfkc_text-ascii c.args.name.now c.if-is_ascii.ensures.cases))

pub returns : goal.returns
unfolding word_of
returns c = first_of (grind (arith, common_steps), search rules)

pub returns-in_err-normal : goal.returns-in_err-normal
unfolding word_of
returns-in_err-normal c = first_of (grind (arith, common_steps), search rules)
