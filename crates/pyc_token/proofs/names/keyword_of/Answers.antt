use Rattle.std.proofs.Common.{arith, sym, ◌∙◌}
use Rattle.pyc_token.specs.Names.{keywords, keyword_of}
use Rattle.pyc_token.proofs.KeywordLemmas.{keyword_among, no_keyword}
use Rattle.pyc_token.proofs.names.keyword_of.Goals as goal

pub returns-in-2 : goal.returns-in-2
unfolding keywords keyword_of
returns-in-2 c = c.keyword_in.ensures ∙ sym (keyword_among 2 c.args.name.now c.in-2.is)

pub returns-in-3 : goal.returns-in-3
unfolding keywords keyword_of
returns-in-3 c = c.keyword_in-in-3.ensures ∙ sym (keyword_among 3 c.args.name.now c.in-3.is)

pub returns-in-4 : goal.returns-in-4
unfolding keywords keyword_of
returns-in-4 c = c.keyword_in-in-4.ensures ∙ sym (keyword_among 4 c.args.name.now c.in-4.is)

pub returns-in-5 : goal.returns-in-5
unfolding keywords keyword_of
returns-in-5 c = c.keyword_in-in-5.ensures ∙ sym (keyword_among 5 c.args.name.now c.in-5.is)

pub returns-in-6 : goal.returns-in-6
unfolding keywords keyword_of
returns-in-6 c = c.keyword_in-in-6.ensures ∙ sym (keyword_among 6 c.args.name.now c.in-6.is)

pub returns-in-7 : goal.returns-in-7
unfolding keywords keyword_of
returns-in-7 c = c.keyword_in-in-7.ensures ∙ sym (keyword_among 7 c.args.name.now c.in-7.is)

pub returns-in-8 : goal.returns-in-8
unfolding keywords keyword_of
returns-in-8 c = c.keyword_in-in-8.ensures ∙ sym (keyword_among 8 c.args.name.now c.in-8.is)

pub returns-in_default : goal.returns-in_default
unfolding keyword_of
returns-in_default c =
    sym (no_keyword c.args.name.now (omega arith) (omega arith) (omega arith) (omega arith) (omega arith) (omega arith) (omega arith))
