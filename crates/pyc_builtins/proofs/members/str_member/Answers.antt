use Rattle.std.proofs.Common.{arith, sym, ◌∙◌}
use Rattle.pyc_builtins.specs.Members.{str_members}
use Rattle.pyc_builtins.proofs.MemberLemmas.{no_member}
use Rattle.pyc_builtins.proofs.TableLemmas.{lookup-among}
use Rattle.pyc_builtins.proofs.members.str_member.Goals as goal

pub returns-in-4 : goal.returns-in-4
unfolding str_members
returns-in-4 c = c.value_in.ensures ∙ sym (lookup-among str_members 4 c.args.name.now c.in-4.is)

pub returns-in-5 : goal.returns-in-5
unfolding str_members
returns-in-5 c = c.value_in-in-5.ensures ∙ sym (lookup-among str_members 5 c.args.name.now c.in-5.is)

pub returns-in-6 : goal.returns-in-6
unfolding str_members
returns-in-6 c = c.value_in-in-6.ensures ∙ sym (lookup-among str_members 6 c.args.name.now c.in-6.is)

pub returns-in-7 : goal.returns-in-7
unfolding str_members
returns-in-7 c = c.value_in-in-7.ensures ∙ sym (lookup-among str_members 7 c.args.name.now c.in-7.is)

pub returns-in-8 : goal.returns-in-8
unfolding str_members
returns-in-8 c = c.value_in-in-8.ensures ∙ sym (lookup-among str_members 8 c.args.name.now c.in-8.is)

pub returns-in-9 : goal.returns-in-9
unfolding str_members
returns-in-9 c = c.value_in-in-9.ensures ∙ sym (lookup-among str_members 9 c.args.name.now c.in-9.is)

pub returns-in-10 : goal.returns-in-10
unfolding str_members
returns-in-10 c = c.value_in-in-10.ensures ∙ sym (lookup-among str_members 10 c.args.name.now c.in-10.is)

pub returns-in-11 : goal.returns-in-11
unfolding str_members
returns-in-11 c = c.value_in-in-11.ensures ∙ sym (lookup-among str_members 11 c.args.name.now c.in-11.is)

pub returns-in-12 : goal.returns-in-12
unfolding str_members
returns-in-12 c = c.value_in-in-12.ensures ∙ sym (lookup-among str_members 12 c.args.name.now c.in-12.is)

pub returns-in_default : goal.returns-in_default
returns-in_default c =
    sym (no_member c.args.name.now (omega arith) (omega arith) (omega arith) (omega arith) (omega arith) (omega arith) (omega arith) (omega arith) (omega arith))
