use Rattle.std.proofs.Common.{arith, sym, ◌∙◌}
use Rattle.pyc_builtins.specs.Names.{builtin_names, builtin_name}
use Rattle.pyc_builtins.proofs.NameLemmas.{no_name}
use Rattle.pyc_builtins.proofs.TableLemmas.{lookup-among}
use Rattle.pyc_builtins.proofs.names.name_of_bytes.Goals as goal

pub returns-in-2 : goal.returns-in-2
unfolding builtin_names builtin_name
returns-in-2 c = c.value_in.ensures ∙ sym (lookup-among builtin_names 2 c.args.name.now c.in-2.is)

pub returns-in-3 : goal.returns-in-3
unfolding builtin_names builtin_name
returns-in-3 c = c.value_in-in-3.ensures ∙ sym (lookup-among builtin_names 3 c.args.name.now c.in-3.is)

pub returns-in-4 : goal.returns-in-4
unfolding builtin_names builtin_name
returns-in-4 c = c.value_in-in-4.ensures ∙ sym (lookup-among builtin_names 4 c.args.name.now c.in-4.is)

pub returns-in-5 : goal.returns-in-5
unfolding builtin_names builtin_name
returns-in-5 c = c.value_in-in-5.ensures ∙ sym (lookup-among builtin_names 5 c.args.name.now c.in-5.is)

pub returns-in-6 : goal.returns-in-6
unfolding builtin_names builtin_name
returns-in-6 c = c.value_in-in-6.ensures ∙ sym (lookup-among builtin_names 6 c.args.name.now c.in-6.is)

pub returns-in-7 : goal.returns-in-7
unfolding builtin_names builtin_name
returns-in-7 c = c.value_in-in-7.ensures ∙ sym (lookup-among builtin_names 7 c.args.name.now c.in-7.is)

pub returns-in-8 : goal.returns-in-8
unfolding builtin_names builtin_name
returns-in-8 c = c.value_in-in-8.ensures ∙ sym (lookup-among builtin_names 8 c.args.name.now c.in-8.is)

pub returns-in-9 : goal.returns-in-9
unfolding builtin_names builtin_name
returns-in-9 c = c.value_in-in-9.ensures ∙ sym (lookup-among builtin_names 9 c.args.name.now c.in-9.is)

pub returns-in-10 : goal.returns-in-10
unfolding builtin_names builtin_name
returns-in-10 c = c.value_in-in-10.ensures ∙ sym (lookup-among builtin_names 10 c.args.name.now c.in-10.is)

pub returns-in-11 : goal.returns-in-11
unfolding builtin_names builtin_name
returns-in-11 c = c.value_in-in-11.ensures ∙ sym (lookup-among builtin_names 11 c.args.name.now c.in-11.is)

pub returns-in-12 : goal.returns-in-12
unfolding builtin_names builtin_name
returns-in-12 c = c.value_in-in-12.ensures ∙ sym (lookup-among builtin_names 12 c.args.name.now c.in-12.is)

pub returns-in-13 : goal.returns-in-13
unfolding builtin_names builtin_name
returns-in-13 c = c.value_in-in-13.ensures ∙ sym (lookup-among builtin_names 13 c.args.name.now c.in-13.is)

pub returns-in-14 : goal.returns-in-14
unfolding builtin_names builtin_name
returns-in-14 c = c.value_in-in-14.ensures ∙ sym (lookup-among builtin_names 14 c.args.name.now c.in-14.is)

pub returns-in-15 : goal.returns-in-15
unfolding builtin_names builtin_name
returns-in-15 c = c.value_in-in-15.ensures ∙ sym (lookup-among builtin_names 15 c.args.name.now c.in-15.is)

pub returns-in-16 : goal.returns-in-16
unfolding builtin_names builtin_name
returns-in-16 c = c.value_in-in-16.ensures ∙ sym (lookup-among builtin_names 16 c.args.name.now c.in-16.is)

pub returns-in-17 : goal.returns-in-17
unfolding builtin_names builtin_name
returns-in-17 c = c.value_in-in-17.ensures ∙ sym (lookup-among builtin_names 17 c.args.name.now c.in-17.is)

pub returns-in-18 : goal.returns-in-18
unfolding builtin_names builtin_name
returns-in-18 c = c.value_in-in-18.ensures ∙ sym (lookup-among builtin_names 18 c.args.name.now c.in-18.is)

pub returns-in-19 : goal.returns-in-19
unfolding builtin_names builtin_name
returns-in-19 c = c.value_in-in-19.ensures ∙ sym (lookup-among builtin_names 19 c.args.name.now c.in-19.is)

pub returns-in-20 : goal.returns-in-20
unfolding builtin_names builtin_name
returns-in-20 c = c.value_in-in-20.ensures ∙ sym (lookup-among builtin_names 20 c.args.name.now c.in-20.is)

pub returns-in-21 : goal.returns-in-21
unfolding builtin_names builtin_name
returns-in-21 c = c.value_in-in-21.ensures ∙ sym (lookup-among builtin_names 21 c.args.name.now c.in-21.is)

pub returns-in-22 : goal.returns-in-22
unfolding builtin_names builtin_name
returns-in-22 c = c.value_in-in-22.ensures ∙ sym (lookup-among builtin_names 22 c.args.name.now c.in-22.is)

pub returns-in-23 : goal.returns-in-23
unfolding builtin_names builtin_name
returns-in-23 c = c.value_in-in-23.ensures ∙ sym (lookup-among builtin_names 23 c.args.name.now c.in-23.is)

pub returns-in-25 : goal.returns-in-25
unfolding builtin_names builtin_name
returns-in-25 c = c.value_in-in-25.ensures ∙ sym (lookup-among builtin_names 25 c.args.name.now c.in-25.is)

pub returns-in_default : goal.returns-in_default
unfolding builtin_name
returns-in_default c =
    sym (no_name c.args.name.now (omega arith) (omega arith) (omega arith) (omega arith) (omega arith) (omega arith) (omega arith) (omega arith) (omega arith) (omega arith) (omega arith) (omega arith) (omega arith) (omega arith) (omega arith) (omega arith) (omega arith) (omega arith) (omega arith) (omega arith) (omega arith) (omega arith) (omega arith))
