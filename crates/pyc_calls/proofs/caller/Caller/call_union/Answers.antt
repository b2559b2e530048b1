use Rattle.std.proofs.Common.{◌+◌, ◌-◌, List, map, ap, sym, ◌∙◌}
use Rattle.std.proofs.lemmas.Result.{IfOk-weaker}
use Rattle.pyc_arguments.proofs.Parts.{read_once_is}
use Rattle.pyc_arguments.specs.Arguments.{Arg}
use Rattle.pyc_arguments.specs.Views.{args_in, call_in, read_in}
use Rattle.pyc_arguments.specs.declared.arguments.Arguments.{Arguments}
use Rattle.pyc_arguments.specs.declared.arguments.ReadArgument.{ReadArgument}
use Rattle.pyc_calls.proofs.WalkLemmas.{union_runs}
use Rattle.pyc_calls.specs.Called.{most_calls, typed}
use Rattle.pyc_calls.specs.Views.{count_of, memory_in}
use Rattle.pyc_calls.specs.Walks.{called_in}
use Rattle.pyc_obligations.proofs.Steps.{performs_same}
use Rattle.pyc_reading.proofs.RunLemmas.{grown_trans}
use Rattle.pyc_reading.specs.Traces.{Trace}
use Rattle.pyc_type_forms.specs.TypeView.{ty_of}
use Rattle.pyc_calls.proofs.caller.Caller.call_union.Goals as goal

pub returns-in_ok-read-in-Unread : goal.returns-in_ok-read-in-Unread
returns-in_ok-read-in-Unread g c =
    let depth = most_calls - (count_of c.args.memory + 1) in
    let call = call_in c.args.self.now.call.now in
    let memory = memory_in c.args.memory in
    let read = g.R.InferType.reads c.args.self.now.reader.now in
    let ty = ty_of c.args.union in
    let new = g.N.Ask.trace c.read_once.new.recorder in
    let at_new : List ReadArgument → List Arg × Trace = λ xs. (map read_in xs, new) in
    performs_same _ _ _ _ _ _ (ap (λ (arguments : Arguments). typed (called_in depth call memory (args_in read arguments) ty)) c.in-Unread.is) (record {
      done =
          IfOk-weaker c.call_with.result _ _ (λ given last. union_runs depth call memory _ ty _ _ _ c.requires.union (read_once_is c.deref.result.now) (c.in_ok-read-in-Unread.ensures.done ∙ ap at_new (sym c.deref.ensures.value)) ∙ last) c.call_with.ensures.done;
      grown = grown_trans c.read_once.ensures.grown c.call_with.ensures.grown;
    })
