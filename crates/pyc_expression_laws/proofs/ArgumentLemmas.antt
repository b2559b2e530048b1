-- What arguments ask, where to read each of them asks files alone.
use Rattle.std.proofs.Common.{ℕ, Bool, true, false, List, [], ◌∷◌, ◌++◌, map, Option, None, Some, sym, subst}
use Rattle.std.specs.List.{list_any}
use Rattle.pyc_arguments.specs.Arguments.{Arg, Reads, all_read, given_by, is_unpacked, more_read, once_read, read_once, unread}
use Rattle.pyc_arguments.specs.Matched.{Filling, argument_matched, argument_required, argument_read, argument_taken, arguments_matched, filling_reported, matched, matched_unless, missing_reported, name_refused, no_filling, number_after, plainly_matched, report_refused, too_many_reported, wanted}
use Rattle.pyc_arguments.specs.Reporting.{Call, required_argument}
use Rattle.pyc_ast.specs.declared.position.Position.{Position}
use Rattle.pyc_ast.specs.Exprs.{Argument, Expr, argument}
use Rattle.pyc_matching.specs.Matching.{Given, Match, by_name, by_place, match_of, repeated, unexpected}
use Rattle.pyc_matching.specs.Missing.{missing}
use Rattle.pyc_expression_laws.specs.Rows.{Answers}
use Rattle.pyc_reading.specs.Readings.{result_of}
use Rattle.pyc_expression_laws.proofs.ObligationKeyLemmas.{of-required}
use Rattle.pyc_expression_laws.proofs.StepLemmas.{Files, files_done, files_each, files_report, files_then, result-and_then}
use Rattle.pyc_type_forms.specs.Types.{Listed, Params, Ty, dots, listed}

-- ---- arguments

-- to read each of some arguments asks files alone
abbrev pub ArgsAskFiles : List Arg → Type 0
ArgsAskFiles [] = Unit {0}
ArgsAskFiles (x ∷ xs) = ((want : Option Ty) → Files (x.got want)) × ArgsAskFiles xs

pub of-unread : (read : Reads) → ((x : Expr) (want : Option Ty) → Files (read x want)) → (arguments : List Argument) → ArgsAskFiles (map (unread read) arguments)
of-unread read reads [] = tt
of-unread read reads (argument at kind x ∷ rest) = (reads x, of-unread read reads rest)

of-more : (xs ys : List Arg) → ArgsAskFiles xs → ArgsAskFiles ys → ArgsAskFiles (xs ++ ys)
of-more [] ys first second = second
of-more (x ∷ xs) ys (one, first) second = (one, of-more xs ys first second)

pub of-all_read : (args : List Arg) → ArgsAskFiles args → Files (all_read args)
unfolding all_read
of-all_read [] all = files_done
of-all_read (x ∷ xs) (one, rest) = files_then _ _ (one None) (λ ty. of-all_read xs rest)

of-more_read : (before args : List Arg) → ArgsAskFiles args → Files (more_read before args)
unfolding more_read
of-more_read before [] all = files_done
of-more_read before (x ∷ xs) (one, rest) = files_then _ _ (one None) (λ ty. of-more_read (before ++ (once_read x ty ∷ [])) xs rest)

pub of-read_once : (args : List Arg) → ArgsAskFiles args → Files (read_once args)
of-read_once args all = of-more_read [] args all

-- arguments that are read ask nothing more
more_read-args : (answers : Answers) (before args : List Arg) → ArgsAskFiles before → ArgsAskFiles (result_of answers (more_read before args))
unfolding more_read
more_read-args answers before [] all = all
more_read-args answers before (x ∷ xs) all =
    let ty = result_of answers (x.got None) in
    subst ArgsAskFiles (sym (result-and_then answers (x.got None) (λ ty. more_read (before ++ (once_read x ty ∷ [])) xs)))
    (more_read-args answers (before ++ (once_read x ty ∷ [])) xs (of-more before (once_read x ty ∷ []) all ((λ want. files_done), tt)))

pub read_once-args : (answers : Answers) (args : List Arg) → ArgsAskFiles (result_of answers (read_once args))
read_once-args answers args = more_read-args answers [] args tt

-- ---- arguments and parameters

of-name_refused : (call : Call) (name : List ℕ) (found : Match) → Files (name_refused call name found)
of-name_refused call name repeated = files_report files_done
of-name_refused call name unexpected = files_report files_done
of-name_refused call name _ = files_done

of-report_refused : (call : Call) (given : Given) (found : Match) → Files (report_refused call given found)
of-report_refused call by_place found = files_done
of-report_refused call (by_name name) found = of-name_refused call name found

of-argument_required : (call : Call) (at : Position) (given : Given) (number : ℕ) (got : Ty) (want : Option Ty) → Files (argument_required call at given number got want)
of-argument_required call at given number got None = files_done
of-argument_required call at given number got (Some want) = of-required (required_argument call at given number got want)

of-argument_read : (call : Call) (number : ℕ) (given : Given) (found : Match) (arg : Arg) → ((want : Option Ty) → Files (arg.got want))
    → Files (argument_read call number given found arg)
unfolding argument_read
of-argument_read call number given found arg reads =
    files_then _ _ (of-report_refused call given found) (λ u. files_then _ _ (reads (wanted found)) (λ got. of-argument_required call arg.at given number got (wanted found)))

of-argument_matched : (call : Call) (params : Listed) (number : ℕ) (filling : Filling) (arg : Arg) → ((want : Option Ty) → Files (arg.got want))
    → Files (argument_matched call params number filling arg)
unfolding argument_taken
of-argument_matched call params number filling arg reads =
    files_then _ _ (of-argument_read call number (given_by arg.kind) (match_of filling.fill params (given_by arg.kind)) arg reads) (λ u. files_done)

of-arguments_matched : (call : Call) (params : Listed) (number : ℕ) (filling : Filling) (args : List Arg) → ArgsAskFiles args
    → Files (arguments_matched call params number filling args)
unfolding arguments_matched
of-arguments_matched call params number filling [] all = files_done
of-arguments_matched call params number filling (arg ∷ args) (one, rest) =
    files_then _ _ (of-argument_matched call params (number_after number arg) filling arg one) (λ filled. of-arguments_matched call params (number_after number arg) filled args rest)

of-too_many_reported : (call : Call) (has_too_many : Bool) → Files (too_many_reported call has_too_many)
of-too_many_reported call true = files_report files_done
of-too_many_reported call false = files_done

of-filling_reported : (call : Call) (params : Listed) (filling : Filling) → Files (filling_reported call params filling)
unfolding filling_reported
of-filling_reported call params filling =
    files_then _ _ (of-too_many_reported call filling.has_too_many) (λ u. files_each (missing_reported call) (missing filling.fill params) (λ found. files_report files_done))

of-matched_unless : (is_open : Bool) (call : Call) (params : Listed) (args : List Arg) → ArgsAskFiles args → Files (matched_unless is_open call params args)
unfolding plainly_matched
of-matched_unless true call params args all = of-all_read args all
of-matched_unless false call params args all = files_then _ _ (of-arguments_matched call params 0 no_filling args all) (of-filling_reported call params)

pub of-matched : (call : Call) (params : Params) (args : List Arg) → ArgsAskFiles args → Files (matched call params args)
of-matched call dots args all = of-all_read args all
of-matched call (listed params) args all = of-matched_unless (list_any (λ arg. is_unpacked arg.kind) args) call params args all
