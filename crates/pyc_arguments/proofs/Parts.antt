-- What arguments of the code are, by their own parts, and readings of arguments that were read.
use Rattle.std.proofs.Common.{◌≡◌, ◌≤◌, ℕ, ◌||◌, List, [], ◌∷◌, ◌++◌, map, refl, sym, ap, ◌∙◌, append_assoc, append-nil, rules}
use Rattle.std.specs.List.{list_any}
use Rattle.pyc_ast.specs.declared.expr.Argument.{Argument}
use Rattle.pyc_ast.specs.declared.expr.DictItem.TheFolds.{the_lemmas}
use Rattle.pyc_ast.specs.Exprs.{argument}
use Rattle.pyc_ast.specs.ExprView.{argument_of, expr_of}
use Rattle.pyc_arguments.specs.Arguments.{Arg, Reads, unread, all_read, more_read, read_once, given_by, is_unpacked, places_of}
use Rattle.pyc_arguments.specs.declared.arguments.Arguments.{Arguments}
use Rattle.pyc_arguments.specs.declared.arguments.Arguments.TheVariants as a
use Rattle.pyc_arguments.specs.declared.arguments.ReadArgument.{ReadArgument}
use Rattle.pyc_arguments.specs.Matched.{Filling, argument_matched, argument_taken}
use Rattle.pyc_arguments.specs.Reporting.{Call}
use Rattle.pyc_arguments.specs.Views.{args_in, has_unpacked_in, read_in, unread_in}
use Rattle.pyc_matching.specs.Matching.{Given, by_place, by_name, match_of}
use Rattle.pyc_reading.specs.Traces.{Trace, run}
use Rattle.pyc_reading.specs.Readings.{Done, and_then}
use Rattle.pyc_type_forms.specs.Types.{Listed}

view_argument : (x : Argument) → argument_of x ≡ argument x.at x.kind (expr_of x.value)
view_argument x = search (rules, the_lemmas)

-- an argument that is to be read
pub view_unread : (read : Reads) (x : Argument) → unread read (argument_of x) ≡ record { at = x.at; kind = x.kind; got = read (expr_of x.value) }
view_unread read x = ap (unread read) (view_argument x)

-- arguments that were read are not read again
pub run_all_read : (xs : List ReadArgument) (d : Trace) → run (all_read (map read_in xs)) d ≡ (tt, d)
unfolding all_read and_then
run_all_read [] d = refl
run_all_read (x ∷ xs) d = run_all_read xs d

more_read_is : (before : List Arg) (xs : List ReadArgument) → more_read before (map read_in xs) ≡ Done (before ++ map read_in xs)
unfolding more_read and_then
more_read_is before [] = ap Done (sym (append-nil before))
more_read_is before (x ∷ xs) = more_read_is (before ++ (read_in x ∷ [])) xs ∙ ap Done (append_assoc before (read_in x ∷ []) (map read_in xs))

-- and they stay as they are
pub read_once_is : (xs : List ReadArgument) → read_once (map read_in xs) ≡ Done (map read_in xs)
read_once_is xs = more_read_is [] xs

unread_kinds : (read : Reads) (xs : List Argument) → list_any (λ (arg : Arg). is_unpacked arg.kind) (unread_in read xs) ≡ list_any (λ (x : Argument). is_unpacked x.kind) xs
unread_kinds read [] = refl
unread_kinds read (x ∷ xs) =
    ap (λ (arg : Arg). is_unpacked arg.kind || list_any (λ (arg : Arg). is_unpacked arg.kind) (unread_in read xs)) (view_unread read x)
    ∙ ap (λ b. is_unpacked x.kind || b) (unread_kinds read xs)

read_kinds : (xs : List ReadArgument) → list_any (λ (arg : Arg). is_unpacked arg.kind) (map read_in xs) ≡ list_any (λ (x : ReadArgument). is_unpacked x.kind) xs
read_kinds [] = refl
read_kinds (x ∷ xs) = ap (λ b. is_unpacked x.kind || b) (read_kinds xs)

-- the kinds of arguments tell whether some stand after `*` or `**`
pub kinds_are : (read : Reads) (arguments : Arguments) → list_any (λ (arg : Arg). is_unpacked arg.kind) (args_in read arguments) ≡ has_unpacked_in arguments
kinds_are read (a.Unread xs) = unread_kinds read xs.now
kinds_are read (a.Read xs) = read_kinds xs.now

-- how an argument that is to be read is matched
pub matched_unread : (call : Call) (params : Listed) (number : ℕ) (filling : Filling) (read : Reads) (x : Argument)
    → argument_matched call params number filling (unread read (argument_of x))
    ≡ argument_taken call number filling (given_by x.kind) (match_of filling.fill params (given_by x.kind)) (unread read (argument_of x))
matched_unread call params number filling read x =
    ap (λ (arg : Arg). argument_taken call number filling (given_by arg.kind) (match_of filling.fill params (given_by arg.kind)) (unread read (argument_of x))) (view_unread read x)

-- an argument takes one place at most
pub places_at_most : (given : Given) → places_of given ≤ 1
places_at_most by_place = search rules
places_at_most (by_name name) = search rules
