-- The arguments of a call and the parameters that they fill (Python reference 3.13, "Calls"; typing specification,
-- "Callables"): what is reported where they do not fit.
use Rattle.std.specs.Prelude.{ℕ, ◌+◌, Bool, true, false, ◌||◌, List, [], ◌∷◌, Option, None, Some}
use Rattle.std.specs.List.{list_any}
use Rattle.pyc_ast.specs.declared.position.Position.{Position}
use Rattle.pyc_arguments.specs.Arguments.{Arg, all_read, given_by, is_unpacked, places_of}
use Rattle.pyc_arguments.specs.Reporting.{
  Call,
  required_argument,
  repeated_message,
  unexpected_message,
  too_many_message,
}
use Rattle.pyc_arguments.specs.Reporting.{missing_message}
use Rattle.pyc_matching.specs.Matching.{Given, by_place, by_name, Fill, Match, fills, gathered, too_many, repeated}
use Rattle.pyc_matching.specs.Matching.{unexpected, match_of, fill_after, nothing_filled}
use Rattle.pyc_matching.specs.Missing.{MissingArgument, missing}
use Rattle.pyc_reading.specs.Traces.{Step, required, reporting}
use Rattle.pyc_reading.specs.Readings.{Done, and_then, each, ◌>>=◌}
use Rattle.pyc_type_forms.specs.Types.{Ty, Params, Listed, dots, listed}

-- what arguments have filled: which parameters, and whether there were too many of them
pub record Filling : Type 0 where
  pub fill : Fill
  pub has_too_many : Bool

-- before the first argument
abbrev pub no_filling : Filling
no_filling = record { fill = nothing_filled; has_too_many = false }

-- ---- one argument

-- the type that is wanted of an argument: that of the parameter that it fills or that gathers it
abbrev pub wanted : Match → Option Ty
wanted (fills i ty) = Some ty
wanted (gathered ty) = Some ty
wanted _ = None

-- whether no parameter is left for the place of an argument
abbrev pub is_too_many : Match → Bool
is_too_many too_many = true
is_too_many _ = false

-- what is reported of an argument by this name before it is read
abbrev pub name_refused : Call → List ℕ → Match → Step (Unit {0})
name_refused call name repeated = reporting (repeated_message call name)
name_refused call name unexpected = reporting (unexpected_message call name)
name_refused call name _ = Done tt

-- what is reported of an argument before it is read
abbrev pub report_refused : Call → Given → Match → Step (Unit {0})
report_refused call by_place found = Done tt
report_refused call (by_name name) found = name_refused call name found

-- an argument of this number must be of the type that is wanted, if one is
abbrev pub argument_required : Call → Position → Given → ℕ → Ty → Option Ty → Step (Unit {0})
argument_required call at given number got None = Done tt
argument_required call at given number got (Some want) = required (required_argument call at given number got want)

-- an argument that comes to this is read, and is reported of
unfoldable pub argument_read : Call → ℕ → Given → Match → Arg → Step (Unit {0})
argument_read call number given found arg = do
  u ← report_refused call given found
  got ← arg.got (wanted found)
  argument_required call arg.at given number got (wanted found)

-- what is filled after an argument that comes to this
abbrev pub filling_after : Filling → Given → Match → Filling
filling_after filling given found =
    record {
      fill = fill_after filling.fill given found;
      has_too_many = filling.has_too_many || is_too_many found;
    }

-- an argument that is given in this way, and comes to this
unfoldable pub argument_taken : Call → ℕ → Filling → Given → Match → Arg → Step Filling
argument_taken call number filling given found arg =
    and_then (argument_read call number given found arg) (λ u. Done (filling_after filling given found))

-- an argument, when with it so many are given by place
abbrev pub argument_matched : Call → Listed → ℕ → Filling → Arg → Step Filling
argument_matched call params number filling arg =
    argument_taken call number filling (given_by arg.kind) (match_of filling.fill params (given_by arg.kind)) arg

-- ---- all arguments

-- how many arguments are given by place, with one more
abbrev pub number_after : ℕ → Arg → ℕ
number_after number arg = number + places_of (given_by arg.kind)

-- more arguments in turn, when so many were given by place
unfoldable pub arguments_matched : Call → Listed → ℕ → Filling → List Arg → Step Filling
arguments_matched call params number filling [] = Done filling
arguments_matched call params number filling (arg ∷ args) =
    and_then (argument_matched call params (number_after number arg) filling arg) (λ filled.
    arguments_matched call params (number_after number arg) filled args)

-- it is reported once that there were too many arguments
abbrev pub too_many_reported : Call → Bool → Step (Unit {0})
too_many_reported call true = reporting (too_many_message call)
too_many_reported call false = Done tt

-- a parameter that no argument fills
abbrev pub missing_reported : Call → MissingArgument → Step (Unit {0})
missing_reported call found = reporting (missing_message call found)

-- what is reported after all arguments
unfoldable pub filling_reported : Call → Listed → Filling → Step (Unit {0})
filling_reported call params filling =
    and_then (too_many_reported call filling.has_too_many) (λ u. each (missing_reported call)
    (missing filling.fill params))

-- arguments of which none stands after `*` or `**`
unfoldable pub plainly_matched : Call → Listed → List Arg → Step (Unit {0})
plainly_matched call params args =
    and_then (arguments_matched call params 0 no_filling args) (filling_reported call params)

-- arguments, by whether some stand after `*` or `**`: then nothing is matched
abbrev pub matched_unless : Bool → Call → Listed → List Arg → Step (Unit {0})
matched_unless true call params args = all_read args
matched_unless false call params args = plainly_matched call params args

-- arguments and these parameters
abbrev pub matched_listed : Call → Listed → List Arg → Step (Unit {0})
matched_listed call params args = matched_unless (list_any (λ arg. is_unpacked arg.kind) args) call params args

-- arguments and what a call takes: where it takes any arguments nothing is matched
abbrev pub matched : Call → Params → List Arg → Step (Unit {0})
matched call dots args = all_read args
matched call (listed params) args = matched_listed call params args
