-- What is given, filled, found and missing, apart from how Rust stores it.
use Rattle.std.specs.Prelude.{option_map}
use Rattle.pyc_matching.specs.declared.filling.Fill.{Fill as FillOf}
use Rattle.pyc_matching.specs.declared.filling.Given.{Given as GivenOf}
use Rattle.pyc_matching.specs.declared.filling.Given.TheVariants as g
use Rattle.pyc_matching.specs.declared.filling.Match.{Match as MatchOf}
use Rattle.pyc_matching.specs.declared.filling.Match.TheVariants as m
use Rattle.pyc_matching.specs.declared.lookup.Found.{Found as FoundOf}
use Rattle.pyc_matching.specs.declared.unfilled.MissingArgument.{MissingArgument as MissingOf}
use Rattle.pyc_matching.specs.declared.unfilled.MissingArgument.TheVariants as u
use Rattle.pyc_matching.specs.Matching.{Given, by_place, by_name, Fill, Found}
use Rattle.pyc_matching.specs.Matching.{Match, fills, gathered, too_many, repeated, unexpected}
use Rattle.pyc_matching.specs.Missing.{MissingArgument, missing_place, missing_name}
use Rattle.pyc_type_forms.specs.TypeView.{ty_of}

-- how an argument is given
abbrev pub given_in : GivenOf → Given
given_in g.ByPlace = by_place
given_in (g.ByName name) = by_name name.now

-- which parameters are filled
abbrev pub fill_of : FillOf → Fill
fill_of fill = record { placed = fill.placed.items; named = fill.named.items }

-- a parameter that was looked up
abbrev pub found_in : FoundOf → Found
found_in found = record { index = found.index; ty = ty_of found.ty.now }

-- what comes of an argument
abbrev pub match_in : MatchOf → Match
match_in (m.Fills index ty) = fills index (ty_of ty.now)
match_in (m.Gathered ty) = gathered (ty_of ty.now)
match_in m.TooMany = too_many
match_in m.Repeated = repeated
match_in m.Unexpected = unexpected

-- a parameter that is missing
abbrev pub missing_in : MissingOf → MissingArgument
missing_in (u.Place name number) = missing_place (option_map (λ n. n.now) name) number
missing_in (u.Name name) = missing_name name.now
