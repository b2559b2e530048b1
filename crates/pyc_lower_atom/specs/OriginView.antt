-- Where the tokens of a tree come from, as the code holds it.
use Rattle.pyc_lower_atom.specs.declared.origin.Origin.{Origin as Declared}
use Rattle.pyc_lower_atom.specs.Origins.{Origin}

abbrev pub origin_of : Declared → Origin
origin_of o = record { source = o.source.now; string = o.string }
