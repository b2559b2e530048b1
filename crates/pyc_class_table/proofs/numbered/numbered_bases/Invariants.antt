use Rattle.std.proofs.Common.{◌≡◌, map, take}
use Rattle.pyc_class_table.specs.Numbers.{numbered_base}
use Rattle.pyc_class_table.specs.NumberView.{numbers_in}
use Rattle.pyc_class_table.proofs.numbered.numbered_bases.Given as goal

-- the bases so far stand by their numbers
abbrev pub invariant-loop-base : goal.invariant-loop-base
invariant-loop-base l = l.found.items ≡ map (numbered_base (numbers_in l.numbers)) (take l.base-index l.bases)
