use Rattle.std.proofs.Common.{◌≡◌, map, take}
use Rattle.pyc_ast.specs.Modules.{ignore_of}
use Rattle.pyc_lex.specs.View as lex
use Rattle.pyc_lower.specs.Ignores.{ignore_in}
use Rattle.pyc_lower.proofs.ignores.ignores.Given as goal

-- the ignore comments so far
abbrev pub invariant-loop-ignore : goal.invariant-loop-ignore
invariant-loop-ignore l =
    map ignore_of l.found.items ≡ map (ignore_in l.source) (map lex.ignore_in (take l.ignore-index l.ignores))
