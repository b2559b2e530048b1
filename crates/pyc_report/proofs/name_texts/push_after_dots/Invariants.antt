use Rattle.std.proofs.Common.{◌≡◌, ◌++◌, flat_map, drop, string_bytes}
use Rattle.pyc_report.specs.NameTexts.{after_dot}
use Rattle.pyc_report.proofs.name_texts.push_after_dots.Given as goal

-- what was added, with the names that are left, is the whole
abbrev pub invariant-loop-name : goal.invariant-loop-name
invariant-loop-name l =
    string_bytes l.text ++ flat_map after_dot (drop l.name-index l.names)
    ≡ string_bytes l.fn.text ++ flat_map after_dot l.names
