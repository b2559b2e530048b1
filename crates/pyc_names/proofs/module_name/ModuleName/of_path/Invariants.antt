use Rattle.std.proofs.Common.{◌≡◌, map, take}
use Rattle.pyc_ast.specs.Names.{nfkc_text}
use Rattle.pyc_names.proofs.module_name.ModuleName.of_path.Given as goal

-- the parts so far are those that were spelled so far, in Normalization Form KC
abbrev pub invariant-loop-part : goal.invariant-loop-part
invariant-loop-part l = l.parts.items ≡ map nfkc_text (map (λ part. part.now) (take l.part-index l.part-items))
