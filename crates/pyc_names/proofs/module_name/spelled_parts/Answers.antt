use Rattle.std.proofs.Common.{List, ℕ, Bor, [], ◌∷◌, arith, append-nil}
use Rattle.std.specs.List.{slice_split}
use Rattle.std.proofs.lemmas.List.{map-append}
use Rattle.pyc_names.specs.ModuleName.{is_slash}
use Rattle.pyc_names.proofs.ModuleLemmas.{spelled_parts-last, spelled_parts-none, file_part_module, file_part_folder}
use Rattle.pyc_names.proofs.module_name.spelled_parts.Goals as goal
use Rattle.pyc_names.proofs.module_name.spelled_parts.Goals.{in-Some+then-ne+in_ok-push, in-Some+else-ne, in_default}

pub returns : goal.returns
returns c =
    let all = c.in_ok-parts.ensures in
    let names = slice_split is_slash c.args.path.now in
    let items = c.in_ok-parts.parts.items in
    let left = c.pop.new.self.items in
    elim c.match-pop.branch [
      | in-Some+then-ne+in_ok-push w ↦
          let part = file_part_module w.in-Some.name.now w.if-ne.ensures in
          let pushed = map-append (λ (x : Bor (List ℕ)). x.now) left (w.stem.result ∷ []) in
          rw (w.parts-is, w.in_ok-push.ensures.items, spelled_parts-last names items left w.in-Some.name all w.in-Some.ensures.items, part, pushed, w.stem.ensures)
      | in-Some+else-ne w ↦
          let part = file_part_folder w.in-Some.name.now w.if-ne.ensures in
          rw (w.parts-is, spelled_parts-last names items left w.in-Some.name all w.in-Some.ensures.items, part, append-nil)
      | in_default w ↦ rw w.parts-is (spelled_parts-none names items left all (omega (arith, c.in_ok-parts.parts.ok.0, w.in_default.ensures.cases.0)) (omega (arith, c.pop.new.self.ok.0, w.in_default.ensures.cases.1)))
    ]
