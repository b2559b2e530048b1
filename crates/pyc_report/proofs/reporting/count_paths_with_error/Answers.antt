use Rattle.std.proofs.Common.{◌≡◌, ◌∙◌, ap, sym, refl, arith, true, false, length, take, take_all, List, ℕ, Bor}
use Rattle.std.proofs.lemmas.List.{length-map}
use Rattle.pyc_report.specs.Report.{paths_with_error, has_error, found_in, without_repeats}
use Rattle.pyc_report.proofs.FoundLemmas.{error_paths, error_paths-more, error_paths-same}
use Rattle.pyc_report.proofs.RepeatLemmas.{without_repeats-more}
use Rattle.pyc_report.proofs.reporting.count_paths_with_error.Goals as goal
use Rattle.pyc_report.proofs.reporting.count_paths_with_error.Goals.{then-has_error+in_ok-insert, else-has_error}

pub loop-file-preserved : goal.loop-file-preserved
loop-file-preserved c = elim c.if-has_error.branch [
  | then-has_error+in_ok-insert w ↦
      (let has : has_error (found_in c.file-item.result) ≡ true = sym c.has_error.ensures ∙ w.if-has_error.true in
      rw w.paths-is (without_repeats-more (λ (path : Bor (List ℕ)). path.now) error_paths c.args.found.now c.loop-file.file-index
      c.loop-file.paths.keys w.insert.new.self.keys c.file-item.result.path c.file-item.result.path.now w.in_ok-insert.ensures.keys refl
      c.loop-file.invariant (error_paths-more c.args.found.now c.loop-file.file-index c.file-item.result c.loop-file-test.true c.file-item.is has)))
  | else-has_error w ↦
      (let none : has_error (found_in c.file-item.result) ≡ false = sym c.has_error.ensures ∙ w.if-has_error.false in
      rw (w.paths-is, error_paths-same c.args.found.now c.loop-file.file-index c.file-item.result c.loop-file-test.true c.file-item.is none) c.loop-file.invariant)
]

pub returns : goal.returns
unfolding paths_with_error
returns c =
    let whole : take c.loop-file.file-index c.args.found.now ≡ c.args.found.now = take_all _ _ (omega arith) in
    c.len.ensures.len ∙ sym (length-map c.loop-file.paths.keys (λ (path : Bor (List ℕ)). path.now))
    ∙ ap length c.loop-file.invariant ∙ ap (λ found. length (without_repeats (error_paths found))) whole
