-- A file by what its source was made of.
use Rattle.std.proofs.Common.{◌≡◌, ℕ, List, refl, sym, ap, ◌∙◌}
use Rattle.pyc_ast.specs.Modules.{Outcome}
use Rattle.pyc_lower.specs.Reading.{read_of}
use Rattle.pyc_names.specs.ModuleName.{module_of}
use Rattle.pyc_names.specs.SourceFiles.{SourceFile, source_file}

module _ (path : List ℕ) (outcome : Outcome) where
  source_path : (source_file path outcome).path ≡ path
  unfolding source_file
  source_path = refl

  source_name : (source_file path outcome).name ≡ module_of path
  unfolding source_file
  source_name = refl

  source_outcome : (source_file path outcome).outcome ≡ outcome
  unfolding source_file
  source_outcome = refl

module _ (path bytes : List ℕ) (source : SourceFile) (outcome : Outcome) (made : source ≡ source_file path outcome) (read : outcome ≡ read_of bytes) where
  -- its path
  pub path_is : source.path ≡ path
  path_is = ap (λ (f : SourceFile). f.path) made ∙ source_path path outcome

  -- its module
  pub name_is : source.name ≡ module_of source.path
  name_is = ap (λ (f : SourceFile). f.name) made ∙ source_name path outcome ∙ sym (ap module_of path_is)

  -- what its source is
  pub outcome_is : source.outcome ≡ outcome
  outcome_is = ap (λ (f : SourceFile). f.outcome) made ∙ source_outcome path outcome

  -- the whole
  pub source_is : source ≡ source_file source.path (read_of bytes)
  source_is = made ∙ ap (source_file path) read ∙ sym (ap (λ p. source_file p (read_of bytes)) path_is)
