-- How what the code answers goes with the definition of blocks.
use Rattle.std.specs.Prelude.{◌≡◌, ℕ, List, Result, Ok, Err}
use Rattle.pyc_parse.specs.declared.block_fault.BlockFault.{BlockFault}
use Rattle.pyc_parse.specs.declared.block_fault.BlockFault.TheVariants.{Block, Memory}
use Rattle.pyc_parse.specs.Blocks.{Placed, BlocksParsed}

-- what is read is what the definition reads, with the lines that it leaves; a want of memory says nothing
abbrev pub ReadsLines : {X A : Type 0} → (X → A) → BlocksParsed A → Result X BlockFault → List Placed → Type 0
ReadsLines view outcome (Ok x) new = outcome ≡ Ok (view x, new)
ReadsLines view outcome (Err Memory) new = Unit {0}
ReadsLines view outcome (Err (Block number)) new = outcome ≡ Err number

-- what is answered is the definition's; a want of memory says nothing
abbrev pub AnswersBlocks : {X A : Type 0} → (X → A) → Result A ℕ → Result X BlockFault → Type 0
AnswersBlocks view outcome (Ok x) = outcome ≡ Ok (view x)
AnswersBlocks view outcome (Err Memory) = Unit {0}
AnswersBlocks view outcome (Err (Block number)) = outcome ≡ Err number
