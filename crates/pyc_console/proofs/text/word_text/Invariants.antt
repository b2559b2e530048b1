use Rattle.std.specs.Str.Chunks.{utf8_chunks_rest}
use Rattle.pyc_console.proofs.TextLemmas.{MadeSoFar}
use Rattle.pyc_console.proofs.text.word_text.Given as goal

abbrev pub invariant-loop-chunk : goal.invariant-loop-chunk
invariant-loop-chunk l = MadeSoFar l.fn.bytes l.text.bytes.items (utf8_chunks_rest l.chunk-iterator)
