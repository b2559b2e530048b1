-- The bytes that follow an `add`.
use Rattle.std.specs.Prelude.{◌≡◌, ℕ, ◌<◌, Bool, IsTrue, List, length, vec_len, Option, None, ⊤}
use Rattle.pyc_session.specs.declared.refusal.Refusal.{Refusal}
use Rattle.pyc_daemon.specs.declared.input.Body.{Body}
use Rattle.pyc_daemon.specs.declared.input.Body.TheVariants.{Whole, NotKept, Truncated}

-- What was reported of the bytes that were used, of which `size` were announced.
abbrev pub CameAs : Body → List ℕ → ℕ → Bool → Bool → Type 0
CameAs (Whole kept) bytes size wanted ended = (kept.items ≡ bytes) × (length bytes ≡ size) × IsTrue wanted
CameAs NotKept bytes size wanted ended = length bytes ≡ size
CameAs Truncated bytes size wanted ended = (length bytes < size) × IsTrue ended

-- bytes are kept only where the file is not refused
abbrev pub IsWanted : Body → ℕ → Option Refusal → Type 0
IsWanted (Whole kept) size refusal = (refusal ≡ None) × (vec_len kept ≡ size)
IsWanted NotKept size refusal = ⊤
IsWanted Truncated size refusal = ⊤
