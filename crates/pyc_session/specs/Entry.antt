-- What a fetch hands over.
use Rattle.std.specs.Prelude.{ℕ, List, Result, Ok, Err, Vec, codes}
use Rattle.std.specs.Global.{Global}
use Rattle.pyc_session.specs.declared.sources.FetchFault.{FetchFault}
use Rattle.pyc_session.specs.declared.sources.FetchFault.TheVariants as fault

-- the bytes of a path, or why there are none
pub data Entry : Type 0 where
  bytes : List ℕ → Entry
  unreadable : Entry
  no_memory : Entry

-- the entry that an answer gives
abbrev pub entry_of : Result (Vec ℕ Global) FetchFault → Entry
entry_of (Ok handed) = bytes handed.items
entry_of (Err fault.Unreadable) = unreadable
entry_of (Err fault.Memory) = no_memory

-- the text of why a source hands over no bytes
abbrev pub fetch_fault_text : FetchFault → List ℕ
fetch_fault_text fault.Unreadable = codes "unreadable"
fetch_fault_text fault.Memory = codes "out of memory"
