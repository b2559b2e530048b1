-- The table that vectors of the code are.
use Rattle.std.specs.Prelude.{List, map}
use Rattle.std.specs.declared.alloc.Global.{Global}
use Rattle.std.specs.declared.vec.Vec.{Vec}
use Rattle.pyc_mro.specs.declared.table.Base.{Base}
use Rattle.pyc_mro.specs.Tables.{Table}

-- the table that vectors of bases are
abbrev pub table_in : List (Vec Base Global) → Table
table_in bases = map (λ row. row.items) bases
