-- The stack of indents (Python reference, lexical analysis, "Indentation").
use Rattle.std.specs.Prelude.{ℕ, ◌+◌, ◌-◌, ◌*◌, ◌/◌, Bool, not, ◌&&◌, ◌==◌, nat_lt, if◌then◌else◌, List, [], ◌∷◌, ◌++◌}
use Rattle.std.specs.Prelude.{take, length, slice_get, slice_index_or, unwrap_or, position, Option, None, Some, Result}
use Rattle.std.specs.Prelude.{Ok, Err}
use Rattle.std.specs.Bool.{beq}
use Rattle.pyc_lex.specs.declared.indents.Columns.{Columns}
use Rattle.pyc_lex.specs.declared.fault.LexFault.{LexFault}
use Rattle.pyc_lex.specs.declared.fault.LexFault.TheVariants.{Dedent, Tabs, Deep}

-- no indent
abbrev pub no_columns : Columns
no_columns = record { wide = 0; narrow = 0 }

-- the columns after one more blank: a tab goes on to the next multiple of 8, a form feed back to 0;
-- the second measure takes a tab for one column
abbrev pub columns_past : Columns → ℕ → Columns
columns_past at byte =
    if byte == 9 then record { wide = (at.wide / 8 + 1) * 8; narrow = at.narrow + 1 }
    else if byte == 12 then no_columns
    else record { wide = at.wide + 1; narrow = at.narrow + 1 }

-- the columns after some blanks
abbrev pub columns_after : Columns → List ℕ → Columns
columns_after at [] = at
columns_after at (byte ∷ rest) = columns_after (columns_past at byte) rest

-- whether both measures of two columns compare alike
abbrev pub compare_alike : Columns → Columns → Bool
compare_alike a b =
    beq (nat_lt a.wide b.wide) (nat_lt a.narrow b.narrow) && beq (nat_lt b.wide a.wide) (nat_lt b.narrow a.narrow)

-- the last entry of a stack
abbrev pub top_of : List Columns → Columns
top_of stack = unwrap_or (slice_get stack (length stack - 1)) no_columns

-- the most entries above the first
abbrev pub max_depth : ℕ
max_depth = 64

-- the stack with one more entry, unless it has the most
abbrev pub pushed : List Columns → Columns → ℕ → Result (List Columns) LexFault
pushed stack at line = if nat_lt max_depth (length stack) then Err (Deep line) else Ok (stack ++ at ∷ [])

-- the stack up to the entry at an index, whose second measure must be the same
abbrev pub popped_to : List Columns → Columns → ℕ → Option ℕ → Result (List Columns) LexFault
popped_to stack at line None = Err (Dedent line)
popped_to stack at line (Some index) =
    if (slice_index_or stack index no_columns).narrow == at.narrow then Ok (take (index + 1) stack) else Err (Tabs line)

-- the stack for a line that begins at these columns: a greater column is pushed, a smaller one pops to an equal entry
unfoldable pub settled : List Columns → Columns → ℕ → Result (List Columns) LexFault
settled stack at line =
    let top = top_of stack in
    if not (compare_alike at top) then Err (Tabs line)
    else if nat_lt top.wide at.wide then pushed stack at line
    else if at.wide == top.wide then Ok stack
    else popped_to stack at line (position (λ entry. entry.wide == at.wide) stack)
