-- What a command line spells.
use Rattle.std.specs.Prelude.{ℕ, ◌+◌, ◌*◌, ◌-◌, Bool, ◌==◌, ◌||◌, ◌&&◌, not, nat_lt, if◌then◌else◌, List, [], ◌∷◌}
use Rattle.std.specs.Prelude.{length, fold, codes, bytes_eq}
use Rattle.std.specs.Char.{is_ascii_digit}
use Rattle.std.specs.List.{slice_split, list_all}
use Rattle.pyc_session.specs.Limits.{longest_line, most_digits}
use Rattle.pyc_session.specs.declared.command.Command.{Command}
use Rattle.pyc_session.specs.declared.command.Command.TheVariants as command

pub data Spelled : Type 0 where
  -- the path of a new file, and how many bytes follow
  add : List ℕ → ℕ → Spelled
  -- the path of a file that is present, and how many bytes follow
  change : List ℕ → ℕ → Spelled
  -- either of these whose number has more digits than any file needs
  endless : Spelled
  -- the path of a file whose bytes the source hands over
  update : List ℕ → Spelled
  -- the path of a file
  remove : List ℕ → Spelled
  check : Spelled
  status : Spelled
  stop : Spelled
  unknown : Spelled

abbrev pub is_space : ℕ → Bool
is_space b = b == 32

-- the words of a line: what single spaces separate
abbrev pub words_of : List ℕ → List (List ℕ)
words_of line = slice_split is_space line

-- one or more digits
abbrev pub is_number : List ℕ → Bool
is_number word = not (length word == 0) && list_all is_ascii_digit word

-- the value of decimal digits
abbrev pub number_of : List ℕ → ℕ
number_of digits = fold (λ n d. 10 * n + (d - 48)) 0 digits

-- a command that keeps the bytes after it, with a path and a number
unfoldable pub counted_command_of : (List ℕ → ℕ → Spelled) → List ℕ → List ℕ → Spelled
counted_command_of keep path count =
    if length path == 0 || not (is_number count) then unknown
    else if nat_lt most_digits (length count) then endless
    else keep path (number_of count)

-- a command of one word
unfoldable pub single_of : List ℕ → Spelled
single_of word =
    if bytes_eq word (codes "check") then check
    else if bytes_eq word (codes "status") then status
    else if bytes_eq word (codes "stop") then stop
    else unknown

-- a command with a path
unfoldable pub path_command_of : List ℕ → List ℕ → Spelled
path_command_of word path =
    if length path == 0 then unknown
    else if bytes_eq word (codes "update") then update path
    else if bytes_eq word (codes "remove") then remove path
    else unknown

-- a command with a path and a number
unfoldable pub file_command_of : List ℕ → List ℕ → List ℕ → Spelled
file_command_of word path count =
    if bytes_eq word (codes "add") then counted_command_of add path count
    else if bytes_eq word (codes "change") then counted_command_of change path count
    else unknown

-- the command of these words
abbrev pub command_of : List (List ℕ) → Spelled
command_of (word ∷ []) = single_of word
command_of (word ∷ path ∷ []) = path_command_of word path
command_of (word ∷ path ∷ count ∷ []) = file_command_of word path count
command_of _ = unknown

-- the command that a line spells; one that is too long spells none
unfoldable pub spelled : List ℕ → Spelled
spelled line = if nat_lt longest_line (length line) then unknown else command_of (words_of line)

-- a parsed command as plain values
abbrev pub said : Command → Spelled
said (command.Add path size) = add path.now size
said (command.Change path size) = change path.now size
said command.Endless = endless
said (command.Update path) = update path.now
said (command.Remove path) = remove path.now
said command.Check = check
said command.Status = status
said command.Stop = stop
said command.Unknown = unknown

-- how many bytes after its line belong to a command
abbrev pub bytes_after : Spelled → ℕ
bytes_after (add path size) = size
bytes_after (change path size) = size
bytes_after other = 0
