-- What a session and its files are limited to.
use Rattle.std.specs.Prelude.{ℕ}

-- the most bytes of a command line, without its end
abbrev pub longest_line : ℕ
longest_line = 512

-- the most digits of a number of bytes
abbrev pub most_digits : ℕ
most_digits = 10

-- the most bytes of a file
abbrev pub largest_file : ℕ
largest_file = 1048576

-- the most files of a session
abbrev pub most_files : ℕ
most_files = 1024
