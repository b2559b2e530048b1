-- The messages on defaults, on the ends of functions, and on what a `return` gives (Python reference 3.13, "Function
-- definitions", "The return statement"). They are those of obligations, whose kind has the code.
use Rattle.std.specs.Prelude.{ℕ, List, ◌++◌, codes}

-- a default of another type than its parameter has
unfoldable pub default_text : (name got want : List ℕ) → List ℕ
default_text name got want =
    codes "Incompatible default for argument \"" ++ (name ++ (codes "\" (default has type \"" ++ (got
    ++ (codes "\", argument has type \"" ++ (want ++ codes "\")")))))

-- the end of a function that has to give a value
unfoldable pub missing_return_text : List ℕ
missing_return_text = codes "Missing return statement"

-- a value of another type than its function gives
unfoldable pub wrong_return_text : (got want : List ℕ) → List ℕ
wrong_return_text got want =
    codes "Incompatible return value type (got \"" ++ (got ++ (codes "\", expected \"" ++ (want ++ codes "\")")))

-- a value of a function that gives None
unfoldable pub no_return_value_text : List ℕ
no_return_value_text = codes "No return value expected"

-- a bare `return` of a function that has to give a value
unfoldable pub return_value_text : List ℕ
return_value_text = codes "Return value expected"
