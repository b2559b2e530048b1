-- The messages on names that a class declares and an ancestor declares as well (typing specification, "Class type
-- assignability"; mypy's documentation, "Overriding statically typed methods"). They are those of obligations, whose kind
-- has the code.
use Rattle.std.specs.Prelude.{ℕ, List, ◌++◌, codes}
use Rattle.std.specs.Fmt.{decimal}

-- what is no method, and of another type than the ancestor's
unfoldable pub variable_override_text : (base got want : List ℕ) → List ℕ
variable_override_text base got want =
    codes "Incompatible types in assignment (expression has type \"" ++ (got ++ (codes "\", base class \"" ++ (base
    ++ (codes "\" defined the type as \"" ++ (want ++ codes "\")")))))

-- a method that gives another type than the ancestor's
unfoldable pub result_override_text : (name base got want : List ℕ) → List ℕ
result_override_text name base got want =
    codes "Return type \"" ++ (got ++ (codes "\" of \"" ++ (name
    ++ (codes "\" incompatible with return type \"" ++ (want ++ (codes "\" in supertype \"" ++ (base ++ codes "\"")))))))

-- a parameter of which the ancestor wants another type, by its number
unfoldable pub argument_override_text : ℕ → (name base want : List ℕ) → List ℕ
argument_override_text number name base want =
    codes "Argument " ++ (decimal number ++ (codes " of \"" ++ (name
    ++ (codes "\" is incompatible with supertype \"" ++ (base ++ (codes "\"; supertype defines the argument type as \"" ++ (want ++ codes "\"")))))))

-- a method whose signature is another in any other way, or that stands against something else
unfoldable pub signature_override_text : (name base : List ℕ) → List ℕ
signature_override_text name base =
    codes "Signature of \"" ++ (name ++ (codes "\" incompatible with supertype \"" ++ (base ++ codes "\"")))
