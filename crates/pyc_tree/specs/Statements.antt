-- Simple statements as plain values: every node keeps each of its tokens (Python reference 3.13, "Simple statements").
use Rattle.std.specs.Prelude.{ℕ, ◌+◌, max, List, [], ◌∷◌, ◌++◌, Option, None, Some}
use Rattle.pyc_token.specs.declared.tokens.Token.{Token}
use Rattle.pyc_tree.specs.Tree.{Tree, Perhaps, Tail}
use Rattle.pyc_tree.specs.Tree as tree
use Rattle.pyc_tree.specs.Yield.{yield_of, perhaps_yield, tail_yield, optional_token}
use Rattle.pyc_tree.specs.Height.{height, perhaps_height, tail_height}

-- items with a token between them, and perhaps one after the last
pub data Separated (A : Type 0) : Type 0 where
  no_item : Separated A
  last_item : A → Separated A
  item : A → Token → Separated A → Separated A

-- `as` and a name
pub record Alias : Type 0 where
  pub word : Token
  pub name : Token

-- a dot and a name
pub record DottedPart : Type 0 where
  pub dot : Token
  pub name : Token

-- a dotted name
pub record Dotted : Type 0 where
  pub first : Token
  pub parts : List DottedPart

-- a module that is imported, perhaps under another name
pub record ImportedModule : Type 0 where
  pub path : Dotted
  pub alias : Option Alias

-- a name that is imported, perhaps under another name
pub record ImportedName : Type 0 where
  pub name : Token
  pub alias : Option Alias

-- a target and the `=` after it
pub record Assigned : Type 0 where
  pub target : Tree
  pub equal : Token

-- the module of a from-import: the dots before it, and its dotted name, where it has one
pub record Source : Type 0 where
  pub dots : List Token
  pub path : Option Dotted

-- a simple statement
pub data SimpleStatement : Type 0 where
  -- an expression, a tuple without brackets or a `yield`
  expression : Tree → SimpleStatement
  -- targets, each with its `=`, and a value
  assign : List Assigned → Tree → SimpleStatement
  -- a target, `:`, an annotation, and perhaps `=` and a value
  annotate : Tree → Token → Tree → Tail → SimpleStatement
  -- a target, an operator as `+=`, and a value
  augment : Tree → Token → Tree → SimpleStatement
  -- `pass`, `break` or `continue`
  word : Token → SimpleStatement
  return : Token → Perhaps → SimpleStatement
  -- `raise`, perhaps an exception, perhaps `from` and its cause
  raise : Token → Perhaps → Tail → SimpleStatement
  -- `assert`, a test, and perhaps a comma and a message
  assert : Token → Tree → Tail → SimpleStatement
  -- `del` and targets
  delete : Token → Tree → SimpleStatement
  -- `global` or `nonlocal`, and names
  declare : Token → Separated Token → SimpleStatement
  import : Token → Separated ImportedModule → SimpleStatement
  -- `from`, a module, `import`, and names, perhaps in parentheses
  import_from : Token → Source → Token → Option Token → Separated ImportedName → Option Token → SimpleStatement

-- ---- tokens

abbrev pub alias_yield : Option Alias → List Token
alias_yield None = []
alias_yield (Some alias) = alias.word ∷ alias.name ∷ []

abbrev pub parts_yield : List DottedPart → List Token
parts_yield [] = []
parts_yield (part ∷ parts) = part.dot ∷ part.name ∷ parts_yield parts

abbrev pub dotted_yield : Dotted → List Token
dotted_yield path = path.first ∷ parts_yield path.parts

abbrev pub optional_path : Option Dotted → List Token
optional_path None = []
optional_path (Some path) = dotted_yield path

abbrev pub module_yield : ImportedModule → List Token
module_yield m = dotted_yield m.path ++ alias_yield m.alias

abbrev pub name_yield : ImportedName → List Token
name_yield n = n.name ∷ alias_yield n.alias

abbrev pub targets_yield : List Assigned → List Token
targets_yield [] = []
targets_yield (assigned ∷ more) = yield_of assigned.target ++ assigned.equal ∷ targets_yield more

-- the tokens of items with those between them
abbrev pub separated_yield : {A : Type 0} → (A → List Token) → Separated A → List Token
separated_yield of_item no_item = []
separated_yield of_item (last_item x) = of_item x
separated_yield of_item (item x between rest) = of_item x ++ between ∷ separated_yield of_item rest

-- the tokens of a statement
unfoldable pub statement_yield : SimpleStatement → List Token
statement_yield (expression e) = yield_of e
statement_yield (assign targets e) = targets_yield targets ++ yield_of e
statement_yield (annotate target colon annotation value) =
    yield_of target ++ colon ∷ (yield_of annotation ++ tail_yield value)
statement_yield (augment target sign e) = yield_of target ++ sign ∷ yield_of e
statement_yield (word t) = t ∷ []
statement_yield (return t value) = t ∷ perhaps_yield value
statement_yield (raise t value cause) = t ∷ (perhaps_yield value ++ tail_yield cause)
statement_yield (assert t test message) = t ∷ (yield_of test ++ tail_yield message)
statement_yield (delete t targets) = t ∷ yield_of targets
statement_yield (declare t names) = t ∷ separated_yield (λ name. name ∷ []) names
statement_yield (import t modules) = t ∷ separated_yield module_yield modules
statement_yield (import_from t source word_import opening names closing) =
    t ∷ (source.dots ++ (optional_path source.path ++ word_import
    ∷ (optional_token opening ++ (separated_yield name_yield names ++ optional_token closing))))

-- ---- heights

abbrev pub targets_height : List Assigned → ℕ
targets_height [] = 0
targets_height (assigned ∷ more) = max (height assigned.target) (targets_height more)

-- the height of a statement: one node above its expressions; names alone add none
unfoldable pub statement_height : SimpleStatement → ℕ
statement_height (expression e) = height e + 1
statement_height (assign targets e) = max (targets_height targets) (height e) + 1
statement_height (annotate target _ annotation value) =
    max (height target) (max (height annotation) (tail_height value)) + 1
statement_height (augment target _ e) = max (height target) (height e) + 1
statement_height (return _ value) = perhaps_height value + 1
statement_height (raise _ value cause) = max (perhaps_height value) (tail_height cause) + 1
statement_height (assert _ test message) = max (height test) (tail_height message) + 1
statement_height (delete _ targets) = height targets + 1
statement_height _ = 1
