-- Well-formed statements, headers and lines (Python reference 3.13, "Simple statements" and "Compound statements").
use Rattle.std.specs.Prelude.{◌≡◌, ◌≤◌, ℕ, Bool, true, false, not, ◌&&◌, ◌||◌, List, [], ◌∷◌, Option, None, Some}
use Rattle.pyc_token.specs.declared.tokens.Arithmetic.TheVariants as op
use Rattle.pyc_token.specs.declared.tokens.Bracket.TheVariants as bracket
use Rattle.pyc_token.specs.declared.tokens.Delimiter.TheVariants as delimiter
use Rattle.pyc_token.specs.declared.tokens.Keyword.TheVariants as word
use Rattle.pyc_token.specs.declared.tokens.Kind.{Kind}
use Rattle.pyc_token.specs.declared.tokens.Kind.TheVariants as kind
use Rattle.pyc_token.specs.declared.tokens.Token.{Token}
use Rattle.pyc_tree.specs.declared.list_context.ListContext.TheVariants as list_context
use Rattle.pyc_tree.specs.declared.display_kind.DisplayKind.TheVariants as display_kind
use Rattle.pyc_tree.specs.Tree.{Tree, Pieces, Perhaps, Tail}
use Rattle.pyc_tree.specs.Tree as tree
use Rattle.pyc_tree.specs.Kinds.{is_name}
use Rattle.pyc_tree.specs.Precedence.{precedence}
use Rattle.pyc_tree.specs.Height.{max_height}
use Rattle.pyc_tree.specs.ListContexts.{is_at}
use Rattle.pyc_tree.specs.Targets.{is_target, is_single_target, is_starred}
use Rattle.pyc_tree.specs.Well.{IsWell, ArePieces, MayBe, MayFollow, IsAsync, is_yield, is_expression_list, has_item}
use Rattle.pyc_tree.specs.Statements as statement
use Rattle.pyc_tree.specs.Statements.{SimpleStatement, Separated, no_item, last_item, item, Alias, DottedPart, Dotted}
use Rattle.pyc_tree.specs.Statements.{Source, Assigned, ImportedModule, ImportedName}
use Rattle.pyc_tree.specs.Lines as line
use Rattle.pyc_tree.specs.Lines.{Header, Line, line_height}

-- ---- tests

-- whether a tree may be assigned: an expression, a tuple without brackets or a `yield`
abbrev pub is_value : Tree → Bool
is_value e = is_yield e || is_expression_list e

-- whether a token is `pass`, `break` or `continue`
abbrev pub is_word_statement : Kind → Bool
is_word_statement (kind.Keyword word.Pass) = true
is_word_statement (kind.Keyword word.Break) = true
is_word_statement (kind.Keyword word.Continue) = true
is_word_statement _ = false

-- whether a token declares names
abbrev pub is_declaration : Kind → Bool
is_declaration (kind.Keyword word.Global) = true
is_declaration (kind.Keyword word.Nonlocal) = true
is_declaration _ = false

-- whether a token is the operator of an augmented assignment
abbrev pub is_augmented : Kind → Bool
is_augmented (kind.Augmented _) = true
is_augmented _ = false

-- whether a token is a dot before a module, or three
abbrev pub is_dot : Kind → Bool
is_dot (kind.Delimiter delimiter.Dot) = true
is_dot (kind.Delimiter delimiter.Ellipsis) = true
is_dot _ = false

-- whether a token begins a header with a condition
abbrev pub is_condition : Kind → Bool
is_condition (kind.Keyword word.If) = true
is_condition (kind.Keyword word.Elif) = true
is_condition (kind.Keyword word.While) = true
is_condition _ = false

-- whether a token is a header by itself
abbrev pub is_word_header : Kind → Bool
is_word_header (kind.Keyword word.Else) = true
is_word_header (kind.Keyword word.Try) = true
is_word_header (kind.Keyword word.Finally) = true
is_word_header _ = false

-- whether items end without a comma
abbrev pub ends_without_comma : Pieces → Bool
ends_without_comma tree.none = true
ends_without_comma (tree.last _) = true
ends_without_comma (tree.piece _ _ tree.none) = false
ends_without_comma (tree.piece _ _ rest) = ends_without_comma rest

-- whether no item is starred
abbrev pub has_no_star : Pieces → Bool
has_no_star tree.none = true
has_no_star (tree.last e) = not (is_starred e)
has_no_star (tree.piece e _ rest) = not (is_starred e) && has_no_star rest

-- whether parentheses round the only item of a `with` belong to the header: they hold an expression, no `yield`, or a
-- tuple with items, of which none is starred ("The with statement")
abbrev pub is_enclosed_item : Tree → Bool
is_enclosed_item (tree.with_item (tree.parenthesized _ e _) tree.nothing) = not (is_yield e)
is_enclosed_item (tree.with_item (tree.display display_kind.Tuple _ items _) tree.nothing) =
    has_item items && has_no_star items
is_enclosed_item _ = false

-- whether items of a `with` have no parentheses that belong to the header
abbrev pub is_open_with : Pieces → Bool
is_open_with (tree.last e) = not (is_enclosed_item e)
is_open_with _ = true

-- ---- parts of imports

abbrev pub IsAlias : Option Alias → Type 0
IsAlias None = Unit {0}
IsAlias (Some alias) = (alias.word.kind ≡ kind.Keyword word.As) × (is_name alias.name.kind ≡ true)

abbrev pub AreParts : List DottedPart → Type 0
AreParts [] = Unit {0}
AreParts (part ∷ parts) =
    (part.dot.kind ≡ kind.Delimiter delimiter.Dot) × (is_name part.name.kind ≡ true) × AreParts parts

abbrev pub IsDotted : Dotted → Type 0
IsDotted path = (is_name path.first.kind ≡ true) × AreParts path.parts

abbrev pub AreDots : List Token → Type 0
AreDots [] = Unit {0}
AreDots (dot ∷ dots) = (is_dot dot.kind ≡ true) × AreDots dots

-- a module is named, or there are dots
abbrev pub IsSourceOf : List Token → Option Dotted → Type 0
IsSourceOf dots (Some path) = AreDots dots × IsDotted path
IsSourceOf [] None = ⊥
IsSourceOf (dot ∷ dots) None = (is_dot dot.kind ≡ true) × AreDots dots

-- items of which each is well-formed, with a token of a kind between them; whether one may follow the last
abbrev pub AreSeparated : {A : Type 0} → (A → Type 0) → Kind → Bool → Separated A → Type 0
AreSeparated IsItem k may_trail no_item = ⊥
AreSeparated IsItem k may_trail (last_item x) = IsItem x
AreSeparated IsItem k may_trail (item x between no_item) = (may_trail ≡ true) × IsItem x × (between.kind ≡ k)
AreSeparated IsItem k may_trail (item x between rest) =
    IsItem x × (between.kind ≡ k) × AreSeparated IsItem k may_trail rest

abbrev pub IsImportedModule : ImportedModule → Type 0
IsImportedModule m = IsDotted m.path × IsAlias m.alias

abbrev pub IsImportedName : ImportedName → Type 0
IsImportedName n = (is_name n.name.kind ≡ true) × IsAlias n.alias

-- both parentheses, or none, round the names of a from-import; in parentheses a comma may follow the last
abbrev pub AreImportedNames : Option Token → Separated ImportedName → Option Token → Type 0
AreImportedNames None names None = AreSeparated IsImportedName (kind.Delimiter delimiter.Comma) false names
AreImportedNames (Some opening) names (Some closing) =
    (opening.kind ≡ kind.Open bracket.Round) × (closing.kind ≡ kind.Close bracket.Round)
    × AreSeparated IsImportedName (kind.Delimiter delimiter.Comma) true names
AreImportedNames _ names _ = ⊥

-- ---- statements

abbrev pub AreAssigned : List Assigned → Type 0
AreAssigned [] = Unit {0}
AreAssigned (assigned ∷ more) =
    (is_target assigned.target ≡ true) × IsWell assigned.target
    × (assigned.equal.kind ≡ kind.Delimiter delimiter.Equal) × AreAssigned more

-- a cause stands only behind an exception
abbrev pub IsRaised : Perhaps → Tail → Type 0
IsRaised tree.absent tree.nothing = Unit {0}
IsRaised tree.absent (tree.after _ _) = ⊥
IsRaised (tree.present e) cause = (1 ≤ precedence e) × IsWell e × MayFollow (kind.Keyword word.From) (is_at 1) cause

-- a well-formed statement
unfoldable pub IsStatement : SimpleStatement → Type 0
IsStatement (statement.expression e) = (is_value e ≡ true) × IsWell e
IsStatement (statement.assign [] e) = ⊥
IsStatement (statement.assign (assigned ∷ more) e) = AreAssigned (assigned ∷ more) × (is_value e ≡ true) × IsWell e
IsStatement (statement.annotate target colon annotation value) =
    (is_single_target target ≡ true) × IsWell target × (colon.kind ≡ kind.Delimiter delimiter.Colon)
    × (1 ≤ precedence annotation) × IsWell annotation × MayFollow (kind.Delimiter delimiter.Equal) is_value value
IsStatement (statement.augment target sign e) =
    (is_single_target target ≡ true) × IsWell target × (is_augmented sign.kind ≡ true) × (is_value e ≡ true) × IsWell e
IsStatement (statement.word t) = is_word_statement t.kind ≡ true
IsStatement (statement.return t value) = (t.kind ≡ kind.Keyword word.Return) × MayBe is_expression_list value
IsStatement (statement.raise t value cause) = (t.kind ≡ kind.Keyword word.Raise) × IsRaised value cause
IsStatement (statement.assert t test message) =
    (t.kind ≡ kind.Keyword word.Assert) × (1 ≤ precedence test) × IsWell test
    × MayFollow (kind.Delimiter delimiter.Comma) (is_at 1) message
IsStatement (statement.delete t targets) =
    (t.kind ≡ kind.Keyword word.Del) × (is_target targets ≡ true) × IsWell targets
IsStatement (statement.declare t names) =
    (is_declaration t.kind ≡ true)
    × AreSeparated (λ name. is_name name.kind ≡ true) (kind.Delimiter delimiter.Comma) false names
IsStatement (statement.import t modules) =
    (t.kind ≡ kind.Keyword word.Import) × AreSeparated IsImportedModule (kind.Delimiter delimiter.Comma) false modules
IsStatement (statement.import_from t source word_import opening names closing) =
    (t.kind ≡ kind.Keyword word.From) × IsSourceOf source.dots source.path
    × (word_import.kind ≡ kind.Keyword word.Import) × AreImportedNames opening names closing

-- ---- lines

-- a well-formed header
unfoldable pub IsHeader : Header → Type 0
IsHeader (line.condition t e) = (is_condition t.kind ≡ true) × (1 ≤ precedence e) × IsWell e
IsHeader (line.word t) = is_word_header t.kind ≡ true
IsHeader (line.for_each word_async t targets word_in e) =
    IsAsync word_async × (t.kind ≡ kind.Keyword word.For) × (is_target targets ≡ true) × IsWell targets
    × (word_in.kind ≡ kind.Keyword word.In) × (is_expression_list e ≡ true) × IsWell e
IsHeader (line.except t) = t.kind ≡ kind.Keyword word.Except
IsHeader (line.except_of t e alias) =
    (t.kind ≡ kind.Keyword word.Except) × (1 ≤ precedence e) × IsWell e × IsAlias alias
IsHeader (line.with word_async t items) =
    IsAsync word_async × (t.kind ≡ kind.Keyword word.With) × (has_item items ≡ true)
    × (ends_without_comma items ≡ true) × (is_open_with items ≡ true) × ArePieces list_context.WithItems items
IsHeader (line.with_enclosed word_async t opening items closing) =
    IsAsync word_async × (t.kind ≡ kind.Keyword word.With) × (opening.kind ≡ kind.Open bracket.Round)
    × (closing.kind ≡ kind.Close bracket.Round) × (has_item items ≡ true) × ArePieces list_context.WithItems items
IsHeader (line.def word_async t name opening parameters closing result) =
    IsAsync word_async × (t.kind ≡ kind.Keyword word.Def) × (is_name name.kind ≡ true)
    × (opening.kind ≡ kind.Open bracket.Round) × (closing.kind ≡ kind.Close bracket.Round)
    × ArePieces (list_context.Parameters true) parameters
    × MayFollow (kind.Delimiter delimiter.Arrow) (is_at 1) result
IsHeader (line.class t name) = (t.kind ≡ kind.Keyword word.Class) × (is_name name.kind ≡ true)
IsHeader (line.class_of t name opening arguments closing) =
    (t.kind ≡ kind.Keyword word.Class) × (is_name name.kind ≡ true) × (opening.kind ≡ kind.Open bracket.Round)
    × (closing.kind ≡ kind.Close bracket.Round) × ArePieces list_context.Arguments arguments

-- statements joined by semicolons, of which one may follow the last
abbrev pub AreStatements : Separated SimpleStatement → Type 0
AreStatements statements = AreSeparated IsStatement (kind.Delimiter delimiter.Semicolon) true statements

-- no statement, or well-formed ones
abbrev pub MayBeStatements : Separated SimpleStatement → Type 0
MayBeStatements no_item = Unit {0}
MayBeStatements statements = AreStatements statements

-- a line of well-formed parts
abbrev pub IsLine : Line → Type 0
IsLine (line.simple statements) = AreStatements statements
IsLine (line.header h colon statements) =
    IsHeader h × (colon.kind ≡ kind.Delimiter delimiter.Colon) × MayBeStatements statements
IsLine (line.decorator t e) = (t.kind ≡ kind.Arithmetic op.At) × (1 ≤ precedence e) × IsWell e

-- a well-formed line of the profile
pub record IsWellLine (l : Line) : Type 0 where
  pub parts : IsLine l
  pub low : line_height l ≤ max_height
