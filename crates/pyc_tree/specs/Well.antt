-- Well-formed trees: each operand stands at a precedence that its place allows, each token is of the kind that its
-- place asks for, and targets, joined strings, arguments and parameters have their forms (Python reference 3.13,
-- "Expressions").
use Rattle.std.specs.Prelude.{◌≡◌, ◌≤◌, ℕ, Bool, true, false, not, ◌&&◌, ◌||◌, nat_le}
use Rattle.std.specs.Prelude.{if◌then◌else◌, List, [], ◌∷◌}
use Rattle.std.specs.Prelude.{Option, None, Some}
use Rattle.pyc_token.specs.declared.tokens.Bracket.{Bracket}
use Rattle.pyc_token.specs.declared.tokens.Bracket.TheVariants as bracket
use Rattle.pyc_token.specs.declared.tokens.Delimiter.TheVariants as delimiter
use Rattle.pyc_token.specs.declared.tokens.Keyword.TheVariants as word
use Rattle.pyc_token.specs.declared.tokens.Kind.{Kind}
use Rattle.pyc_token.specs.declared.tokens.Kind.TheVariants as kind
use Rattle.pyc_token.specs.declared.tokens.Prefix.{Prefix}
use Rattle.pyc_token.specs.declared.tokens.Prefix.TheVariants as prefix
use Rattle.pyc_token.specs.declared.tokens.Arithmetic.TheVariants as op
use Rattle.pyc_token.specs.declared.tokens.Token.{Token}
use Rattle.pyc_tree.specs.declared.list_context.ListContext.{ListContext}
use Rattle.pyc_tree.specs.declared.list_context.ListContext.TheVariants as list_context
use Rattle.pyc_tree.specs.declared.display_kind.DisplayKind.{DisplayKind}
use Rattle.pyc_tree.specs.declared.display_kind.DisplayKind.TheVariants as display_kind
use Rattle.pyc_tree.specs.Tree.{Tree, Pieces, Links, Comprehensions, Perhaps, Tail}
use Rattle.pyc_tree.specs.Tree as tree
use Rattle.pyc_tree.specs.Kinds.{is_name, is_number, is_string, is_constant, is_comparison}
use Rattle.pyc_tree.specs.Precedence.{precedence, infix_precedence, left_precedence, right_precedence}
use Rattle.pyc_tree.specs.Precedence.{prefix_precedence}
use Rattle.pyc_tree.specs.ListContexts.{is_at, fits, next_context, may_end, has_comma}
use Rattle.pyc_tree.specs.Targets.{is_target}

-- ---- tests of a node

-- whether a prefix makes bytes
abbrev pub is_bytes_prefix : Prefix → Bool
is_bytes_prefix prefix.Bytes = true
is_bytes_prefix prefix.RawBytes = true
is_bytes_prefix _ = false

-- whether a token is a string literal of bytes
abbrev pub is_bytes : Kind → Bool
is_bytes (kind.String p) = is_bytes_prefix p
is_bytes _ = false

-- whether string literals join: all are bytes, or none is ("String literal concatenation")
abbrev pub are_joined : Bool → List Token → Bool
are_joined of_bytes [] = true
are_joined of_bytes (t ∷ more) =
    is_string t.kind && (if of_bytes then is_bytes t.kind else not (is_bytes t.kind)) && are_joined of_bytes more

-- whether a tree is a `yield`
abbrev pub is_yield : Tree → Bool
is_yield (tree.yield _ _) = true
is_yield (tree.yield_from _ _ _) = true
is_yield _ = false

-- whether a tree is an expression, or a tuple without brackets
abbrev pub is_expression_list : Tree → Bool
is_expression_list (tree.bare _) = true
is_expression_list e = is_at 1 e

-- whether a tree may stand in parentheses of its own
abbrev pub is_enclosed : Tree → Bool
is_enclosed e = is_yield e || is_at 1 e

-- whether there is an item
abbrev pub has_item : Pieces → Bool
has_item tree.none = false
has_item _ = true

-- whether items make a display: one in parentheses needs a comma for its only item, and no item between curly brackets
-- makes a dictionary ("Parenthesized forms", "Set displays", "Dictionary displays")
abbrev pub is_display : DisplayKind → Pieces → Bool
is_display display_kind.Tuple items = has_comma items || not (has_item items)
is_display display_kind.Set items = has_item items
is_display _ items = true

-- the brackets of a display
abbrev pub bracket_of : DisplayKind → Bracket
bracket_of display_kind.Tuple = bracket.Round
bracket_of display_kind.List = bracket.Square
bracket_of display_kind.Set = bracket.Curly
bracket_of display_kind.Dict = bracket.Curly

-- where the items of a display stand
abbrev pub context_of : DisplayKind → ListContext
context_of display_kind.Set = list_context.Set
context_of display_kind.Dict = list_context.Entries
context_of _ = list_context.Items

-- whether a tree may be the element of a comprehension
abbrev pub is_element : DisplayKind → Tree → Bool
is_element display_kind.Dict (tree.entry _ _ _) = true
is_element display_kind.Dict _ = false
is_element _ e = is_at 1 e

-- whether the first clause is a `for`
abbrev pub has_for : Comprehensions → Bool
has_for (tree.for_clause _ _ _ _ _ _) = true
has_for _ = false

-- what the second word of a comparison's operator is
abbrev pub IsSecondWord : Kind → Option Token → Type 0
IsSecondWord (kind.Keyword word.Not) None = ⊥
IsSecondWord (kind.Keyword word.Not) (Some t) = t.kind ≡ kind.Keyword word.In
IsSecondWord (kind.Keyword word.Is) (Some t) = t.kind ≡ kind.Keyword word.Not
IsSecondWord _ None = Unit {0}
IsSecondWord _ (Some t) = ⊥

-- a token, where there is one, is `async`
abbrev pub IsAsync : Option Token → Type 0
IsAsync None = Unit {0}
IsAsync (Some t) = t.kind ≡ kind.Keyword word.Async

-- a comparison's operator, and the precedence of the operand after it
abbrev pub IsLink : Token → Option Token → Tree → Type 0
IsLink first second e = (is_comparison first.kind ≡ true) × IsSecondWord first.kind second × (6 ≤ precedence e)

-- ---- trees

unfoldable mutual
  -- a well-formed tree
  pub IsWell : Tree → Type 0
  IsWell (tree.name t) = is_name t.kind ≡ true
  IsWell (tree.number t) = is_number t.kind ≡ true
  IsWell (tree.constant t) = is_constant t.kind ≡ true
  IsWell (tree.strings t more) = (is_string t.kind ≡ true) × (are_joined (is_bytes t.kind) more ≡ true)
  IsWell (tree.parenthesized opening e closing) =
      (opening.kind ≡ kind.Open bracket.Round) × (closing.kind ≡ kind.Close bracket.Round) × (is_enclosed e ≡ true)
      × IsWell e
  IsWell (tree.display display_kind opening items closing) =
      (opening.kind ≡ kind.Open (bracket_of display_kind)) × (closing.kind ≡ kind.Close (bracket_of display_kind))
      × (is_display display_kind items ≡ true) × ArePieces (context_of display_kind) items
  IsWell (tree.comprehension_display display_kind opening e comprehensions closing) =
      (opening.kind ≡ kind.Open (bracket_of display_kind)) × (closing.kind ≡ kind.Close (bracket_of display_kind))
      × (is_element display_kind e ≡ true) × IsWell e × (has_for comprehensions ≡ true)
      × AreComprehensions comprehensions
  IsWell (tree.attribute e dot name) =
      (15 ≤ precedence e) × IsWell e × (dot.kind ≡ kind.Delimiter delimiter.Dot) × (is_name name.kind ≡ true)
  IsWell (tree.call e opening arguments closing) =
      (15 ≤ precedence e) × IsWell e × (opening.kind ≡ kind.Open bracket.Round)
      × (closing.kind ≡ kind.Close bracket.Round) × AreArguments arguments
  IsWell (tree.subscript e opening index closing) =
      (15 ≤ precedence e) × IsWell e × (opening.kind ≡ kind.Open bracket.Square)
      × (closing.kind ≡ kind.Close bracket.Square) × (has_item index ≡ true)
      × ArePieces list_context.Subscript index
  IsWell (tree.await t e) = (t.kind ≡ kind.Keyword word.Await) × (15 ≤ precedence e) × IsWell e
  IsWell (tree.unary sign e) =
      (1 ≤ prefix_precedence sign.kind) × (prefix_precedence sign.kind ≤ precedence e) × IsWell e
  IsWell (tree.binary a sign b) =
      (1 ≤ right_precedence sign.kind) × (left_precedence sign.kind ≤ precedence a)
      × (right_precedence sign.kind ≤ precedence b) × IsWell a × IsWell b
  IsWell (tree.compare a tree.unlinked) = ⊥
  IsWell (tree.compare a (tree.link first second b rest)) =
      (6 ≤ precedence a) × IsWell a × IsLink first second b × IsWell b × AreLinks rest
  IsWell (tree.conditional a word_if test word_else b) =
      (2 ≤ precedence a) × IsWell a × (word_if.kind ≡ kind.Keyword word.If) × (2 ≤ precedence test) × IsWell test
      × (word_else.kind ≡ kind.Keyword word.Else) × (1 ≤ precedence b) × IsWell b
  IsWell (tree.lambda t parameters colon body) =
      (t.kind ≡ kind.Keyword word.Lambda) × ArePieces (list_context.Parameters false) parameters
      × (colon.kind ≡ kind.Delimiter delimiter.Colon) × (1 ≤ precedence body) × IsWell body
  IsWell (tree.bare items) = (has_comma items ≡ true) × ArePieces list_context.Items items
  IsWell (tree.yield t value) = (t.kind ≡ kind.Keyword word.Yield) × MayBe is_expression_list value
  IsWell (tree.yield_from t from e) =
      (t.kind ≡ kind.Keyword word.Yield) × (from.kind ≡ kind.Keyword word.From) × (1 ≤ precedence e) × IsWell e
  IsWell (tree.starred star e) = (star.kind ≡ kind.Arithmetic op.Star) × (1 ≤ precedence e) × IsWell e
  IsWell (tree.double_starred stars e) =
      (stars.kind ≡ kind.Arithmetic op.DoubleStar) × (1 ≤ precedence e) × IsWell e
  IsWell (tree.entry key colon value) =
      (1 ≤ precedence key) × IsWell key × (colon.kind ≡ kind.Delimiter delimiter.Colon) × (1 ≤ precedence value)
      × IsWell value
  IsWell (tree.mapping stars e) = (stars.kind ≡ kind.Arithmetic op.DoubleStar) × (6 ≤ precedence e) × IsWell e
  IsWell (tree.slice lower colon upper) =
      MayBe (is_at 1) lower × (colon.kind ≡ kind.Delimiter delimiter.Colon) × MayBe (is_at 1) upper
  IsWell (tree.stride lower colon upper second step) =
      MayBe (is_at 1) lower × (colon.kind ≡ kind.Delimiter delimiter.Colon) × MayBe (is_at 1) upper
      × (second.kind ≡ kind.Delimiter delimiter.Colon) × MayBe (is_at 1) step
  IsWell (tree.argument e) = (1 ≤ precedence e) × IsWell e
  IsWell (tree.keyword name equal e) =
      (is_name name.kind ≡ true) × (equal.kind ≡ kind.Delimiter delimiter.Equal) × (1 ≤ precedence e) × IsWell e
  IsWell (tree.generator e comprehensions) =
      (1 ≤ precedence e) × IsWell e × (has_for comprehensions ≡ true) × AreComprehensions comprehensions
  IsWell (tree.parameter name annotation default) =
      (is_name name.kind ≡ true) × MayFollow (kind.Delimiter delimiter.Colon) (is_at 1) annotation
      × MayFollow (kind.Delimiter delimiter.Equal) (is_at 1) default
  IsWell (tree.star_parameter star name annotation) =
      (star.kind ≡ kind.Arithmetic op.Star) × (is_name name.kind ≡ true)
      × MayFollow (kind.Delimiter delimiter.Colon) (is_at 1) annotation
  IsWell (tree.bare_star star) = star.kind ≡ kind.Arithmetic op.Star
  IsWell (tree.double_parameter stars name annotation) =
      (stars.kind ≡ kind.Arithmetic op.DoubleStar) × (is_name name.kind ≡ true)
      × MayFollow (kind.Delimiter delimiter.Colon) (is_at 1) annotation
  IsWell (tree.with_item e target) =
      (1 ≤ precedence e) × IsWell e × MayFollow (kind.Keyword word.As) (λ to. is_at 6 to && is_target to) target

  -- well-formed items that may stand from a context on
  pub ArePieces : ListContext → Pieces → Type 0
  ArePieces here tree.none = may_end here ≡ true
  ArePieces here (tree.last e) = (fits here e ≡ true) × IsWell e × (may_end (next_context here e) ≡ true)
  ArePieces here (tree.piece e comma rest) =
      (fits here e ≡ true) × IsWell e × (comma.kind ≡ kind.Delimiter delimiter.Comma)
      × ArePieces (next_context here e) rest

  -- well-formed arguments of a call: a generator without parentheses is the only one
  pub AreArguments : Pieces → Type 0
  AreArguments (tree.last (tree.argument (tree.generator e comprehensions))) =
      (1 ≤ precedence e) × IsWell e × (has_for comprehensions ≡ true) × AreComprehensions comprehensions
  AreArguments tree.none = Unit {0}
  AreArguments (tree.last e) = (fits list_context.Arguments e ≡ true) × IsWell e
  AreArguments (tree.piece e comma rest) =
      (fits list_context.Arguments e ≡ true) × IsWell e × (comma.kind ≡ kind.Delimiter delimiter.Comma)
      × ArePieces (next_context list_context.Arguments e) rest

  -- well-formed comparisons
  pub AreLinks : Links → Type 0
  AreLinks tree.unlinked = Unit {0}
  AreLinks (tree.link first second e rest) = IsLink first second e × IsWell e × AreLinks rest

  -- well-formed clauses of a comprehension
  pub AreComprehensions : Comprehensions → Type 0
  AreComprehensions tree.no_comprehension = Unit {0}
  AreComprehensions (tree.for_clause word_async word_for targets word_in e rest) =
      IsAsync word_async × (word_for.kind ≡ kind.Keyword word.For) × (is_target targets ≡ true) × IsWell targets
      × (word_in.kind ≡ kind.Keyword word.In) × (2 ≤ precedence e) × IsWell e × AreComprehensions rest
  AreComprehensions (tree.if_clause t e rest) =
      (t.kind ≡ kind.Keyword word.If) × (2 ≤ precedence e) × IsWell e × AreComprehensions rest

  -- none, or a well-formed tree that passes a test
  pub MayBe : (Tree → Bool) → Perhaps → Type 0
  MayBe test tree.absent = Unit {0}
  MayBe test (tree.present e) = (test e ≡ true) × IsWell e

  -- nothing, or a token of a kind and a well-formed tree that passes a test
  pub MayFollow : Kind → (Tree → Bool) → Tail → Type 0
  MayFollow k test tree.nothing = Unit {0}
  MayFollow k test (tree.after t e) = (t.kind ≡ k) × (test e ≡ true) × IsWell e
