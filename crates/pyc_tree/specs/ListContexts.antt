-- Lists with commas: which items may stand where (Python reference 3.13, "Expression lists", "Displays for lists, sets
-- and dictionaries", "Calls", "Subscriptions", "Slicings", "Function definitions").
use Rattle.std.specs.Prelude.{ℕ, Bool, true, false, not, ◌&&◌, ◌||◌, nat_le, if◌then◌else◌}
use Rattle.pyc_token.specs.declared.tokens.Arithmetic.TheVariants as op
use Rattle.pyc_token.specs.declared.tokens.Bracket.{Bracket}
use Rattle.pyc_token.specs.declared.tokens.Bracket.TheVariants as bracket
use Rattle.pyc_token.specs.declared.tokens.Delimiter.TheVariants as delimiter
use Rattle.pyc_token.specs.declared.tokens.Kind.{Kind}
use Rattle.pyc_token.specs.declared.tokens.Kind.TheVariants as kind
use Rattle.pyc_tree.specs.declared.list_context.ListContext.{ListContext}
use Rattle.pyc_tree.specs.declared.list_context.ListContext.TheVariants as list_context
use Rattle.pyc_tree.specs.declared.display_kind.DisplayKind.{DisplayKind}
use Rattle.pyc_tree.specs.declared.display_kind.DisplayKind.TheVariants as display_kind
use Rattle.pyc_tree.specs.Tree.{Tree, Pieces, Tail}
use Rattle.pyc_tree.specs.Tree as tree
use Rattle.pyc_tree.specs.Kinds.{begins_expression, is_name}
use Rattle.pyc_tree.specs.Precedence.{precedence}

-- whether items have a comma: so they make a tuple
abbrev pub has_comma : Pieces → Bool
has_comma (tree.piece _ _ _) = true
has_comma _ = false

-- whether an expression stands at this precedence or a tighter one
abbrev pub is_at : ℕ → Tree → Bool
is_at loosest e = nat_le loosest (precedence e)

-- whether a parameter may have this annotation: a lambda's has none
abbrev pub is_annotation : Bool → Tail → Bool
is_annotation is_annotated tree.nothing = true
is_annotation is_annotated (tree.after _ _) = is_annotated

-- whether an item may stand in a tuple or a list: an expression, or `*` and an operand of the precedence of `|`
abbrev pub is_item : Tree → Bool
is_item (tree.starred _ e) = is_at 6 e
is_item e = is_at 1 e

-- whether an item may stand in a list of targets
abbrev pub is_target_item : Tree → Bool
is_target_item (tree.starred _ e) = is_at 6 e
is_target_item e = is_at 6 e

-- whether an item may stand in a subscript: an expression or a slice
abbrev pub is_index : Tree → Bool
is_index (tree.slice _ _ _) = true
is_index (tree.stride _ _ _ _ _) = true
is_index e = is_at 1 e

-- whether an item may stand in the header of a `with`
abbrev pub is_with_item : Tree → Bool
is_with_item (tree.with_item _ _) = true
is_with_item _ = false

-- whether an item may stand in a dictionary: `**` and an operand of the precedence of `|`, or a key with its value
abbrev pub is_entry : Tree → Bool
is_entry (tree.entry _ _ _) = true
is_entry (tree.mapping _ e) = is_at 6 e
is_entry _ = false

-- whether an item is `**` and a value, or a keyword with its value
abbrev pub is_last_argument : Tree → Bool
is_last_argument (tree.keyword _ _ _) = true
is_last_argument (tree.double_starred _ _) = true
is_last_argument _ = false

-- whether an item may stand in a call after a keyword: no plain argument may
abbrev pub is_keyword_argument : Tree → Bool
is_keyword_argument (tree.starred _ e) = is_at 1 e
is_keyword_argument e = is_last_argument e

-- whether an item may stand in a call
abbrev pub is_argument : Tree → Bool
is_argument (tree.argument _) = true
is_argument e = is_keyword_argument e

-- whether an item may stand after a bare `*` among parameters: a parameter given by keyword
abbrev pub is_plain_parameter : Bool → Tree → Bool
is_plain_parameter is_annotated (tree.parameter _ annotation _) = is_annotation is_annotated annotation
is_plain_parameter is_annotated _ = false

-- whether an item may stand among parameters after a `*`
abbrev pub is_late_parameter : Bool → Tree → Bool
is_late_parameter is_annotated (tree.double_parameter _ _ annotation) = is_annotation is_annotated annotation
is_late_parameter is_annotated e = is_plain_parameter is_annotated e

-- whether an item may stand among parameters before any `*`
abbrev pub is_parameter : Bool → Tree → Bool
is_parameter is_annotated (tree.star_parameter _ _ annotation) = is_annotation is_annotated annotation
is_parameter is_annotated (tree.bare_star _) = true
is_parameter is_annotated e = is_late_parameter is_annotated e

-- whether an item may stand in a context
abbrev pub fits : ListContext → Tree → Bool
fits list_context.Items e = is_item e
fits list_context.Targets e = is_target_item e
fits list_context.Subscript e = is_index e
fits list_context.WithItems e = is_with_item e
fits list_context.Braces e = is_item e || is_entry e
fits list_context.Set e = is_item e
fits list_context.Entries e = is_entry e
fits list_context.Arguments e = is_argument e
fits list_context.KeywordArguments e = is_keyword_argument e
fits list_context.LastArguments e = is_last_argument e
fits (list_context.Parameters is_annotated) e = is_parameter is_annotated e
fits (list_context.AfterStar is_annotated) e = is_plain_parameter is_annotated e
fits (list_context.KeywordOnly is_annotated) e = is_late_parameter is_annotated e
fits list_context.Ended e = false

-- the context after an argument: `**` comes after all `*`, a keyword after all plain arguments
abbrev pub after_argument : ListContext → Tree → ListContext
after_argument here (tree.double_starred _ _) = list_context.LastArguments
after_argument list_context.Arguments (tree.keyword _ _ _) = list_context.KeywordArguments
after_argument here _ = here

-- the context after a parameter
abbrev pub after_parameter : ListContext → Bool → Tree → ListContext
after_parameter here is_annotated (tree.star_parameter _ _ _) = list_context.KeywordOnly is_annotated
after_parameter here is_annotated (tree.bare_star _) = list_context.AfterStar is_annotated
after_parameter here is_annotated (tree.double_parameter _ _ _) = list_context.Ended
after_parameter here is_annotated _ = here

-- the context after the first item between curly brackets
abbrev pub after_brace : Tree → ListContext
after_brace e = if is_entry e then list_context.Entries else list_context.Set

-- the context after an item
abbrev pub next_context : ListContext → Tree → ListContext
next_context list_context.Braces e = after_brace e
next_context list_context.Arguments e = after_argument list_context.Arguments e
next_context list_context.KeywordArguments e = after_argument list_context.KeywordArguments e
next_context (list_context.Parameters is_annotated) e =
    after_parameter (list_context.Parameters is_annotated) is_annotated e
next_context (list_context.AfterStar is_annotated) e = list_context.KeywordOnly is_annotated
next_context (list_context.KeywordOnly is_annotated) e =
    after_parameter (list_context.KeywordOnly is_annotated) is_annotated e
next_context here _ = here

-- whether the list may end in a context: a parameter follows a bare `*`
abbrev pub may_end : ListContext → Bool
may_end (list_context.AfterStar _) = false
may_end _ = true

-- whether a token is `*`
abbrev pub is_star : Kind → Bool
is_star (kind.Arithmetic op.Star) = true
is_star _ = false

-- whether a token is `**`
abbrev pub is_double_star : Kind → Bool
is_double_star (kind.Arithmetic op.DoubleStar) = true
is_double_star _ = false

-- whether a token is `:`
abbrev pub is_colon : Kind → Bool
is_colon (kind.Delimiter delimiter.Colon) = true
is_colon _ = false

-- whether a token may begin an item in a context
abbrev pub begins : ListContext → Kind → Bool
begins list_context.Subscript k = begins_expression k || is_colon k
begins list_context.WithItems k = begins_expression k
begins (list_context.Parameters _) k = is_name k || is_star k || is_double_star k
begins (list_context.AfterStar _) k = is_name k
begins (list_context.KeywordOnly _) k = is_name k || is_double_star k
begins list_context.Ended k = false
begins list_context.Items k = begins_expression k || is_star k
begins list_context.Targets k = begins_expression k || is_star k
begins list_context.Set k = begins_expression k || is_star k
begins _ k = begins_expression k || is_star k || is_double_star k

-- where the items between brackets stand
abbrev pub context_in : Bracket → ListContext
context_in bracket.Curly = list_context.Braces
context_in _ = list_context.Items

-- what the brackets hold, by their first item
abbrev pub display_kind_of : Bracket → Tree → DisplayKind
display_kind_of bracket.Round e = display_kind.Tuple
display_kind_of bracket.Square e = display_kind.List
display_kind_of bracket.Curly e = if is_entry e then display_kind.Dict else display_kind.Set

-- what the brackets hold where nothing stands between them
abbrev pub empty_display_kind : Bracket → DisplayKind
empty_display_kind bracket.Round = display_kind.Tuple
empty_display_kind bracket.Square = display_kind.List
empty_display_kind bracket.Curly = display_kind.Dict
