-- Where blocks of an `if` ended.
use Rattle.std.proofs.Common.{◌≡◌, List, [], ◌∷◌, ◌++◌, map, refl, sym, ap, ◌∙◌}
use Rattle.pyc_blocks.specs.Flows.{join_branch_ends}
use Rattle.pyc_places.specs.declared.states.State.{State as StateOf}
use Rattle.pyc_places.specs.StateView.{state_of}
use Rattle.pyc_places.specs.States.{State, joined_states}

-- the last end is joined first
ends_joined_last : (ends : List StateOf) (end : StateOf) (s : State)
    → join_branch_ends (map state_of (ends ++ (end ∷ []))) s ≡ join_branch_ends (map state_of ends) (joined_states (state_of end) s)
ends_joined_last [] end s = refl
ends_joined_last (first ∷ ends) end s = ap (λ x. joined_states (state_of first) x) (ends_joined_last ends end s)

-- one turn of the loop that takes ends off
pub end_turn : (before after : List StateOf) (end : StateOf) (s next : State) → before ≡ after ++ (end ∷ []) → next ≡ joined_states (state_of end) s
    → join_branch_ends (map state_of after) next ≡ join_branch_ends (map state_of before) s
end_turn before after end s next is joined =
    ap (λ x. join_branch_ends (map state_of after) x) joined
    ∙ sym (ends_joined_last after end s)
    ∙ ap (λ l. join_branch_ends (map state_of l) s) (sym is)
