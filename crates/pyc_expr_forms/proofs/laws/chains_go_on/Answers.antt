use Rattle.pyc_expr_forms.proofs.Chains.{chain_state}
use Rattle.pyc_expr_forms.proofs.laws.chains_go_on.Goals as goal

pub returns : goal.returns
returns c = chain_state
