-- What each step of reading tokens is proved by.
use Rattle.pyc_build.proofs.Steps.{ReadsTokens_made}

pub ruleset reading = (ReadsTokens_made)
