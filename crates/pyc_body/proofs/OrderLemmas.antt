-- The orders over which obligations hold or not.
use Rattle.std.proofs.Common.{refl}
use Rattle.pyc_body.specs.FoundLaws.{MrosAreTheFiles}
use Rattle.pyc_class_ids.specs.Class.{builtin, user}
use Rattle.pyc_iface.specs.Answers.{orders_by}

pub orders_are : MrosAreTheFiles
unfolding orders_by
orders_are files (builtin c) = refl
orders_are files (user m x) = refl
