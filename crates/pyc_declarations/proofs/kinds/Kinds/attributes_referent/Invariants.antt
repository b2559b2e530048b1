use Rattle.std.proofs.Common.{◌≡◌, drop}
use Rattle.pyc_declarations.specs.Kinds.{attributes_referent}
use Rattle.pyc_declarations.specs.KindsView.{kinds_in}
use Rattle.pyc_declarations.specs.Looks.{attributes_looks}
use Rattle.pyc_names.specs.FollowingView.{referent_of}
use Rattle.pyc_names.specs.NotedLooks.{with_looks}
use Rattle.pyc_names.specs.NotedLooksView.{noted_in}
use Rattle.pyc_declarations.proofs.kinds.Kinds.attributes_referent.Given as goal

-- the attributes that are left lead to the same, and what is noted, with what they look at, is the whole
abbrev pub invariant-loop-name : goal.invariant-loop-name
invariant-loop-name l =
    record {
      rest : attributes_referent (kinds_in l.self) (referent_of l.end) (drop l.name-index l.names)
          ≡ attributes_referent (kinds_in l.self) (referent_of l.fn.found) l.names;
      noted : with_looks (noted_in l.looks) (attributes_looks (kinds_in l.self) (referent_of l.end) (drop l.name-index l.names))
          ≡ with_looks (noted_in l.fn.looks) (attributes_looks (kinds_in l.self) (referent_of l.fn.found) l.names);
    }
