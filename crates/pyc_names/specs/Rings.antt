-- Names that lead from import to import and come back: rings.
use Rattle.std.specs.Prelude.{◌≡◌, ℕ, zero, suc, List, Option, None, Some, IsTrue}
use Rattle.pyc_names.specs.Following.{QualifiedName, cycle, Step, ends, leads, step, follow, on_ring}
use Rattle.pyc_names.specs.Interfaces.{Interface}

-- the name that a step leads to, or what is found from there on
abbrev pub onward : (QualifiedName → Option QualifiedName) → Step → Option QualifiedName
onward further (ends found) = None
onward further (leads next) = further next

-- the name that so many steps from a name lead to, if they do not end before
abbrev pub reached : ℕ → List Interface → QualifiedName → Option QualifiedName
reached zero files q = Some q
reached (suc n) files q = onward (reached n files) (step files q)

-- a name is on a ring: some steps from it, at least one, lead back to it
abbrev pub IsOnRing : List Interface → QualifiedName → Type 0
IsOnRing files q = (n : ℕ) × (reached (suc n) files q ≡ Some q)

-- a name on a ring is a cycle, wherever on the ring it stands
abbrev pub RingsAreCycles : Type 0
RingsAreCycles = (files : List Interface) (q : QualifiedName) → IsOnRing files q → follow files q ≡ cycle

-- all that a name on a ring leads to is on that ring
abbrev pub RingsStayRings : Type 0
RingsStayRings =
    (files : List Interface) (q r : QualifiedName) (n : ℕ) → IsOnRing files q → reached n files q ≡ Some r
    → IsOnRing files r

-- a name that is reported to be on a ring is on one
abbrev pub ReportedRingsAreRings : Type 0
ReportedRingsAreRings = (files : List Interface) (q : QualifiedName) → IsTrue (on_ring files q) → IsOnRing files q

-- a name that is on a ring is reported to be on one
abbrev pub RingsAreReported : Type 0
RingsAreReported = (files : List Interface) (q : QualifiedName) → IsOnRing files q → IsTrue (on_ring files q)
