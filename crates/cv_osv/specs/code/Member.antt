-- The known members of an event, as the code names them.
use Rattle.std.specs.Prelude.{ℕ, List, codes}
use Rattle.cv_base.specs.declared.advisory.Turn.{Turn}
use Rattle.cv_base.specs.declared.advisory.Turn.TheVariants as turn
use Rattle.cv_osv.specs.declared.range.EventMember.{EventMember}
use Rattle.cv_osv.specs.declared.range.EventMember.TheVariants.{Introduced, Fixed, LastAffected, Limit}

-- the name of a member
abbrev pub name_of : EventMember → List ℕ
name_of Introduced = codes "introduced"
name_of Fixed = codes "fixed"
name_of LastAffected = codes "last_affected"
name_of Limit = codes "limit"

-- the turn that a member's version makes
abbrev pub make_of : EventMember → List ℕ → Turn
make_of Introduced = turn.Introduced
make_of Fixed = turn.Fixed
make_of LastAffected = turn.LastAffected
make_of Limit = turn.Limit
