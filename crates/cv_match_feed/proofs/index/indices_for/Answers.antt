use Rattle.std.proofs.Common.{rules}
use Rattle.cv_match_feed.proofs.Lookup.{merged_about}
use Rattle.cv_match_feed.proofs.index.indices_for.Goals as goal

pub returns : goal.returns
returns c = λ records indexed. merged_about c.args.names.now records c.args.«package».now c.indices_under.result indexed
    (search (rules, c.indices_under.ensures, c.as_slice.ensures, c.in_ok-keys.ensures))
