use Rattle.cv_match_feed.proofs.Lookup.{found_of}
use Rattle.std.proofs.Common.{◌∙◌}
use Rattle.cv_match_feed.proofs.find.find_in.Goals as goal

pub returns-clause-found : goal.returns-clause-found
returns-clause-found g c = found_of c.args.«package».now c.args.feed.now c.args.advisories.now c.deref.result.now c.find_by_kind.result
    (c.deref.ensures.value ∙ c.in_ok-indices.ensures c.args.advisories.now c.requires.indexed) c.find_by_kind.ensures.found
