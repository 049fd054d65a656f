use Rattle.std.proofs.Common.{◌≡◌, [], drop}
use Rattle.cv_match_feed.specs.code.Index.{merged_under}
use Rattle.cv_match_feed.proofs.index.indices_under.Given as goal

-- the indices so far, merged with those under the remaining names, are those under all
abbrev pub invariant-loop-key : goal.invariant-loop-key
invariant-loop-key l = merged_under l.names l.indices.items (drop l.key-index l.keys) ≡ merged_under l.names [] l.keys
