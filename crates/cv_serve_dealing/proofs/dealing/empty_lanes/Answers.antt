use Rattle.std.proofs.Common.{[], refl, rules}
use Rattle.cv_serve_dealing.proofs.DealLemmas.{dealt_more, one_longer}
use Rattle.cv_serve_dealing.proofs.dealing.empty_lanes.Goals as goal

pub loop-number-preserved : goal.loop-number-preserved
loop-number-preserved c =
    let before = c.loop-number.invariant in
    record {
      count = one_longer c.loop-number.lanes.items _ c.push.new.self.items c.loop-number.number before.count c.in_ok-push.ensures.items;
      empty = dealt_more [] c.loop-number.lanes.items _ c.push.new.self.items c.loop-number.number before.count c.in_ok-push.ensures.items before.empty (refl, search rules, search rules);
    }
