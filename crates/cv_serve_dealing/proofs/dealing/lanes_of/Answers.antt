use Rattle.std.proofs.Common.{◌≡◌, [], ◌∷◌, ◌++◌, List, drop, length, take, ap, subst, sym, ◌∙◌}
use Rattle.cv_serve_dealing.specs.code.Dealt.{AreDealt, IsGiven}
use Rattle.cv_serve_dealing.specs.declared.lane.Lane.{Lane}
use Rattle.cv_serve_dealing.proofs.DealLemmas.{given_count, given_dealt, written_back}
use Rattle.cv_serve_dealing.proofs.dealing.lanes_of.Goals as goal

pub loop-one-preserved : goal.loop-one-preserved
loop-one-preserved c =
    let before = c.loop-one.invariant in
    let lanes = c.loop-one.lanes in
    let new = c.give.new.lanes in
    let given : IsGiven 0 c.in-Some.one lanes.items new = subst (λ (ls : List Lane). IsGiven 0 c.in-Some.one ls new) c.as_mut_slice.ensures.value c.in_ok-give.ensures in
    let count = given_count 0 c.in-Some.one lanes.items new given in
    let whole : take lanes.len (new ++ drop (length new) lanes.items) ≡ new = written_back lanes.len new (drop (length new) lanes.items) (lanes.ok.0 ∙ sym count) in
    record {
      count = ap length whole ∙ (count ∙ before.count);
      dealt = subst (AreDealt 0 (c.loop-one.yielded ++ c.in-Some.one ∷ [])) (sym whole) (given_dealt 0 c.loop-one.yielded c.in-Some.one lanes.items new before.dealt given);
    }
