use Rattle.std.proofs.Common.{rules, ◌≡◌, ◌∙◌, ap}
use Rattle.std.specs.BTreeMap.{get}
use Rattle.cv_match.specs.Keys.{name_cmp}
use Rattle.cv_match_feed.specs.code.Index.{indices_in, once}
use Rattle.cv_match_feed.proofs.PutLemmas.{lent_is, put_is}
use Rattle.cv_match_feed.proofs.index.add_index.Goals as goal

-- the key of the entry is the name
same_key : (c : goal.In_ok-push_once) → c.in_ok-clone.field-0 ≡ c.args.name.now
same_key c = search (rules, c.in_ok-clone.ensures.cases)

-- what the entry lends are the indices under the name
lent : (c : goal.In_ok-push_once) → c.or_default.result.now.items ≡ indices_in (get name_cmp c.args.names.now c.args.name.now)
lent c = lent_is _ c.or_default.result.now c.or_default.ensures.value ∙ ap indices_in (c.in_ok-names.ensures.value ∙ ap (get name_cmp c.args.names.now) (same_key c))

-- the name has the indices that were written, and other names keep theirs
pub returns : goal.returns
returns c =
    let updated = (c.in_ok-names.ensures.update.0 c.push_once.new.indices).0 in
    put_is c.args.names.now _ c.args.name.now c.args.index c.push_once.new.indices (λ q. rw (← same_key c) (search (rules, updated q))) (c.in_ok-push_once.ensures ∙ ap (once c.args.index) (lent c))
