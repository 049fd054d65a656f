use Rattle.std.proofs.Common.{◌≡◌, [], drop, refl, ◌∙◌, sym, rules}
use Rattle.std.specs.BTreeMap.{get}
use Rattle.std.proofs.Math.ListN.{drop_of_length-le}
use Rattle.cv_match.specs.Keys.{name_cmp}
use Rattle.cv_match_feed.specs.code.Index.{indices_in, all_added}
use Rattle.cv_match_feed.proofs.Indices.{all_added_is}
use Rattle.cv_match_feed.proofs.index.index_records.Goals as goal

pub returns : goal.returns
returns c = λ key.
    let none : drop c.loop-index.index c.args.advisories.now ≡ [] = search (rules, drop_of_length-le, c.loop-index-test.false) in
    let last : all_added key c.loop-index.index (drop c.loop-index.index c.args.advisories.now) (indices_in (get name_cmp c.loop-index.names key)) ≡ indices_in (get name_cmp c.loop-index.names key) = rw none refl in
    sym last ∙ c.loop-index.invariant key ∙ all_added_is key c.args.advisories.now
