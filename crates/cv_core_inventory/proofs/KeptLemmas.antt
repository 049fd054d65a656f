-- What each event keeps is right.
use Rattle.std.specs.Prelude.{◌≡◌, ℕ, ◌+◌, ◌≤◌, nat_le, Bool, true, false, not, ◌&&◌, cond, List, [], length, Option, Some, None, refl}
use Rattle.std.specs.List.Sorted.{IsStrictlySortedBy}
use Rattle.std.specs.Map.{keys_of}
use Rattle.std.specs.Option.{option_map}
use Rattle.std.proofs.Common.{ap, arith, subst, sym, ◌∙◌}
use Rattle.std.proofs.lemmas.Option.{same_Some}
use Rattle.cv_advdb.specs.Feeds.{FeedTable, by_id, has_feed, records_of, replaced}
use Rattle.cv_advdb.specs.Patch.{patched, patched_records}
use Rattle.cv_advdb.specs.Touched.{IsTouched}
use Rattle.cv_base.specs.Texts.{same}
use Rattle.cv_base.specs.declared.advisory.Advisory.{Advisory}
use Rattle.cv_base.specs.declared.finding.Row.{Row}
use Rattle.cv_base.specs.declared.«package».PackageName.{PackageName}
use Rattle.cv_desk.specs.Stored.{Stored}
use Rattle.cv_facts.specs.Reduction.{IsRight, Known}
use Rattle.cv_match.specs.Findings.{text_cmp}
use Rattle.cv_core_machine.specs.Answer.{report_at, report_of}
use Rattle.cv_core_machine.specs.Board.{board_of}
use Rattle.cv_core_machine.specs.Matching.{touched_pairs}
use Rattle.cv_core_machine.specs.Rows.{rows_of as machine_rows}
use Rattle.cv_core_machine.specs.Scans.{StatesEveryLayer, Trees, trees_of}
use Rattle.cv_core_machine.specs.State.{Feeds, Images, State, value_at, with_value, without_value}
use Rattle.cv_core_machine.specs.Step.{is_full}
use Rattle.cv_core_machine.specs.declared.image.Image.{Image}
use Rattle.cv_core_machine.proofs.Consistent.{put_within_limit}
use Rattle.cv_core_machine.proofs.LayerTables.{value_put, value_cut}
use Rattle.cv_core_outcome.specs.Outcome.{FactTable, has_facts, outcome_at}
use Rattle.cv_core_outcome.specs.Truth.{AreFactsOf, report_with}
use Rattle.cv_core_outcome.specs.Update.{rematch_pairs, rematched, update_rows}
use Rattle.cv_core_outcome.specs.declared.outcome.Outcome.{Outcome}
use Rattle.cv_core_outcome.proofs.TruthLemmas.{all_rematched, board_is, pairs_machine, report_is, rows_machine}
use Rattle.cv_core_registry.specs.Registrations.{IsRegular as IsRegularRegistry, Registrations}
use Rattle.cv_tree.specs.Entries.{costs_of, map_values, remade_entries, rows_of}
use Rattle.cv_tree.proofs.ValueLemmas.{mapped_at, mapped_with, mapped_without}
use Rattle.cv_core_inventory.specs.code.Changes.{feeds_replaced, image_added, image_dropped, layer_indexed}
use Rattle.cv_core_inventory.specs.Knowledge.{AreOutcomesOf, IsOutcomeOf, IsSoundImage, KnowledgeView, Outcomes, nothing_known, report_by}
use Rattle.cv_core_inventory.proofs.FactTables.{entered_indexed, facts_entered, facts_remaining, remaining_known}
use Rattle.cv_core_inventory.proofs.RenewedLemmas.{all_known}
use Rattle.cv_core_inventory.specs.Holdings.{Holdings, IsRegular, alone, feed_table, holding}
use Rattle.cv_core_inventory.specs.code.Kept.{HasEntered, IsAlike, IsKept, holdings_of, registrations, with_image, without_image}

-- what is true of a registry is true of what is held
pub alike_now : (r after : Registrations) (table : FeedTable) (now : Holdings) → holdings_of r table ≡ now → IsAlike r after → IsAlike (registrations now) after
alike_now r after table now was h = subst (λ (x : Holdings). IsAlike (registrations x) after) was h

pub with_image_now : (r after : Registrations) (table : FeedTable) (now : Holdings) (hash : List ℕ) (image : Image) → holdings_of r table ≡ now
    → after ≡ with_image r hash image → after ≡ with_image (registrations now) hash image
with_image_now r after table now hash image was is = is ∙ ap (λ (x : Holdings). with_image (registrations x) hash image) was

pub without_image_now : (r after : Registrations) (table : FeedTable) (now : Holdings) (image : List ℕ) (layers : List (List ℕ)) → holdings_of r table ≡ now
    → after ≡ without_image r image layers → after ≡ without_image (registrations now) image layers
without_image_now r after table now image layers was is = is ∙ ap (λ (x : Holdings). without_image (registrations x) image layers) was

pub entered_now : (r after : Registrations) (table : FeedTable) (now : Holdings) (layer : List ℕ) → holdings_of r table ≡ now → HasEntered r after layer
    → HasEntered (registrations now) after layer
entered_now r after table now layer was h = subst (λ (x : Holdings). HasEntered (registrations x) after layer) was h

-- what is held where the feeds stay
pub holdings_same : (r after : Registrations) (k next : KnowledgeView) (now made : Holdings) → holdings_of r k.feeds ≡ now → next.feeds ≡ k.feeds → made ≡ holdings_of after next.feeds
    → made ≡ holdings_of after (feed_table now)
holdings_same r after k next now made was feeds is = is ∙ ap (holdings_of after) (feeds ∙ ap feed_table was)

-- nothing is registered
pub kept_none : (trees : List ℕ → Option (Option (List Stored))) (r : Registrations) (k : KnowledgeView) (images feeds : ℕ)
    → r ≡ record { images = []; layers = []; limit = images } → k ≡ nothing_known feeds → IsKept trees r k
kept_none trees r k images feeds a b = rw (a, b) record {
  right = record { indexed = λ q. refl; own = λ q known is. absurd (cc is); right = λ q known is. absurd (cc is) };
  made = refl;
  feeds_within_limit = omega arith;
  images = λ q image is. absurd (cc is);
}

-- an equal inventory
pub kept_copy : (trees : List ℕ → Option (Option (List Stored))) (r s : Registrations) (k next : KnowledgeView) → IsKept trees r k → s ≡ r → next ≡ k → IsKept trees s next
kept_copy trees r s k next kept a b = rw (a, b) kept

-- the same images, and the same layers Indexed
alike : (trees : List ℕ → Option (Option (List Stored))) (r after : Registrations) (k : KnowledgeView) → IsKept trees r k → IsAlike r after → IsKept trees after k
alike trees r after k kept a = record {
  right = record { indexed = λ q. kept.right.indexed q ∙ sym (a.indexed q); own = kept.right.own; right = kept.right.right };
  made = kept.made ∙ ap (λ (images : Images). map_values (outcome_at k.facts k.feeds.feeds) images) (sym a.images);
  feeds_within_limit = kept.feeds_within_limit;
  images = λ q image is. kept.images q image (ap (λ (images : Images). value_at images q) (sym a.images) ∙ is);
}

pub kept_alike : (trees : List ℕ → Option (Option (List Stored))) (r after : Registrations) (k next : KnowledgeView) (now : Holdings) → IsKept trees r k
    → holdings_of r k.feeds ≡ now → IsAlike (registrations now) after → next ≡ k → IsKept trees after next
kept_alike trees r after k next now kept was a b =
    kept_copy trees after after k next (alike trees r after k kept (subst (λ (h : Holdings). IsAlike (registrations h) after) (sym was) a)) refl b

-- Register

put_sound : (b : Bool) (found : Option Image) (new image : Image) → IsSoundImage new → (found ≡ Some image → IsSoundImage image)
    → cond b (Some new) found ≡ Some image → IsSoundImage image
put_sound true found new image sound rest is = subst IsSoundImage (same_Some new image is) sound
put_sound false found new image sound rest is = rest is

added : (trees : List ℕ → Option (Option (List Stored))) (r : Registrations) (k : KnowledgeView) (hash : List ℕ) (new : Image) → IsKept trees r k
    → IsSoundImage new → IsKept trees (with_image r hash new) (image_added k hash new)
added trees r k hash new kept sound = record {
  right = record { indexed = λ q. kept.right.indexed q ∙ sym (entered_indexed r.layers new.layers q); own = kept.right.own; right = kept.right.right };
  made =
      ap (λ (o : Outcomes). with_value o hash (outcome_at k.facts k.feeds.feeds new)) kept.made
      ∙ sym (mapped_with text_cmp (outcome_at k.facts k.feeds.feeds) r.images hash new);
  feeds_within_limit = kept.feeds_within_limit;
  images = λ q image is. put_sound (same hash q) (value_at r.images q) new image sound (kept.images q image) (sym (value_put r.images hash new q) ∙ is);
}

pub kept_added : (trees : List ℕ → Option (Option (List Stored))) (r after : Registrations) (k next : KnowledgeView) (now : Holdings) (hash : List ℕ) (new image : Image)
    → IsKept trees r k → holdings_of r k.feeds ≡ now → after ≡ with_image (registrations now) hash new → IsSoundImage new → image ≡ new
    → next ≡ image_added k hash image → IsKept trees after next
kept_added trees r after k next now hash new image kept was is sound a b =
    kept_copy trees (with_image r hash new) after (image_added k hash new) next (added trees r k hash new kept sound)
    (is ∙ ap (λ (h : Holdings). with_image (registrations h) hash new) (sym was)) (b ∙ ap (image_added k hash) a)

-- DropImage

found_before : (b : Bool) (found : Option Image) (image : Image) → cond b None found ≡ Some image → found ≡ Some image
found_before true found image is = absurd (cc is)
found_before false found image is = is

dropped : (trees : List ℕ → Option (Option (List Stored))) (r : Registrations) (k : KnowledgeView) (image : List ℕ) (names : List (List ℕ)) → IsKept trees r k → IsRegularRegistry r
    → IsStrictlySortedBy text_cmp (keys_of k.facts)
    → IsKept trees (without_image r image names) (image_dropped k image names (without_image r image names).layers)
dropped trees r k image names kept regular ascends =
    let others = without_value r.images image in
    record {
      right = facts_remaining trees r.layers k.facts names others kept.right regular.layers ascends;
      made =
          ap (λ (o : Outcomes). without_value o image) kept.made ∙ sym (mapped_without text_cmp (outcome_at k.facts k.feeds.feeds) r.images image)
          ∙ remaining_known trees r.layers k.facts k.feeds.feeds names others kept.right regular.layers ascends;
      feeds_within_limit = kept.feeds_within_limit;
      images = λ q found is. kept.images q found (found_before (same image q) (value_at r.images q) found (sym (value_cut r.images image q regular.images) ∙ is));
    }

pub kept_dropped : (trees : List ℕ → Option (Option (List Stored))) (r after : Registrations) (k next : KnowledgeView) (now : Holdings) (image : List ℕ) (names : List (List ℕ))
    → IsKept trees r k → holdings_of r k.feeds ≡ now → IsRegularRegistry r → IsStrictlySortedBy text_cmp (keys_of k.facts)
    → after ≡ without_image (registrations now) image names → next ≡ image_dropped k image names after.layers → IsKept trees after next
kept_dropped trees r after k next now image names kept was regular ascends is a =
    let made : after ≡ without_image r image names = is ∙ ap (λ (h : Holdings). without_image (registrations h) image names) (sym was) in
    kept_copy trees (without_image r image names) after (image_dropped k image names (without_image r image names).layers) next
    (dropped trees r k image names kept regular ascends) made (a ∙ ap (λ (s : Registrations). image_dropped k image names s.layers) made)

-- Indexed

entered : (trees : List ℕ → Option (Option (List Stored))) (r after : Registrations) (k : KnowledgeView) (known : Known) → IsKept trees r k → IsRegularRegistry r
    → HasEntered r after known.digest → IsRight trees known → IsKept trees after (layer_indexed k known r.images)
entered trees r after k known kept regular h right =
    subst (λ (s : Registrations). IsKept trees s (layer_indexed k known r.images)) (sym h.now)
    (record {
      right = facts_entered trees r.layers k.facts known.digest known kept.right refl right;
      made = all_known k.facts known.digest known k.feeds.feeds r.images k.outcomes regular.images (kept.right.indexed known.digest ∙ h.new) kept.made;
      feeds_within_limit = kept.feeds_within_limit;
      images = kept.images;
    })

pub kept_entered : (trees : List ℕ → Option (Option (List Stored))) (r after : Registrations) (k next : KnowledgeView) (now : Holdings) (known : Known) → IsKept trees r k
    → holdings_of r k.feeds ≡ now → IsRegularRegistry r → HasEntered (registrations now) after known.digest → IsRight trees known → next ≡ layer_indexed k known r.images
    → IsKept trees after next
kept_entered trees r after k next now known kept was regular h right is =
    kept_copy trees after after (layer_indexed k known r.images) next
    (entered trees r after k known kept regular (subst (λ (x : Holdings). HasEntered (registrations x) after known.digest) (sym was) h) right) refl is

-- the layer had no facts
pub fresh_now : (trees : List ℕ → Option (Option (List Stored))) (r after : Registrations) (k : KnowledgeView) (now : Holdings) (layer : List ℕ) → IsKept trees r k
    → holdings_of r k.feeds ≡ now → HasEntered (registrations now) after layer → has_facts k.facts layer ≡ false
fresh_now trees r after k now layer kept was h =
    kept.right.indexed layer ∙ (subst (λ (x : Holdings). HasEntered (registrations x) after layer) (sym was) h).new

-- Update

updated : (trees : List ℕ → Option (Option (List Stored))) (r : Registrations) (k : KnowledgeView) (feeds : FeedTable) → IsKept trees r k → length feeds.feeds ≤ feeds.limit
    → IsKept trees r (feeds_replaced k feeds)
updated trees r k feeds kept few = record {
  right = kept.right;
  made = ap (λ (o : Outcomes). remade_entries (λ _. rematched feeds.feeds) o) kept.made ∙ all_rematched k.facts k.feeds.feeds feeds.feeds r.images;
  feeds_within_limit = few;
  images = kept.images;
}

pub kept_updated : (trees : List ℕ → Option (Option (List Stored))) (r s : Registrations) (k next : KnowledgeView) (feeds : FeedTable) → IsKept trees r k → s ≡ r
    → next ≡ feeds_replaced k feeds → length feeds.feeds ≤ feeds.limit → IsKept trees s next
kept_updated trees r s k next feeds kept a b few = kept_copy trees r s (feeds_replaced k feeds) next (updated trees r k feeds kept few) a b

-- the feeds after an update, where there is room for them
pub replaced_within_limit : (now : Holdings) (feed : List ℕ) (records : List Advisory) (after : FeedTable) → IsRegular now → is_full (alone now) feed ≡ false
    → after ≡ replaced (feed_table now) feed records → length after.feeds ≤ after.limit
replaced_within_limit now feed records after h room is =
    subst (λ (t : FeedTable). length t.feeds ≤ t.limit) (sym is) (put_within_limit (alone now) feed (by_id records) h room)

not_full : (b c : Bool) → c ≡ true → (b && not c) ≡ false
not_full true true h = refl
not_full true false h = absurd (cc h)
not_full false c h = refl

-- the feeds after a patch of one that stands
pub patched_within_limit : (now : Holdings) (feed : List ℕ) (records : List Advisory) (remove : List (List ℕ)) (after : FeedTable) → IsRegular now
    → has_feed feed now.feeds ≡ true → after ≡ patched (feed_table now) feed records remove → length after.feeds ≤ after.limit
patched_within_limit now feed records remove after h stands is =
    subst (λ (t : FeedTable). length t.feeds ≤ t.limit) (sym is)
    (put_within_limit (alone now) feed (patched_records (records_of feed now.feeds) records remove) h
    (not_full (nat_le now.limits.feeds (length now.feeds)) (has_feed feed now.feeds) stands))

-- the rows that an update adds are those of the machine
pub rows_kept : (tree : List ℕ → Option (Option (List Stored))) (r : Registrations) (k : KnowledgeView) (now : Holdings) (feeds : FeedTable) (rows : List Row) (state : State)
    → IsKept tree r k → holdings_of r k.feeds ≡ now → StatesEveryLayer tree → rows ≡ rows_of (update_rows feeds.feeds) k.outcomes
    → rows ≡ machine_rows (trees_of tree) (holding state now) feeds.feeds
rows_kept tree r k now feeds rows state kept was all is =
    is ∙ ap (λ (o : Outcomes). rows_of (update_rows feeds.feeds) o) kept.made ∙ rows_machine tree (holding state (holdings_of r k.feeds)) k.facts feeds.feeds all kept.right
    ∙ ap (λ (h : Holdings). machine_rows (trees_of tree) (holding state h) feeds.feeds) was

-- the tries that an update takes are those of the machine
pub counted_kept : (tree : List ℕ → Option (Option (List Stored))) (r : Registrations) (k : KnowledgeView) (now : Holdings) (feeds : FeedTable) (touched : List PackageName)
    (state : State) (old new : ℕ) → IsKept tree r k → holdings_of r k.feeds ≡ now → StatesEveryLayer tree
    → new ≤ old + costs_of (λ _. rematch_pairs touched feeds.feeds) k.outcomes → new ≤ old + touched_pairs (trees_of tree) (holding state now) feeds.feeds touched
counted_kept tree r k now feeds touched state old new kept was all count =
    subst (λ (n : ℕ). new ≤ old + n)
    (ap (λ (o : Outcomes). costs_of (λ _. rematch_pairs touched feeds.feeds) o) kept.made
    ∙ pairs_machine tree (holding state (holdings_of r k.feeds)) k.facts feeds.feeds touched all kept.right
    ∙ ap (λ (h : Holdings). touched_pairs (trees_of tree) (holding state h) feeds.feeds touched) was) count

-- they are the same, whichever list of the touched keys one takes
pub counted_by : (unique : (before after : List Advisory) (ones twos : List PackageName) → IsTouched before after ones → IsTouched before after twos → ones ≡ twos)
    (trees : Trees) (now : Holdings) (state : State) (before after : List Advisory) (feeds : FeedTable) (table : Feeds) (ones twos : List PackageName) (old new : ℕ)
    → IsTouched before after ones → IsTouched before after twos → feeds.feeds ≡ table
    → new ≤ old + touched_pairs trees (holding state now) feeds.feeds ones → new ≤ old + touched_pairs trees (holding state now) table twos
counted_by unique trees now state before after feeds table ones twos old new a b is count =
    subst (λ (n : ℕ). new ≤ old + n) (λ i. touched_pairs trees (holding state now) (is i) (unique before after ones twos a b i)) count

-- what is held is consistent
pub regular_holdings : (trees : List ℕ → Option (Option (List Stored))) (r : Registrations) (k : KnowledgeView) (now : Holdings) → IsKept trees r k → holdings_of r k.feeds ≡ now
    → IsRegularRegistry r → IsStrictlySortedBy text_cmp (keys_of k.feeds.feeds) → IsRegular now
regular_holdings trees r k now kept was h sorted = subst IsRegular was (record {
  images = h.images;
  layers = h.layers;
  feeds = sorted;
  notifications = h.notifications;
  numbers = h.numbers;
  images_within_limit = h.images_within_limit;
  feeds_within_limit = kept.feeds_within_limit;
  table = h.table;
})

-- ---- reads

-- the outcome that is kept of an image is that of facts and feeds
pub outcome_kept : (tree : List ℕ → Option (Option (List Stored))) (r : Registrations) (k : KnowledgeView) (now : Holdings) (image : List ℕ) (found : Option Outcome)
    → IsKept tree r k → holdings_of r k.feeds ≡ now → found ≡ value_at k.outcomes image → IsOutcomeOf tree now image found
outcome_kept tree r k now image found kept was is = subst (λ (h : Holdings). IsOutcomeOf tree h image found) was (record {
  facts = k.facts;
  right = kept.right;
  made = is ∙ ap (λ (o : Outcomes). value_at o image) kept.made ∙ mapped_at text_cmp (outcome_at k.facts k.feeds.feeds) r.images image;
})

-- and so are the outcomes of all images
pub outcomes_kept : (tree : List ℕ → Option (Option (List Stored))) (r : Registrations) (k : KnowledgeView) (shared : Outcomes) (now : Holdings)
    → IsKept tree r k → holdings_of r k.feeds ≡ now → shared ≡ k.outcomes → AreOutcomesOf tree now shared
outcomes_kept tree r k shared now kept was is = subst (λ (h : Holdings). AreOutcomesOf tree h shared) was (record {
  facts = k.facts;
  right = kept.right;
  made = is ∙ kept.made;
})

report_same : (tree : List ℕ → Option (Option (List Stored))) (state : State) (facts : FactTable) (found : Option Image) → StatesEveryLayer tree → AreFactsOf tree state.layers facts
    → report_by state.generation (option_map (outcome_at facts state.feeds) found) ≡ report_at found (trees_of tree) state
report_same tree state facts None all are = refl
report_same tree state facts (Some image) all are = report_is tree state facts image all are

-- the report by the outcome that is kept of an image is that of the machine
pub report_kept : (tree : List ℕ → Option (Option (List Stored))) (r : Registrations) (k : KnowledgeView) (now : Holdings) (state : State) (image : List ℕ) (found : Option Outcome)
    → IsKept tree r k → holdings_of r k.feeds ≡ now → StatesEveryLayer tree → found ≡ value_at k.outcomes image
    → report_by state.generation found ≡ report_of (trees_of tree) (holding state now) image
report_kept tree r k now state image found kept was all is =
    ap (report_by state.generation) (is ∙ ap (λ (o : Outcomes). value_at o image) kept.made ∙ mapped_at text_cmp (outcome_at k.facts k.feeds.feeds) r.images image)
    ∙ report_same tree (holding state (holdings_of r k.feeds)) k.facts (value_at r.images image) all kept.right
    ∙ ap (λ (h : Holdings). report_of (trees_of tree) (holding state h) image) was

-- and so are the reports of all images
pub board_kept : (tree : List ℕ → Option (Option (List Stored))) (r : Registrations) (k : KnowledgeView) (shared : Outcomes) (now : Holdings) (state : State)
    → IsKept tree r k → holdings_of r k.feeds ≡ now → StatesEveryLayer tree → shared ≡ k.outcomes
    → map_values (report_with state.generation) shared ≡ (board_of (trees_of tree) (holding state now)).reports
board_kept tree r k shared now state kept was all is =
    ap (λ (o : Outcomes). map_values (report_with state.generation) o) (is ∙ kept.made)
    ∙ board_is tree (holding state (holdings_of r k.feeds)) k.facts all kept.right
    ∙ ap (λ (h : Holdings). (board_of (trees_of tree) (holding state h)).reports) was
