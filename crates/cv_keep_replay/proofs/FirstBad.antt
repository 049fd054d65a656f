-- Records that are good to their end, and the first one that is not.
use Rattle.std.proofs.Common.{◌≡◌, ℕ, List, [], ◌∷◌, ◌++◌, length, refl, ap, sym, subst, ◌∙◌, arith}
use Rattle.cv_core_machine.specs.Scans.{Trees}
use Rattle.cv_core_machine.specs.declared.event.MachineEvent.{MachineEvent}
use Rattle.cv_serve_legal.specs.Replay.{Moment}
use Rattle.cv_keep_record.specs.declared.event.KeptEvent.{KeptEvent}
use Rattle.cv_keep_record.proofs.EventLemmas.{one_list}
use Rattle.cv_keep_replay.specs.Good.{AreGoodFrom, IsFirstBad, IsGoodFrom, moment_then}
use Rattle.cv_keep_replay.specs.Kept.{HaveActs}
use Rattle.cv_keep_replay.proofs.Records.{acts_unique}

-- a good record leads to one moment
good_one : (trees : Trees) (before : Moment) (bytes : List ℕ) (a b : List KeptEvent) (p q : Moment) → IsGoodFrom trees before bytes a p → IsGoodFrom trees before bytes b q → p ≡ q
good_one trees before bytes a b p q first second =
    let events : a ≡ b = one_list bytes a b first.format second.format in
    let acts : first.acts ≡ second.acts = acts_unique b first.acts second.acts (subst (λ (l : List KeptEvent). HaveActs l first.acts) events first.acts_are) second.acts_are in
    first.after_is ∙ ap (moment_then trees before) acts ∙ sym second.after_is

-- the record after some good ones is good, if all are
good_there : (trees : Trees) (start now after : Moment) (front : List (List ℕ)) (bytes : List ℕ) (later : List (List ℕ)) (events all : List KeptEvent) → AreGoodFrom trees start front events now
    → AreGoodFrom trees start (front ++ bytes ∷ later) all after → (more : List KeptEvent) × (next : Moment) × IsGoodFrom trees now bytes more next
good_there trees start now after [] bytes later events all front whole =
    (whole.1, whole.0, subst (λ (m : Moment). IsGoodFrom trees m bytes whole.1 whole.0) (sym front.1) whole.4)
good_there trees start now after (first ∷ front) bytes later events all goods whole =
    let same : goods.0 ≡ whole.0 = good_one trees start first goods.1 whole.1 goods.0 whole.0 goods.4 whole.4 in
    good_there trees whole.0 now after front bytes later goods.2 whole.2 (subst (λ (m : Moment). AreGoodFrom trees m front goods.2 now) same goods.5) whole.5

-- records that are all good have no first bad one
pub not_both : (trees : Trees) (start after : Moment) (records : List (List ℕ)) (events : List KeptEvent) (k : ℕ) → AreGoodFrom trees start records events after → IsFirstBad trees start records k → ⊥
not_both trees start after records events k good first =
    let there = good_there trees start first.now after first.front first.bad first.later first.events events first.good (subst (λ (l : List (List ℕ)). AreGoodFrom trees start l events after) first.parts good) in
    first.is_bad there.0 there.1 there.2

-- two first bad records stand in one place
one_place : (trees : Trees) (start p q : Moment) (front other : List (List ℕ)) (bad second : List ℕ) (later rest : List (List ℕ)) (a b : List KeptEvent) → front ++ bad ∷ later ≡ other ++ second ∷ rest
    → AreGoodFrom trees start front a p → AreGoodFrom trees start other b q → ((events : List KeptEvent) (after : Moment) → IsGoodFrom trees p bad events after → ⊥)
    → ((events : List KeptEvent) (after : Moment) → IsGoodFrom trees q second events after → ⊥) → length front ≡ length other
one_place trees start p q [] [] bad second later rest a b same goods others is_bad none = refl
one_place trees start p q [] (first ∷ other) bad second later rest a b same goods others is_bad none =
    let bytes : first ≡ bad = cc same in
    absurd (is_bad others.1 others.0 (subst (λ (m : Moment). IsGoodFrom trees m bad others.1 others.0) (sym goods.1) (subst (λ (l : List ℕ). IsGoodFrom trees start l others.1 others.0) bytes others.4)))
one_place trees start p q (first ∷ front) [] bad second later rest a b same goods others is_bad none =
    let bytes : first ≡ second = cc same in
    absurd (none goods.1 goods.0 (subst (λ (m : Moment). IsGoodFrom trees m second goods.1 goods.0) (sym others.1) (subst (λ (l : List ℕ). IsGoodFrom trees start l goods.1 goods.0) bytes goods.4)))
one_place trees start p q (x ∷ front) (y ∷ other) bad second later rest a b same goods others is_bad none =
    let bytes : x ≡ y = cc same in
    let records : front ++ bad ∷ later ≡ other ++ second ∷ rest = cc same in
    let moment : goods.0 ≡ others.0 = good_one trees start y goods.1 others.1 goods.0 others.0 (subst (λ (l : List ℕ). IsGoodFrom trees start l goods.1 goods.0) bytes goods.4) others.4 in
    let place = one_place trees others.0 p q front other bad second later rest goods.2 others.2 records (subst (λ (m : Moment). AreGoodFrom trees m front goods.2 p) moment goods.5) others.5 is_bad none in
    omega (arith, place)

-- records have one first bad record at most
pub one_first : (trees : Trees) (start : Moment) (records : List (List ℕ)) (k l : ℕ) → IsFirstBad trees start records k → IsFirstBad trees start records l → k ≡ l
one_first trees start records k l first second =
    first.place
    ∙ one_place trees start first.now second.now first.front second.front first.bad second.bad first.later second.later first.events second.events (sym first.parts ∙ second.parts) first.good second.good first.is_bad
    second.is_bad
    ∙ sym second.place
