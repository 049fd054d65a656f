use Rattle.std.proofs.Common.{◌≡◌, ◌+◌, ℕ, List, option_map, take, refl, ap, sym, ◌∙◌, arith}
use Rattle.cv_keep.specs.Records.{records}
use Rattle.cv_keep.proofs.EndLemmas.{cut_records, trimmed_found, trimmed_place}
use Rattle.cv_keep.proofs.Moments.{durable_same, front_none, front_then, if_known, if_known_as, if_known_map, known_at, leaves_same, then_leaves, weaker}
use Rattle.cv_keep.proofs.repair.settle.Goals as goal

pub trim-requires-clause-length : goal.trim-requires-clause-length
trim-requires-clause-length g c =
    if_known_as _ _ _ _ (c.find_gate.ensures.contents ∙ c.len.ensures.contents) c.requires.durable (λ b is durable.
    (sym (known_at _ b _ is c.in_ok-len.ensures.length), known_at _ b _ (c.len.ensures.contents ∙ is) c.in_ok-gate.ensures.gate, c.in_ok-gate.ensures.within))

pub trim-requires-clause-durable : goal.trim-requires-clause-durable
trim-requires-clause-durable g c =
    if_known_as _ _ _ _ (c.find_gate.ensures.contents ∙ c.len.ensures.contents) c.requires.durable (λ b is durable.
    durable_same _ _ _ _ b c.find_gate.ensures.crash (durable_same _ _ _ _ b c.len.ensures.crash durable))

pub close-requires-clause-place : goal.close-requires-clause-place
close-requires-clause-place g c =
    if_known_map (take (c.in_ok-gate.gate + 1)) _ _ _ _
    (c.in_ok-trim.ensures.trimmed ∙ ap (option_map (take (c.in_ok-gate.gate + 1))) (c.find_gate.ensures.contents ∙ c.len.ensures.contents)) c.requires.durable
    (λ b is durable.
    trimmed_place c.in_ok-gate.gate b (known_at _ b _ (c.len.ensures.contents ∙ is) c.in_ok-gate.ensures.gate)
    (omega (arith, known_at _ b _ is c.in_ok-len.ensures.length, c.in_ok-gate.ensures.within)))

pub returns-clause-found : goal.returns-clause-found
returns-clause-found g c =
    c.in_ok-close.ensures.found
    ∙ ap (option_map records) (c.in_ok-trim.ensures.trimmed ∙ ap (option_map (take (c.in_ok-gate.gate + 1))) c.find_gate.ensures.contents)
    ∙ trimmed_found c.in_ok-gate.gate _ c.in_ok-gate.ensures.gate
    ∙ ap (option_map records) c.len.ensures.contents

pub returns-in_err-len-clause-any_moment : goal.returns-in_err-len-clause-any_moment
returns-in_err-len-clause-any_moment g c =
    if_known _ _ _ c.requires.durable (λ b is durable. leaves_same _ _ _ _ b (λ f. records f ≡ records b) c.len.ensures.crash durable refl)

pub returns-in_err-gate-clause-any_moment : goal.returns-in_err-gate-clause-any_moment
returns-in_err-gate-clause-any_moment g c =
    if_known _ _ _ c.requires.durable (λ b is durable.
    let P : List ℕ → Type 0 = λ f. records f ≡ records b in
    then_leaves _ _ _ _ _ _ P (leaves_same _ _ _ _ b P c.len.ensures.crash durable refl)
    (leaves_same _ _ _ _ b P c.find_gate.ensures.crash (durable_same _ _ _ _ b c.len.ensures.crash durable) refl))

pub returns-in_err-trim-clause-any_moment : goal.returns-in_err-trim-clause-any_moment
returns-in_err-trim-clause-any_moment g c =
    if_known _ _ _ c.requires.durable (λ b is durable.
    let P : List ℕ → Type 0 = λ f. records f ≡ records b in
    let looks = then_leaves _ _ _ _ _ _ P (leaves_same _ _ _ _ b P c.len.ensures.crash durable refl)
    (leaves_same _ _ _ _ b P c.find_gate.ensures.crash (durable_same _ _ _ _ b c.len.ensures.crash durable) refl) in
    then_leaves _ _ _ _ _ _ P looks (known_at _ b _ (c.find_gate.ensures.contents ∙ c.len.ensures.contents ∙ is) c.trim.ensures.any_moment))

pub returns-in_err-close-clause-any_moment : goal.returns-in_err-close-clause-any_moment
returns-in_err-close-clause-any_moment g c =
    if_known _ _ _ c.requires.durable (λ b is durable.
    let P : List ℕ → Type 0 = λ f. records f ≡ records b in
    let looks = then_leaves _ _ _ _ _ _ P (leaves_same _ _ _ _ b P c.len.ensures.crash durable refl)
    (leaves_same _ _ _ _ b P c.find_gate.ensures.crash (durable_same _ _ _ _ b c.len.ensures.crash durable) refl) in
    let same = c.find_gate.ensures.contents ∙ c.len.ensures.contents ∙ is in
    let trims = then_leaves _ _ _ _ _ _ P looks (known_at _ b _ same c.trim.ensures.any_moment) in
    let cut = take (c.in_ok-gate.gate + 1) b in
    let is_cut = c.in_ok-trim.ensures.trimmed ∙ ap (option_map (take (c.in_ok-gate.gate + 1))) same in
    let kept : records cut ≡ records b = cut_records c.in_ok-gate.gate b (known_at _ b _ (c.len.ensures.contents ∙ is) c.in_ok-gate.ensures.gate) in
    then_leaves _ _ _ _ _ _ P trims
    (weaker _ _ _ _ (λ f. records f ≡ records cut) P (known_at _ cut _ is_cut c.close.ensures.any_moment) (λ f good. good ∙ kept)))

pub returns-clause-any_moment : goal.returns-clause-any_moment
returns-clause-any_moment g c =
    if_known _ _ _ c.requires.durable (λ b is durable.
    let P : List ℕ → Type 0 = λ f. records f ≡ records b in
    let looks = then_leaves _ _ _ _ _ _ P (leaves_same _ _ _ _ b P c.len.ensures.crash durable refl)
    (leaves_same _ _ _ _ b P c.find_gate.ensures.crash (durable_same _ _ _ _ b c.len.ensures.crash durable) refl) in
    let same = c.find_gate.ensures.contents ∙ c.len.ensures.contents ∙ is in
    let trims = then_leaves _ _ _ _ _ _ P looks (known_at _ b _ same c.trim.ensures.any_moment) in
    let cut = take (c.in_ok-gate.gate + 1) b in
    let is_cut = c.in_ok-trim.ensures.trimmed ∙ ap (option_map (take (c.in_ok-gate.gate + 1))) same in
    let kept : records cut ≡ records b = cut_records c.in_ok-gate.gate b (known_at _ b _ (c.len.ensures.contents ∙ is) c.in_ok-gate.ensures.gate) in
    then_leaves _ _ _ _ _ _ P trims
    (weaker _ _ _ _ (λ f. records f ≡ records cut) P (known_at _ cut _ is_cut c.close.ensures.any_moment) (λ f good. good ∙ kept)))

pub returns-in_err-trim-clause-syncs : goal.returns-in_err-trim-clause-syncs
returns-in_err-trim-clause-syncs g c =
    if_known _ _ _ c.requires.durable (λ b is durable.
    front_then _ _ _ (front_none _ _ (c.find_gate.ensures.syncs ∙ c.len.ensures.syncs))
    (known_at _ b _ (c.find_gate.ensures.contents ∙ c.len.ensures.contents ∙ is) c.trim.ensures.syncs))

pub returns-in_err-close-clause-syncs : goal.returns-in_err-close-clause-syncs
returns-in_err-close-clause-syncs g c =
    if_known _ _ _ c.requires.durable (λ b is durable.
    let same = c.find_gate.ensures.contents ∙ c.len.ensures.contents ∙ is in
    front_then _ _ _ (front_none _ _ (c.find_gate.ensures.syncs ∙ c.len.ensures.syncs))
    (front_then _ _ _ (known_at _ b _ same c.trim.ensures.syncs)
    (known_at _ (take (c.in_ok-gate.gate + 1) b) _ (c.in_ok-trim.ensures.trimmed ∙ ap (option_map (take (c.in_ok-gate.gate + 1))) same) c.close.ensures.syncs)))

pub returns-clause-syncs : goal.returns-clause-syncs
returns-clause-syncs g c =
    if_known _ _ _ c.requires.durable (λ b is durable.
    let same = c.find_gate.ensures.contents ∙ c.len.ensures.contents ∙ is in
    front_then _ _ _ (front_none _ _ (c.find_gate.ensures.syncs ∙ c.len.ensures.syncs))
    (front_then _ _ _ (known_at _ b _ same c.trim.ensures.syncs)
    (known_at _ (take (c.in_ok-gate.gate + 1) b) _ (c.in_ok-trim.ensures.trimmed ∙ ap (option_map (take (c.in_ok-gate.gate + 1))) same) c.close.ensures.syncs)))
