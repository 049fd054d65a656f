use Rattle.std.proofs.Common.{◌≡◌, ◌+◌, [], ◌∷◌, Some, option_map, take, ap, ◌∙◌, inl}
use Rattle.cv_keep.specs.Disk.{written}
use Rattle.cv_keep.specs.code.Walk.{IsStaged}
use Rattle.cv_keep.proofs.EndLemmas.{appended, staged_place, torn_block, torn_gate, written_block}
use Rattle.cv_keep.proofs.Moments.{first_call, if_known, known_at, then_leaves, then_sync}
use Rattle.cv_keep.proofs.stage.stage.Goals as goal

pub returns-in_err-write_at-clause-any_moment : goal.returns-in_err-write_at-clause-any_moment
returns-in_err-write_at-clause-any_moment g c =
    if_known _ _ _ c.requires.belongs (λ b is settled.
    first_call _ _ _ _ _ b (IsStaged (take c.args.gate b) c.args.block.now) c.write_at.ensures.crash settled.durable (inl ([], settled.last))
    (torn_block c.args.gate b c.args.block.now settled.last))

pub returns-in_err-sync-clause-any_moment : goal.returns-in_err-sync-clause-any_moment
returns-in_err-sync-clause-any_moment g c =
    if_known _ _ _ c.requires.belongs (λ b is settled.
    then_sync _ _ _ _ _ _ _ b (IsStaged (take c.args.gate b) c.args.block.now) c.write_at.ensures.crash c.sync.ensures.crash settled.durable (inl ([], settled.last))
    (torn_block c.args.gate b c.args.block.now settled.last))

pub write_at-requires-2 : goal.write_at-requires-2
write_at-requires-2 g c =
    record { inside = staged_place c.args.gate c.args.block.now _ _ _ (c.sync.ensures.contents ∙ c.in_ok-write_at.ensures.written) c.requires.belongs }

pub returns-in_err-write_at-2-clause-any_moment : goal.returns-in_err-write_at-2-clause-any_moment
returns-in_err-write_at-2-clause-any_moment g c =
    if_known _ _ _ c.requires.belongs (λ b is settled.
    let P = IsStaged (take c.args.gate b) c.args.block.now in
    let staged = written (c.args.gate + 1) c.args.block.now b in
    let is_staged : g.J.Disk.contents c.write_at.new.self ≡ Some staged =
    c.in_ok-write_at.ensures.written ∙ ap (option_map (written (c.args.gate + 1) c.args.block.now)) is in
    let first = then_sync _ _ _ _ _ _ _ b P c.write_at.ensures.crash c.sync.ensures.crash settled.durable (inl ([], settled.last))
    (torn_block c.args.gate b c.args.block.now settled.last) in
    let durable = known_at _ staged _ is_staged c.in_ok-sync.ensures.durable in
    then_leaves _ _ _ _ _ _ P first
    (first_call _ _ _ _ _ staged P c.write_at-2.ensures.crash durable (written_block c.args.gate b c.args.block.now settled.last)
    (torn_gate c.args.gate b c.args.block.now settled.last)))

pub returns-in_err-sync-2-clause-any_moment : goal.returns-in_err-sync-2-clause-any_moment
returns-in_err-sync-2-clause-any_moment g c =
    if_known _ _ _ c.requires.belongs (λ b is settled.
    let P = IsStaged (take c.args.gate b) c.args.block.now in
    let staged = written (c.args.gate + 1) c.args.block.now b in
    let is_staged : g.J.Disk.contents c.write_at.new.self ≡ Some staged =
    c.in_ok-write_at.ensures.written ∙ ap (option_map (written (c.args.gate + 1) c.args.block.now)) is in
    let first = then_sync _ _ _ _ _ _ _ b P c.write_at.ensures.crash c.sync.ensures.crash settled.durable (inl ([], settled.last))
    (torn_block c.args.gate b c.args.block.now settled.last) in
    let durable = known_at _ staged _ is_staged c.in_ok-sync.ensures.durable in
    then_leaves _ _ _ _ _ _ P first
    (then_sync _ _ _ _ _ _ _ staged P c.write_at-2.ensures.crash c.sync-2.ensures.crash durable (written_block c.args.gate b c.args.block.now settled.last)
    (torn_gate c.args.gate b c.args.block.now settled.last)))

pub returns-clause-any_moment : goal.returns-clause-any_moment
returns-clause-any_moment g c =
    if_known _ _ _ c.requires.belongs (λ b is settled.
    let P = IsStaged (take c.args.gate b) c.args.block.now in
    let staged = written (c.args.gate + 1) c.args.block.now b in
    let is_staged : g.J.Disk.contents c.write_at.new.self ≡ Some staged =
    c.in_ok-write_at.ensures.written ∙ ap (option_map (written (c.args.gate + 1) c.args.block.now)) is in
    let first = then_sync _ _ _ _ _ _ _ b P c.write_at.ensures.crash c.sync.ensures.crash settled.durable (inl ([], settled.last))
    (torn_block c.args.gate b c.args.block.now settled.last) in
    let durable = known_at _ staged _ is_staged c.in_ok-sync.ensures.durable in
    then_leaves _ _ _ _ _ _ P first
    (then_sync _ _ _ _ _ _ _ staged P c.write_at-2.ensures.crash c.sync-2.ensures.crash durable (written_block c.args.gate b c.args.block.now settled.last)
    (torn_gate c.args.gate b c.args.block.now settled.last)))

pub returns-clause-written : goal.returns-clause-written
returns-clause-written g c =
    c.sync-2.ensures.contents
    ∙ c.in_ok-write_at-2.ensures.written
    ∙ ap (option_map (written c.args.gate (1 ∷ []))) (c.sync.ensures.contents ∙ c.in_ok-write_at.ensures.written)
    ∙ appended c.args.gate c.args.block.now _ _ c.requires.belongs
