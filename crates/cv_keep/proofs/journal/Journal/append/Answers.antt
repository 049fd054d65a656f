use Rattle.std.proofs.Common.{◌<◌, ◌^◌, length, refl, ◌∙◌, arith}
use Rattle.std.proofs.lemmas.Nat.{from_be_bytes-to_be_bytes_8}
use Rattle.std.specs.Int.{w64, to_be_bytes}
use Rattle.cv_keep.proofs.EndLemmas.{append_belongs, append_found, append_moment}
use Rattle.cv_keep.proofs.journal.Journal.append.Goals as goal

pub returns-clause-kept : goal.returns-clause-kept
returns-clause-kept g c =
    let len = length c.args.bytes.now in
    let small : len < 2 ^ 64 = omega arith in
    append_found c.args.self.now.gate (to_be_bytes w64 len) c.args.bytes.now _ _ _ _ refl (from_be_bytes-to_be_bytes_8 len small)
    (c.as_slice.ensures.value ∙ c.in_ok-block.ensures) c.in_ok-stage.ensures.written c.requires.belongs

pub returns-in_err-stage-clause-any_moment : goal.returns-in_err-stage-clause-any_moment
returns-in_err-stage-clause-any_moment g c =
    let len = length c.args.bytes.now in
    let small : len < 2 ^ 64 = omega arith in
    append_moment c.args.self.now.gate _ _ _ _ (to_be_bytes w64 len) c.args.bytes.now _ _ refl (from_be_bytes-to_be_bytes_8 len small)
    (c.as_slice.ensures.value ∙ c.in_ok-block.ensures) c.requires.belongs c.stage.ensures.any_moment

pub returns-clause-any_moment : goal.returns-clause-any_moment
returns-clause-any_moment g c =
    let len = length c.args.bytes.now in
    let small : len < 2 ^ 64 = omega arith in
    append_moment c.args.self.now.gate _ _ _ _ (to_be_bytes w64 len) c.args.bytes.now _ _ refl (from_be_bytes-to_be_bytes_8 len small)
    (c.as_slice.ensures.value ∙ c.in_ok-block.ensures) c.requires.belongs c.stage.ensures.any_moment

pub returns-clause-belongs : goal.returns-clause-belongs
returns-clause-belongs g c =
    let len = length c.args.bytes.now in
    let small : len < 2 ^ 64 = omega arith in (
      append_belongs c.args.self.now.gate _ _ (to_be_bytes w64 len) c.args.bytes.now _ _ _ refl (from_be_bytes-to_be_bytes_8 len small)
          (c.as_slice.ensures.value ∙ c.in_ok-block.ensures) c.in_ok-stage.ensures.written c.requires.belongs c.in_ok-stage.ensures.durable,
      refl,
    )
