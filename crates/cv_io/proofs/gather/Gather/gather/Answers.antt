use Rattle.std.proofs.Common.{◌≡◌, refl, Bool, false}
use Rattle.std.proofs.lemmas.Bool.{false≢true}
use Rattle.std.specs.Prelude.{Result, Ok, Err, IsErr}
use Rattle.cv_io.specs.declared.gather.Gather.{Gather}
use Rattle.cv_io.specs.declared.line.LineError.{LineError}
use Rattle.cv_io.specs.code.Gather.{held_by, progress_by, gathered}
use Rattle.cv_io.proofs.Takes.{Takes-more, Takes-same}
use Rattle.cv_io.proofs.gather.Gather.gather.Goals as goal

-- after a refusal all bytes stay held
gathered_err : (r : Result Bool LineError) (now : Gather) → IsErr r → gathered r now ≡ held_by now
gathered_err (Ok found) now h = absurd (false≢true h)
gathered_err (Err e) now h = refl

-- without an LF the bytes stay held
moved_on : (found : Bool) (before now : Gather) → found ≡ false → gathered (Ok found) now ≡ held_by before → held_by now ≡ held_by before
moved_on found before now e h = rw e at h

pub returns-in_err-fill-clause-takes : goal.returns-in_err-fill-clause-takes
returns-in_err-fill-clause-takes g c =
    let held = moved_on _ c.pieces.self c.take_piece.new.self c.if-branch.false c.in_ok-take_piece.ensures.moved in
    let counts : progress_by c.take_piece.new.self ≡ progress_by c.pieces.self = λ i. record { taken = c.in_ok-take_piece.ensures.counts.taken i; ended = c.in_ok-take_piece.ensures.counts.ended i } in
    let before = Takes-same _ _ _ _ _ _ _ _ c.pieces.invariant.takes held counts in
    let after = Takes-more _ _ _ _ _ _ _ _ _ before c.in_err-fill.ensures.takes in
    Takes-same _ _ _ _ _ _ _ _ after (gathered_err _ c.fill.new.self c.from_residual-in_err-fill.ensures.0) refl
