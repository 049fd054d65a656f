-- Line 1 was read, or the source failed before it ended.
use Rattle.std.proofs.Common.{◌∙◌, subst}
use Rattle.std.specs.Prelude.{Ok}
use Rattle.cv_io.specs.Reader.{Step}
use Rattle.cv_scan_input.proofs.Accepted.{begun_read, stopped_unrefused}
use Rattle.cv_scan_input.proofs.input.read_first.Goals as goal

pub returns-in_err-text-clause-unrefused : goal.returns-in_err-text-clause-unrefused
returns-in_err-text-clause-unrefused g c =
    stopped_unrefused g.I.InputKind.first_of c.args.reader.now c.next.new.self c.next.ensures.max_input (c.next.ensures.max_line ∙ c.requires.limit) _ _
    g.I.InputKind.further c.requires.room c.in_err-text.field-0.0 c.from_residual.result c.from_residual.ensures.1 c.in_err-text.ensures.step

pub returns-in-Text-clause-begun : goal.returns-in-Text-clause-begun
returns-in-Text-clause-begun g c =
    let remaining = g.S.Source.remaining in
    begun_read g.I.InputKind.first_of c.args.reader.now c.next.new.self c.next.ensures.max_input (c.next.ensures.max_line ∙ c.requires.limit) _ _
    c.in-Text.text c.read.result
    (subst (λ line. Step c.args.reader.now c.next.new.self (remaining c.args.input.now) (remaining c.next.new.input) (Ok line)) c.in-Text.is c.in_ok-text.ensures.step)
    (rw (← c.as_slice.ensures) c.read.ensures.value)
